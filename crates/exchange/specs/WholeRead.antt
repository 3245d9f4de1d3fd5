-- The drawing of an accepted order file is whole, whatever numbers its list holds.
use Rattle.std.specs.Prelude.{ℕ, zero, suc, ◌-◌, ◌≤◌, ◌≡◌, refl, Bool, true, false, not, List, [], ◌∷◌, ◌++◌, length, if◌then◌else◌}
use Rattle.std.proofs.Common.{ap, sym, subst, subst₂, append_assoc, append-nil, arith}
use Rattle.std.proofs.lemmas.Bool.{not-false}
use Rattle.rules.specs.declared.Style.{Style}
use Rattle.rules.specs.declared.Entry.{Entry}
use Rattle.rules.specs.declared.Refusal.TheVariants.{OutOfRange}
use Rattle.rules.specs.Basics.{between, snoc}
use Rattle.rules.specs.Refusals.{good, placed, ◌>>=◌}
use Rattle.rules.specs.Points.{Drawing}
use Rattle.rules.specs.Adding.{add_read}
use Rattle.rules.proofs.Readings.{add_entries_lem}
use Rattle.rules.specs.Records.{Cursor, first, read_record, read_end, marked, from_start, order_head, scale_shape, point_entries}
use Rattle.rules.specs.OrderFile.{Scaled, given_scale, read_scale, entries_in, start_with, read_rest, read_points, read_order}
use Rattle.exchange.specs.Built.{Built, begun, added, Whole}
use Rattle.rules.specs.Bools.{in_range}
use Rattle.rules.specs.Results.{bound, followed, tested, same_value, placed-good}
use Rattle.exchange.specs.Entries.{listed, whole_so}
use Rattle.exchange.specs.OrderRead.{said_in, three-read}
use Rattle.exchange.specs.Groups.{BuiltSo}

-- c records more, from a built drawing on
rest-built : (τ : Style) (n s : ℕ) (second third : List Entry) (c : ℕ) (ess : List (List Entry)) (d e : Drawing) (at : Cursor) → Built τ n s second third ess d → read_rest c d at ≡ good e →
    (more : List (List Entry)) × (length more ≡ c) × Built τ n s second third (ess ++ more) e
unfolding read_rest
rest-built τ n s second third zero ess d e at t h =
    let g = followed (read_end at) (good d) e h in
    ([], refl, subst₂ (Built τ n s second third) (sym (append-nil ess)) (same_value d e g.last) t)
rest-built τ n s second third (suc c) ess d e at t h =
    let f = bound (read_record point_entries at) (λ f. placed f.place (add_read d (entries_in f)) >>= λ e. read_rest c e f.next) e h in
    let es = said_in f.value in
    let g = bound (placed f.value.place (add_read d (entries_in f.value))) (λ e. read_rest c e f.value.next) e f.last in
    let new = added es t (add_entries_lem d g.value f.value.words (placed-good f.value.place (add_read d (entries_in f.value)) g.value g.first)) in
    let r = rest-built τ n s second third c (snoc ess es) g.value e f.value.next new g.last in
    (es ∷ r.0, ap suc r.1, subst (λ (l : List (List Entry)). Built τ n s second third l e) (append_assoc ess (es ∷ []) r.0) r.2)

-- the records of all points
points-built : (τ : Style) (n s : ℕ) (at : Cursor) (e : Drawing) → read_points τ n s at ≡ good e → BuiltSo τ n s e
points-built τ n s at e q =
    let t = three-read τ n s at e q in
    let second = said_in t.g in
    let third = said_in t.h in
    let r = rest-built τ n s second third (n - 3) [] (start_with τ n s second third) e t.h.next (begun t.points_g t.points_h) t.last in
    record { second = second; third = third; rest = r.0; built = r.2; many = r.1 }

-- the scale lies from 1 to 8
given-range : (at : Cursor) (c : Scaled) → given_scale at ≡ good c → (1 ≤ c.s) × (c.s ≤ 8)
given-range at c h =
    let f = bound (read_record scale_shape at) _ c h in
    let g = tested (not (between 2 8 (first f.value))) OutOfRange f.value.place (good (record { s = first f.value; next = f.value.next })) c f.last in
    let z = in_range 2 8 (first f.value) (not-false _ g.passed) in
    subst (λ (c : Scaled). (1 ≤ c.s) × (c.s ≤ 8)) (same_value _ c g.last) (omega (arith, z.0), z.1)

scale-range : (at : Cursor) (c : Scaled) → read_scale at ≡ good c → (1 ≤ c.s) × (c.s ≤ 8)
scale-range at c h = go (marked scale_shape at) h
  where
    go : (t : Bool) → (if t then given_scale at else good (record { s = 1; next = at })) ≡ good c → (1 ≤ c.s) × (c.s ≤ 8)
    go true q = given-range at c q
    go false q = subst (λ (c : Scaled). (1 ≤ c.s) × (c.s ≤ 8)) (same_value _ c q) (omega arith, omega arith)

-- the drawing of an accepted order file is whole and of the reader's style
read_so : (τ : Style) (o : List ℕ) (d : Drawing) → read_order τ o ≡ good d → Whole d × (d.style ≡ τ)
unfolding read_order
read_so τ o d h =
    let f = bound (read_record order_head (from_start o)) _ d h in
    let n = first f.value in
    let g = tested (not (between 3 1024 n)) OutOfRange 0 _ d f.last in
    let c = bound (read_scale f.value.next) (λ c. read_points τ n c.s c.next) d g.last in
    let p = points-built τ n c.value.s c.value.next d c.last in
    (whole_so (in_range 3 1024 n (not-false _ g.passed)) (scale-range f.value.next c.value c.first) p.built p.many, (listed p.built).is_style)

-- THE DRAWING OF AN ACCEPTED ORDER FILE IS WHOLE,
pub whole_read : (τ : Style) (o : List ℕ) (d : Drawing) → read_order τ o ≡ good d → Whole d
whole_read τ o d h = (read_so τ o d h).0

-- and of the style in which it was read.
pub style-read : (τ : Style) (o : List ℕ) (d : Drawing) → read_order τ o ≡ good d → d.style ≡ τ
style-read τ o d h = (read_so τ o d h).1
