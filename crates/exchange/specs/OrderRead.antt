-- An accepted order file is the one that its drawing writes.
use Rattle.std.specs.Prelude.{ℕ, zero, suc, ◌-◌, ◌≤◌, ◌≡◌, refl, Bool, true, false, not, List, [], ◌∷◌, ◌++◌, map, length, ltb, if◌then◌else◌}
use Rattle.std.proofs.Common.{ap, ap₂, sym, ◌∙◌, subst, append_assoc, append-nil, arith, ltb-false, ne_eqb}
use Rattle.std.proofs.Math.Path.{subst₂}
use Rattle.std.proofs.lemmas.Bool.{not-false}
use Rattle.rules.specs.declared.Style.{Style}
use Rattle.rules.specs.declared.Entry.{Entry}
use Rattle.rules.specs.declared.Refusal.TheVariants.{OutOfRange, BothMarks, OtherStart, ExtraBytes}
use Rattle.rules.specs.Basics.{between, snoc, any_of}
use Rattle.rules.specs.Same.{same_is}
use Rattle.rules.specs.Refusals.{Result, good, ◌>>=◌, ◌>>◌, refuse_if, placed}
use Rattle.rules.specs.Entries.{read_entry, word_of, is_both, points_read, given_in}
use Rattle.rules.specs.Readings.{entry_of}
use Rattle.rules.proofs.Readings.{words-given, added-given, add_entries_lem}
use Rattle.rules.proofs.Readings.{points_read_lem as run_read}
use Rattle.rules.specs.Points.{Drawing}
use Rattle.rules.specs.Adding.{add_read, points_of}
use Rattle.rules.specs.Records.{Cursor, Found, first, read_record, read_end, marked, from_start, written, order_head, scale_shape, point_entries, end_shape}
use Rattle.rules.specs.OrderFile.{Scaled, given_scale, read_scale, order_scale, start_test, record_tests, start_with, entries_in, read_rest, read_points, read_order, write_order}
use Rattle.rules.specs.Bools.{neither, in_range}
use Rattle.rules.proofs.RoundTrip.{word_back}
use Rattle.exchange.specs.Built.{Built, begun, added, Whole, Bytes}
use Rattle.rules.specs.Results.{same_value, bound, followed, tested, test_false, placed-good}
use Rattle.exchange.specs.Entries.{every, listed, whole_so}
use Rattle.exchange.specs.Numbers.{Words}
use Rattle.exchange.specs.RecordRead.{single, reread}
use Rattle.exchange.specs.OrderWrite.{point_record, point_records, write_built}

-- ---- one record

-- the entries of a record, none of them marked both
abbrev pub said_in : Found → List Entry
said_in f = map entry_of f.words

-- 16-bit numbers, none of them marked both, read as entries and written
entries-again : (ws : List ℕ) → Words ws → any_of is_both (map read_entry ws) ≡ false → map word_of (map entry_of ws) ≡ ws
entries-again [] h one = refl
entries-again (w ∷ ws) h one =
    let z = neither (is_both (read_entry w)) (any_of is_both (map read_entry ws)) one in
    let a = word_back w (h.low 0 (omega arith)) z.0 in
    let b = entries-again ws (record { low = λ i b. h.low (suc i) (omega arith) }) z.1 in
    cc

-- a point's record at the cursor, written from its entries
record PointRead (at : Cursor) (f : Found) : Type 0 where
  bytes : at.bytes ≡ point_record (said_in f) ++ f.next.bytes
  rest : Bytes f.next.bytes

-- a point's record that was read
point_read_lem : (at : Cursor) (f : Found) → Bytes at.bytes → read_record point_entries at ≡ good f → any_of is_both (entries_in f) ≡ false → PointRead at f
point_read_lem at f b h one =
    let t = reread point_entries at f b h in
    record { bytes = t.bytes ∙ ap (λ (ws : List ℕ). written point_entries ws ++ f.next.bytes) (sym (entries-again f.words t.words one)); rest = t.rest }

-- a list without an element
empty : (l : List ℕ) → length l ≤ 0 → l ≡ []
empty [] h = refl
empty (a ∷ l) h = absurd (omega arith)

-- the end, and nothing behind it
end_read : (at : Cursor) (u : Unit {0}) → Bytes at.bytes → read_end at ≡ good u → at.bytes ≡ written end_shape []
end_read at u b h =
    let g = bound (read_record end_shape at) (λ f. refuse_if (ltb 0 (length f.next.bytes)) ExtraBytes f.next.offset) u h in
    let t = reread end_shape at g.value b g.first in
    let none = ltb-false 0 (length g.value.next.bytes) (test_false _ ExtraBytes _ g.last) in
    t.bytes ∙ ap₂ (λ (ws l : List ℕ). written end_shape ws ++ l) (empty g.value.words (omega (arith, t.fits))) (empty g.value.next.bytes none)

-- ---- the points after point 3

-- the records at the cursor are those of the entries that were added
record RestRead (τ : Style) (n s : ℕ) (second third : List Entry) (ess : List (List Entry)) (c : ℕ) (at : Cursor) (e : Drawing) : Type 0 where
  more : List (List Entry)
  count : length more ≡ c
  built : Built τ n s second third (ess ++ more) e
  bytes : at.bytes ≡ point_records more

module _ (τ : Style) (n s : ℕ) (second third : List Entry) where
  -- one record before those
  rest_more : (ess : List (List Entry)) (c : ℕ) (at : Cursor) (f : Found) (e : Drawing) → PointRead at f → RestRead τ n s second third (snoc ess (said_in f)) c f.next e →
      RestRead τ n s second third ess (suc c) at e
  rest_more ess c at f e p r =
      record {
        more = said_in f ∷ r.more;
        count = ap suc r.count;
        built = subst (λ (l : List (List Entry)). Built τ n s second third l e) (append_assoc ess (said_in f ∷ []) r.more) r.built;
        bytes = p.bytes ∙ ap (λ (l : List ℕ). point_record (said_in f) ++ l) r.bytes;
      }

  -- c records and the end, from a built drawing on
  rest_read : (c : ℕ) (ess : List (List Entry)) (d e : Drawing) (at : Cursor) → Bytes at.bytes → Built τ n s second third ess d → read_rest c d at ≡ good e →
      RestRead τ n s second third ess c at e
  unfolding read_rest
  rest_read zero ess d e at b t h =
      let g = followed (read_end at) (good d) e h in
      let same : Built τ n s second third (ess ++ []) e = subst₂ (Built τ n s second third) (sym (append-nil ess)) (same_value d e g.last) t in
      record { more = []; count = refl; built = same; bytes = end_read at g.value b g.first }
  rest_read (suc c) ess d e at b t h =
      let f = bound (read_record point_entries at) (λ f. placed f.place (add_read d (entries_in f)) >>= λ e. read_rest c e f.next) e h in
      let es = said_in f.value in
      let g = bound (placed f.value.place (add_read d (entries_in f.value))) (λ e. read_rest c e f.value.next) e f.last in
      let a = placed-good f.value.place (add_read d (entries_in f.value)) g.value g.first in
      let p = point_read_lem at f.value b f.first (added-given d g.value (entries_in f.value) a) in
      let new = added es t (add_entries_lem d g.value f.value.words a) in
      rest_more ess c at f.value e p (rest_read c (snoc ess es) g.value e f.value.next p.rest new g.last)

-- ---- all points

-- entries without a point
no_points_lem : (es : List Entry) → points_of es ≡ [] → es ≡ []
no_points_lem [] h = refl
no_points_lem (e ∷ es) h = absurd (let z : ◌≡◌ {A = ℕ} 0 1 = cc in omega arith)

-- a record of point 1, 2 or 3 has the points that it must have, and what follows its test gave e
pub record StartRead (wanted : List ℕ) (f : Found) {B : Type 0} (after : Result B) (e : B) : Type 0 where
  pub one : any_of is_both (entries_in f) ≡ false
  pub given : given_in (entries_in f) ≡ said_in f
  pub points : points_of (said_in f) ≡ wanted
  pub last : after ≡ good e

-- the points of a record that passes 4
start-points : (wanted : List ℕ) (f : Found) {u : Unit {0}} → start_test wanted (points_read (entries_in f)) f.place ≡ good u → points_of (said_in f) ≡ wanted
start-points wanted f h = sym (run_read f.words) ∙ same_is (points_read (entries_in f)) wanted (not-false _ (test_false _ OtherStart f.place h))

-- the tests of point 2 or 3 passed
pub start-read : {B : Type 0} (wanted : List ℕ) (f : Found) (after : Result B) (e : B) → (record_tests wanted (entries_in f) f.place >> after) ≡ good e → StartRead wanted f after e
start-read wanted f after e h =
    let t = followed (record_tests wanted (entries_in f) f.place) after e h in
    let z = tested (any_of is_both (entries_in f)) BothMarks f.place _ t.value t.first in
    record { one = z.passed; given = words-given f.words z.passed; points = start-points wanted f z.last; last = t.last }

-- the test of point 1 passed, and without an entry none is marked both
pub first_read : {B : Type 0} (f : Found) (after : Result B) (e : B) → (start_test [] (points_read (entries_in f)) f.place >> after) ≡ good e → StartRead [] f after e
first_read f after e h =
    let t = followed (start_test [] (points_read (entries_in f)) f.place) after e h in
    let p = start-points [] f t.first in
    let z = none f.words p in
    record { one = z; given = words-given f.words z; points = p; last = t.last }
  where
    none : (ws : List ℕ) → points_of (map entry_of ws) ≡ [] → any_of is_both (map read_entry ws) ≡ false
    none [] q = refl
    none (w ∷ ws) q = absurd (let z : ◌≡◌ {A = ℕ} 0 1 = cc in omega arith)

-- the records at the cursor are those of a built drawing
record PointsRead (τ : Style) (n s : ℕ) (at : Cursor) (e : Drawing) : Type 0 where
  second : List Entry
  third : List Entry
  rest : List (List Entry)
  count : length rest ≡ n - 3
  built : Built τ n s second third rest e
  bytes : at.bytes ≡ point_records (every second third rest)

-- three records, the first without an entry, and those of the rest
points-join : (τ : Style) (n s : ℕ) (at : Cursor) (e : Drawing) (f g h : Found) → PointRead at f → PointRead f.next g → PointRead g.next h → points_of (said_in f) ≡ [] →
    RestRead τ n s (said_in g) (said_in h) [] (n - 3) h.next e → PointsRead τ n s at e
points-join τ n s at e f g h pf pg ph z r =
    record {
      second = said_in g;
      third = said_in h;
      rest = r.more;
      count = r.count;
      built = r.built;
      bytes = pf.bytes ∙ ap₂ (λ (es : List Entry) (l : List ℕ). point_record es ++ l) (no_points_lem (said_in f) z)
          (pg.bytes ∙ ap (λ (l : List ℕ). point_record (said_in g) ++ l) (ph.bytes ∙ ap (λ (l : List ℕ). point_record (said_in h) ++ l) r.bytes));
    }

-- the records of points 1 to 3, and what follows them
pub record Three (τ : Style) (n s : ℕ) (at : Cursor) (e : Drawing) : Type 0 where
  pub f : Found
  pub g : Found
  pub h : Found
  pub first : read_record point_entries at ≡ good f
  pub second : read_record point_entries f.next ≡ good g
  pub third : read_record point_entries g.next ≡ good h
  pub one_f : any_of is_both (entries_in f) ≡ false
  pub one_g : any_of is_both (entries_in g) ≡ false
  pub one_h : any_of is_both (entries_in h) ≡ false
  pub points_f : points_of (said_in f) ≡ []
  pub points_g : points_of (said_in g) ≡ 1 ∷ []
  pub points_h : points_of (said_in h) ≡ 1 ∷ 2 ∷ []
  pub last : read_rest (n - 3) (start_with τ n s (said_in g) (said_in h)) h.next ≡ good e

pub three-read : (τ : Style) (n s : ℕ) (at : Cursor) (e : Drawing) → read_points τ n s at ≡ good e → Three τ n s at e
unfolding read_points
three-read τ n s at e q =
    let f = bound (read_record point_entries at) _ e q in
    let tf = first_read f.value _ e f.last in
    let g = bound (read_record point_entries f.value.next) _ e tf.last in
    let tg = start-read (1 ∷ []) g.value _ e g.last in
    let h = bound (read_record point_entries g.value.next) _ e tg.last in
    let th = start-read (1 ∷ 2 ∷ []) h.value _ e h.last in
    record {
      f = f.value;
      g = g.value;
      h = h.value;
      first = f.first;
      second = g.first;
      third = h.first;
      one_f = tf.one;
      one_g = tg.one;
      one_h = th.one;
      points_f = tf.points;
      points_g = tg.points;
      points_h = th.points;
      last = ap₂ (λ (a b : List Entry). read_rest (n - 3) (start_with τ n s a b) h.value.next) (sym tg.given) (sym th.given) ∙ th.last;
    }

-- the records of all points
points_read_lem : (τ : Style) (n s : ℕ) (at : Cursor) (e : Drawing) → Bytes at.bytes → read_points τ n s at ≡ good e → PointsRead τ n s at e
points_read_lem τ n s at e b q =
    let t = three-read τ n s at e q in
    let pf = point_read_lem at t.f b t.first t.one_f in
    let pg = point_read_lem t.f.next t.g pf.rest t.second t.one_g in
    let ph = point_read_lem t.g.next t.h pg.rest t.third t.one_h in
    let second = said_in t.g in
    let third = said_in t.h in
    let r = rest_read τ n s second third (n - 3) [] (start_with τ n s second third) e t.h.next ph.rest (begun t.points_g t.points_h) t.last in
    points-join τ n s at e t.f t.g t.h pf pg ph t.points_f r

-- ---- the header and the scale

-- the scale at the cursor is written so
record ScaleRead (at : Cursor) (c : Scaled) : Type 0 where
  low : 1 ≤ c.s
  high : c.s ≤ 8
  bytes : at.bytes ≡ order_scale c.s ++ c.next.bytes
  rest : Bytes c.next.bytes

-- it is given, and then it isn't 1
given-read : (at : Cursor) (c : Scaled) → Bytes at.bytes → given_scale at ≡ good c → ScaleRead at c
given-read at c b h =
    let f = bound (read_record scale_shape at) _ c h in
    let t = reread scale_shape at f.value b f.first in
    let g = tested (not (between 2 8 (first f.value))) OutOfRange f.value.place (good (record { s = first f.value; next = f.value.next })) c f.last in
    let z = in_range 2 8 (first f.value) (not-false _ g.passed) in
    subst (ScaleRead at) (same_value _ c g.last)
    (record {
      low = omega (arith, z.0);
      high = z.1;
      bytes = t.bytes ∙ rw (ne_eqb (first f.value) 1 (omega (arith, z.0))) (ap (λ (ws : List ℕ). written scale_shape ws ++ f.value.next.bytes) (single f.value.words t.fits));
      rest = t.rest;
    })

-- it is given or absent
scale-read : (at : Cursor) (c : Scaled) → Bytes at.bytes → read_scale at ≡ good c → ScaleRead at c
scale-read at c b h = go (marked scale_shape at) h
  where
    go : (t : Bool) → (if t then given_scale at else good (record { s = 1; next = at })) ≡ good c → ScaleRead at c
    go true q = given-read at c b q
    go false q = subst (ScaleRead at) (same_value _ c q) (record { low = omega arith; high = omega arith; bytes = refl; rest = b })

-- ---- the file

-- the file of n, s and the points that were read is what the drawing writes
file-read : (τ : Style) (n s : ℕ) (at : Cursor) (o : List ℕ) (d : Drawing) → (3 ≤ n) × (n ≤ 1024) → (1 ≤ s) × (s ≤ 8) → PointsRead τ n s at d →
    o ≡ written order_head (n ∷ []) ++ (order_scale s ++ at.bytes) → Whole d × (write_order d ≡ o) × (d.style ≡ τ)
file-read τ n s at o d bn bs p e =
    let t = listed p.built in
    let full : d.k ≡ d.n = omega (arith, t.is_k, t.is_n, p.count, bn.0) in (
      whole_so bn bs p.built p.count,
      write_built p.built full ∙ ap (λ (l : List ℕ). written order_head (n ∷ []) ++ (order_scale s ++ l)) (sym p.bytes) ∙ sym e,
      t.is_style,
    )

-- an accepted order file is the one that its drawing writes
pub order-read : (τ : Style) (o : List ℕ) (d : Drawing) → Bytes o → read_order τ o ≡ good d → Whole d × (write_order d ≡ o) × (d.style ≡ τ)
unfolding read_order
order-read τ o d b h =
    let f = bound (read_record order_head (from_start o)) _ d h in
    let n = first f.value in
    let t = reread order_head (from_start o) f.value b f.first in
    let g = tested (not (between 3 1024 n)) OutOfRange 0 _ d f.last in
    let c = bound (read_scale f.value.next) (λ c. read_points τ n c.s c.next) d g.last in
    let z = scale-read f.value.next c.value t.rest c.first in
    let p = points_read_lem τ n c.value.s c.value.next d z.rest c.last in
    file-read τ n c.value.s c.value.next o d (in_range 3 1024 n (not-false _ g.passed)) (z.low, z.high) p
    (t.bytes ∙ ap₂ (λ (ws l : List ℕ). written order_head ws ++ l) (single f.value.words t.fits) z.bytes)
