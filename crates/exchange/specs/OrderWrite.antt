-- The order file of a whole drawing is its header, its scale, the records of its entries and the end; and it is read back.
use Rattle.std.specs.Prelude.{ℕ, suc, ◌+◌, ◌-◌, ◌<◌, ◌≤◌, ◌≡◌, refl, Bool, true, false, not, List, [], ◌∷◌, ◌++◌, map, length, get_or, eqb}
use Rattle.std.proofs.Common.{ap, ap₂, ◌∙◌, append_assoc, add-zero, add-suc, suc-add, arith, le-leb, eqb-true}
use Rattle.std.proofs.lemmas.Bool.{eqb-false}
use Rattle.rules.specs.declared.Line.{Line}
use Rattle.rules.specs.declared.Style.{Style}
use Rattle.rules.specs.declared.Entry.{Entry}
use Rattle.rules.specs.declared.Refusal.TheVariants.{OutOfRange}
use Rattle.rules.specs.Basics.{between}
use Rattle.rules.specs.Same.{same_self}
use Rattle.rules.specs.Refusals.{good, placed}
use Rattle.rules.specs.Entries.{read_entry, word_of}
use Rattle.rules.proofs.Readings.{given_back, given_one, points-given}
use Rattle.rules.specs.Points.{Drawing}
use Rattle.rules.specs.Adding.{add_read, points_of}
use Rattle.rules.specs.Records.{read_record, written, order_head, scale_shape, point_entries, end_shape}
use Rattle.rules.specs.OrderFile.{record_tests, read_scale, order_scale, order_points, entries_of, read_rest, read_points, read_order, write_order}
use Rattle.rules.proofs.RoundTrip.{record_back}
use Rattle.exchange.specs.Built.{Built, Whole}
use Rattle.rules.specs.Results.{binds, goes, then_to}
use Rattle.exchange.specs.Entries.{entries_at, entries-words, every, listed}
use Rattle.exchange.specs.Replay.{Fitting, entries_back, fitting_second, fitting_third, Replays, none, more, Replayed, replayed}

-- ---- what is written

-- the record of a point's entries
abbrev pub point_record : List Entry → List ℕ
point_record es = written point_entries (map word_of es)

-- the records of some points, and the end
abbrev pub point_records : List (List Entry) → List ℕ
point_records [] = written end_shape []
point_records (es ∷ ess) = point_record es ++ point_records ess

-- the file of n, s and the entries of all points
abbrev pub order_bytes : ℕ → ℕ → List (List Entry) → List ℕ
order_bytes n s ess = written order_head (n ∷ []) ++ (order_scale s ++ point_records ess)

-- points p, p + 1, .. of the lines have the entries ess
points-written : (ess : List (List Entry)) (p : ℕ) (ls : List Line) → ((i : ℕ) → i < length ess → entries_at (p + i) ls ≡ get_or ess i []) →
    order_points (length ess) p ls ++ written end_shape [] ≡ point_records ess
points-written [] p ls h = refl
points-written (es ∷ ess) p ls h =
    let a : entries_at p ls ≡ es = rw (add-zero p) at (h 0 (omega arith)) in
    let b : entries_of p ls ≡ map word_of es = entries-words p ls ∙ ap (map word_of) a in
    let c = points-written ess (suc p) ls (λ i b. rw (suc-add, ← add-suc) (h (suc i) (omega arith))) in
    append_assoc (written point_entries (entries_of p ls)) (order_points (length ess) (suc p) ls) (written end_shape []) ∙
    ap₂ (λ (ws l : List ℕ). written point_entries ws ++ l) b c

-- a finished drawing writes the file of its entries
pub write_built : {τ : Style} {n s : ℕ} {second third : List Entry} {rest : List (List Entry)} {d : Drawing} → Built τ n s second third rest d → d.k ≡ d.n →
    write_order d ≡ order_bytes n s (every second third rest)
unfolding write_order
write_built {τ} {n} {s} {second} {third} {rest} {d} b full =
    let t = listed b in
    let ess : List (List Entry) = every second third rest in
    let count : d.n ≡ length ess = omega (arith, t.is_k) in
    let at : (i : ℕ) → i < length ess → entries_at (1 + i) d.lines ≡ get_or ess i [] = λ i b. rw (one_add i) (t.entries (suc i) (omega arith)) in
    let points : order_points d.n 1 d.lines ++ written end_shape [] ≡ point_records ess =
    ap (λ (c : ℕ). order_points c 1 d.lines ++ written end_shape []) count ∙ points-written ess 1 d.lines at
    in
    ap (λ (l : List ℕ). written order_head (d.n ∷ []) ++ (order_scale d.s ++ l)) points ∙
    ap₂ (λ (n s : ℕ). order_bytes n s ess) t.is_n t.is_s
  where
    one_add : (i : ℕ) → 1 + i ≡ suc i
    one_add i = omega arith

-- ---- reading it back

-- the records of the points after point 3
rest_back : {d e : Drawing} {ess : List (List Entry)} → Replays d ess e → (o : ℕ) → read_rest (length ess) d (record { offset = o; bytes = point_records ess }) ≡ good e
unfolding read_rest
rest_back none o = refl
rest_back {d} (more {e = e} {ess = ess} es fits h r) o =
    let q : placed o (add_read d (map read_entry (map word_of es))) ≡ good e = rw (entries_back es fits, h) in
    binds (read_record point_entries (record { offset = o; bytes = point_record es ++ point_records ess })) _ _ (record_back point_entries o (map word_of es) (point_records ess) tt) ∙
    binds (placed o (add_read d (map read_entry (map word_of es)))) _ _ q ∙
    rest_back r (o + length (point_record es))

-- the tests of points 2 and 3 pass
start-passes : (wanted : List ℕ) (es : List Entry) (place : ℕ) → Fitting es → points_of es ≡ wanted → record_tests wanted (map read_entry (map word_of es)) place ≡ good tt
start-passes wanted es place fits h = rw (entries_back es fits, given_one es, points-given es, h, same_self wanted)

-- the records of all points
points_back : (τ : Style) (n s : ℕ) (second third : List Entry) (rest : List (List Entry)) (d : Drawing) → Replayed τ n s second third rest d → n ≡ 3 + length rest → (o : ℕ) →
    read_points τ n s (record { offset = o; bytes = point_records (every second third rest) }) ≡ good d
unfolding read_points
points_back τ n s second third rest d r count o =
    let a = fitting_second second r.second_points in
    let b = fitting_third third r.third_points in
    let o2 : ℕ = o + length (point_record []) in
    let o3 : ℕ = o2 + length (point_record second) in
    let after3 = point_records rest in
    let after2 = point_record third ++ after3 in
    let after1 = point_record second ++ after2 in
    binds (read_record point_entries (record { offset = o; bytes = point_record [] ++ after1 })) _ _ (record_back point_entries o [] after1 tt) ∙
    binds (read_record point_entries (record { offset = o2; bytes = after1 })) _ _ (record_back point_entries o2 (map word_of second) after2 tt) ∙
    then_to (record_tests (1 ∷ []) (map read_entry (map word_of second)) o2) _ _ (start-passes (1 ∷ []) second o2 a r.second_points) refl ∙
    binds (read_record point_entries (record { offset = o3; bytes = after2 })) _ _ (record_back point_entries o3 (map word_of third) after3 tt) ∙
    then_to (record_tests (1 ∷ 2 ∷ []) (map read_entry (map word_of third)) o3) _ _ (start-passes (1 ∷ 2 ∷ []) third o3 b r.third_points) refl ∙
    (let left : n - 3 ≡ length rest = omega arith in rw (entries_back second a, entries_back third b, given_back second, given_back third, left) (rest_back r.replays _))

-- the scale, with a point's record behind it
record Scale (s o : ℕ) (rest : List ℕ) : Type 0 where
  next : ℕ
  read : read_scale (record { offset = o; bytes = order_scale s ++ rest }) ≡ good (record { s = s; next = record { offset = next; bytes = rest } })

-- absent or given, it is read back: a point's mark isn't the scale's
scale_back : (s : ℕ) → 1 ≤ s → s ≤ 8 → (o : ℕ) (es : List Entry) (rest : List ℕ) → Scale s o (point_record es ++ rest)
scale_back s low high o es rest = go (eqb s 1) refl
  where
    go : (t : Bool) → eqb s 1 ≡ t → Scale s o (point_record es ++ rest)
    go true q = record { next = o; read = rw (eqb-true s 1 q) refl }
    go false q =
        let e = eqb-false s 1 q in
        let two : 2 ≤ s = omega arith in
        let inside : not (between 2 8 s) ≡ false = rw (le-leb 2 s two, le-leb s 8 high) in
        record {
          next = o + length (written scale_shape (s ∷ []));
          read =
              rw q
              (binds (read_record scale_shape (record { offset = o; bytes = written scale_shape (s ∷ []) ++ (point_record es ++ rest) })) _ _
              (record_back scale_shape o (s ∷ []) (point_record es ++ rest) refl) ∙
              goes _ OutOfRange o _ inside);
        }

-- the order file that is written gives the drawing back
pub order-written : (d : Drawing) → Whole d → read_order d.style (write_order d) ≡ good d
unfolding read_order
order-written d h =
    let t = listed h.reached.built in
    let r = replayed h.reached.low h.reached.high h.reached.built in
    let count : d.n ≡ 3 + length h.reached.rest = omega (arith, h.full, t.is_k) in
    let points = point_records (every h.reached.second h.reached.third h.reached.rest) in
    let inside : not (between 3 1024 d.n) ≡ false = rw (le-leb 3 d.n h.reached.low, le-leb d.n 1024 h.reached.high) in
    let c = scale_back d.s h.reached.scale.0 h.reached.scale.1 4 [] (point_records (h.reached.second ∷ h.reached.third ∷ h.reached.rest)) in
    rw (write_built h.reached.built h.full)
    (binds (read_record order_head (record { offset = 0; bytes = order_bytes d.n d.s (every h.reached.second h.reached.third h.reached.rest) })) _ _
    (record_back order_head 0 (d.n ∷ []) (order_scale d.s ++ points) refl) ∙
    goes _ OutOfRange 0 _ inside ∙
    binds (read_scale (record { offset = 4; bytes = order_scale d.s ++ points })) _ _ c.read ∙
    points_back d.style d.n d.s h.reached.second h.reached.third h.reached.rest d r count c.next)
