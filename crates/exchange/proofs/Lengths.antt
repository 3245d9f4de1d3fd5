-- HOW LONG THE FILES ARE: an accepted order file has 10 n - 6 bytes, 4 more with a scale record; a drawing file that is read or drawn has 42 n - 60, a straight one 30 n - 36.
-- So "no accepted order file is longer than 10,238", and each for n = 1,024 with a scale record is as long, whatever its net.
-- Nothing is asked of the numbers in a file: they need not be bytes.
use Rattle.std.specs.Prelude.{ℕ, zero, suc, ◌+◌, ◌-◌, ◌*◌, ◌≤◌, ◌≡◌, refl, Bool, true, false, not, List, [], ◌∷◌, length, ltb, eqb, if◌then◌else◌}
use Rattle.std.proofs.Common.{ap, sym, ◌∙◌, subst, arith, length-drop, ltb-false, ne_eqb}
use Rattle.std.proofs.lemmas.List.{length-map}
use Rattle.std.proofs.lemmas.Bool.{not-false}
use Rattle.rules.specs.declared.Style.{Style}
use Rattle.rules.specs.declared.Style.TheVariants.{OneBend, Straight}
use Rattle.rules.specs.declared.Entry.{Entry}
use Rattle.rules.specs.declared.Refusal.TheVariants.{FileEnds, WrongMark, OutOfRange, ExtraBytes}
use Rattle.rules.specs.Basics.{between}
use Rattle.rules.specs.Refusals.{good, placed, ◌>>=◌, refuse_if}
use Rattle.rules.specs.Styles.{drawing_length}
use Rattle.rules.specs.Points.{Drawing}
use Rattle.rules.specs.Adding.{add_read, points_of}
use Rattle.rules.specs.Readings.{entry_of}
use Rattle.rules.proofs.Readings.{add_entries_lem}
use Rattle.rules.specs.Records.{plain, counted, Cursor, Found, first, words_in, skip, words_at, rest_of, read_record, read_end, marked, from_start, order_head, scale_shape, point_entries, line_size, end_shape}
use Rattle.rules.specs.OrderFile.{Scaled, given_scale, read_scale, entries_in, start_with, read_rest, read_points, read_order, longest_order, write_order}
use Rattle.rules.specs.DrawingFile.{drawing_bytes, longest_drawing}
use Rattle.rules.specs.Bools.{in_range}
use Rattle.rules.specs.Results.{same_value, bound, followed, tested, test_false, placed-good}
use Rattle.rules.proofs.Lengths.{length-points, length-words}
use Rattle.promise.specs.Lined.{length-lines}
use Rattle.exchange.specs.Built.{Whole}
use Rattle.exchange.specs.Entries.{lengthened}
use Rattle.exchange.specs.OrderRead.{said_in, three-read}
use Rattle.exchange.specs.OrderWrite.{order-written}
use Rattle.exchange.specs.WholeRead.{whole_read}
use Rattle.exchange.specs.DrawingRead.{sizes, length-drawing}
use Rattle.exchange.specs.Lengths.{scale_bytes}

-- ---- a record that is read

-- numbers that were read at a cursor: how many, and how many bytes before what follows them
record Took (count bytes : ℕ) (at : Cursor) (f : Found) : Type 0 where
  words : length f.words ≡ count
  rest : length at.bytes ≡ bytes + length f.next.bytes

-- c numbers take 2 c bytes
took : (place c : ℕ) (at : Cursor) (f : Found) → words_at place c at ≡ good f → Took c (2 * c) at f
took place c at f h =
    let t = tested (ltb (length at.bytes) (2 * c)) FileEnds place (good (record { place = place; words = words_in c at.bytes; next = skip (2 * c) at })) f h in
    let b = ltb-false (length at.bytes) (2 * c) t.passed in
    subst (Took c (2 * c) at) (same_value _ f t.last) (record { words = length-words c at.bytes b; rest = omega (arith, b, length-drop (2 * c) at.bytes) })

-- a record of c numbers takes 2 + 2 c
took-plain : (mark c : ℕ) (at : Cursor) (f : Found) → read_record (record { mark = mark; size = plain c }) at ≡ good f → Took c (2 + 2 * c) at f
took-plain mark c at f h =
    let g = bound (words_at at.offset 1 at) _ f h in
    let m = tested (not (eqb (first g.value) mark)) WrongMark at.offset (words_at at.offset c g.value.next) f g.last in
    let a = took at.offset 1 at g.value g.first in
    let b = took at.offset c g.value.next f m.last in
    record { words = b.words; rest = omega (arith, a.rest, b.rest) }

-- a point's record takes 4, and 2 for each entry
took-point : (at : Cursor) (f : Found) → read_record point_entries at ≡ good f → Took (length (said_in f)) (4 + 2 * length (said_in f)) at f
took-point at f h =
    let g = bound (words_at at.offset 1 at) _ f h in
    let m = tested (not (eqb (first g.value) point_entries.mark)) WrongMark at.offset (rest_of at.offset counted g.value.next) f g.last in
    let n = bound (words_at at.offset 1 g.value.next) (λ n. words_at at.offset (first n) n.next) f m.last in
    let a = took at.offset 1 at g.value g.first in
    let b = took at.offset 1 g.value.next n.value n.first in
    let c = took at.offset (first n.value) n.value.next f n.last in
    let e = length-map f.words entry_of in
    record { words = sym e; rest = omega (arith, a.rest, b.rest, c.rest, c.words, e) }

-- the end takes 2, and nothing follows it
took-end : (at : Cursor) (u : Unit {0}) → read_end at ≡ good u → length at.bytes ≡ 2
took-end at u h =
    let g = bound (read_record end_shape at) (λ f. refuse_if (ltb 0 (length f.next.bytes)) ExtraBytes f.next.offset) u h in
    let none = ltb-false 0 (length g.value.next.bytes) (test_false _ ExtraBytes _ g.last) in
    omega (arith, (took-plain end_shape.mark 0 at g.value g.first).rest, none)

-- ---- the records of the points

-- a drawing e, read from d and `count` records: its n and its scale, and 4 bytes for each record, 2 for each new line, 2 for the end
record Grew (d e : Drawing) (count bytes : ℕ) : Type 0 where
  n : e.n ≡ d.n
  s : e.s ≡ d.s
  size : bytes + 2 * length d.lines ≡ 4 * count + 2 * length e.lines + 2

-- the points after point 3
rest_grew : (c : ℕ) (d e : Drawing) (at : Cursor) → read_rest c d at ≡ good e → Grew d e c (length at.bytes)
unfolding read_rest
rest_grew zero d e at h =
    let g = followed (read_end at) (good d) e h in
    subst (λ (e : Drawing). Grew d e 0 (length at.bytes)) (same_value d e g.last) (record { n = refl; s = refl; size = omega (arith, took-end at g.value g.first) })
rest_grew (suc c) d e at h =
    let f = bound (read_record point_entries at) (λ f. placed f.place (add_read d (entries_in f)) >>= λ e. read_rest c e f.next) e h in
    let es = said_in f.value in
    let g = bound (placed f.value.place (add_read d (entries_in f.value))) (λ e. read_rest c e f.value.next) e f.last in
    let t = took-point at f.value f.first in
    let a = lengthened d g.value es (add_entries_lem d g.value f.value.words (placed-good f.value.place (add_read d (entries_in f.value)) g.value g.first)) in
    let l = ap length a.lines ∙ length-lines d.lines (suc d.k) a.bend es in
    let r = rest_grew c g.value e f.value.next g.last in
    record { n = r.n ∙ a.n; s = r.s ∙ a.s; size = omega (arith, t.rest, l, r.size) }

-- a record whose points are wanted has as many entries
wanted : (es : List Entry) (ps : List ℕ) → points_of es ≡ ps → length es ≡ length ps
wanted es ps h = sym (length-points es) ∙ ap length h

-- all n points: 4 bytes for each, 2 for each line, 2 for the end
points_grew : (τ : Style) (n s : ℕ) (at : Cursor) (e : Drawing) → 3 ≤ n → read_points τ n s at ≡ good e →
    (e.n ≡ n) × (e.s ≡ s) × (length at.bytes ≡ 4 * n + 2 * length e.lines + 2)
points_grew τ n s at e low q =
    let t = three-read τ n s at e q in
    let r = rest_grew (n - 3) (start_with τ n s (said_in t.g) (said_in t.h)) e t.h.next t.last in
    let a = took-point at t.f t.first in
    let b = took-point t.f.next t.g t.second in
    let c = took-point t.g.next t.h t.third in
    let na = wanted (said_in t.f) [] t.points_f in
    let nb = wanted (said_in t.g) (1 ∷ []) t.points_g in
    let nc = wanted (said_in t.h) (1 ∷ 2 ∷ []) t.points_h in
    (r.n, r.s, omega (arith, low, a.rest, b.rest, c.rest, na, nb, nc, r.size))

-- the scale that is read takes them
took-scale : (at : Cursor) (c : Scaled) → read_scale at ≡ good c → length at.bytes ≡ scale_bytes c.s + length c.next.bytes
took-scale at c h = go (marked scale_shape at) h
  where
    Takes : Scaled → Type 0
    Takes c = length at.bytes ≡ scale_bytes c.s + length c.next.bytes

    given : given_scale at ≡ good c → Takes c
    given h =
        let f = bound (read_record scale_shape at) _ c h in
        let g = tested (not (between 2 8 (first f.value))) OutOfRange f.value.place (good (record { s = first f.value; next = f.value.next })) c f.last in
        let z = in_range 2 8 (first f.value) (not-false _ g.passed) in
        let t = took-plain scale_shape.mark 1 at f.value f.first in
        subst Takes (same_value _ c g.last) (rw (ne_eqb (first f.value) 1 (omega (arith, z.0))) t.rest)

    go : (t : Bool) → (if t then given_scale at else good (record { s = 1; next = at })) ≡ good c → Takes c
    go true q = given q
    go false q = subst Takes (same_value _ c q) (omega arith)

-- ---- order files

-- an accepted order file has 6 bytes, those of its scale, 4 for each point and 2 for each line
read-size : (τ : Style) (o : List ℕ) (d : Drawing) → read_order τ o ≡ good d → length o ≡ 6 + scale_bytes d.s + 4 * d.n + 2 * length d.lines
unfolding read_order
read-size τ o d h =
    let f = bound (read_record order_head (from_start o)) _ d h in
    let n = first f.value in
    let g = tested (not (between 3 1024 n)) OutOfRange 0 _ d f.last in
    let c = bound (read_scale f.value.next) (λ c. read_points τ n c.s c.next) d g.last in
    let z = in_range 3 1024 n (not-false _ g.passed) in
    let p = points_grew τ n c.value.s c.value.next d z.0 c.last in
    let a = took-plain order_head.mark 1 (from_start o) f.value f.first in
    let b = took-scale f.value.next c.value c.first in
    omega (arith, a.rest, b, p.0, p.2, ap scale_bytes p.1)

-- AN ACCEPTED ORDER FILE has 10 n - 6 bytes, and the scale's.
pub order-length : (τ : Style) (o : List ℕ) (d : Drawing) → read_order τ o ≡ good d → length o + 6 ≡ 10 * d.n + scale_bytes d.s
order-length τ o d h = omega (arith, read-size τ o d h, (sizes d (whole_read τ o d h)).lines)

-- So has the order file of a finished drawing.
pub order-size : (d : Drawing) → Whole d → length (write_order d) + 6 ≡ 10 * d.n + scale_bytes d.s
order-size d w = order-length d.style (write_order d) d (order-written d w)

-- a scale's record has 4 bytes at most
scale_most : (s : ℕ) → scale_bytes s ≤ 4
scale_most s = go (eqb s 1)
  where
    go : (t : Bool) → (if t then 0 else 4) ≤ 4
    go true = omega arith
    go false = omega arith

-- "No accepted order file is longer than 10,238."
pub order_most : (τ : Style) (o : List ℕ) (d : Drawing) → read_order τ o ≡ good d → length o ≤ longest_order
order_most τ o d h = omega (arith, order-length τ o d h, scale_most d.s, (whole_read τ o d h).reached.high)

-- Each for 1,024 points with a scale record is as long, so that no smaller bound holds of them.
pub order_longest : (τ : Style) (o : List ℕ) (d : Drawing) → read_order τ o ≡ good d → d.n ≡ 1024 → 2 ≤ d.s → length o ≡ longest_order
order_longest τ o d h n s =
    let e : scale_bytes d.s ≡ 4 = rw (ne_eqb d.s 1 (omega (arith, s))) in
    omega (arith, order-length τ o d h, n, e)

-- ---- drawing files: "Size: 42n - 60 bytes", and a straight one's "is then 4 bytes a line less"

-- The drawing file of a finished drawing.
pub whole_length : (d : Drawing) → Whole d → length (drawing_bytes d) ≡ drawing_length d.style d.n
whole_length d w = length-drawing d w ∙ go d.style d.n w.reached.low
  where
    go : (τ : Style) (n : ℕ) → 3 ≤ n → 12 + 6 * n + (3 * n - 6) * line_size τ ≡ drawing_length τ n
    go OneBend n low = omega arith
    go Straight n low = omega arith

-- Four bytes a line less.
pub straight-length : (n : ℕ) → 3 ≤ n → drawing_length Straight n + 4 * (3 * n - 6) ≡ drawing_length OneBend n
straight-length n low = omega arith

-- Neither is longer than the one-bend file of 1,024 points.
pub length_most : (τ : Style) (n : ℕ) → n ≤ 1024 → drawing_length τ n ≤ longest_drawing
length_most OneBend n h = omega arith
length_most Straight n h = omega arith
