-- DEMAND 2, drawing files: reading the drawing file of a finished drawing gives the drawing back, and what is read is such a file.
use Rattle.std.specs.Prelude.{ℕ, suc, ◌+◌, ◌-◌, ◌*◌, ◌≤◌, ◌≡◌, refl, false, not, ◌&&◌, List, [], ◌∷◌, ◌++◌, length, get_or, eqb}
use Rattle.std.proofs.Common.{ap, ap₂, sym, ◌∙◌, subst, arith, length-append, eqb-true}
use Rattle.std.proofs.lemmas.Bool.{not-false}
use Rattle.rules.specs.declared.Style.{Style}
use Rattle.rules.specs.declared.Entry.{Entry}
use Rattle.rules.specs.declared.Refusal.TheVariants.{OutOfRange, OtherDrawing}
use Rattle.rules.specs.Basics.{between}
use Rattle.rules.specs.Refusals.{good}
use Rattle.rules.specs.Same.{compare_same}
use Rattle.rules.specs.Points.{Drawing, W}
use Rattle.rules.specs.Records.{written, read_record, several, read_end, from_start, drawing_head, point_place, line_shape, line_size, end_shape}
use Rattle.rules.proofs.Lengths.{length-bytes}
use Rattle.rules.proofs.RoundTrip.{record_back}
use Rattle.rules.specs.DrawingFile.{highest, write_points, drawing_bytes, compare_bytes, judge_drawing, read_drawing}
use Rattle.promise.specs.Standing.{Standing}
use Rattle.promise.proofs.Bounds.{standing-start, standing-added}
use Rattle.promise.proofs.Within.{counted}
use Rattle.exchange.specs.Built.{Built, begun, added, Whole}
use Rattle.rules.specs.Bools.{both, in_range, range_in}
use Rattle.rules.specs.Results.{never-good, bound, binds_to, tested, goes_to, followed, same_value}
use Rattle.exchange.specs.Entries.{listed, whole_so}
use Rattle.exchange.specs.Groups.{written_all, AllFit, found_all, several_back, length_all, lines_words, lines_are, lines_fit, length-lines, lines-read, judge-built, judged-built}

-- ---- the point records of a drawing

-- the numbers of each
abbrev pub points_words : ℕ → List ℕ → List ℕ → List (List ℕ)
points_words s [] ys = []
points_words s (x ∷ xs) [] = []
points_words s (x ∷ xs) (y ∷ ys) = (s * x ∷ s * y ∷ []) ∷ points_words s xs ys

-- the points are written so
points_are : (s : ℕ) (xs ys : List ℕ) → write_points s xs ys ≡ written_all point_place (points_words s xs ys)
points_are s [] ys = refl
points_are s (x ∷ xs) [] = refl
points_are s (x ∷ xs) (y ∷ ys) = ap (λ (t : List ℕ). written point_place (s * x ∷ s * y ∷ []) ++ t) (points_are s xs ys)

-- each has its size
points-fit : (s : ℕ) (xs ys : List ℕ) → AllFit point_place.size (points_words s xs ys)
points-fit s [] ys = tt
points-fit s (x ∷ xs) [] = tt
points-fit s (x ∷ xs) (y ∷ ys) = (refl, points-fit s xs ys)

-- there is one for each point
length-points : (s : ℕ) (xs ys : List ℕ) → length xs ≡ length ys → length (points_words s xs ys) ≡ length xs
length-points s [] ys h = refl
length-points s (x ∷ xs) [] h = absurd (omega arith)
length-points s (x ∷ xs) (y ∷ ys) h = ap suc (length-points s xs ys (omega arith))

-- ---- the numbers of a finished drawing

-- every built drawing stands
pub standing : {τ : Style} {n s : ℕ} {second third : List Entry} {ess : List (List Entry)} {d : Drawing} → Built τ n s second third ess d → 3 ≤ n → n ≤ 1024 → Standing d
standing {τ} {n} {s} (begun p q) low high = standing-start τ n s _ _ _ low high
standing (added {d = d} {e = e} es b h) low high = standing-added d e es (standing b low high) h

-- how many points and lines there are
pub record Sizes (d : Drawing) : Type 0 where
  pub xs : length d.xs ≡ d.n
  pub ys : length d.ys ≡ d.n
  pub lines : length d.lines + 6 ≡ 3 * d.n

-- a finished drawing has n points and 3 n - 6 lines
pub sizes : (d : Drawing) → Whole d → Sizes d
sizes d w =
    let t = standing w.reached.built w.reached.low w.reached.high in
    let c = counted t.sound in
    let b = t.ranged.closed w.full in
    record { xs = t.sound.sized.xs ∙ w.full; ys = t.sound.sized.ys ∙ w.full; lines = omega (arith, c, b, w.full) }

-- ---- the whole file

-- the numbers of the header
abbrev pub head_words : Drawing → List ℕ
head_words d = d.n ∷ d.s ∷ d.s * W d ∷ d.s * highest d.ys ∷ []

-- the file, record by record
pub bytes_are : (d : Drawing) → drawing_bytes d ≡
    written (drawing_head d.style) (head_words d) ++
    (written_all point_place (points_words d.s d.xs d.ys) ++
    (written_all (line_shape d.style) (lines_words d d.lines) ++ written end_shape []))
unfolding drawing_bytes
bytes_are d = ap₂ (λ (v w : List ℕ). written (drawing_head d.style) (head_words d) ++ (v ++ (w ++ written end_shape []))) (points_are d.s d.xs d.ys) (lines_are d d.lines)

-- files without a first differing byte are the same
compare_equal : (i : ℕ) (cs bs : List ℕ) (u : Unit {0}) → compare_bytes i cs bs ≡ good u → cs ≡ bs
compare_equal i [] [] u h = refl
compare_equal i [] (b ∷ bs) u h = absurd (never-good h)
compare_equal i (a ∷ cs) [] u h = absurd (never-good h)
compare_equal i (a ∷ cs) (b ∷ bs) u h =
    let t = tested (not (eqb a b)) OtherDrawing i (compare_bytes (suc i) cs bs) u h in
    ap₂ (λ (v : ℕ) (l : List ℕ). v ∷ l) (eqb-true a b (not-false (eqb a b) t.passed)) (compare_equal (suc i) cs bs u t.last)

-- n and s pass the test of the header
range-good : (n s : ℕ) → 3 ≤ n → n ≤ 1024 → 1 ≤ s → s ≤ 8 → not (between 3 1024 n && between 1 8 s) ≡ false
range-good n s a b c e = rw (range_in 3 1024 n a b, range_in 1 8 s c e)

-- and what passes it lies in range
pub good-range : (n s : ℕ) → not (between 3 1024 n && between 1 8 s) ≡ false → (3 ≤ n) × (n ≤ 1024) × (1 ≤ s) × (s ≤ 8)
good-range n s h =
    let t = both (between 3 1024 n) (between 1 8 s) (not-false (between 3 1024 n && between 1 8 s) h) in
    let u = in_range 3 1024 n t.0 in
    let v = in_range 1 8 s t.1 in
    (u.0, u.1, v.0, v.1)

-- the drawing file of a finished drawing is judged to be that drawing
judge-written : (d : Drawing) → Whole d → judge_drawing d.style (drawing_bytes d) ≡ good d
unfolding judge_drawing
judge-written d w =
    let z = sizes d w in
    let pw = points_words d.s d.xs d.ys in
    let lw = lines_words d d.lines in
    let end = written end_shape [] in
    let o = 0 + length (written (drawing_head d.style) (head_words d)) in
    let o' = o + length (written_all point_place pw) in
    let o'' = o' + length (written_all (line_shape d.style) lw) in
    let fs = found_all (line_shape d.style) o' lw end in
    let head = ap (λ (v : List ℕ). read_record (drawing_head d.style) (from_start v)) (bytes_are d) ∙ record_back (drawing_head d.style) 0 (head_words d) (written_all point_place pw ++ (written_all (line_shape d.style) lw ++ end)) refl in
    let np : d.n ≡ length pw = sym (length-points d.s d.xs d.ys (z.xs ∙ sym z.ys) ∙ z.xs) in
    let points = ap (λ (c : ℕ). several c point_place (record { offset = o; bytes = written_all point_place pw ++ (written_all (line_shape d.style) lw ++ end) })) np ∙
    several_back point_place o pw (written_all (line_shape d.style) lw ++ end) (points-fit d.s d.xs d.ys) in
    let nl : 3 * d.n - 6 ≡ length lw = omega (arith, z.lines, length-lines d d.lines) in
    let lines = ap (λ (c : ℕ). several c (line_shape d.style) (record { offset = o'; bytes = written_all (line_shape d.style) lw ++ end })) nl ∙
    several_back (line_shape d.style) o' lw end (lines_fit d d.lines) in
    let c = listed w.reached.built in
    let judged = judge-built w.reached.built (omega (arith, c.is_k, w.full)) o'' fs (lines-read d o' d.lines end) in
    binds_to _ _ _ _ head
    (goes_to _ _ _ _ _ (range-good d.n d.s w.reached.low w.reached.high w.reached.scale.0 w.reached.scale.1)
    (binds_to _ _ _ _ points
    (binds_to _ _ _ _ lines
    judged)))

-- READING A DRAWING FILE: the drawing file of a finished drawing is read as that drawing.
pub drawing-written : (d : Drawing) → Whole d → read_drawing d.style (drawing_bytes d) ≡ good d
unfolding read_drawing
drawing-written d w = binds_to _ _ _ _ (judge-written d w) (rw (compare_same 0 (drawing_bytes d)))

-- what is known of a drawing is known of an equal one
taken : (τ : Style) (b : List ℕ) (e d : Drawing) → Whole e → b ≡ drawing_bytes e → e.style ≡ τ → e ≡ d → Whole d × (b ≡ drawing_bytes d) × (d.style ≡ τ)
taken τ b e d w p t q = subst (λ (v : Drawing). Whole v × (b ≡ drawing_bytes v) × (v.style ≡ τ)) q (w, p, t)

-- a file that is judged to be a drawing has a finished one, of the reader's style
pub whole_judged : (τ : Style) (b : List ℕ) (d : Drawing) → judge_drawing τ b ≡ good d → Whole d × (d.style ≡ τ)
unfolding judge_drawing
whole_judged τ b d h =
    let head = bound (read_record (drawing_head τ) (from_start b)) _ d h in
    let n = get_or head.value.words 0 0 in
    let s = get_or head.value.words 1 0 in
    let range = tested (not (between 3 1024 n && between 1 8 s)) OutOfRange 0 _ d head.last in
    let points = bound (several n point_place head.value.next) _ d range.last in
    let lines = bound (several (3 * n - 6) (line_shape τ) points.value.next) _ d points.last in
    let end = followed (read_end lines.value.next) _ d lines.last in
    let r = good-range n s range.passed in
    let t = judged-built τ n s lines.value.next.offset lines.value.all d end.last in
    (whole_so (r.0, r.1) (r.2, r.3) t.built t.many, (listed t.built).is_style)

-- WHAT IS READ: a file that is read as a drawing is the drawing file of that drawing, which is finished and of the reader's style.
pub drawing-read : (τ : Style) (b : List ℕ) (d : Drawing) → read_drawing τ b ≡ good d → Whole d × (b ≡ drawing_bytes d) × (d.style ≡ τ)
unfolding read_drawing
drawing-read τ b d h =
    let judged = bound (judge_drawing τ b) _ d h in
    let e = judged.value in
    let same = followed (compare_bytes 0 b (drawing_bytes e)) (good e) d judged.last in
    let w = whole_judged τ b e judged.first in
    taken τ b e d w.0
    (compare_equal 0 b (drawing_bytes e) same.value same.first)
    w.1
    (same_value e d same.last)

-- ---- the size of the file

-- the bytes of a whole drawing's file: 12 for its header and end, 6 for each point, and those of the lines
pub length-drawing : (d : Drawing) → Whole d → length (drawing_bytes d) ≡ 12 + 6 * d.n + (3 * d.n - 6) * line_size d.style
length-drawing d w =
    let z = sizes d w in
    let pw = points_words d.s d.xs d.ys in
    let lw = lines_words d d.lines in
    let p = length_all point_place 6 pw (λ ws e. omega (arith, e, length-bytes ws)) (points-fit d.s d.xs d.ys) in
    let l = length_all (line_shape d.style) (line_size d.style) lw (λ ws e. omega (arith, e, length-bytes ws)) (lines_fit d d.lines) in
    let b = ap length (bytes_are d) in
    let np = length-points d.s d.xs d.ys (z.xs ∙ sym z.ys) in
    let nl : length lw ≡ 3 * d.n - 6 = length-lines d d.lines ∙ omega (arith, z.lines) in
    let e1 = length-append (written_all point_place pw) (written_all (line_shape d.style) lw ++ written end_shape []) in
    let e2 = length-append (written_all (line_shape d.style) lw) (written end_shape []) in
    omega (arith, z.xs, z.lines, ap (λ c. c * line_size d.style) nl)
