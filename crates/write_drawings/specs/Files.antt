-- The file that the arrays give is the drawing file of the finished drawing that they hold.
use Rattle.std.specs.Prelude.{ℕ, zero, suc, ◌+◌, ◌*◌, ◌<◌, ◌≡◌, refl, List, [], ◌∷◌, ◌++◌, length, get_or}
use Rattle.std.proofs.Math.Path.{ap, sym}
use Rattle.std.proofs.Common.{ap₂, ◌∙◌, append_assoc, append-nil, arith, length-append, get_or-take}
use Rattle.std.proofs.Math.ListN.{take}
use Rattle.rules.specs.declared.Style.{Style}
use Rattle.rules.specs.declared.Style.TheVariants.{OneBend, Straight}
use Rattle.rules.specs.declared.Line.{Line}
use Rattle.rules.specs.declared.Place.{Place}
use Rattle.rules.specs.Points.{Drawing, line_at}
use Rattle.rules.specs.Ports.{bend_place}
use Rattle.rules.specs.Records.{written, drawing_head, point_place, line_shape, end_shape, head_size, place_size, line_size}
use Rattle.rules.specs.DrawingFile.{highest, write_points, line_words, write_lines, drawing_bytes}
use Rattle.store_links.specs.declared.Counts.{Counts}
use Rattle.store_links.specs.Arrays.{Arrays}
use Rattle.promise.specs.Standing.{Standing}
use Rattle.store_settling.specs.Bending.{Shows, shows_of, bend_right}
use Rattle.store_links.specs.Opening.{no_line}
use Rattle.store_settling.specs.Lines as Lines
use Rattle.write_drawings.specs.Lists.{several, starting, point_bytes, bend_at, line_bytes, head_bytes, file_bytes}
use Rattle.write_drawings.specs.Stores.{length-several}
use Rattle.write_drawings.specs.Finished.{Finished}

-- ---- several records

-- The first of them stands before the others.
several_cons : (f : ℕ → List ℕ) (n : ℕ) → several f (suc n) ≡ f 0 ++ several (λ i. f (suc i)) n
unfolding several
several_cons f zero = sym (append-nil (f 0))
several_cons f (suc n) = ap (λ (t : List ℕ). t ++ f (suc n)) (several_cons f n) ∙ append_assoc (f 0) (several (λ i. f (suc i)) n) (f (suc n))

-- Records that are the same one by one are the same together.
several_same : (f g : ℕ → List ℕ) (n : ℕ) → ((i : ℕ) → i < n → f i ≡ g i) → several f n ≡ several g n
unfolding several
several_same f g zero h = refl
several_same f g (suc n) h = ap₂ (λ (s t : List ℕ). s ++ t) (several_same f g n (λ i b. h i (omega arith))) (h n (omega arith))

-- Records from the first on are all of them.
pub from_first : (f : ℕ → List ℕ) (n : ℕ) → several (starting f 0) n ≡ several f n
from_first f n = several_same (starting f 0) f n (λ i b. ap f (let e : 0 + i ≡ i = omega arith in e))

-- The point records are those of the points.
points_are : (s : ℕ) (xs ys : List ℕ) → length xs ≡ length ys → write_points s xs ys ≡ several (point_bytes s xs ys) (length xs)
unfolding several
points_are s [] ys h = refl
points_are s (x ∷ xs) [] h = absurd (omega arith)
points_are s (x ∷ xs) (y ∷ ys) h =
    ap (λ (t : List ℕ). written point_place (s * x ∷ s * y ∷ []) ++ t) (points_are s xs ys (omega arith)) ∙
    sym (several_cons (point_bytes s (x ∷ xs) (y ∷ ys)) (length xs))

-- the record of a line of the drawing
abbrev line_record : Drawing → Line → List ℕ
line_record d l = written (line_shape d.style) (line_words d.style d.s l (bend_place d l))

-- A line's record has its size.
pub length-line : (τ : Style) (s : ℕ) (l : Line) (b : Place) → length (written (line_shape τ) (line_words τ s l b)) ≡ line_size τ
length-line OneBend s l b = refl
length-line Straight s l b = refl

-- The line records are those of the lines.
lines_are : (d : Drawing) (ls : List Line) (z : Line) → write_lines d ls ≡ several (λ e. line_record d (get_or ls e z)) (length ls)
unfolding several
lines_are d [] z = refl
lines_are d (l ∷ ls) z =
    ap (λ (t : List ℕ). line_record d l ++ t) (lines_are d ls z) ∙ sym (several_cons (λ e. line_record d (get_or (l ∷ ls) e z)) (length ls))

-- ---- the length of the file

-- Of any drawing from opening and calls.
pub length-file : {d : Drawing} → Standing d → length (drawing_bytes d) ≡ head_size + place_size * d.k + line_size d.style * length d.lines + 2
unfolding drawing_bytes
length-file {d} t =
    let z = t.sound.sized in
    let p = write_points d.s d.xs d.ys in
    let l = write_lines d d.lines in
    let lp : length p ≡ place_size * length d.xs = ap length (points_are d.s d.xs d.ys (z.xs ∙ sym z.ys)) ∙ length-several (point_bytes d.s d.xs d.ys) place_size (λ i. refl) (length d.xs) in
    let ll : length l ≡ line_size d.style * length d.lines = ap length (lines_are d d.lines _) ∙ length-several (λ e. line_record d (line_at d e)) (line_size d.style) (λ e. length-line d.style d.s (line_at d e) (bend_place d (line_at d e))) (length d.lines) in
    omega (arith, length-append p (l ++ written end_shape []), length-append l (written end_shape []), z.xs)

-- ---- the arrays of a finished drawing

module _ {d : Drawing} {x : List ℕ} {a : Arrays} {c : Counts} (h : Finished d x a c) where
  -- They show the drawing.
  pub shows : Shows d x a
  shows = shows_of (rw h.holds.stores.k at h.settled) h.holds.stores

  pub x_is : (i : ℕ) → i < d.k → get_or x i 0 ≡ get_or d.xs i 0
  x_is i b = sym (get_or-take d.k x i 0 b) ∙ ap (λ (l : List ℕ). get_or l i 0) shows.x

  pub y_is : (i : ℕ) → i < d.k → get_or a.ys i 0 ≡ get_or d.ys i 0
  y_is i b = sym (get_or-take d.k a.ys i 0 b) ∙ ap (λ (l : List ℕ). get_or l i 0) h.holds.stores.ys

  module _ (e : ℕ) (el : e < length d.lines) where
    -- The line that the arrays have is the drawing's.
    pub line_is : get_or a.lines e no_line ≡ line_at d e
    line_is = Lines.line_is h.holds.stores e el

    -- So is its bend.
    pub bend_is : bend_at x a (line_at d e) ≡ bend_place d (line_at d e)
    bend_is =
        let p = Lines.ends h.holds.standing e el in
        bend_right shows (line_at d e).later (line_at d e).earlier p.0 p.1 p.2 p.3 (line_at d e).bend

    record_is : line_bytes d.style d.s x a e ≡ line_record d (line_at d e)
    unfolding line_bytes
    record_is =
        ap (λ (l : Line). written (line_shape d.style) (line_words d.style d.s l (bend_at x a l))) line_is ∙
        ap (λ b. written (line_shape d.style) (line_words d.style d.s (line_at d e) b)) bend_is

  -- The file that the arrays give is the drawing's.
  pub file_is : file_bytes x a c ≡ drawing_bytes d
  unfolding file_bytes head_bytes drawing_bytes
  file_is =
      let z = h.holds.standing.sound.sized in
      let k = h.holds.standing.ranged.three in
      let top : highest (take c.k a.ys) ≡ highest d.ys = ap highest (ap (λ (n : ℕ). take n a.ys) h.holds.stores.k ∙ h.holds.stores.ys) in
      let p : several (point_bytes d.s x a.ys) d.k ≡ write_points d.s d.xs d.ys =
      several_same (point_bytes d.s x a.ys) (point_bytes d.s d.xs d.ys) d.k (λ i b. rw (x_is i b, y_is i b)) ∙
      ap (several (point_bytes d.s d.xs d.ys)) (sym z.xs) ∙ sym (points_are d.s d.xs d.ys (z.xs ∙ sym z.ys)) in
      let l : several (line_bytes d.style d.s x a) (length d.lines) ≡ write_lines d d.lines =
      several_same (line_bytes d.style d.s x a) (λ e. line_record d (line_at d e)) (length d.lines) record_is ∙ sym (lines_are d d.lines _) in
      append_assoc (written (drawing_head c.style) (c.n ∷ c.s ∷ c.s * get_or x 1 0 ∷ c.s * highest (take c.k a.ys) ∷ [])) (several (point_bytes c.s x a.ys) c.k) (several (line_bytes c.style c.s x a) c.lines ++ written end_shape []) ∙
      rw (h.holds.stores.style, h.holds.stores.n, h.holds.stores.s, top, x_is 1 (omega arith), h.holds.stores.k, h.holds.stores.lines, p, l)
