-- A LAST FIELD ABOVE 2 IS NEVER READ BACK: in a drawing file that is read, each line's last field is that of its kind, so it is 0 for a guide, 1 for a plain line or 2 for a feeder.
use Rattle.std.specs.Prelude.{ℕ, zero, suc, ◌+◌, ◌*◌, ◌/◌, ◌%◌, ◌<◌, ◌≤◌, ◌≡◌, refl, List, [], ◌∷◌, ◌++◌, length, get_or}
use Rattle.std.proofs.Common.{ap, ap₂, sym, ◌∙◌, append_assoc, arith}
use Rattle.std.proofs.Math.Seq.{drop-append-add}
use Rattle.rules.specs.declared.Style.{Style}
use Rattle.rules.specs.declared.Style.TheVariants.{OneBend, Straight}
use Rattle.rules.specs.declared.Kind.{Kind}
use Rattle.rules.specs.declared.Kind.TheVariants.{Guide, Plain, Feeder}
use Rattle.rules.specs.declared.Line.{Line}
use Rattle.rules.specs.declared.Place.{Place}
use Rattle.rules.specs.Basics.{head_of}
use Rattle.rules.specs.Refusals.{good}
use Rattle.rules.specs.Points.{Drawing, line_at}
use Rattle.rules.specs.Ports.{bend_place}
use Rattle.rules.specs.Records.{place_size, written, words_in, drawing_head, line_shape, end_shape}
use Rattle.rules.specs.DrawingFile.{last_field, line_words, write_points, write_lines, drawing_bytes, read_drawing}
use Rattle.exchange.specs.LastFields.{number_at, field_among, field_place}
use Rattle.exchange.specs.Built.{Whole}
use Rattle.exchange.specs.DrawingRead.{drawing-read, sizes, head_words}

-- a number written at the start, with anything behind it
number_first : (v : ℕ) (rest : List ℕ) → head_of (words_in 1 ((v / 256) ∷ (v % 256) ∷ rest)) ≡ v
number_first v rest = omega arith

-- a number behind some bytes
number_behind : (l rest : List ℕ) (at : ℕ) → number_at (l ++ rest) (length l + at) ≡ number_at rest at
number_behind l rest at = ap (λ (b : List ℕ). head_of (words_in 1 b)) (drop-append-add l rest at)

-- the last field of a line
field_first : (τ : Style) (s : ℕ) (l : Line) (bend : Place) (rest : List ℕ) →
    number_at (written (line_shape τ) (line_words τ s l bend) ++ rest) (field_among τ 0) ≡ last_field l.kind
field_first OneBend s l bend rest = number_first (last_field l.kind) rest
field_first Straight s l bend rest = number_first (last_field l.kind) rest

-- a line has its bytes, and the next line's field is so much further on
field_next : (τ : Style) (s : ℕ) (l : Line) (bend : Place) (i : ℕ) → field_among τ (suc i) ≡ length (written (line_shape τ) (line_words τ s l bend)) + field_among τ i
field_next OneBend s l bend i = omega arith
field_next Straight s l bend i = omega arith

-- the last field of line i of some lines
field_in : (d : Drawing) (ls : List Line) (rest : List ℕ) (z : Line) (i : ℕ) → i < length ls → number_at (write_lines d ls ++ rest) (field_among d.style i) ≡ last_field (get_or ls i z).kind
field_in d [] rest z i h = absurd (omega arith)
field_in d (l ∷ ls) rest z zero h =
    let line = written (line_shape d.style) (line_words d.style d.s l (bend_place d l)) in
    ap (λ (b : List ℕ). number_at b (field_among d.style 0)) (append_assoc line (write_lines d ls) rest) ∙ field_first d.style d.s l (bend_place d l) (write_lines d ls ++ rest)
field_in d (l ∷ ls) rest z (suc i) h =
    let line = written (line_shape d.style) (line_words d.style d.s l (bend_place d l)) in
    ap₂ number_at (append_assoc line (write_lines d ls) rest) (field_next d.style d.s l (bend_place d l) i) ∙
    number_behind line (write_lines d ls ++ rest) (field_among d.style i) ∙ field_in d ls rest z i (omega arith)

-- the points take 6 bytes each
points-length : (s : ℕ) (xs ys : List ℕ) → length xs ≡ length ys → length (write_points s xs ys) ≡ place_size * length xs
points-length s [] ys h = refl
points-length s (x ∷ xs) [] h = absurd (omega arith)
points-length s (x ∷ xs) (y ∷ ys) h = omega (arith, points-length s xs ys (omega arith))

-- the last field of line i of a whole drawing file
field_written : (d : Drawing) → Whole d → (i : ℕ) → i < length d.lines → number_at (drawing_bytes d) (field_place d.style d.n i) ≡ last_field (line_at d i).kind
unfolding drawing_bytes
field_written d w i h =
    let z = sizes d w in
    let head = written (drawing_head d.style) (head_words d) in
    let points = write_points d.s d.xs d.ys in
    let lines = write_lines d d.lines ++ written end_shape [] in
    let long : place_size * d.n ≡ length points = omega (arith, points-length d.s d.xs d.ys (z.xs ∙ sym z.ys), z.xs) in
    number_behind head (points ++ lines) (place_size * d.n + field_among d.style i) ∙
    ap (λ (o : ℕ). number_at (points ++ lines) (o + field_among d.style i)) long ∙
    number_behind points lines (field_among d.style i) ∙
    field_in d d.lines (written end_shape []) _ i h

-- a field of a kind
field_most : (k : Kind) → last_field k ≤ 2
field_most Guide = omega arith
field_most Plain = omega arith
field_most Feeder = omega arith

-- THE LAW: line i's last field in a drawing file that is read is that of its kind,
pub field_read : (τ : Style) (b : List ℕ) (d : Drawing) → read_drawing τ b ≡ good d → (i : ℕ) → i < length d.lines → number_at b (field_place τ d.n i) ≡ last_field (line_at d i).kind
field_read τ b d r i h =
    let t = drawing-read τ b d r in
    ap₂ (λ (b : List ℕ) (σ : Style). number_at b (field_place σ d.n i)) t.1 (sym t.2) ∙ field_written d t.0 i h

-- and so never above 2.
pub never-above_2 : (τ : Style) (b : List ℕ) (d : Drawing) → read_drawing τ b ≡ good d → (i : ℕ) → i < length d.lines → number_at b (field_place τ d.n i) ≤ 2
never-above_2 τ b d r i h = omega (arith, field_read τ b d r i h, field_most (line_at d i).kind)
