-- What follows from the lengths: of files that are read and written, and the longest of them.
use Rattle.std.specs.Prelude.{ℕ, ◌≤◌, ◌≡◌, List, length}
use Rattle.std.proofs.Common.{ap, sym, ◌∙◌, arith}
use Rattle.rules.specs.declared.Style.{Style}
use Rattle.rules.specs.Refusals.{good}
use Rattle.rules.specs.Styles.{drawing_length}
use Rattle.rules.specs.Points.{Drawing}
use Rattle.rules.specs.OrderFile.{read_order, longest_order}
use Rattle.rules.specs.DrawingFile.{drawing_bytes, longest_drawing, write_drawing, draw_file, read_drawing, order_back}
use Rattle.rules.specs.Results.{same_value, bound}
use Rattle.exchange.specs.Built.{Whole}
use Rattle.exchange.specs.WholeRead.{whole_read, style-read}
use Rattle.exchange.specs.DrawingRead.{drawing-read}
use Rattle.exchange.specs.Demand2.{drawn_as, undraw_draw}
use Rattle.exchange.proofs.Lengths.{order_most, whole_length, length_most}

-- An order file that comes back from a drawing file isn't longer either.
pub back_most : (τ : Style) (b o : List ℕ) → order_back τ b ≡ good o → length o ≤ longest_order
back_most τ b o h = let r = bound (read_order τ o) write_drawing b (undraw_draw τ b o h) in order_most τ o r.value r.first

-- A DRAWING FILE THAT IS READ.
pub drawing_length_lem : (τ : Style) (b : List ℕ) (d : Drawing) → read_drawing τ b ≡ good d → length b ≡ drawing_length τ d.n
drawing_length_lem τ b d h = let t = drawing-read τ b d h in ap length t.1 ∙ whole_length d t.0 ∙ ap (λ σ. drawing_length σ d.n) t.2

-- THE DRAWING FILE OF AN ACCEPTED ORDER FILE.
pub drawn-length : (τ : Style) (o b : List ℕ) (d : Drawing) → read_order τ o ≡ good d → draw_file τ o ≡ good b → length b ≡ drawing_length τ d.n
drawn-length τ o b d h q =
    let w = whole_read τ o d h in
    ap length (same_value b (drawing_bytes d) (sym q ∙ drawn_as τ o d w h)) ∙ whole_length d w ∙ ap (λ σ. drawing_length σ d.n) (style-read τ o d h)

-- The drawing file of a finished drawing isn't longer than that of 1,024 points with bends, 42,948 bytes.
pub whole_most : (d : Drawing) → Whole d → length (drawing_bytes d) ≤ longest_drawing
whole_most d w = omega (arith, whole_length d w, length_most d.style d.n w.reached.high)

-- Nor is one that is read.
pub drawing_most : (τ : Style) (b : List ℕ) (d : Drawing) → read_drawing τ b ≡ good d → length b ≤ longest_drawing
drawing_most τ b d h = omega (arith, drawing_length_lem τ b d h, length_most τ d.n (drawing-read τ b d h).0.reached.high)

-- The same of the drawing of an accepted order file.
pub drawn_most : (τ : Style) (o b : List ℕ) → draw_file τ o ≡ good b → length b ≤ longest_drawing
drawn_most τ o b q =
    let r = bound (read_order τ o) write_drawing b q in
    omega (arith, drawn-length τ o b r.value r.first q, length_most τ r.value.n (whole_read τ o r.value r.first).reached.high)
