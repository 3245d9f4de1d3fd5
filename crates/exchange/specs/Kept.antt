-- DEMAND 3 AND WISH 2 of every drawing that is handed out: whatever opening and calls, an order file or a drawing file give keeps the promise of its style, and no subtraction of the rules truncates there. And wish 3: how many moves its lines give.
use Rattle.std.specs.Prelude.{ℕ, ◌≡◌, List, true, length}
use Rattle.std.proofs.Common.{subst}
use Rattle.rules.specs.declared.Style.{Style}
use Rattle.rules.specs.declared.Style.TheVariants.{OneBend}
use Rattle.rules.specs.Refusals.{good}
use Rattle.rules.specs.Points.{Drawing, line_at}
use Rattle.rules.specs.Moves.{Tool, is_tool, moves_once}
use Rattle.rules.specs.OrderFile.{read_order}
use Rattle.rules.specs.DrawingFile.{read_drawing}
use Rattle.promise.specs.Promise.{IsLine, Promised}
use Rattle.promise.specs.Standing.{Standing}
use Rattle.promise.specs.Exact.{ExactBy}
use Rattle.promise.proofs.Exact.{sound-exact}
use Rattle.promise.proofs.Theorem.{standing-keeps}
use Rattle.promise.specs.Dwelling.{LeftOut, moves_by}
use Rattle.promise.proofs.Dwelling.{left_out, moves_of-line}
use Rattle.exchange.specs.Built.{Reached}
use Rattle.exchange.specs.DrawingRead.{standing, drawing-read}
use Rattle.exchange.specs.WholeRead.{whole_read, style-read}

-- ---- what is reached: by opening and calls (`Reaching`), by an order file, by a drawing file

pub order-reached : (τ : Style) (o : List ℕ) (d : Drawing) → read_order τ o ≡ good d → Reached d
order-reached τ o d h = (whole_read τ o d h).reached

pub drawing-reached : (τ : Style) (b : List ℕ) (d : Drawing) → read_drawing τ b ≡ good d → Reached d
drawing-reached τ b d h = (drawing-read τ b d h).0.reached

-- it stands
reached-stands : (d : Drawing) → Reached d → Standing d
reached-stands d r = standing r.built r.low r.high

-- ---- the promise

-- Every drawing that is reached keeps it.
pub reached-keeps : (d : Drawing) → Reached d → Promised d.style d
reached-keeps d r = standing-keeps d (reached-stands d r)

-- So does the drawing of an accepted order file.
pub read_keeps : (τ : Style) (o : List ℕ) (d : Drawing) → read_order τ o ≡ good d → Promised τ d
read_keeps τ o d h = subst (λ σ. Promised σ d) (style-read τ o d h) (reached-keeps d (order-reached τ o d h))

-- So does the drawing of a drawing file that is read.
pub drawing-read_keeps : (τ : Style) (b : List ℕ) (d : Drawing) → read_drawing τ b ≡ good d → Promised τ d
drawing-read_keeps τ b d h = subst (λ σ. Promised σ d) (drawing-read τ b d h).2 (reached-keeps d (drawing-reached τ b d h))

-- ---- no subtraction truncates

-- Every drawing that is reached is exact.
pub reached-exact : (d : Drawing) → Reached d → ExactBy d.style d
reached-exact d r = sound-exact d (reached-stands d r).sound

-- So is the drawing of an accepted order file.
pub read-exact : (τ : Style) (o : List ℕ) (d : Drawing) → read_order τ o ≡ good d → ExactBy τ d
read-exact τ o d h = subst (λ σ. ExactBy σ d) (style-read τ o d h) (reached-exact d (order-reached τ o d h))

-- So is the drawing of a drawing file that is read.
pub drawing-read-exact : (τ : Style) (b : List ℕ) (d : Drawing) → read_drawing τ b ≡ good d → ExactBy τ d
drawing-read-exact τ b d h = subst (λ σ. ExactBy σ d) (drawing-read τ b d h).2 (reached-exact d (drawing-reached τ b d h))

-- ---- wish 3

-- Every line of a drawing that is reached gives its moves each time that it is cut: five or four with bends, four without.
pub reached-moves : (d : Drawing) → Reached d → (t : Tool) → is_tool t ≡ true → (e : ℕ) → IsLine d e → length (moves_once d t (line_at d e)) ≡ moves_by d.style d (line_at d e)
reached-moves d r t is e el = moves_of-line d (reached-stands d r).sound e el t is r.scale.0

-- In a one-bend drawing it is known which cut is left out.
pub reached-left_out : (d : Drawing) → Reached d → d.style ≡ OneBend → (e : ℕ) → IsLine d e → LeftOut d (line_at d e)
reached-left_out d r b e el = left_out d (reached-stands d r).sound e el b
