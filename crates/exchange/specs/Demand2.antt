-- DEMAND 2 over the definitions: a drawing file is read exactly when it is the drawing of some accepted order file, and that order file comes back.
-- A file is a list of bytes (`Bytes`).
use Rattle.std.specs.Prelude.{ℕ, ◌+◌, ◌*◌, ◌/◌, ◌%◌, ◌≡◌, refl, ◌↔◌, false, List, ◌∷◌, ◌++◌, length, ltb, eqb}
use Rattle.std.proofs.Common.{ap, ap₂, sym, ◌∙◌, subst, arith, le-ltb}
use Rattle.rules.specs.declared.Style.{Style}
use Rattle.rules.specs.declared.Style.TheVariants.{OneBend, Straight}
use Rattle.rules.specs.declared.Refusal.TheVariants.{WrongMark, Unfinished}
use Rattle.rules.specs.Refusals.{good, refused}
use Rattle.rules.specs.Styles.{drawing_mark}
use Rattle.rules.specs.Points.{Drawing}
use Rattle.rules.specs.Records.{written, drawing_head}
use Rattle.rules.specs.OrderFile.{read_order, write_order}
use Rattle.rules.specs.DrawingFile.{drawing_bytes, write_drawing, draw_file, judge_drawing, read_drawing, order_back}
use Rattle.exchange.specs.Built.{Whole, Bytes}
use Rattle.rules.specs.Results.{bound, binds_to, tested, goes_to, same_value}
use Rattle.exchange.specs.OrderWrite.{order-written}
use Rattle.exchange.specs.OrderRead.{order-read}
use Rattle.exchange.specs.OrderBytes.{order_bytes_lem}
use Rattle.exchange.specs.DrawingRead.{head_words, bytes_are, drawing-written, drawing-read}

-- a whole drawing is finished
finished : (d : Drawing) → Whole d → ltb d.k d.n ≡ false
finished d w = le-ltb d.k d.n (omega (arith, w.full))

-- what drawing an accepted order file gives
pub drawn_as : (τ : Style) (o : List ℕ) (d : Drawing) → Whole d → read_order τ o ≡ good d → draw_file τ o ≡ good (drawing_bytes d)
drawn_as τ o d w h = binds_to (read_order τ o) write_drawing d _ h (goes_to _ _ _ _ _ (finished d w) refl)

-- what reading the drawing file of a whole drawing gives
pub back_as : (d : Drawing) → Whole d → order_back d.style (drawing_bytes d) ≡ good (write_order d)
back_as d w = binds_to (read_drawing d.style (drawing_bytes d)) _ d _ (drawing-written d w) (goes_to _ _ _ _ _ (finished d w) refl)

-- Reading the drawing that an accepted order file gives, gives exactly that order file back.
pub draw_undraw : (τ : Style) (o b : List ℕ) → Bytes o → draw_file τ o ≡ good b → order_back τ b ≡ good o
draw_undraw τ o b f h =
    let r = bound (read_order τ o) write_drawing b h in
    let t = order-read τ o r.value f r.first in
    let same : drawing_bytes r.value ≡ b = same_value _ b (tested (ltb r.value.k r.value.n) Unfinished 0 (good (drawing_bytes r.value)) b r.last).last in
    ap₂ order_back (sym t.2) (sym same) ∙ back_as r.value t.0 ∙ ap good t.1

-- If a drawing file is read, it is the drawing of the order file that comes back, which is accepted.
pub undraw_draw : (τ : Style) (b o : List ℕ) → order_back τ b ≡ good o → draw_file τ o ≡ good b
undraw_draw τ b o h =
    let r = bound (read_drawing τ b) _ o h in
    let t = drawing-read τ b r.value r.first in
    let same : write_order r.value ≡ o = same_value _ o (tested (ltb r.value.k r.value.n) Unfinished 0 (good (write_order r.value)) o r.last).last in
    ap₂ draw_file (sym t.2) (sym same) ∙ drawn_as r.value.style (write_order r.value) r.value t.0 (order-written r.value t.0) ∙ ap good (sym t.1)

-- What comes back is a list of bytes.
pub undraw_bytes : (τ : Style) (b o : List ℕ) → order_back τ b ≡ good o → Bytes o
undraw_bytes τ b o h =
    let r = bound (read_drawing τ b) _ o h in
    let t = drawing-read τ b r.value r.first in
    let same : write_order r.value ≡ o = same_value _ o (tested (ltb r.value.k r.value.n) Unfinished 0 (good (write_order r.value)) o r.last).last in
    subst Bytes same (order_bytes_lem r.value t.0)

-- b is read, and gives o; b is the drawing of the accepted order file o
abbrev pub ReadAs : Style → List ℕ → List ℕ → Type 0
ReadAs τ b o = order_back τ b ≡ good o

pub record DrawingOf (τ : Style) (b o : List ℕ) : Type 0 where
  pub file : Bytes o
  pub drawn : draw_file τ o ≡ good b

-- A drawing file is read exactly when it is the drawing of some accepted order file, and that order file comes back.
pub demand_2 : (τ : Style) (b o : List ℕ) → ReadAs τ b o ↔ DrawingOf τ b o
demand_2 τ b o = (λ h. record { file = undraw_bytes τ b o h; drawn = undraw_draw τ b o h }, λ t. draw_undraw τ o b t.file t.drawn)

-- So two accepted order files with the same drawing are the same file.
pub one_order : (τ : Style) (o p b : List ℕ) → Bytes o → Bytes p → draw_file τ o ≡ good b → draw_file τ p ≡ good b → o ≡ p
one_order τ o p b f g h k = same_value o p (sym (draw_undraw τ o b f h) ∙ draw_undraw τ p b g k)

-- ---- each style has its own reader

-- a file that begins with another mark
other_mark : (σ : Style) (a b : ℕ) (rest : List ℕ) → eqb (a * 256 + b) (drawing_mark σ) ≡ false → order_back σ (a ∷ b ∷ rest) ≡ refused WrongMark 0
unfolding read_drawing judge_drawing
other_mark σ a b rest h = rw (le-ltb (length (a ∷ b ∷ rest)) 2 (omega arith), h)

-- a drawing's file begins with its header
begins : (d : Drawing) → (rest : List ℕ) × (drawing_bytes d ≡ written (drawing_head d.style) (head_words d) ++ rest)
begins d = (_, bytes_are d)

-- "a reader of its own that gives 2 to mark 44 48": what the reader of one style reads, that of the other refuses with 2 at its first byte.
pub own_reader : (τ σ : Style) → (τ ≡ σ → ⊥) → (b o : List ℕ) → order_back τ b ≡ good o → order_back σ b ≡ refused WrongMark 0
own_reader τ σ other b o h =
    let r = bound (read_drawing τ b) _ o h in
    let t = drawing-read τ b r.value r.first in
    let p = begins r.value in
    ap (order_back σ) (t.1 ∙ p.1 ∙ ap (λ (ρ : Style). written (drawing_head ρ) (head_words r.value) ++ p.0) t.2) ∙ other_mark σ _ _ _ (marks τ σ other)
  where
    marks : (τ σ : Style) → (τ ≡ σ → ⊥) → eqb (drawing_mark τ / 256 * 256 + drawing_mark τ % 256) (drawing_mark σ) ≡ false
    marks OneBend OneBend n = absurd (n refl)
    marks OneBend Straight n = refl
    marks Straight OneBend n = refl
    marks Straight Straight n = absurd (n refl)
