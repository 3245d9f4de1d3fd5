-- 24 never happens: a page for the longest file has room for every file, and so begins with what was wanted, or with the line of the refusal.
use Rattle.std.specs.Prelude.{ℕ, ◌≤◌, ◌≡◌, refl, List, length, drop, Ok, Err}
use Rattle.std.proofs.Common.{ap, sym, ◌∙◌, arith, length-append, le-ltb}
use Rattle.rules.specs.declared.Style.{Style}
use Rattle.rules.specs.declared.Refused.{Refused}
use Rattle.rules.specs.Refusals.{number, Result, good, refused, Answer, gives, told}
use Rattle.rules.specs.Numbers.{never-gives, same_refusal}
use Rattle.rules.specs.OrderFile.{longest_order}
use Rattle.rules.specs.DrawingFile.{draw_file, order_back, longest_drawing}
use Rattle.rules.specs.Output.{fitted, counted, filled, refusal_line, printed}
use Rattle.exchange.proofs.Longest.{drawn_most, back_most}
use Rattle.answers.specs.Told.{told_written}
use Rattle.write_files.specs.Outputs.{Wrote}
use Rattle.printing_line.specs.Putting.{Printed}

-- ---- what the page holds

-- a page has room for what is wanted
pub record Room (page : List ℕ) (wanted : Result (List ℕ)) : Type 0 where
  pub fits : (bytes : List ℕ) → wanted ≡ good bytes → length bytes ≤ length page

-- as a page for the longest file has
pub drawing-room : (τ : Style) (page f : List ℕ) → longest_drawing ≤ length page → Room page (draw_file τ f)
drawing-room τ page f h = record { fits = λ bytes e. omega (arith, drawn_most τ f bytes e) }

pub order-room : (τ : Style) (page f : List ℕ) → longest_order ≤ length page → Room page (order_back τ f)
order-room τ page f h = record { fits = λ bytes e. omega (arith, back_most τ f bytes e) }

-- with room, 24 is no answer
fitted_same : (page : List ℕ) (wanted : Result (List ℕ)) → Room page wanted → fitted page wanted ≡ wanted
fitted_same page (good bytes) r = rw (le-ltb (length page) (length bytes) (r.fits bytes refl))
fitted_same page (refused f p) r = refl

module _ {page after : List ℕ} {answer : Answer ℕ} where
  -- with room, what was said is what was wanted
  said : (wanted : Result (List ℕ)) → Room page wanted → Wrote page wanted after answer → told_written answer ≡ told (counted wanted)
  said wanted room w = w.answer ∙ ap (λ (o : Result (List ℕ)). told (counted o)) (fitted_same page wanted room)

  -- bytes were written: they are those wanted
  pub finished-bytes : (wanted : Result (List ℕ)) (k : ℕ) → Room page wanted → Wrote page wanted after answer → answer ≡ Ok k → Printed page (printed wanted) after k
  finished-bytes (refused r p) k room w e = absurd (never-gives (sym (said (refused r p) room w) ∙ ap told_written e))
  finished-bytes (good bytes) k room w e =
      let is : after ≡ filled page (good bytes) = w.bytes ∙ ap (filled page) (fitted_same page (good bytes) room) in
      let a : gives k ≡ gives (length bytes) = sym (ap told_written e) ∙ said (good bytes) room w in
      let size : k ≡ length bytes = cc in
      record { is = is; size = size; fits = omega (arith, ap length is, length-append bytes (drop (length bytes) page)) }

  -- a refusal: its line then stands in the page as it was
  pub finished-line : {last : List ℕ} (wanted : Result (List ℕ)) (e : Refused) (k : ℕ) → Room page wanted → Wrote page wanted after answer → answer ≡ Err e →
      Printed after (refusal_line (number e.refusal) e.place) last k → Printed page (printed wanted) last k
  finished-line (good bytes) r k room w e t = absurd (never-gives (sym (ap told_written e) ∙ said (good bytes) room w))
  finished-line {last} (refused s q) r k room w e t =
      let a = same_refusal {A = ℕ} s r.refusal q r.place (sym (said (refused s q) room w) ∙ ap told_written e) in
      rw (a.0, a.1, ← w.bytes) t
