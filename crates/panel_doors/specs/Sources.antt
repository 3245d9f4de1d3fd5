-- What sources give: an order file, and a list of calls.
use Rattle.std.specs.Prelude.{ℕ, ◌*◌, ◌≤◌, ◌≡◌, refl, Bool, true, false, List, length, ltb, Ok, Err}
use Rattle.std.proofs.Common.{sym, ltb-true, ltb-false}
use Rattle.rules.specs.declared.Style.{Style}
use Rattle.rules.specs.Refusals.{Result, good, refused, Answer, refused_with}
use Rattle.rules.specs.Points.{Drawing as Plan}
use Rattle.rules.specs.Numbers.{never-gives}
use Rattle.rules.specs.Calls.{drawn}
use Rattle.rules.specs.OrderFile.{read_order}
use Rattle.exchange.specs.Built.{Reached}
use Rattle.exchange.specs.Reaching.{reached-drawn}
use Rattle.store_tables.specs.declared.Drawing.{Drawing}
use Rattle.store_laws.specs.Stored.{Is}
use Rattle.drawing.specs.View.{told_drawing}
use Rattle.calls_words.specs.Lists.{calls_in}
use Rattle.calls.specs.Ran.{Ran, drawing_in}
use Rattle.panel_asked.specs.Asking.{Drew}

-- an order file gives o
abbrev pub OrderGives : Style → List ℕ → Result Plan → Type 0
OrderGives τ f o = o ≡ read_order τ f

-- the drawing that goes with an answer, or its refusal
abbrev pub outcome : {A : Type 0} → Answer A → Plan → Result Plan
outcome (Ok a) q = good q
outcome (Err e) q = refused e.refusal e.place

-- a list of calls was run, and gives o
pub record CallsGive (τ : Style) (n : ℕ) (ws saidBefore saidAfter : List ℕ) (o : Result Plan) : Type 0 where
  pub done : Answer Drawing
  pub ran : Ran τ n ws saidBefore saidAfter done
  pub is : o ≡ outcome done (drawn τ n (calls_in ws))

module _ {τ : Style} {n : ℕ} {ws before after : List ℕ} where
  -- an accepted list has its drawing, which its calls reached
  pub drew : {d : Drawing} → Ran τ n ws before after (Ok d) → Reached (drawn τ n (calls_in ws)) × Is (drawn τ n (calls_in ws)) d
  drew {d} t = go-low (ltb n 3) refl
    where
      Drawn : Type 0
      Drawn = Reached (drawn τ n (calls_in ws)) × Is (drawn τ n (calls_in ws)) d

      two : ℕ
      two = 2 * length (calls_in ws)

      never : {why : ℕ} → told_drawing (Ok d) ≡ refused_with why 0 → ⊥
      never e = never-gives (sym e)

      go-short : 3 ≤ n → n ≤ 1024 → (b : Bool) → ltb (length before) two ≡ b → Drawn
      go-short low high true e = absurd (never (t.short low high (ltb-true _ _ e)).answer)
      go-short low high false e =
          let a = t.enough low high (ltb-false _ _ e) in
          let same : d ≡ a.d = cc a.answer in
          (reached-drawn τ n low high (calls_in ws), rw same a.drawing)

      go-high : 3 ≤ n → (b : Bool) → ltb 1024 n ≡ b → Drawn
      go-high low true e = absurd (never (t.high (ltb-true _ _ e)).answer)
      go-high low false e = go-short low (ltb-false _ _ e) (ltb (length before) two) refl

      go-low : (b : Bool) → ltb n 3 ≡ b → Drawn
      go-low true e = absurd (never (t.low (ltb-true _ _ e)).answer)
      go-low false e = go-high (ltb-false _ _ e) (ltb 1024 n) refl

  -- what the list gives was drawn
  pub drew-ran : (r : Answer (Unit {0})) (d : Drawing) → Ran τ n ws before after (drawing_in r d) → (o : Result Plan) × CallsGive τ n ws before after o × Drew o d r
  drew-ran (Ok t) d h = let w = drew h in (good (drawn τ n (calls_in ws)), record { done = Ok d; ran = h; is = refl }, (refl, w.0, w.1))
  drew-ran (Err e) d h = (refused e.refusal e.place, record { done = Err e; ran = h; is = refl }, refl)
