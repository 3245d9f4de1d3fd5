-- A question to the drawing that goes with an accepting answer: one statement for moves and look-ups.
use Rattle.std.specs.Prelude.{ℕ, ◌≡◌, Ok, Err}
use Rattle.std.proofs.Common.{arith}
use Rattle.rules.specs.Refusals.{Result, good, refused, Answer, refusal_at}
use Rattle.rules.specs.Points.{Drawing as Plan}
use Rattle.exchange.specs.Built.{Reached}
use Rattle.store_tables.specs.declared.Drawing.{Drawing}
use Rattle.store_laws.specs.Stored.{Is}
use Rattle.drawing.specs.View.{Came}
use Rattle.panel_told.specs.Telling.{Given}

-- what was answered where o was to be drawn as d: it is accepted, and d is the drawing, which calls reached, or o's refusal
abbrev pub Drew : Result Plan → Drawing → Answer (Unit {0}) → Type 0
Drew (good q) d a = (a ≡ Ok tt) × Reached q × Is q d
Drew (refused r p) d a = a ≡ Err (refusal_at r p)

-- an accepting answer has its drawing
abbrev pub HasDrawing : Answer (Unit {0}) → Drawing → Type 0
HasDrawing a d = a ≡ Ok tt → Came d

-- what was drawn is there
pub has-drew : (o : Result Plan) {d : Drawing} {a : Answer (Unit {0})} → Drew o d a → HasDrawing a d
has-drew (good q) h e = record { plan = q; reached = h.1; is = h.2 }
has-drew (refused r p) h e = absurd (let z : ◌≡◌ {A = ℕ} 0 1 = cc (e, h) in omega arith)

-- a question: which answer is right for a drawing, and what C is told of the value in it
pub record Question (S A : Type 0) : Type 1 where
  pub right : Plan → Answer S → Type 0
  pub given : S → Given A

-- s is right for the drawing that o gives, or is o's refusal
abbrev pub IsAnswer : {S A : Type 0} → Question S A → Result Plan → Answer S → Type 0
IsAnswer ask (good q) s = ask.right q s
IsAnswer ask (refused r p) s = s ≡ Err (refusal_at r p)

-- s answers the question to the drawing d, where that goes with an accepting answer, or is that answer's refusal
abbrev pub Finds : {S A : Type 0} → Question S A → Answer (Unit {0}) → Drawing → Answer S → Type 0
Finds ask a d s = (o : Result Plan) → Drew o d a → IsAnswer ask o s

-- the question of these two parts
abbrev pub asks : {S A : Type 0} → (Plan → Answer S → Type 0) → (S → Given A) → Question S A
asks right given = record { right = right; given = given }
