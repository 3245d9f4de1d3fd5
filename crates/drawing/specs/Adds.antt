-- What adding leaves: the answer and the drawing of the rules, and, refused, the drawing as it was.
use Rattle.std.specs.Prelude.{ℕ, ◌≡◌, List, Ok, Err}
use Rattle.std.proofs.Common.{ap, sym, ◌∙◌}
use Rattle.rules.specs.declared.Refused.{Refused}
use Rattle.rules.specs.Refusals.{good, Answer, answer, told, told_answer, ◌>>◌}
use Rattle.rules.specs.Results.{refusing}
use Rattle.rules.specs.Numbers.{answer-told}
use Rattle.rules.specs.Points.{Drawing as Plan}
use Rattle.rules.specs.Adding.{add}
use Rattle.rules.specs.Calls.{left}
use Rattle.exchange.specs.Reaching.{reached_left}
use Rattle.store_links.specs.Storing.{judged}
use Rattle.store_laws.specs.Adding.{called}
use Rattle.store_laws.specs.Stored.{Is}
use Rattle.store_tables.specs.declared.Drawing.{Drawing}
use Rattle.store_tables.specs.Tables.{arrays_in}
use Rattle.store_adding.specs.Calls.{Answered}
use Rattle.drawing.specs.View.{Came, told_drawing}

-- the drawing that the call returned or left
abbrev pub left_by : Drawing → Answer Drawing → Drawing
left_by d (Ok e) = e
left_by d (Err f) = d

pub record AddsTo (d : Drawing) (es : List ℕ) (r : Answer Drawing) : Type 0 where
  pub right : (p : Plan) → Is p d → (told_drawing r ≡ told (add p es >> good tt)) × Is (left p (add p es)) (left_by d r)
  pub came : Came (left_by d r)

-- what holds of every drawing of the rules that d is, holds of the one that it came from
came_left : {d e : Drawing} (es : List ℕ) (c : Came d) → ((p : Plan) → Is p d → Is (left p (add p es)) e) → Came e
came_left es c right = record { plan = left c.plan (add c.plan es); reached = reached_left c.plan c.reached es; is = right c.plan c.is }

module _ {d : Drawing} (es : List ℕ) (c : Came d) where
  -- what the rules answer, by how the core judged
  says : (p : Plan) → Is p d → told_answer (answer (judged (arrays_in d.table) d.counts es)) ≡ told (add p es >> good tt)
  says p i = ap told_answer (called i es).answers ∙ answer-told (add p es)

  -- Refused, everything is as it was.
  pub adds-refused : (d' : Drawing) (e : Refused) → Answered d es d' (Err e) → AddsTo d es (Err e)
  adds-refused d' e h =
      let j = refusing (judged (arrays_in d.table) d.counts es) e (sym h.answer) in
      let is : (p : Plan) → Is p d → Is (left p (add p es)) d = λ p i. rw j at (called i es).holds in
      record { right = λ p i. (rw j at says p i, is p i); came = came_left es c is }

  -- Accepted, the point is there.
  pub adds : (d' : Drawing) → Answered d es d' (Ok tt) → AddsTo d es (Ok d')
  adds d' h =
      let is : (p : Plan) → Is p d → Is (left p (add p es)) d' = λ p i. rw (h.arrays, h.counts) (called i es).holds in
      record { right = λ p i. (ap told_answer h.answer ∙ says p i, is p i); came = came_left es c is }
