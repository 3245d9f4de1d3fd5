-- "What demand 3 means": a list of calls, from n and the entries alone.
use Rattle.std.specs.Prelude.{ℕ, List, [], ◌∷◌}
use Rattle.rules.specs.declared.Style.{Style}
use Rattle.rules.specs.Refusals.{Result, good, refused, Answer, answer}
use Rattle.rules.specs.Points.{Drawing, opening}
use Rattle.rules.specs.Adding.{add}

-- "the drawing that the call before it returned or left"
abbrev pub left : Drawing → Result Drawing → Drawing
left d (good e) = e
left d (refused r p) = d

-- the drawing after the calls, and every answer
abbrev pub after : Drawing → List (List ℕ) → Drawing
after d [] = d
after d (call ∷ calls) = after (left d (add d call)) calls

abbrev pub answers : Drawing → List (List ℕ) → List (Answer (Unit {0}))
answers d [] = []
answers d (call ∷ calls) = answer (add d call) ∷ answers (left d (add d call)) calls

-- "The list starts from the drawing as opened."
abbrev pub drawn : Style → ℕ → List (List ℕ) → Drawing
drawn style n calls = after (opening style n) calls

abbrev pub said : Style → ℕ → List (List ℕ) → List (Answer (Unit {0}))
said style n calls = answers (opening style n) calls
