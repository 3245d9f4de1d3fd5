-- The answers to a list of calls as 16-bit words: two words each.
use Rattle.std.specs.Prelude.{ℕ, List, [], ◌∷◌, ◌++◌}
use Rattle.rules.specs.Refusals.{Answer}
use Rattle.calls_words.specs.Lists.{number_in, place_in}

abbrev pub answer_words : Answer (Unit {0}) → List ℕ
answer_words a = number_in a ∷ place_in a ∷ []

-- those of every answer, in order
abbrev pub words_of : List (Answer (Unit {0})) → List ℕ
words_of [] = []
words_of (a ∷ rest) = answer_words a ++ words_of rest
