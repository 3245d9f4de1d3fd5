-- A list of calls as 16-bit words, and an answer as two such words.
use Rattle.std.specs.Prelude.{ℕ, zero, suc, ◌+◌, min, List, [], ◌∷◌, length, get_or, take, drop, set, Ok, Err}
use Rattle.rules.specs.Refusals.{Answer, number}

-- The calls stand one after another: a count, then that many entries. A last call whose count runs past the end has the entries that are left.
-- The number f is as large as the calls are many; the words' length always is.
abbrev pub calls_within : ℕ → List ℕ → List (List ℕ)
calls_within zero ws = []
calls_within (suc f) [] = []
calls_within (suc f) (c ∷ ws) = take c ws ∷ calls_within f (drop c ws)

unfoldable pub calls_in : List ℕ → List (List ℕ)
calls_in ws = calls_within (length ws) ws

-- where the call whose count stands at index `at` ends
abbrev pub end_of : List ℕ → ℕ → ℕ
end_of ws at = min (at + 1 + get_or ws at 0) (length ws)

-- An answer takes two words: document 01's number, 0 for accepted, and the place.
abbrev pub number_in : Answer (Unit {0}) → ℕ
number_in (Ok t) = 0
number_in (Err e) = number e.refusal

abbrev pub place_in : Answer (Unit {0}) → ℕ
place_in (Ok t) = 0
place_in (Err e) = e.place

-- a list with an answer's words from index i on
abbrev pub with_answer : List ℕ → ℕ → Answer (Unit {0}) → List ℕ
with_answer out i a = set (set out i (number_in a)) (i + 1) (place_in a)
