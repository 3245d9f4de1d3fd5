-- How C is told an answer: by the number that the call returns, by words in the caller's array, and by three words of a refusal.
use Rattle.std.specs.Prelude.{ℕ, ◌≡◌, List, [], ◌∷◌, Ok, Err}
use Rattle.rules.specs.Refusals.{Result, good, refused, Answer}
use Rattle.panel_words.specs.Words.{refusal_words}

-- what a call that is not refused gives: a number with words, or a number alone
pub data Given (A : Type 0) : Type 0 where
  with_words : ℕ → List A → Given A
  alone : ℕ → Given A

-- its number
abbrev pub number_in : {A : Type 0} → Given A → ℕ
number_in (with_words n ws) = n
number_in (alone n) = n

-- the caller's array after it: a number alone leaves what is there
abbrev pub words_in : {A : Type 0} → List A → Given A → List A
words_in before (with_words n ws) = ws
words_in before (alone n) = before

-- what C is given for an answer, whose value it is told by f
abbrev pub given_with : {S A : Type 0} → (S → Given A) → Answer S → Result (Given A)
given_with f (Ok s) = good (f s)
given_with f (Err e) = refused e.refusal e.place

-- the number that the call returns, 0 where it is refused
abbrev pub code_of : {A : Type 0} → Result (Given A) → ℕ
code_of (good g) = number_in g
code_of (refused r p) = 0

-- the caller's array after it: a number alone and a refusal leave what is there
abbrev pub words_after : {A : Type 0} → List A → Result (Given A) → List A
words_after before (good g) = words_in before g
words_after before (refused r p) = before

-- the three words of its refusal, all 0 where there is none
abbrev pub refusal_of : {A : Type 0} → ℕ → Result (Given A) → List ℕ
refusal_of buffer (good g) = 0 ∷ 0 ∷ 0 ∷ []
refusal_of buffer (refused r p) = refusal_words buffer r p

-- a call that could find `buffer` too short told `g`
pub record Tells {A : Type 0} (buffer : ℕ) (g : Result (Given A)) (before after : List A) (r : ℕ) (refusal : List ℕ) : Type 0 where
  pub code : r ≡ code_of g
  pub words : after ≡ words_after before g
  pub place : refusal ≡ refusal_of buffer g
