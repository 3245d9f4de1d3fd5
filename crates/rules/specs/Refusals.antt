-- "Refused because of the input", "Refused because of the state": the numbers, and how the first refusal becomes the answer.
use Rattle.std.specs.Prelude.{ℕ, Bool, true, false}
use Rattle.rules.specs.declared.Refusal.{Refusal}
use Rattle.rules.specs.declared.Refusal.TheVariants.{FileEnds, WrongMark, OutOfRange, OtherStart, FewEntries, NotPlaced, Covered, NoRun, NotWhole, ExtraBytes, OtherDrawing, BadTool, BothMarks, BadCode, NoNet, Finished, Unfinished, NoSuch, OutputShort, NoReach}
use Rattle.std.specs.Prelude.{Result as Outcome, Ok, Err}
use Rattle.rules.specs.declared.Refused.{Refused}

abbrev pub number : Refusal → ℕ
number FileEnds = 1
number WrongMark = 2
number OutOfRange = 3
number OtherStart = 4
number FewEntries = 5
number NotPlaced = 6
number Covered = 7
number NoRun = 8
number NotWhole = 9
number ExtraBytes = 10
number OtherDrawing = 11
number BadTool = 12
number BothMarks = 13
number BadCode = 14
number NoNet = 15
number Finished = 21
number Unfinished = 22
number NoSuch = 23
number OutputShort = 24
number NoReach = 25

-- what a call gives: a value, or a refusal and its place
pub data Result (A : Type 0) : Type 0 where
  good : A → Result A
  refused : Refusal → ℕ → Result A

infixl 20 ◌>>=◌
-- the first refusal is the answer
abbrev pub ◌>>=◌ : {A B : Type 0} → Result A → (A → Result B) → Result B
good a >>= f = f a
refused r p >>= f = refused r p

infixl 20 ◌>>◌
abbrev pub ◌>>◌ : {A B : Type 0} → Result A → Result B → Result B
good a >> r = r
refused f p >> r = refused f p

-- a test that refuses where it is true
abbrev pub refuse_if : Bool → Refusal → ℕ → Result (Unit {0})
refuse_if true r p = refused r p
refuse_if false r p = good tt

-- the same, with every refusal at one place: "Place in a file: offset of the record's mark"
abbrev pub placed : {A : Type 0} → ℕ → Result A → Result A
placed p (good a) = good a
placed p (refused r q) = refused r p

-- what the code answers: a value, or a refusal and its place
abbrev pub Answer : Type 0 → Type 0
Answer A = Outcome A Refused

abbrev pub refusal_at : Refusal → ℕ → Refused
refusal_at r p = record { refusal = r; place = p }

-- its answer to what the rules give, whose value it tells by f
abbrev pub answer_with : {A B : Type 0} → (A → B) → Result A → Answer B
answer_with f (good a) = Ok (f a)
answer_with f (refused r p) = Err (refusal_at r p)

-- the answer alone
abbrev pub answer : {A : Type 0} → Result A → Answer (Unit {0})
answer r = answer_with (λ a. tt) r

-- ---- an answer in this paper's numbers: what is given, or "number and place"

pub data Told (A : Type 0) : Type 0 where
  gives : A → Told A
  refused_with : ℕ → ℕ → Told A

-- what the rules give
abbrev pub told : {A : Type 0} → Result A → Told A
told (good a) = gives a
told (refused r p) = refused_with (number r) p

-- what an answer says, whose value says f of it
abbrev pub told_with : {A B : Type 0} → (A → B) → Answer A → Told B
told_with f (Ok a) = gives (f a)
told_with f (Err e) = refused_with (number e.refusal) e.place

-- what an answer without a value says
abbrev pub told_answer : Answer (Unit {0}) → Told (Unit {0})
told_answer a = told_with (λ t. tt) a
