-- No two refusals have one number, so what is said in numbers says which answer it is.
use Rattle.std.specs.Prelude.{ℕ, ◌≡◌, refl, Ok, Err, eqb, if◌then◌else◌}
use Rattle.std.proofs.Common.{ap, ap₂, sym, ◌∙◌, arith}
use Rattle.rules.specs.declared.Refusal.{Refusal}
use Rattle.rules.specs.declared.Refusal.TheVariants.{FileEnds, WrongMark, OutOfRange, OtherStart, FewEntries, NotPlaced, Covered, NoRun, NotWhole, ExtraBytes, OtherDrawing, BadTool, BothMarks, BadCode, NoNet, Finished, Unfinished, NoSuch, OutputShort, NoReach}
use Rattle.rules.specs.Refusals.{number, Result, Answer, refusal_at, good, refused, answer, Told, gives, refused_with, told, told_answer, ◌>>◌}

-- the refusal that has a number
abbrev refusal_of : ℕ → Refusal
refusal_of n =
    if eqb n 1 then FileEnds else
    if eqb n 2 then WrongMark else
    if eqb n 3 then OutOfRange else
    if eqb n 4 then OtherStart else
    if eqb n 5 then FewEntries else
    if eqb n 6 then NotPlaced else
    if eqb n 7 then Covered else
    if eqb n 8 then NoRun else
    if eqb n 9 then NotWhole else
    if eqb n 10 then ExtraBytes else
    if eqb n 11 then OtherDrawing else
    if eqb n 12 then BadTool else
    if eqb n 13 then BothMarks else
    if eqb n 14 then BadCode else
    if eqb n 15 then NoNet else
    if eqb n 21 then Finished else
    if eqb n 22 then Unfinished else
    if eqb n 23 then NoSuch else
    if eqb n 24 then OutputShort else
    NoReach

number_back : (r : Refusal) → refusal_of (number r) ≡ r
number_back FileEnds = refl
number_back WrongMark = refl
number_back OutOfRange = refl
number_back OtherStart = refl
number_back FewEntries = refl
number_back NotPlaced = refl
number_back Covered = refl
number_back NoRun = refl
number_back NotWhole = refl
number_back ExtraBytes = refl
number_back OtherDrawing = refl
number_back BadTool = refl
number_back BothMarks = refl
number_back BadCode = refl
number_back NoNet = refl
number_back Finished = refl
number_back Unfinished = refl
number_back NoSuch = refl
number_back OutputShort = refl
number_back NoReach = refl

-- ONE NUMBER, ONE REFUSAL.
pub number_one : (r s : Refusal) → number r ≡ number s → r ≡ s
number_one r s h = sym (number_back r) ∙ ap refusal_of h ∙ number_back s

-- what a refusal says is no value, and tells number and place
pub never-gives : {A : Type 0} {n p : ℕ} {a : A} → ◌≡◌ {A = Told A} (refused_with n p) (gives a) → ⊥
never-gives h = let z : ◌≡◌ {A = ℕ} 0 1 = cc in omega arith

pub same_refusal : {A : Type 0} (r s : Refusal) (p q : ℕ) → ◌≡◌ {A = Told A} (refused_with (number r) p) (refused_with (number s) q) → (r ≡ s) × (p ≡ q)
same_refusal r s p q h = (number_one r s cc, cc)

-- an answer that says what the rules give is theirs
pub answer_of : {A : Type 0} (o : Result A) (a : Answer (Unit {0})) → told_answer a ≡ told (o >> good tt) → a ≡ answer o
answer_of (good v) (Ok t) h = refl
answer_of (good v) (Err e) h = absurd (never-gives h)
answer_of (refused s q) (Ok t) h = absurd (never-gives (sym h))
answer_of (refused s q) (Err e) h = let t = same_refusal {A = Unit {0}} e.refusal s e.place q h in ap Err (ap₂ refusal_at t.0 t.1)

-- and theirs says it
pub answer-told : {A : Type 0} (o : Result A) → told_answer (answer o) ≡ told (o >> good tt)
answer-told (good v) = refl
answer-told (refused r p) = refl
