-- What a call that writes answers, and what its buffer holds afterwards.
use Rattle.std.specs.Prelude.{◌≡◌, refl, List, ℕ, ltb, ◌≤◌, length, Ok, Err}
use Rattle.std.proofs.Common.{le-ltb, ltb-false}
use Rattle.rules.specs.declared.Refusal.{Refusal}
use Rattle.rules.specs.declared.Refusal.TheVariants.{OutputShort}
use Rattle.rules.specs.declared.Refused.{Refused}
use Rattle.rules.specs.Refusals.{Result, Answer, good, refused, refusal_at, refuse_if, answer, told}
use Rattle.rules.specs.Results.{refusing, all_passed, test_false}
use Rattle.rules.specs.Output.{fitted, counted, filled}
use Rattle.rules.specs.Points.{Drawing as Plan}
use Rattle.store_tables.specs.declared.Drawing.{Drawing}
use Rattle.store_laws.specs.Stored.{Is}
use Rattle.exchange.specs.Built.{Whole}
use Rattle.answers.specs.Told.{told_written}

-- `wanted` was to be written into a buffer: 24 where it is too short; a refusal changes no byte, and bytes past the written ones stay
pub record Wrote (before : List ℕ) (wanted : Result (List ℕ)) (after : List ℕ) (r : Answer ℕ) : Type 0 where
  pub answer : told_written r ≡ told (counted (fitted before wanted))
  pub bytes : after ≡ filled before (fitted before wanted)

-- d is a whole drawing, stored
pub record Ended (d : Drawing) : Type 0 where
  pub plan : Plan
  pub whole : Whole plan
  pub is : Is plan d

-- nothing was to be written
pub turned : (before : List ℕ) (r : Refusal) (p : ℕ) → Wrote before (refused r p) before (Err (refusal_at r p))
turned before r p = record { answer = refl; bytes = refl }

-- a buffer too short for the bytes
pub short : (before bytes : List ℕ) (e : Refused) → answer (refuse_if (ltb (length before) (length bytes)) OutputShort 0) ≡ Err e → Wrote before (good bytes) before (Err e)
short before bytes e h = let t = refusing (refuse_if (ltb (length before) (length bytes)) OutputShort 0) e h in record { answer = rw t; bytes = rw t }

-- a test that passed: the number is no smaller
pub no_less : (a b : ℕ) (r : Refusal) (p : ℕ) → answer (refuse_if (ltb a b) r p) ≡ Ok tt → b ≤ a
no_less a b r p h = ltb-false a b (test_false (ltb a b) r p (all_passed _ h))

-- bytes that were written
pub full : (before bytes after : List ℕ) (n : ℕ) → length bytes ≤ length before → n ≡ length bytes → after ≡ filled before (good bytes) → Wrote before (good bytes) after (Ok n)
full before bytes after n h e b = let t = le-ltb (length before) (length bytes) h in record { answer = rw (t, e); bytes = rw t b }
