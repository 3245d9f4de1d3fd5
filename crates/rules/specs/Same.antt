-- Lists that are the same, by the test `same` and by the comparison of files.
use Rattle.std.specs.Prelude.{ℕ, suc, ◌≡◌, refl, Bool, true, false, ◌&&◌, List, [], ◌∷◌, length, eqb}
use Rattle.std.proofs.Common.{ap, ◌∙◌, eqb-true, eq-eqb}
use Rattle.std.proofs.Math.Bool.{and-false}
use Rattle.rules.specs.Basics.{same}
use Rattle.rules.specs.Refusals.{good}
use Rattle.rules.specs.DrawingFile.{compare_bytes}

-- Lists that pass are the same.
pub same_is : (l m : List ℕ) → same l m ≡ true → l ≡ m
same_is [] [] h = refl
same_is [] (b ∷ m) h = cc
same_is (a ∷ l) [] h = cc
same_is (a ∷ l) (b ∷ m) h = go (eqb a b) refl h (same_is l m)
  where
    go : (c : Bool) → eqb a b ≡ c → (c && same l m) ≡ true → (same l m ≡ true → l ≡ m) → a ∷ l ≡ b ∷ m
    go true e h rest = let p = eqb-true a b e in let q = rest h in cc
    go false e h rest = cc

-- A list is the same as itself.
pub same_self : (l : List ℕ) → same l l ≡ true
same_self [] = refl
same_self (a ∷ l) = rw (eq-eqb a a refl) (same_self l)

-- Lists of different length don't pass.
pub other_length : (l m : List ℕ) → (length l ≡ length m → ⊥) → same l m ≡ false
other_length [] [] n = absurd (n refl)
other_length [] (b ∷ m) n = refl
other_length (a ∷ l) [] n = refl
other_length (a ∷ l) (b ∷ m) n = ap (λ t. eqb a b && t) (other_length l m (λ q. n (ap suc q))) ∙ and-false (eqb a b)

-- A file is the same as itself.
pub compare_same : (i : ℕ) (bs : List ℕ) → compare_bytes i bs bs ≡ good tt
compare_same i [] = refl
compare_same i (b ∷ bs) = rw (eq-eqb b b refl) (compare_same (suc i) bs)
