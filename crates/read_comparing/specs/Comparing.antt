-- The comparison of two files from byte i on.
use Rattle.std.specs.Prelude.{ℕ, suc, ◌+◌, ◌<◌, ◌≤◌, ◌≡◌, refl, Bool, true, false, not, List, [], ◌∷◌, length, get_or, drop, min, eqb, ltb}
use Rattle.std.proofs.Common.{◌∙◌, add-one, arith, drop_of_length-le, drop-cons, eq-eqb, ne_eqb, eqb-true, ltb-true, ltb-false}
use Rattle.rules.specs.declared.Refusal.TheVariants.{OtherDrawing}
use Rattle.rules.specs.Refusals.{Result, good, refused, ◌>>◌, refuse_if}
use Rattle.rules.specs.Results.{never-good}
use Rattle.rules.specs.DrawingFile.{compare_bytes}

-- the comparison from byte i on
abbrev pub from : List ℕ → List ℕ → ℕ → Result (Unit {0})
from a b i = compare_bytes i (drop i a) (drop i b)

-- one file goes on where the other ends
pub second_ended : (a b : List ℕ) (i : ℕ) → i < length a → length b ≤ i → from a b i ≡ refused OtherDrawing i
second_ended a b i h k = rw (drop-cons a i 0 h, drop_of_length-le b k)

pub first_ended : (a b : List ℕ) (i : ℕ) → length a ≤ i → i < length b → from a b i ≡ refused OtherDrawing i
first_ended a b i h k = rw (drop-cons b i 0 k, drop_of_length-le a h)

-- both end
pub both_ended : (a b : List ℕ) (i : ℕ) → length a ≤ i → length b ≤ i → from a b i ≡ good tt
both_ended a b i h k = rw (drop_of_length-le a h, drop_of_length-le b k)

-- the bytes differ, or the next ones decide
pub differs : (a b : List ℕ) (i : ℕ) → i < length a → i < length b → (get_or a i 0 ≡ get_or b i 0 → ⊥) → from a b i ≡ refused OtherDrawing i
differs a b i h k d = rw (drop-cons a i 0 h, drop-cons b i 0 k, ne_eqb _ _ d)

pub goes_on : (a b : List ℕ) (i : ℕ) → i < length a → i < length b → get_or a i 0 ≡ get_or b i 0 → from a b i ≡ from a b (i + 1)
goes_on a b i h k d = rw (drop-cons a i 0 h, drop-cons b i 0 k, eq-eqb (get_or a i 0) (get_or b i 0) d, add-one)

-- files of which no byte differs are the same
pub compared : (i : ℕ) (a b : List ℕ) → compare_bytes i a b ≡ good tt → a ≡ b
compared i [] [] h = refl
compared i [] (y ∷ b) h = absurd (never-good h)
compared i (x ∷ a) [] h = absurd (never-good h)
compared i (x ∷ a) (y ∷ b) h = go (eqb x y) refl h (compared (suc i) a b)
  where
    go : (t : Bool) → eqb x y ≡ t → (refuse_if (not t) OtherDrawing i >> compare_bytes (suc i) a b) ≡ good tt → (compare_bytes (suc i) a b ≡ good tt → a ≡ b) → x ∷ a ≡ y ∷ b
    go true q g rest = let e = eqb-true x y q in let r = rest g in cc
    go false q g rest = absurd (never-good g)

-- files that differ, but in none of the bytes that both have: one ends there
pub shared_same : (a b : List ℕ) (i : ℕ) → (a ≡ b → ⊥) → i ≡ min (length a) (length b) → compare_bytes 0 a b ≡ from a b i → compare_bytes 0 a b ≡ refused OtherDrawing i
shared_same a b i other is so_far = go (ltb (length a) (length b)) (ltb (length b) (length a)) refl refl
  where
    go : (t u : Bool) → ltb (length a) (length b) ≡ t → ltb (length b) (length a) ≡ u → compare_bytes 0 a b ≡ refused OtherDrawing i
    go true u q r = let l = ltb-true (length a) (length b) q in so_far ∙ first_ended a b i (omega arith) (omega arith)
    go false true q r = let l = ltb-true (length b) (length a) r in so_far ∙ second_ended a b i (omega arith) (omega arith)
    go false false q r =
        let l = ltb-false (length a) (length b) q in
        let m = ltb-false (length b) (length a) r in
        absurd (other (compared 0 a b (so_far ∙ both_ended a b i (omega arith) (omega arith))))
