-- Two files that are the same: tested from byte i on, and compared.
use Rattle.std.specs.Prelude.{ℕ, ◌+◌, ◌<◌, ◌≤◌, ◌≡◌, Bool, true, ◌&&◌, List, length, get_or, drop, eqb}
use Rattle.std.proofs.Common.{ap, sym, ◌∙◌, add-one, drop_of_length-le, drop-cons}
use Rattle.std.proofs.Math.Bool.{and-true, and_assoc}
use Rattle.rules.specs.Basics.{same}
use Rattle.rules.specs.Refusals.{good}
use Rattle.rules.specs.Same.{same_is, compare_same}
use Rattle.rules.specs.DrawingFile.{compare_bytes}

module _ (a b : List ℕ) (all : Bool) (i : ℕ) where
  -- one byte more
  pub byte_same : i < length a → i < length b → (all && same (drop i a) (drop i b)) ≡ ((all && eqb (get_or a i 0) (get_or b i 0)) && same (drop (i + 1) a) (drop (i + 1) b))
  byte_same h k =
      let one : same (drop i a) (drop i b) ≡ (eqb (get_or a i 0) (get_or b i 0) && same (drop (i + 1) a) (drop (i + 1) b)) = rw (drop-cons a i 0 h, drop-cons b i 0 k, add-one) in
      ap (λ t. all && t) one ∙ sym (and_assoc all (eqb (get_or a i 0) (get_or b i 0)) (same (drop (i + 1) a) (drop (i + 1) b)))

  -- no byte is left
  pub none_left : length a ≤ i → length b ≤ i → (all && same (drop i a) (drop i b)) ≡ all
  none_left h k = rw (drop_of_length-le a h, drop_of_length-le b k) (and-true all)

-- no byte differs
pub same_compared : (i : ℕ) (a b : List ℕ) → same a b ≡ true → compare_bytes i a b ≡ good tt
same_compared i a b h = ap (λ l. compare_bytes i l b) (same_is a b h) ∙ compare_same i b
