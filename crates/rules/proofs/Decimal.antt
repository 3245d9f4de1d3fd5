-- A number in decimal digits, as the programs print it: most significant digit first, no zero in front, in ASCII.
use Rattle.std.specs.Prelude.{ℕ, zero, suc, ◌+◌, ◌-◌, ◌*◌, ◌/◌, ◌%◌, ◌≤◌, ◌<◌, ◌≡◌, refl, Bool, true, false, ◌&&◌, List, [], ◌∷◌, length, ltb, if◌then◌else◌}
use Rattle.std.proofs.Common.{ap, ◌∙◌, arith, length-append, le-leb, lt-ltb, le-ltb, ltb-true, ltb-false}
use Rattle.rules.specs.Basics.{snoc, head_of, all_of}
use Rattle.rules.specs.Decimal.{digit, digits_in, digits, value_from, is_digit}

-- ---- it is decimal

-- one digit
pub digits_one : (v : ℕ) → v < 10 → digits v ≡ digit v ∷ []
unfolding digits
digits_one v h = rw (lt-ltb v 10 h)

-- room for more digits than there are changes nothing
enough : (a b v : ℕ) → v < a → v < b → digits_in a v ≡ digits_in b v
enough zero b v p q = absurd (omega arith)
enough (suc a) zero v p q = absurd (omega arith)
enough (suc a) (suc b) v p q = go (ltb v 10) refl (λ h. enough a b (v / 10) (omega arith) (omega arith))
  where
    go : (t : Bool) → ltb v 10 ≡ t → (10 ≤ v → digits_in a (v / 10) ≡ digits_in b (v / 10)) →
        (if t then digit v ∷ [] else snoc (digits_in a (v / 10)) (digit (v % 10))) ≡ (if t then digit v ∷ [] else snoc (digits_in b (v / 10)) (digit (v % 10)))
    go true e tenth = refl
    go false e tenth = ap (λ (l : List ℕ). snoc l (digit (v % 10))) (tenth (ltb-false v 10 e))

-- more than one: those of v / 10, and then the last
pub digits_more : (v : ℕ) → 10 ≤ v → digits v ≡ snoc (digits (v / 10)) (digit (v % 10))
unfolding digits
digits_more v h = rw (le-ltb v 10 h) (ap (λ (l : List ℕ). snoc l (digit (v % 10))) (enough v (suc (v / 10)) (v / 10) (omega arith) (omega arith)))

value-snoc : (v : ℕ) (ds : List ℕ) (d : ℕ) → value_from v (snoc ds d) ≡ 10 * value_from v ds + (d - 48)
value-snoc v [] d = refl
value-snoc v (e ∷ ds) d = value-snoc (10 * v + (e - 48)) ds d

-- what holds of numbers below 10, and of v if of v / 10, holds of all
module _ (P : ℕ → Type 0) (one : (v : ℕ) → v < 10 → P v) (more : (v : ℕ) → 10 ≤ v → P (v / 10) → P v) where
  below : (most v : ℕ) → v < most → P v
  below zero v h = absurd (omega arith)
  below (suc most) v h = go (ltb v 10) refl (λ t. below most (v / 10) (omega arith))
    where
      go : (t : Bool) → ltb v 10 ≡ t → (10 ≤ v → P (v / 10)) → P v
      go true e tenth = one v (ltb-true v 10 e)
      go false e tenth = let t = ltb-false v 10 e in more v t (tenth t)

  by_tenths : (v : ℕ) → P v
  by_tenths v = below (suc v) v (omega arith)

-- THE DIGITS OF v STAND FOR v
pub value-digits : (v : ℕ) → value_from 0 (digits v) ≡ v
value-digits =
    by_tenths (λ v. value_from 0 (digits v) ≡ v)
    (λ v h. rw (digits_one v h) (omega arith))
    (λ v h e. rw (digits_more v h) (value-snoc 0 (digits (v / 10)) (digit (v % 10)) ∙ omega (arith, e)))

-- the first of a longer list is that of the list
first_snoc : (ds : List ℕ) (d : ℕ) → 1 ≤ length ds → head_of (snoc ds d) ≡ head_of ds
first_snoc [] d h = absurd (omega arith)
first_snoc (e ∷ ds) d h = refl

-- there is a first digit,
pub some-digits : (v : ℕ) → 1 ≤ length (digits v)
some-digits =
    by_tenths (λ v. 1 ≤ length (digits v))
    (λ v h. rw (digits_one v h) (omega arith))
    (λ v h e. rw (digits_more v h) (omega (arith, length-append (digits (v / 10)) (digit (v % 10) ∷ []))))

-- NO ZERO IN FRONT: it is 0 only for the number 0
pub first_digit : (v : ℕ) → 1 ≤ v → digit 1 ≤ head_of (digits v)
first_digit =
    by_tenths (λ v. 1 ≤ v → digit 1 ≤ head_of (digits v))
    (λ v h b. rw (digits_one v h) (omega arith))
    (λ v h e b. rw (digits_more v h, first_snoc (digits (v / 10)) (digit (v % 10)) (some-digits (v / 10))) (e (omega arith)))

all_snoc : (ds : List ℕ) (d : ℕ) → all_of is_digit ds ≡ true → is_digit d ≡ true → all_of is_digit (snoc ds d) ≡ true
all_snoc [] d g h = rw h
all_snoc (e ∷ ds) d g h = go (is_digit e) g (λ k. all_snoc ds d k h)
  where
    go : (t : Bool) → (t && all_of is_digit ds) ≡ true → (all_of is_digit ds ≡ true → all_of is_digit (snoc ds d) ≡ true) → (t && all_of is_digit (snoc ds d)) ≡ true
    go true g rest = rest g
    go false g rest = g

digit_is : (v : ℕ) → v < 10 → is_digit (digit v) ≡ true
digit_is v h = rw (le-leb (digit 0) (digit v) (omega arith), le-leb (digit v) (digit 9) (omega arith))

-- AND ALL ARE DIGITS
pub all_digits : (v : ℕ) → all_of is_digit (digits v) ≡ true
all_digits =
    by_tenths (λ v. all_of is_digit (digits v) ≡ true)
    (λ v h. rw (digits_one v h, digit_is v h))
    (λ v h e. rw (digits_more v h) (all_snoc (digits (v / 10)) (digit (v % 10)) e (digit_is (v % 10) (omega arith))))
