-- Counting the numbers below a bound that pass a test.
use Rattle.std.specs.Prelude.{ℕ, zero, suc, ◌+◌, ◌<◌, ◌≤◌, ◌≡◌, refl, ◌≢◌, ◌⊎◌, Bool, true, false, not, eqb, if◌then◌else◌}
use Rattle.std.proofs.Common.{ap, sym, ◌∙◌, inl, inr, true≢false, arith, eq-eqb, ne_eqb}
use Rattle.std.proofs.Math.Decide.{ℕ_discrete}

abbrev pub bit : Bool → ℕ
bit true = 1
bit false = 0

unfoldable pub count : (ℕ → Bool) → ℕ → ℕ
count p zero = 0
count p (suc n) = count p n + bit (p n)

pub bool : (b : Bool) → (b ≡ true) ⊎ (b ≡ false)
bool true = inl refl
bool false = inr refl

pub clash {ℓ} : {A : Type ℓ} {b : Bool} → b ≡ true → b ≡ false → A
clash p q = absurd (true≢false (sym p ∙ q))

-- tests that say the same have the same bit
pub same_bit : (a b : Bool) → (a ≡ true → b ≡ true) → (b ≡ true → a ≡ true) → bit a ≡ bit b
same_bit true b p q = rw (p refl)
same_bit false true p q = clash (q refl) refl
same_bit false false p q = refl

bit_le : (a b : Bool) → (a ≡ true → b ≡ true) → bit a ≤ bit b
bit_le true b h = rw (h refl) (omega arith)
bit_le false b h = omega arith

bit-max : (a : Bool) → bit a ≤ 1
bit-max true = omega arith
bit-max false = omega arith

pub count-max : (p : ℕ → Bool) (n : ℕ) → count p n ≤ n
unfolding count
count-max p zero = omega arith
count-max p (suc n) = omega (arith, count-max p n, bit-max (p n))

pub count_none : (p : ℕ → Bool) (n : ℕ) → ((x : ℕ) → x < n → p x ≡ false) → count p n ≡ 0
unfolding count
count_none p zero h = refl
count_none p (suc n) h = omega (arith, count_none p n (λ x l. h x (omega arith)), ap bit (h n (omega arith)))

pub count_all : (p : ℕ → Bool) (n : ℕ) → ((x : ℕ) → x < n → p x ≡ true) → count p n ≡ n
unfolding count
count_all p zero h = refl
count_all p (suc n) h = omega (arith, count_all p n (λ x l. h x (omega arith)), ap bit (h n (omega arith)))

count_sub : (p q : ℕ → Bool) (n : ℕ) → ((x : ℕ) → x < n → p x ≡ true → q x ≡ true) → count p n ≤ count q n
unfolding count
count_sub p q zero h = omega arith
count_sub p q (suc n) h = omega (arith, count_sub p q n (λ x l. h x (omega arith)), bit_le (p n) (q n) (h n (omega arith)))

-- all but one that pass p pass q
pub count-drop : (p q : ℕ → Bool) (z n : ℕ) → ((x : ℕ) → x < n → x ≢ z → p x ≡ true → q x ≡ true) → count p n ≤ count q n + 1
unfolding count
count-drop p q z zero h = omega arith
count-drop p q z (suc n) h =
    elim (ℕ_discrete n z) [
      | yes e ↦ omega (arith, count_sub p q n (λ x l. h x (omega arith) (λ e'. omega arith)), bit-max (p n))
      | no d ↦ omega (arith, count-drop p q z n (λ x l. h x (omega arith)), bit_le (p n) (q n) (h n (omega arith) d))
    ]

-- at most one passes
pub count_one : (p : ℕ → Bool) (n z : ℕ) → ((x : ℕ) → x < n → p x ≡ true → x ≡ z) → count p n ≤ 1
count_one p n z h =
    omega (arith, count-drop p (λ x. false) z n (λ x l d t. absurd (d (h x l t))), count_none (λ x. false) n (λ x l. refl))

pub count_same : (p q : ℕ → Bool) (n : ℕ) → ((x : ℕ) → x < n → p x ≡ q x) → count p n ≡ count q n
unfolding count
count_same p q zero h = refl
count_same p q (suc n) h = omega (arith, count_same p q n (λ x l. h x (omega arith)), ap bit (h n (omega arith)))

-- one more passes
pub count_more : (p q : ℕ → Bool) (z n : ℕ) → z < n → p z ≡ false → q z ≡ true → ((x : ℕ) → x ≢ z → p x ≡ q x) → count q n ≡ count p n + 1
unfolding count
count_more p q z zero l a b h = absurd (omega arith)
count_more p q z (suc n) l a b h =
    elim (ℕ_discrete n z) [
      | yes e ↦
          omega (arith, count_same p q n (λ x k. h x (λ e'. omega arith)), ap bit (ap p e ∙ a), ap bit (ap q e ∙ b))
      | no d ↦ omega (arith, count_more p q z n (omega (arith, d)) a b h, ap bit (h n d))
    ]

-- ---- a set with one member more, or less

unfoldable pub put : ℕ → (ℕ → Bool) → ℕ → Bool
put z p x = if eqb x z then true else p x

unfoldable pub del : ℕ → (ℕ → Bool) → ℕ → Bool
del z p x = if eqb x z then false else p x

pub put_same : (z z' : ℕ) (p q : ℕ → Bool) (x : ℕ) → z ≡ z' → p x ≡ q x → put z p x ≡ put z' q x
unfolding put
put_same z z' p q x e i = rw (e, i)

pub put-here : (z : ℕ) (p : ℕ → Bool) → put z p z ≡ true
unfolding put
put-here z p = rw (eq-eqb z z refl)

pub put_else : (z : ℕ) (p : ℕ → Bool) (x : ℕ) → x ≢ z → put z p x ≡ p x
unfolding put
put_else z p x d = rw (ne_eqb x z d)

pub del-here : (z : ℕ) (p : ℕ → Bool) → del z p z ≡ false
unfolding del
del-here z p = rw (eq-eqb z z refl)

pub del_else : (z : ℕ) (p : ℕ → Bool) (x : ℕ) → x ≢ z → del z p x ≡ p x
unfolding del
del_else z p x d = rw (ne_eqb x z d)

pub put_old : (z : ℕ) (p : ℕ → Bool) (x : ℕ) → p x ≡ true → put z p x ≡ true
put_old z p x h = elim (ℕ_discrete x z) [ yes e ↦ rw e (put-here z p) | no d ↦ put_else z p x d ∙ h ]

pub put-case : (z : ℕ) (p : ℕ → Bool) (x : ℕ) → put z p x ≡ true → (x ≡ z) ⊎ (p x ≡ true)
put-case z p x h = elim (ℕ_discrete x z) [ yes e ↦ inl e | no d ↦ inr (sym (put_else z p x d) ∙ h) ]

pub del-case : (z : ℕ) (p : ℕ → Bool) (x : ℕ) → del z p x ≡ false → (x ≡ z) ⊎ (p x ≡ false)
del-case z p x h = elim (ℕ_discrete x z) [ yes e ↦ inl e | no d ↦ inr (sym (del_else z p x d) ∙ h) ]

pub count-put : (z : ℕ) (p : ℕ → Bool) (n : ℕ) → z < n → p z ≡ false → count (put z p) n ≡ count p n + 1
count-put z p n l a = count_more p (put z p) z n l a (put-here z p) (λ x d. sym (put_else z p x d))

pub count-del : (z : ℕ) (p : ℕ → Bool) (n : ℕ) → z < n → p z ≡ true → count p n ≡ count (del z p) n + 1
count-del z p n l a = count_more (del z p) p z n l (del-here z p) a (λ x d. del_else z p x d)

-- ---- search

pub find : (p : ℕ → Bool) (n : ℕ) → ((x : ℕ) × (x < n) × (p x ≡ true)) ⊎ ((x : ℕ) → x < n → p x ≡ false)
find p zero = inr (λ x l. absurd (omega arith))
find p (suc n) =
    elim (bool (p n)) [
      | inl t ↦ inl (n, omega arith, t)
      | inr f ↦
          elim (find p n) [
            | inl w ↦ inl (w.0, omega (arith, w.1), w.2)
            | inr g ↦ inr (λ x l. elim (ℕ_discrete x n) [ yes e ↦ rw e f | no d ↦ g x (omega (arith, d)) ])
          ]
    ]

pub search_all : (n : ℕ) (P Q : ℕ → Type 0) → ((x : ℕ) → x < n → P x ⊎ Q x) → ((x : ℕ) × (x < n) × P x) ⊎ ((x : ℕ) → x < n → Q x)
search_all zero P Q f = inr (λ x l. absurd (omega arith))
search_all (suc n) P Q f =
    elim (f n (omega arith)) [
      | inl p ↦ inl (n, omega arith, p)
      | inr q ↦
          elim (search_all n P Q (λ x l. f x (omega arith))) [
            | inl w ↦ inl (w.0, omega (arith, w.1), w.2)
            | inr g ↦ inr (λ x l. elim (ℕ_discrete x n) [ yes e ↦ rw e q | no d ↦ g x (omega (arith, d)) ])
          ]
    ]

-- what passes p is sent, one to one, to what passes q
pub inject :
    (p q : ℕ → Bool) (f : ℕ → ℕ) (n k : ℕ) → ((x : ℕ) → x < n → p x ≡ true → f x < k) → ((x : ℕ) → x < n → p x ≡ true → q (f x) ≡ true) →
    ((x y : ℕ) → x < n → y < n → p x ≡ true → p y ≡ true → f x ≡ f y → x ≡ y) → count p n ≤ count q k
unfolding count
inject p q f zero k a b c = omega arith
inject p q f (suc n) k a b c =
    elim (bool (p n)) [
      | inr z ↦ omega (arith, ap bit z, inject p q f n k (λ x l. a x (omega arith)) (λ x l. b x (omega arith)) (λ x y l l'. c x y (omega arith) (omega arith)))
      | inl t ↦
          omega (
            arith,
            ap bit t,
            count-del (f n) q k (a n (omega arith) t) (b n (omega arith) t),
            inject p (del (f n) q) f n k (λ x l. a x (omega arith))
                (λ x l u. del_else (f n) q (f x) (λ e. omega (arith, c x n (omega arith) (omega arith) u t e)) ∙ b x (omega arith) u)
                (λ x y l l'. c x y (omega arith) (omega arith)),
          )
    ]

pub count_not : (p : ℕ → Bool) (n : ℕ) → count p n + count (λ x. not (p x)) n ≡ n
unfolding count
count_not p zero = refl
count_not p (suc n) = omega (arith, count_not p n, bit_not (p n))
  where
    bit_not : (a : Bool) → bit a + bit (not a) ≡ 1
    bit_not true = refl
    bit_not false = refl
