-- Words that all the definitions use; nothing of document 01 yet.
use Rattle.std.specs.Prelude.{if◌then◌else◌, Bool, true, false, ◌&&◌, ◌||◌, List, [], ◌∷◌, ◌++◌, ℕ, zero, suc, pred, get_or, leb, eqb}

-- v lies from a to b
abbrev pub between : ℕ → ℕ → ℕ → Bool
between a b v = leb a v && leb v b

-- the element numbered p, from 1
abbrev pub nth : {A : Type 0} → List A → ℕ → A → A
nth l p d = get_or l (pred p) d

-- the list with one element more at its end
abbrev pub snoc : {A : Type 0} → List A → A → List A
snoc l a = l ++ (a ∷ [])

-- element p, from 1, becomes what f says of it
abbrev pub alter : (ℕ → ℕ) → List ℕ → ℕ → List ℕ
alter f [] p = []
alter f (a ∷ l) zero = a ∷ l
alter f (a ∷ l) (suc zero) = f a ∷ l
alter f (a ∷ l) (suc (suc i)) = a ∷ alter f l (suc i)

abbrev pub head_of : List ℕ → ℕ
head_of [] = 0
head_of (a ∷ l) = a

-- p stands in the list
abbrev pub elem : ℕ → List ℕ → Bool
elem p [] = false
elem p (q ∷ l) = eqb p q || elem p l

-- the index, from 0, of the first p in the list; the list's length where there is none
abbrev pub index_of : ℕ → List ℕ → ℕ
index_of p [] = 0
index_of p (q ∷ l) = let rest = suc (index_of p l) in if eqb p q then 0 else rest

-- the two lists are the same
abbrev pub same : List ℕ → List ℕ → Bool
same [] [] = true
same [] (b ∷ m) = false
same (a ∷ l) [] = false
same (a ∷ l) (b ∷ m) = eqb a b && same l m

-- the elements that pass a test
abbrev pub keep : {A : Type 0} → (A → Bool) → List A → List A
keep t [] = []
keep t (a ∷ l) = if t a then a ∷ keep t l else keep t l

abbrev pub all_of : {A : Type 0} → (A → Bool) → List A → Bool
all_of t [] = true
all_of t (a ∷ l) = t a && all_of t l

abbrev pub any_of : {A : Type 0} → (A → Bool) → List A → Bool
any_of t [] = false
any_of t (a ∷ l) = t a || any_of t l

-- the lowest of x, x + 1, .., x + k - 1 that passes a test; x + k where there is none
unfoldable pub lowest : (ℕ → Bool) → ℕ → ℕ → ℕ
lowest t zero x = x
lowest t (suc k) x = let r = lowest t k (suc x) in if t x then x else r
