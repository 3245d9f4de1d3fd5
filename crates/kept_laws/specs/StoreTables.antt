-- A part of a list, and the list with another part in its place, which is what a lent part leaves when it comes back.
use Rattle.std.specs.Prelude.{ℕ, ◌+◌, ◌-◌, ◌<◌, ◌≤◌, ◌≡◌, List, ◌++◌, length, get_or, take, drop, set}
use Rattle.std.proofs.Common.{sym, ap, ◌∙◌, arith, length-drop, take-append-drop, length-take-le, drop-drop, take_at, drop_at, drop-set-lt, get_or-take, get_or-drop}
use Rattle.std.proofs.lemmas.List.{take-append-le, drop-append-le, take-set-le, drop-set-add}
use Rattle.std.proofs.Math.Seq.{drop-append-add, take-set-lt}

-- `count` elements from index `from` on
abbrev pub part : ℕ → ℕ → List ℕ → List ℕ
part from count t = take count (drop from t)

-- l in their place
abbrev pub patched : ℕ → ℕ → List ℕ → List ℕ → List ℕ
patched from count t l = take from t ++ (l ++ drop count (drop from t))

pub length_part : (from count : ℕ) (t : List ℕ) → from + count ≤ length t → length (part from count t) ≡ count
length_part from count t h = length-take-le count (drop from t) (omega (arith, length-drop from t))

-- ---- a part of a list that comes back

-- a part of the front
front : (a n : ℕ) (xs ys : List ℕ) → a + n ≤ length xs → part a n (xs ++ ys) ≡ part a n xs
front a n xs ys h = ap (take n) (drop-append-le a xs ys (omega arith)) ∙ take-append-le n (drop a xs) ys (omega (arith, length-drop a xs))

-- the rest, past the front
past : (a : ℕ) (xs ys : List ℕ) → length xs ≤ a → drop a (xs ++ ys) ≡ drop (a - length xs) ys
past a xs ys h =
    let e : a ≡ length xs + (a - length xs) = omega arith in
    ap (λ k. drop k (xs ++ ys)) e ∙ drop-append-add xs ys (a - length xs)

module _ (from count : ℕ) (t l : List ℕ) (fits : from + count ≤ length t) where
  head-long : length (take from t) ≡ from
  head-long = length-take-le from t (omega arith)

  pub patched_before : (a n : ℕ) → a + n ≤ from → part a n (patched from count t l) ≡ part a n t
  patched_before a n h =
      front a n (take from t) (l ++ drop count (drop from t)) (omega (arith, head-long))
      ∙ sym (front a n (take from t) (drop from t) (omega (arith, head-long)))
      ∙ ap (part a n) (take-append-drop from t)

  module _ (same : length l ≡ count) where
    pub patched_there : part from count (patched from count t l) ≡ l
    patched_there = ap (take count) (drop_at (take from t) (l ++ drop count (drop from t)) from head-long) ∙ take_at l (drop count (drop from t)) count same

    pub patched_after : (a n : ℕ) → from + count ≤ a → part a n (patched from count t l) ≡ part a n t
    patched_after a n h =
        let rest = drop count (drop from t) in
        let e : from + (count + (a - length (take from t) - length l)) ≡ a = omega (arith, head-long) in
        ap (take n)
        (past a (take from t) (l ++ rest) (omega (arith, head-long))
        ∙ past (a - length (take from t)) l rest (omega (arith, head-long))
        ∙ drop-drop (a - length (take from t) - length l) count (drop from t)
        ∙ drop-drop (count + (a - length (take from t) - length l)) from t
        ∙ ap (λ k. drop k t) e)

-- ---- one word read, one word stored

pub part-read : (from count : ℕ) (t : List ℕ) (i d : ℕ) → i < count → get_or t (from + i) d ≡ get_or (part from count t) i d
part-read from count t i d h = sym (get_or-take count (drop from t) i d h ∙ get_or-drop from t i d)

pub set_before : (a n : ℕ) (t : List ℕ) (j v : ℕ) → a + n ≤ j → part a n (set t j v) ≡ part a n t
set_before a n t j v h =
    let e : j ≡ a + (j - a) = omega arith in
    ap (λ k. part a n (set t k v)) e ∙ ap (take n) (drop-set-add a t (j - a) v) ∙ take-set-le n (drop a t) (j - a) v (omega arith)

pub set_there : (a n : ℕ) (t : List ℕ) (i v : ℕ) → i < n → part a n (set t (a + i) v) ≡ set (part a n t) i v
set_there a n t i v h = ap (take n) (drop-set-add a t i v) ∙ take-set-lt n (drop a t) i v h

pub set_after : (a n : ℕ) (t : List ℕ) (j v : ℕ) → j < a → part a n (set t j v) ≡ part a n t
set_after a n t j v h = ap (take n) (drop-set-lt a t j v h)
