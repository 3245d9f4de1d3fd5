-- What steps 1 to 3 do to the places: every point moves right by its column's amounts, and no height changes.
use Rattle.std.specs.Prelude.{ℕ, zero, suc, ◌+◌, ◌<◌, ◌≡◌, refl, Bool, true, false, cond, List, [], ◌∷◌, length, get_or, leb, if◌then◌else◌}
use Rattle.std.proofs.Common.{ap, ◌∙◌, le_of_suc-le-suc, not-suc-le-zero, suc-add, add-suc, add-zero, add-one, arith}
use Rattle.rules.specs.Points.{Drawing, x_of}
use Rattle.rules.specs.Moving.{column, moved_xs, shift}
use Rattle.rules.specs.Adding.{s1, s2, s3, step1, step2, spread}
use Rattle.net.specs.Amounts.{by, moves}

-- ---- the amounts

-- what step 1 moves the columns after l by
unfoldable pub amount1 : Drawing → ℕ → ℕ
amount1 d l = s1 l d

-- what steps 2 and 3 move the columns from r on by
unfoldable pub amount2 : Drawing → ℕ → ℕ → ℕ
amount2 d l r = s2 r (step1 l d) + s3 l r (step2 r (step1 l d))

-- ---- one move

-- The x numbered p of a moved list is the old one and what is said of its number.
pub get_d_moved_xs : (f : ℕ → ℕ) (q : ℕ) (xs : List ℕ) (p : ℕ) → p < length xs → get_or (moved_xs f q xs) p 0 ≡ get_or xs p 0 + f (q + p)
get_d_moved_xs f q [] p h = absurd (not-suc-le-zero h)
get_d_moved_xs f q (x ∷ xs) zero h = rw add-zero
get_d_moved_xs f q (x ∷ xs) (suc p) h = rw (add-suc, ← suc-add) (get_d_moved_xs f (suc q) xs p (le_of_suc-le-suc h))

-- A moved list is as long as before.
pub length-moved_xs : (f : ℕ → ℕ) (q : ℕ) (xs : List ℕ) → length (moved_xs f q xs) ≡ length xs
length-moved_xs f q [] = refl
length-moved_xs f q (x ∷ xs) = ap suc (length-moved_xs f (suc q) xs)

-- The two ways of writing a choice give the same number.
if_cond : (b : Bool) (a : ℕ) → (if b then a else 0) ≡ cond b a 0
if_cond true a = refl
if_cond false a = refl

-- The x of a list moved by columns: the columns from i on move by a.
x_shift : (d : Drawing) (i a : ℕ) (xs : List ℕ) (p : ℕ) → p < length xs →
    get_or (moved_xs (shift i a d) 1 xs) p 0 ≡ get_or xs p 0 + by i a (column d (suc p))
x_shift d i a xs p h =
    let e : 1 + p ≡ suc p = omega arith in
    get_d_moved_xs (shift i a d) 1 xs p h ∙ ap (λ n. get_or xs p 0 + shift i a d n) e ∙ ap (λ n. get_or xs p 0 + n) (if_cond (leb i (column d (suc p))) a)

-- ---- steps 1 to 3

-- Two amounts over the same columns add up.
by_add : (i a b c : ℕ) → by i a c + by i b c ≡ by i (a + b) c
by_add i a b c = go (leb i c)
  where
    go : (t : Bool) → cond t a 0 + cond t b 0 ≡ cond t (a + b) 0
    go true = refl
    go false = refl

-- A move from l + 1 on and one from r on are net's `moves`.
moves_two : (l r a b c : ℕ) → by (l + 1) a c + by r b c ≡ moves l r a b c
unfolding moves
moves_two l r a b c = rw (add-one l)

module _ (d : Drawing) (l r a b : ℕ) (xs : List ℕ) (p : ℕ) (h : p < length xs) where
  -- the list after a move of the columns from l + 1 on
  abbrev once : List ℕ
  once = moved_xs (shift (l + 1) a d) 1 xs

  -- and after a move of the columns from r on
  abbrev twice : List ℕ
  twice = moved_xs (shift r b d) 1 once

  -- The list is as long after one move.
  in_once : p < length once
  in_once = omega (arith, length-moved_xs (shift (l + 1) a d) 1 xs)

  -- The list is as long after two moves.
  in_twice : p < length twice
  in_twice = omega (arith, length-moved_xs (shift r b d) 1 once, in_once)

  -- The x of a list after the two moves.
  x_two : get_or twice p 0 ≡ get_or xs p 0 + moves l r a b (column d (suc p))
  x_two = omega (arith, x_shift d (l + 1) a xs p h, x_shift d r b once p in_once, moves_two l r a b (column d (suc p)))

  -- The x of a list after one move more from r on.
  x_three : (c : ℕ) → get_or (moved_xs (shift r c d) 1 twice) p 0 ≡ get_or xs p 0 + moves l r a (b + c) (column d (suc p))
  x_three c =
      omega (
        arith,
        x_two,
        x_shift d r c twice p in_twice,
        by_add r b c (column d (suc p)),
        moves_two l r a b (column d (suc p)),
        moves_two l r a (b + c) (column d (suc p)),
      )

-- Steps 1 to 3 leave the number of x as it is.
pub length-spread : (d : Drawing) (l r : ℕ) → length (spread l r d).xs ≡ length d.xs
length-spread d l r = simp length-moved_xs

-- The x of a point after steps 1 and 2, which is where step 3 reads it.
pub x_before : (d : Drawing) (l r p : ℕ) → p < length d.xs →
    x_of (step2 r (step1 l d)) (suc p) ≡ x_of d (suc p) + moves l r (s1 l d) (s2 r (step1 l d)) (column d (suc p))
x_before d l r p h = x_two d l r (s1 l d) (s2 r (step1 l d)) d.xs p h

-- The x of a point after steps 1 to 3.
pub x_spread : (d : Drawing) (l r p : ℕ) → p < length d.xs →
    x_of (spread l r d) (suc p) ≡ x_of d (suc p) + moves l r (amount1 d l) (amount2 d l r) (column d (suc p))
unfolding amount1 amount2
x_spread d l r p h = x_three d l r (s1 l d) (s2 r (step1 l d)) d.xs p h (s3 l r (step2 r (step1 l d)))
