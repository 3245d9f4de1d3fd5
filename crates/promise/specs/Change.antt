-- Step 5 read by index: the inner points of a run, and the first of them that its own port doesn't reach.
use Rattle.std.specs.Prelude.{ℕ, zero, suc, ◌+◌, ◌*◌, ◌-◌, ◌<◌, ◌≤◌, ◌≡◌, refl, Bool, true, false, List, [], ◌∷◌, length, get_or, leb, ltb, if◌then◌else◌}
use Rattle.std.proofs.Common.{sym, ◌∙◌, true≢false, le_of_suc-le-suc, not-suc-le-zero, add-zero, arith, ltb-true, ltb-false, leb-true, le-leb}
use Rattle.rules.specs.Points.{Drawing, x_of, y_of}
use Rattle.rules.specs.Adding.{all_but_last, inner, change, reaches, middle_of}
use Rattle.rules.specs.Bools.{both}

-- ---- all but the first and the last

-- all but the last, read by index
get_d_all_but_last : (l : List ℕ) (i : ℕ) → suc i < length l → get_or (all_but_last l) i 0 ≡ get_or l i 0
get_d_all_but_last [] i h = absurd (not-suc-le-zero h)
get_d_all_but_last (p ∷ []) i h = absurd (omega arith)
get_d_all_but_last (p ∷ q ∷ l) zero h = refl
get_d_all_but_last (p ∷ q ∷ l) (suc i) h = get_d_all_but_last (q ∷ l) i (le_of_suc-le-suc h)

-- how many those are
length-all_but_last : (l : List ℕ) → length (all_but_last l) ≡ length l - 1
length-all_but_last [] = refl
length-all_but_last (p ∷ []) = refl
length-all_but_last (p ∷ q ∷ l) = omega (arith, length-all_but_last (q ∷ l))

-- inner point i, from 0, is point i + 1 of the run
pub get_d_inner : (run : List ℕ) (i : ℕ) → suc (suc i) < length run → get_or (inner run) i 0 ≡ get_or run (suc i) 0
get_d_inner [] i h = absurd (not-suc-le-zero h)
get_d_inner (p ∷ l) i h = get_d_all_but_last l i (le_of_suc-le-suc h)

-- the run has two points more
pub length-inner : (run : List ℕ) → length (inner run) ≡ length run - 2
length-inner [] = refl
length-inner (p ∷ l) = omega (arith, length-all_but_last l)

-- ---- the test of reaching, in numbers that may be read elsewhere

module _ (x y h a b x' y' h' a' b' i : ℕ) (ex : x' ≡ x) (ey : y' ≡ y) (eh : h' ≡ h) (ea : a' ≡ a) (eb : b' ≡ b) where
  -- what it tells where it holds
  pub reached : reaches x y h i a b ≡ true → (x' + i + b' ≤ a' + y') × (a' + b' + 2 * h' ≤ x' + y' + i)
  reached t =
      let c = both (leb (x + i + b) (a + y)) (leb (a + b + 2 * h) (x + y + i)) t in
      (omega (arith, leb-true (x + i + b) (a + y) c.0), omega (arith, leb-true (a + b + 2 * h) (x + y + i) c.1))

  -- what makes it hold
  pub reaching : x' + i + b' ≤ a' + y' → a' + b' + 2 * h' ≤ x' + y' + i → reaches x y h i a b ≡ true
  reaching m n = rw (le-leb (x + i + b) (a + y) (omega arith), le-leb (a + b + 2 * h) (x + y + i) (omega arith))

  -- so that doesn't stand where it fails
  pub unreached : reaches x y h i a b ≡ false → x' + i + b' ≤ a' + y' → a' + b' + 2 * h' ≤ x' + y' + i → ⊥
  unreached t m n = true≢false (sym (reaching m n) ∙ t)

-- ---- the change: `change x y h c i ps` is the first index from i on whose point in ps isn't reached, or i + length ps

module _ (x y h : ℕ) (c : Drawing) where
  -- port i reaches point p
  abbrev Own : ℕ → ℕ → Bool
  Own i p = reaches x y h i (x_of c p) (y_of c p)

  -- it lies from i to i + length ps
  pub change-start : (i : ℕ) (ps : List ℕ) → i ≤ change x y h c i ps
  change-start i [] = omega arith
  change-start i (p ∷ ps) = go (Own i p) refl (change-start (suc i) ps)
    where
      go : (b : Bool) → Own i p ≡ b → suc i ≤ change x y h c (suc i) ps → i ≤ (if b then change x y h c (suc i) ps else i)
      go true e k = omega arith
      go false e k = omega arith

  pub change-end : (i : ℕ) (ps : List ℕ) → change x y h c i ps ≤ i + length ps
  change-end i [] = omega arith
  change-end i (p ∷ ps) = go (Own i p) refl (change-end (suc i) ps)
    where
      go : (b : Bool) → Own i p ≡ b → change x y h c (suc i) ps ≤ suc i + length ps → (if b then change x y h c (suc i) ps else i) ≤ i + length (p ∷ ps)
      go true e k = omega arith
      go false e k = omega arith

  -- every point before it is reached
  change_before : (i : ℕ) (ps : List ℕ) (j : ℕ) → j < length ps → i + j < change x y h c i ps → Own (i + j) (get_or ps j 0) ≡ true
  change_before i [] j b k = absurd (not-suc-le-zero b)
  change_before i (p ∷ ps) j b k = go j b (Own i p) refl k (change_before (suc i) ps)
    where
      go : (j : ℕ) → j < length (p ∷ ps) → (b : Bool) → Own i p ≡ b → i + j < (if b then change x y h c (suc i) ps else i) →
          ((j : ℕ) → j < length ps → suc i + j < change x y h c (suc i) ps → Own (suc i + j) (get_or ps j 0) ≡ true) → Own (i + j) (get_or (p ∷ ps) j 0) ≡ true
      go j b false e k rec = absurd (omega arith)
      go zero b true e k rec = rw (add-zero i) e
      go (suc j) b true e k rec = let z : i + suc j ≡ suc i + j = omega arith in rw z (rec j (le_of_suc-le-suc b) (omega arith))

  -- the point there isn't
  change_at : (i : ℕ) (ps : List ℕ) (j : ℕ) → j < length ps → change x y h c i ps ≡ i + j → Own (i + j) (get_or ps j 0) ≡ false
  change_at i [] j b k = absurd (not-suc-le-zero b)
  change_at i (p ∷ ps) j b k = go j b (Own i p) refl k (change_at (suc i) ps)
    where
      go : (j : ℕ) → j < length (p ∷ ps) → (b : Bool) → Own i p ≡ b → (if b then change x y h c (suc i) ps else i) ≡ i + j →
          ((j : ℕ) → j < length ps → change x y h c (suc i) ps ≡ suc i + j → Own (suc i + j) (get_or ps j 0) ≡ false) → Own (i + j) (get_or (p ∷ ps) j 0) ≡ false
      go zero b true e k rec = absurd (omega (arith, change-start (suc i) ps))
      go (suc j) b true e k rec = let z : i + suc j ≡ suc i + j = omega arith in rw z (rec j (le_of_suc-le-suc b) (omega arith))
      go zero b false e k rec = rw (add-zero i) e
      go (suc j) b false e k rec = absurd (omega arith)

  -- as the rules use it: the points count from 1, and point suc j is p
  pub first_before : (ps : List ℕ) (j p : ℕ) → get_or ps j 0 ≡ p → j < length ps → suc j < change x y h c 1 ps → Own (suc j) p ≡ true
  first_before ps j p e b k = let z : 1 + j ≡ suc j = omega arith in rw (z, e) at (change_before 1 ps j b (rw z k))

  pub first_at : (ps : List ℕ) (j p : ℕ) → get_or ps j 0 ≡ p → j < length ps → change x y h c 1 ps ≡ suc j → Own (suc j) p ≡ false
  first_at ps j p e b k = let z : 1 + j ≡ suc j = omega arith in rw (z, e) at (change_at 1 ps j b (rw z k))

-- ---- ports rise with the points
pub middle-rising : (from i j : ℕ) → i < j → middle_of from i < middle_of from j
middle-rising from i j h = go (ltb i from) refl (ltb j from) refl
  where
    go : (a : Bool) → ltb i from ≡ a → (b : Bool) → ltb j from ≡ b → (if a then i else suc i) < (if b then j else suc j)
    go true e true e' = h
    go true e false e' = omega arith
    go false e true e' = let u = ltb-false i from e in let v = ltb-true j from e' in omega arith
    go false e false e' = omega arith
