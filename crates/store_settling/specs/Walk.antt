-- The first pass: the x of boundary points, along the links.
use Rattle.std.specs.Prelude.{ℕ, zero, suc, ◌+◌, ◌<◌, ◌≡◌, List, get_or, set}
use Rattle.std.proofs.Math.Path.{refl}

-- the x once at most `steps` points are walked. The first is p, its gap to the right of `at`; p = 0 is past the last.
unfoldable pub walked : List ℕ → List ℕ → ℕ → ℕ → ℕ → List ℕ → List ℕ
walked next gap zero p at x = x
walked next gap (suc steps) zero at x = x
walked next gap (suc steps) (suc q) at x = walked next gap steps (get_or next q 0) (at + get_or gap q 0) (set x q (at + get_or gap q 0))

-- the whole first pass: point 1 lies at 0, and the walk goes on from there
abbrev pub first_pass : List ℕ → List ℕ → ℕ → List ℕ → List ℕ
first_pass next gap k x = walked next gap k (get_or next 0 0) 0 (set x 0 0)

-- that walk meets points of the arrays alone, and every x fits 16 bits
unfoldable pub Walks : List ℕ → List ℕ → ℕ → ℕ → ℕ → Type 0
Walks next gap zero p at = Unit {0}
Walks next gap (suc steps) zero at = Unit {0}
Walks next gap (suc steps) (suc q) at = (q < 1024) × (at + get_or gap q 0 < 65536) × Walks next gap steps (get_or next q 0) (at + get_or gap q 0)

module _ (next gap : List ℕ) where
  -- A walk that is past the last point leaves all.
  pub walked-past : (steps p at : ℕ) (x : List ℕ) → p ≡ 0 → walked next gap steps p at x ≡ x
  unfolding walked
  walked-past zero p at x e = refl
  walked-past (suc steps) p at x e = rw e

  pub walks-past : (steps p at : ℕ) → p ≡ 0 → Walks next gap steps p at
  unfolding Walks
  walks-past zero p at e = tt
  walks-past (suc steps) p at e = rw e tt

  module _ {n steps p q : ℕ} (en : n ≡ suc steps) (ep : p ≡ suc q) (at : ℕ) where
    -- One point more.
    pub walked-go : (x : List ℕ) → walked next gap n p at x ≡ walked next gap steps (get_or next q 0) (at + get_or gap q 0) (set x q (at + get_or gap q 0))
    unfolding walked
    walked-go x = rw (en, ep)

    pub walks-go : Walks next gap n p at → (q < 1024) × (at + get_or gap q 0 < 65536) × Walks next gap steps (get_or next q 0) (at + get_or gap q 0)
    unfolding Walks
    walks-go h = rw (en, ep) at h

    pub go-walks : q < 1024 → at + get_or gap q 0 < 65536 → Walks next gap steps (get_or next q 0) (at + get_or gap q 0) → Walks next gap n p at
    unfolding Walks
    go-walks a b h = rw (en, ep) (a, b, h)

-- No step is left.
pub walked_none : (next gap : List ℕ) {n : ℕ} (p at : ℕ) (x : List ℕ) → n ≡ 0 → walked next gap n p at x ≡ x
unfolding walked
walked_none next gap p at x e = rw e
