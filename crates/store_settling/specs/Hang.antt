-- The second pass: the x of covered points, downwards in number.
use Rattle.std.specs.Prelude.{ℕ, zero, suc, ◌+◌, ◌-◌, ◌<◌, ◌≤◌, ◌≡◌, refl, List, length, get_or, set}
use Rattle.std.proofs.Common.{length-set}
use Rattle.store_links.specs.Arrays.{gap_offset}

-- the x with that of the point at index p, by its owner; 0 is nobody
abbrev pub hang_by : ℕ → List ℕ → ℕ → List ℕ → List ℕ
hang_by zero gap p x = x
hang_by (suc o) gap p x = set x p (get_or x o 0 + get_or gap p 0 - gap_offset)

-- its owner stands in the arrays, and its x is no less than 0 and fits 16 bits
abbrev pub HangsBy : ℕ → List ℕ → ℕ → List ℕ → Type 0
HangsBy zero gap p x = Unit {0}
HangsBy (suc o) gap p x = (o < 1024) × (gap_offset ≤ get_or x o 0 + get_or gap p 0) × (get_or x o 0 + get_or gap p 0 < gap_offset + 65536)

-- the x once the points at indices p - 1, .., 0 are done
unfoldable pub hung : List ℕ → List ℕ → ℕ → List ℕ → List ℕ
hung gap owner zero x = x
hung gap owner (suc p) x = hung gap owner p (hang_by (get_or owner p 0) gap p x)

unfoldable pub Hangs : List ℕ → List ℕ → ℕ → List ℕ → Type 0
Hangs gap owner zero x = Unit {0}
Hangs gap owner (suc p) x = HangsBy (get_or owner p 0) gap p x × Hangs gap owner p (hang_by (get_or owner p 0) gap p x)

module _ {o : ℕ} (gap : List ℕ) (p : ℕ) (x : List ℕ) where
  -- Nobody owns the point: all stays.
  pub hang-free : o ≡ 0 → hang_by o gap p x ≡ x
  hang-free e = rw e

  module _ {q : ℕ} (e : o ≡ suc q) where
    -- The point at index q owns it.
    pub hang-owned : hang_by o gap p x ≡ set x p (get_or x q 0 + get_or gap p 0 - gap_offset)
    hang-owned = rw e

    pub hangs-owned : HangsBy o gap p x → (q < 1024) × (gap_offset ≤ get_or x q 0 + get_or gap p 0) × (get_or x q 0 + get_or gap p 0 < gap_offset + 65536)
    hangs-owned h = rw e at h

-- No point is left.
pub hung_none : (gap owner : List ℕ) {n : ℕ} (x : List ℕ) → n ≡ 0 → hung gap owner n x ≡ x
unfolding hung
hung_none gap owner x e = rw e

module _ (gap owner : List ℕ) {n p : ℕ} (e : n ≡ suc p) (x : List ℕ) where
  -- One point more.
  pub hung-go : hung gap owner n x ≡ hung gap owner p (hang_by (get_or owner p 0) gap p x)
  unfolding hung
  hung-go = rw e

  pub hangs-go : Hangs gap owner n x → HangsBy (get_or owner p 0) gap p x × Hangs gap owner p (hang_by (get_or owner p 0) gap p x)
  unfolding Hangs
  hangs-go h = rw e at h

-- The list keeps its length.
pub length-hang_by : (o : ℕ) (gap : List ℕ) (p : ℕ) (x : List ℕ) → length (hang_by o gap p x) ≡ length x
length-hang_by zero gap p x = refl
length-hang_by (suc o) gap p x = length-set x p _
