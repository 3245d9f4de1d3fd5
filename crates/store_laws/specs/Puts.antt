-- Numbers put into arrays, read back: at a point, at a covered entry, at a new line; every other place keeps its number. Plain lists only.
use Rattle.std.specs.Prelude.{ℕ, zero, suc, pred, ◌+◌, ◌-◌, ◌<◌, ◌≤◌, ◌≡◌, ◌≢◌, List, get_or}
use Rattle.std.proofs.Math.Path.{refl}
use Rattle.std.proofs.Common.{ap, ◌∙◌, arith, length-set, get_or-set_same, get_or-set_other}
use Rattle.std.proofs.Math.Decide.{ℕ_discrete}
use Rattle.std.proofs.Math.ListN.{length}
use Rattle.store_links.specs.declared.Spot.{Spot}
use Rattle.store_links.specs.Arrays.{at_point, gap_offset}
use Rattle.store_links.specs.Placing.{entry_point, way}
use Rattle.store_links.specs.Runs.{Within, Distinct}
use Rattle.store_links.specs.Storing.{put_at, covered_gaps, covered_owners, filled}

-- ---- one point

-- What was put at a point stands there.
pub put_same : (l : List ℕ) (p v : ℕ) → pred p < length l → at_point (put_at l p v) p ≡ v
put_same l p v h = get_or-set_same l (pred p) v 0 h

-- Every other point keeps its number.
pub put_other : (l : List ℕ) (p q v : ℕ) → 0 < p → 0 < q → q ≢ p → at_point (put_at l p v) q ≡ at_point l q
put_other l p q v hp hq n = get_or-set_other l (pred p) (pred q) v 0 (omega arith)

-- The array keeps its length.
pub length-put : (l : List ℕ) (p v : ℕ) → length (put_at l p v) ≡ length l
length-put l p v = length-set l (pred p) v

-- ---- covered entries

-- a list with f j at the point of each entry j from 1 to i
unfoldable covered : (ℕ → ℕ) → List ℕ → List ℕ → ℕ → List ℕ
covered f l es zero = l
covered f l es (suc i) = put_at (covered f l es i) (entry_point es (suc i)) (f (suc i))

module _ (f : ℕ → ℕ) (l es : List ℕ) where
  -- The list keeps its length.
  length-covered : (i : ℕ) → length (covered f l es i) ≡ length l
  unfolding covered
  length-covered zero = refl
  length-covered (suc i) = length-put (covered f l es i) (entry_point es (suc i)) (f (suc i)) ∙ length-covered i

  module _ (k : ℕ) (h : Within k es) where
    -- A point that is none of the entries keeps its number.
    covered_out : (q i : ℕ) → i < length es → 0 < q → ((j : ℕ) → 0 < j → j ≤ i → q ≢ entry_point es j) → at_point (covered f l es i) q ≡ at_point l q
    unfolding covered
    covered_out q zero b hq n = refl
    covered_out q (suc i) b hq n =
        put_other (covered f l es i) (entry_point es (suc i)) q (f (suc i)) (h.low (suc i) b) hq (n (suc i) (omega arith) (omega arith)) ∙
        covered_out q i (omega arith) hq (λ j z m. n j z (omega arith))

    -- At the point of entry j stands f j.
    covered_in : k ≤ length l → Distinct es → (j i : ℕ) → i < length es → 0 < j → j ≤ i → at_point (covered f l es i) (entry_point es j) ≡ f j
    unfolding covered
    covered_in t s j zero b z m = absurd (omega arith)
    covered_in t s j (suc i) b z m = go (covered_in t s j i (omega arith) z)
      where
        go : (j ≤ i → at_point (covered f l es i) (entry_point es j) ≡ f j) → at_point (covered f l es (suc i)) (entry_point es j) ≡ f j
        go ih =
            elim (ℕ_discrete j (suc i)) [
              | yes e ↦
                  let u : pred (entry_point es (suc i)) < length (covered f l es i) = omega (arith, length-covered i, h.low (suc i) b, h.high (suc i) b) in
                  rw e (put_same (covered f l es i) (entry_point es (suc i)) (f (suc i)) u)
              | no e ↦
                  put_other (covered f l es i) (entry_point es (suc i)) (entry_point es j) (f (suc i)) (h.low (suc i) b) (h.low j (omega arith)) (s.differ j (suc i) (omega arith) b) ∙
                  ih (omega arith)
            ]

-- The covered gaps are such a list.
gaps-covered : (gap es : List ℕ) (p : Spot) (i : ℕ) → covered_gaps gap es p i ≡ covered (λ j. way gap es j + p.s1 + gap_offset - p.dx) gap es i
unfolding covered_gaps covered
gaps-covered gap es p zero = refl
gaps-covered gap es p (suc i) = ap (λ (l : List ℕ). put_at l (entry_point es (suc i)) (way gap es (suc i) + p.s1 + gap_offset - p.dx)) (gaps-covered gap es p i)

-- The owners of covered points are such a list.
owners-covered : (owner es : List ℕ) (v i : ℕ) → covered_owners owner es v i ≡ covered (λ j. v) owner es i
unfolding covered_owners covered
owners-covered owner es v zero = refl
owners-covered owner es v (suc i) = ap (λ (l : List ℕ). put_at l (entry_point es (suc i)) v) (owners-covered owner es v i)

-- Covering keeps the number of gaps.
pub length-gaps : (gap es : List ℕ) (p : Spot) (i : ℕ) → length (covered_gaps gap es p i) ≡ length gap
length-gaps gap es p i = ap length (gaps-covered gap es p i) ∙ length-covered _ gap es i

-- Covering keeps the number of owners.
pub length-owners : (owner es : List ℕ) (v i : ℕ) → length (covered_owners owner es v i) ≡ length owner
length-owners owner es v i = ap length (owners-covered owner es v i) ∙ length-covered _ owner es i

module _ (es : List ℕ) (k i : ℕ) (h : Within k es) (b : i < length es) where
  -- A point that is not covered keeps its gap.
  pub gaps_out : (gap : List ℕ) (p : Spot) (q : ℕ) → 0 < q → ((j : ℕ) → 0 < j → j ≤ i → q ≢ entry_point es j) →
      at_point (covered_gaps gap es p i) q ≡ at_point gap q
  gaps_out gap p q hq n = ap (λ (l : List ℕ). at_point l q) (gaps-covered gap es p i) ∙ covered_out _ gap es k h q i b hq n

  -- A point that is not covered keeps its owner.
  pub owners_out : (owner : List ℕ) (v q : ℕ) → 0 < q → ((j : ℕ) → 0 < j → j ≤ i → q ≢ entry_point es j) →
      at_point (covered_owners owner es v i) q ≡ at_point owner q
  owners_out owner v q hq n = ap (λ (l : List ℕ). at_point l q) (owners-covered owner es v i) ∙ covered_out _ owner es k h q i b hq n

  -- A covered point has the gap to the new one.
  pub gaps_in : (gap : List ℕ) (p : Spot) → k ≤ length gap → Distinct es → (j : ℕ) → 0 < j → j ≤ i →
      at_point (covered_gaps gap es p i) (entry_point es j) ≡ way gap es j + p.s1 + gap_offset - p.dx
  gaps_in gap p t s j z m = ap (λ (l : List ℕ). at_point l (entry_point es j)) (gaps-covered gap es p i) ∙ covered_in _ gap es k h t s j i b z m

  -- A covered point has the new owner.
  pub owners_in : (owner : List ℕ) (v : ℕ) → k ≤ length owner → Distinct es → (j : ℕ) → 0 < j → j ≤ i →
      at_point (covered_owners owner es v i) (entry_point es j) ≡ v
  owners_in owner v t s j z m = ap (λ (l : List ℕ). at_point l (entry_point es j)) (owners-covered owner es v i) ∙ covered_in _ owner es k h t s j i b z m

-- ---- new lines

module _ {A : Type 0} (f : ℕ → A) (l : List A) (at : ℕ) where
  -- The array keeps its length.
  pub length-filled : (i : ℕ) → length (filled f l at i) ≡ length l
  unfolding filled
  length-filled zero = refl
  length-filled (suc i) = length-set (filled f l at i) (at + i) (f i) ∙ length-filled i

  -- Before `at` everything stays.
  pub filled_out : (i e : ℕ) (z : A) → e < at → get_or (filled f l at i) e z ≡ get_or l e z
  unfolding filled
  filled_out zero e z h = refl
  filled_out (suc i) e z h = get_or-set_other (filled f l at i) (at + i) e (f i) z (omega arith) ∙ filled_out i e z h

  -- From there on stand f 0, f 1, ..
  pub filled_in : (i j : ℕ) (z : A) → at + i ≤ length l → j < i → get_or (filled f l at i) (at + j) z ≡ f j
  unfolding filled
  filled_in zero j z t h = absurd (omega arith)
  filled_in (suc i) j z t h = go (filled_in i j z (omega arith))
    where
      go : (j < i → get_or (filled f l at i) (at + j) z ≡ f j) → get_or (filled f l at (suc i)) (at + j) z ≡ f j
      go ih =
          elim (ℕ_discrete j i) [
            | yes e ↦ rw e (get_or-set_same (filled f l at i) (at + i) (f i) z (omega (arith, length-filled i)))
            | no e ↦ get_or-set_other (filled f l at i) (at + i) (at + j) (f i) z (omega arith) ∙ ih (omega arith)
          ]
