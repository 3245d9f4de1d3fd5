-- The points of an order file over a plain list, the boundary from left to right: what the drawing rules ask of the entries. (The laws are in proofs/.)
use Rattle.std.specs.Prelude.{ℕ, zero, suc, ◌+◌, ◌<◌, ◌≡◌, List, [], ◌∷◌, ◌++◌, length, get_or, take}
use Rattle.std.proofs.Common.{ap, ◌∙◌, arith, drop_of_length-le}
use Rattle.std.proofs.Math.Seq.{split_at}
use Rattle.rules.specs.Basics.{index_of}
use Rattle.rules.specs.Indices.{index_at, index_le}
use Rattle.planar_rules.specs.PlanarCode.{Point}

-- Point k is added over `run`, at least two points that follow each other on the old boundary; on the new one it stands in place of those between the run's first and last.
pub record Over (k : ℕ) (old run new : List ℕ) : Type 0 where
  pub before : List ℕ
  pub left : ℕ
  pub inner : List ℕ
  pub right : ℕ
  pub after : List ℕ
  pub old_is : old ≡ before ++ (left ∷ (inner ++ (right ∷ after)))
  pub run_is : run ≡ left ∷ (inner ++ (right ∷ []))
  pub new_is : new ≡ before ++ (left ∷ k ∷ right ∷ after)

-- from k points with boundary b, points k + 1, k + 2, .. with these entries lead to boundary b''
pub data Stands : ℕ → List ℕ → List (List ℕ) → List ℕ → Type 0 where
  none : {k : ℕ} {b : List ℕ} → Stands k b [] b
  more : {k : ℕ} {b b' b'' e : List ℕ} {es : List (List ℕ)} → Over (suc k) b e b' → Stands (suc k) b' es b'' → Stands k b (e ∷ es) b''

-- the same by vertices
pub data Chain : List ℕ → List Point → List ℕ → Type 0 where
  end : {b : List ℕ} → Chain b [] b
  link : {b b' b'' : List ℕ} {p : Point} {ps : List Point} → Over p.vertex b p.entries b' → Chain b' ps b'' → Chain b (p ∷ ps) b''

-- ---- lists without repeats

abbrev pub Distinct : List ℕ → Type 0
Distinct l = (x y : ℕ) → x < length l → y < length l → get_or l x 0 ≡ get_or l y 0 → x ≡ y

pub index_is : (l : List ℕ) → Distinct l → (t : ℕ) → t < length l → index_of (get_or l t 0) l ≡ t
index_is l d t tl =
    let a = index_le l t tl in
    d _ t (omega arith) tl (index_at (get_or l t 0) l (omega arith))

-- ---- the shape of a run

-- a list by its first, its last and those between
pub by_ends : (E : List ℕ) (p : ℕ) → length E ≡ p + 1 → 0 < p → (m : List ℕ) × (E ≡ get_or E 0 0 ∷ (m ++ (get_or E p 0 ∷ [])))
by_ends [] p e p0 = absurd (omega arith)
by_ends (x ∷ xs) zero e p0 = absurd (omega arith)
by_ends (x ∷ xs) (suc p) e p0 = (
  take p xs,
  ap (λ l. x ∷ l) (split_at xs p 0 (omega arith) ∙ ap (λ l. take p xs ++ (get_or xs p 0 ∷ l)) (drop_of_length-le xs {i = suc p} (omega arith))),
)
