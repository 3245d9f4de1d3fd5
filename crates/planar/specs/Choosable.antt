-- What is known of the boundary when the next vertex is chosen.
use Rattle.std.specs.Prelude.{ℕ, suc, ◌+◌, ◌-◌, ◌<◌, ◌≤◌, List, length, drop}
use Rattle.std.proofs.Common.{arith}
use Rattle.rules.specs.Basics.{index_of}
use Rattle.planar_rules.specs.PlanarCode.{Flat, next, Point}
use Rattle.planar_sphere.specs.Count.{count}
use Rattle.planar_order.specs.Step.{among, apart, is_open}
use Rattle.planar_order.proofs.Numbering.{fits}
use Rattle.planar_choosing.specs.Rows.{Apart}
use Rattle.planar_numbering.specs.Points.{points_from, points-length}
use Rattle.planar_numbering.specs.Top.{Ready}

-- v's list lies within the array of neighbours
abbrev pub Within : Flat → ℕ → Type 0
Within f v = (f.off v ≤ f.off (v + 1)) × (f.off (v + 1) ≤ 1536)

module _ {f : Flat} {B : List ℕ} {k : ℕ} {ver ln ent : List ℕ} {s : ℕ} (r : Ready f B k ver ln ent s) (k2 : 2 ≤ k) where
  abbrev later : List Point
  later = points_from f.n ver ln ent s (suc k)

  -- it has no more vertices than the net
  pub m_small : length B ≤ 255
  m_small = omega (arith, fits f r.arrays.kept.listed r.arrays.valid r.arrays.own0 B later r.going, r.arrays.kept.byte)

  -- what `choose` asks
  pub choosable : (length B ≤ 255) × Apart B (length B) × ((v : ℕ) → v < f.n → Within f v)
  choosable = (
    m_small,
    apart f r.arrays.kept.listed r.arrays.valid B later r.going.is,
    λ v vn. (r.arrays.kept.rising v vn, omega (arith, r.arrays.kept.offs (v + 1) (omega arith), r.arrays.kept.few)),
  )

  opened : (0 < index_of (next f B) B) × (index_of (next f B) B + 1 < length B)
  opened =
      let size = points-length ver ln (suc k) (f.n - suc k) (drop s ent) in
      let more : count (λ x. among x later) f.n + 3 ≤ f.n = omega (arith, r.going.counted, size, k2, r.k_in) in
      let o = is_open f r.arrays.kept.listed r.arrays.valid B later r.going.is more in
      (o.0, o.1)

  -- there is one beside it on each side
  pub m_some : 3 ≤ length B
  m_some = omega (arith, opened)
