-- What a straight drawing keeps: the clauses that are its own. The rest are those of both drawings (Edges, Planar, Within).
use Rattle.std.specs.Prelude.{ℕ, ◌+◌, ◌<◌, ◌≤◌, ◌≡◌, length, get_or}
use Rattle.std.proofs.Common.{arith}
use Rattle.rules.specs.Points.{Drawing, m}
use Rattle.rules.specs.DrawingFile.{highest}
use Rattle.rules.proofs.Lengths.{high_most, high-least}
use Rattle.net.specs.Parity.{parity}
use Rattle.net.specs.Size.{inside, top}
use Rattle.promise.specs.Nets.{net_of}
use Rattle.promise.specs.Promise.{Even, Wide, Finished}
use Rattle.promise.specs.Sound.{Unbent}
use Rattle.promise.specs.Standing.{Ranged}

module _ {d : Drawing} (s : Unbent d) where
  pub even : Even d
  even i im = omega (arith, parity s.core.corners i im)

  pub wide : Wide d
  wide = s.width.width

  -- the heights are at most k - 2
  low : (i : ℕ) → i < length d.ys → get_or d.ys i 0 + 2 ≤ d.k
  low i h = (inside s.core s.width i (omega (arith, s.sound.sized.ys))).2

  -- and once three points are left on the boundary, that between points 1 and 2 is so high
  height : m d ≡ 3 → highest d.ys + 2 ≡ d.k
  height e =
      let p = (net_of d).w 1 in
      let k : p < length d.ys = omega (arith, (s.core.points.on 1 (omega arith)).0, s.sound.sized.ys) in
      let t = top s.core s.width e in
      omega (arith, high_most d.ys p k, high-least d.ys (highest_at p) (below p t), t)
    where
      highest_at : ℕ → ℕ
      highest_at p = get_or d.ys p 0

      below : (p : ℕ) → highest_at p + 2 ≡ d.k → (i : ℕ) → i < length d.ys → get_or d.ys i 0 ≤ highest_at p
      below p t i h = omega (arith, low i h)

  pub finished : Ranged d → Finished d
  finished r e = (omega (arith, wide), omega (arith, height (r.closed e)))
