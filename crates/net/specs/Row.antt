-- Step 5: which middle port each point inside the run takes, and why it reaches: port i or port i + 1 does, always.
-- It is said of any net g' that has the amounts of steps 1 to 4 and the middle row's height.
use Rattle.std.specs.Prelude.{ℕ, suc, ◌+◌, ◌*◌, ◌-◌, ◌/◌, ◌<◌, ◌≤◌, ◌≡◌, refl, Bool, true, false, ltb, if◌then◌else◌}
use Rattle.std.proofs.Common.{arith, ltb-true, ltb-false}
use Rattle.std.proofs.Math.Decide.{dec_le}
use Rattle.rules.specs.Adding.{middle_of}
use Rattle.plane.specs.Apart.{fa, fb}
use Rattle.plane.specs.Rise.{rise}
use Rattle.rules.specs.declared.Style.TheVariants.{OneBend}
use Rattle.net.specs.Net.{Net}
use Rattle.net.specs.Inv.{Points, Reach, Inv}
use Rattle.net.specs.Walls.{chain}
use Rattle.net.specs.Amounts.{Amounts, x_on, y_on, moves, moves_r, Shift, none, some, all, shift}
use Rattle.net.specs.Bend.{pt}

-- middle port i of q reaches p
pub record Hits (g : Net) (p q i : ℕ) : Type 0 where
  pub to_a : g.x q + i + g.y p ≤ g.x p + g.y q
  pub to_b : g.x p + g.y p + 2 * g.h q ≤ g.x q + g.y q + i

-- from is the first inner point of the run, counted from 1, that its own port doesn't reach, or r - l where there is none
pub record First (g g' : Net) (l r from : ℕ) : Type 0 where
  pub start : 0 < from
  pub hits : (i : ℕ) → 0 < i → i < from → Hits g' (g.w (l + i)) g.k i
  pub miss : from < r - l → ¬ Hits g' (g.w (l + from)) g.k from

-- the port that boundary point c of the run takes
abbrev pub port_at : ℕ → ℕ → ℕ → ℕ
port_at l from c = middle_of from (c - l)

-- ---- numbers

-- xp, yp is the place of the i-th point of a run of D + 1 before its move by s₁, X, Y the new point
module _ (xl yl xp yp xr yr X Y s₁ s₂ D i : ℕ) where
  -- port i is not too far right of the point, and port i + 1 is not too far left
  own_or_next : X + yl ≡ xl + 1 + Y → X + Y + 1 ≡ xr + s₁ + s₂ + yr → xl + yp + i ≤ xp + yl → xp + yp + (D - i) ≤ xr + yr → 0 < s₁ → 0 < s₂ → i < D →
      (X + i + yp ≤ xp + s₁ + Y) × (xp + s₁ + yp + 2 * ((D + 1) / 2) ≤ X + Y + (i + 1))
  own_or_next a b c d e f h = (omega arith, omega arith)

  -- where port i is too far left, port i + 1 is not too far right, and the row has a port to spare
  next : X + yl ≡ xl + 1 + Y → X + Y + 1 ≡ xr + s₁ + s₂ + yr → xl + yp + i ≤ xp + yl → xp + yp + (D - i) ≤ xr + yr → 0 < s₁ → 0 < s₂ → i < D →
      X + Y + i < xp + s₁ + yp + 2 * ((D + 1) / 2) → (X + (i + 1) + yp ≤ xp + s₁ + Y) × (D < 2 * ((D + 1) / 2))
  next a b c d e f h k = (omega arith, omega arith)

-- ---- every port of the row reaches its point

module _ {g g' : Net} {l r s₁ s₂ : ℕ} (inv : Inv g) (a : Amounts OneBend g g' l r s₁ s₂) (row : g'.h g.k ≡ (r - l + 1) / 2) where
  -- the points of g, and the run's bounds
  h : Points OneBend g
  h = inv.core.points

  lr : l < r
  lr = a.lr

  rm : r < g.m
  rm = a.rm

  -- along the boundary x - y and x + y grow at least as the index does
  steps_a : (c d : ℕ) → c ≤ d → d < g.m → g.x (g.w c) + g.y (g.w d) + d ≤ g.x (g.w d) + g.y (g.w c) + c
  steps_a c d b dm = omega (arith, rise fa (λ j. pt g (g.w j)) g.m (λ j jm. omega (arith, chain h j (suc j) (omega arith) jm)) c d b dm)

  steps_b : (c d : ℕ) → c ≤ d → d < g.m → g.x (g.w c) + g.y (g.w c) + d ≤ g.x (g.w d) + g.y (g.w d) + c
  steps_b c d b dm = omega (arith, rise fb (λ j. pt g (g.w j)) g.m (λ j jm. omega (arith, chain h j (suc j) (omega arith) jm)) c d b dm)

  -- where a boundary point inside the run stands in g'
  x_in : (c : ℕ) → l < c → c < r → g'.x (g.w c) ≡ g.x (g.w c) + s₁
  x_in c lc cr = go (shift l r s₁ s₂ c lr)
    where
      e : g'.x (g.w c) ≡ g.x (g.w c) + moves l r s₁ s₂ c
      e = x_on h a c (omega (arith, rm))

      go : Shift l r s₁ s₂ c → g'.x (g.w c) ≡ g.x (g.w c) + s₁
      go (none b q) = absurd (omega arith)
      go (some b b' q) = omega (arith, e)
      go (all b q) = absurd (omega arith)

  -- x + y of the new point, by that of w r in g
  new_b : g'.x g.k + g'.y g.k + 1 ≡ g.x (g.w r) + s₁ + s₂ + g.y (g.w r)
  new_b = omega (arith, a.new_b, x_on h a r rm, moves_r l r s₁ s₂ lr a.one a.two)

  -- the two facts on numbers, at boundary point c
  own_next : (c : ℕ) → l < c → c < r →
      (g'.x g.k + (c - l) + g'.y (g.w c) ≤ g'.x (g.w c) + g'.y g.k) ×
      (g'.x (g.w c) + g'.y (g.w c) + 2 * g'.h g.k ≤ g'.x g.k + g'.y g.k + (c - l + 1))
  own_next c lc cr =
      let t =
      own_or_next (g.x (g.w l)) (g.y (g.w l)) (g.x (g.w c)) (g.y (g.w c)) (g.x (g.w r)) (g.y (g.w r)) (g'.x g.k) (g'.y g.k) s₁ s₂ (r - l) (c - l)
      a.new_a new_b (omega (arith, steps_a l c (omega arith) (omega (arith, rm)))) (omega (arith, steps_b c r (omega arith) rm)) a.one a.two (omega arith)
      in
      let ex = x_in c lc cr in
      let ey = y_on h a c (omega (arith, rm)) in
      (omega arith, omega arith)

  next_a : (c : ℕ) → l < c → c < r → g'.x g.k + g'.y g.k + (c - l) < g'.x (g.w c) + g'.y (g.w c) + 2 * g'.h g.k →
      (g'.x g.k + (c - l + 1) + g'.y (g.w c) ≤ g'.x (g.w c) + g'.y g.k) × (r - l < 2 * g'.h g.k)
  next_a c lc cr b =
      let ex = x_in c lc cr in
      let ey = y_on h a c (omega (arith, rm)) in
      let t =
      next (g.x (g.w l)) (g.y (g.w l)) (g.x (g.w c)) (g.y (g.w c)) (g.x (g.w r)) (g.y (g.w r)) (g'.x g.k) (g'.y g.k) s₁ s₂ (r - l) (c - l)
      a.new_a new_b (omega (arith, steps_a l c (omega arith) (omega (arith, rm)))) (omega (arith, steps_b c r (omega arith) rm)) a.one a.two (omega arith)
      (omega arith)
      in
      (omega arith, omega arith)

  -- where port j fails, it is too far left
  missed : (j : ℕ) → 0 < j → j < r - l → ¬ Hits g' (g.w (l + j)) g.k j →
      g'.x g.k + g'.y g.k + (l + j - l) < g'.x (g.w (l + j)) + g'.y (g.w (l + j)) + 2 * g'.h g.k
  missed j z jd n =
      let o = own_next (l + j) (omega arith) (omega arith) in
      elim (dec_le (g'.x (g.w (l + j)) + g'.y (g.w (l + j)) + 2 * g'.h g.k) (g'.x g.k + g'.y g.k + j)) [
        | yes b ↦ absurd (n (record { to_a = omega arith; to_b = b }))
        | no b ↦ omega arith
      ]

  -- before the change each point's own port reaches it, from the change on the next one does
  pub reaches : (from : ℕ) → First g g' l r from → (c : ℕ) → l < c → c < r → Reach g' (g.w c) g.k (port_at l from c)
  reaches from f c lc cr = go (ltb (c - l) from) refl
    where
      go : (b : Bool) → ltb (c - l) from ≡ b → Reach g' (g.w c) g.k (if b then c - l else suc (c - l))
      go true e =
          let z : l + (c - l) ≡ c = omega arith in
          let t : Hits g' (g.w c) g.k (c - l) = rw z at (f.hits (c - l) (omega arith) (ltb-true (c - l) from e)) in
          record { first = omega arith; last = omega (arith, row); to_a = t.to_a; to_b = t.to_b }
      go false e =
          let b : from ≤ c - l = ltb-false (c - l) from e in
          let t = next_a (l + from) (omega (arith, f.start)) (omega arith) (missed from f.start (omega arith) (f.miss (omega arith))) in
          let o = own_next c lc cr in
          let s = steps_a (l + from) c (omega arith) (omega (arith, rm)) in
          let ex = x_in c lc cr in
          let ey = y_on h a c (omega (arith, rm)) in
          let ex' = x_in (l + from) (omega (arith, f.start)) (omega arith) in
          let ey' = y_on h a (l + from) (omega (arith, rm)) in
          record { first = omega arith; last = omega arith; to_a = omega arith; to_b = omega arith }
