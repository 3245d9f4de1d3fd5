-- How many lines end at a point: at least one more than its ports on a side, and at least twice the depth of its middle row.
use Rattle.std.specs.Prelude.{ℕ, zero, suc, ◌+◌, ◌*◌, ◌-◌, ◌<◌, ◌≤◌, ◌≡◌, cond, eqb}
use Rattle.std.proofs.Math.Path.{ap}
use Rattle.std.proofs.Common.{add-suc, add-zero, eq-eqb, arith}
use Rattle.std.proofs.Math.Decide.{dec_lt, ℕ_discrete}
use Rattle.rules.specs.declared.Style.TheVariants.{OneBend}
use Rattle.net.specs.Side.{Side, at}
use Rattle.net.specs.Net.{Net}
use Rattle.net.specs.Inv.{Points, Lines}
use Rattle.net.specs.Adds.{Line, old, tip, rib, Adds, Bends}
use Rattle.net.specs.Walls.{by_point}
use Rattle.net.specs.BendKinds.{stays, tips}

unfoldable pub tally : (ℕ → ℕ) → ℕ → ℕ
tally f zero = 0
tally f (suc n) = tally f n + f n

-- how often the line e ends at p
unfoldable pub hits : Net → ℕ → ℕ → ℕ
hits g p e = cond (eqb (g.u e) p) 1 0 + cond (eqb (g.v e) p) 1 0

unfoldable pub deg : Net → ℕ → ℕ
deg g p = tally (hits g p) g.L

tally_le : (f f' : ℕ → ℕ) (n : ℕ) → ((i : ℕ) → i < n → f i ≤ f' i) → tally f n ≤ tally f' n
unfolding tally
tally_le f f' zero h = omega arith
tally_le f f' (suc n) h = omega (arith, tally_le f f' n (λ i b. h i (omega arith)), h n (omega arith))

tally_more : (f : ℕ → ℕ) (n k : ℕ) → tally f n ≤ tally f (n + k)
unfolding tally
tally_more f n zero = rw (add-zero n) (omega arith)
tally_more f n (suc k) = rw (add-suc n k) (omega (arith, tally_more f n k))

-- one more from n on; one more at each
tally_one : (f : ℕ → ℕ) (n k i : ℕ) → n ≤ i → i < n + k → 0 < f i → tally f n + 1 ≤ tally f (n + k)
unfolding tally
tally_one f n zero i a b c = absurd (omega arith)
tally_one f n (suc k) i a b c =
    rw (add-suc n k)
    (elim (ℕ_discrete i (n + k)) [
      | yes e ↦ omega (arith, tally_more f n k, ap f e)
      | no d ↦ omega (arith, tally_one f n k i a (omega (arith, add-suc n k)) c)
    ])

tally_all : (f : ℕ → ℕ) (n k : ℕ) → ((i : ℕ) → n ≤ i → i < n + k → 0 < f i) → tally f n + k ≤ tally f (n + k)
unfolding tally
tally_all f n zero h = rw (add-zero n) (omega arith)
tally_all f n (suc k) h =
    rw (add-suc n k)
    (omega (arith, tally_all f n k (λ i a b. h i a (omega (arith, add-suc n k))), h (n + k) (omega arith) (omega (arith, add-suc n k))))

pub record Degs (g : Net) : Type 0 where
  pub sides : (s : Side) (p : ℕ) → p < g.k → g.d s p < deg g p
  pub depth : (p : ℕ) → p < g.k → 2 * g.h p ≤ deg g p

hit_u : (g : Net) (p e : ℕ) → g.u e ≡ p → 0 < hits g p e
unfolding hits
hit_u g p e q = simp (eq-eqb (g.u e) p q) (omega arith)

hit_v : (g : Net) (p e : ℕ) → g.v e ≡ p → 0 < hits g p e
unfolding hits
hit_v g p e q = simp (eq-eqb (g.v e) p q) (omega arith)

module _ {g g' : Net} {l r : ℕ} (h : Points OneBend g) (n : Lines OneBend g) (a : Adds OneBend g g' l r) where
  L-is : g'.L ≡ g.L + (r - l + 1)
  L-is = omega (arith, a.L', a.lr)

  hits_old : (p e : ℕ) → e < g.L → hits g p e ≤ hits g' p e
  unfolding hits
  hits_old p e el = let t = stays h a e el in rw (t.2, t.3) (omega arith)

  deg_old : (p : ℕ) → deg g p ≤ tally (hits g' p) g.L
  unfolding deg
  deg_old p = tally_le (hits g p) (hits g' p) g.L (hits_old p)

  deg_more : (p : ℕ) → deg g p ≤ deg g' p
  unfolding deg
  deg_more p = omega (arith, deg_old p, tally_more (hits g' p) g.L (r - l + 1), ap (tally (hits g' p)) L-is)

  new_e : (s : Side) (e : ℕ) → e < g'.L → g'.v e ≡ g.k → g.L ≤ e
  new_e s e el q =
      elim (dec_lt e g.L) [
        | yes b ↦ absurd (omega (arith, (stays h a e b).3, (n.ends e b).1))
        | no b ↦ omega arith
      ]

  deg-tip : (s : Side) → deg g (g.w (at s l r)) + 1 ≤ deg g' (g.w (at s l r))
  unfolding deg
  deg-tip s =
      let p = g.w (at s l r) in
      let t = tips h a s in
      omega (
        arith,
        deg_old p,
        tally_one (hits g' p) g.L (r - l + 1) t.0 (new_e s t.0 t.1 t.4) (omega (arith, L-is)) (hit_u g' p t.0 t.3),
        ap (tally (hits g' p)) L-is,
      )

  new_v : (e : ℕ) → g.L ≤ e → Line OneBend g g' l r a.port e → g'.v e ≡ g.k
  new_v e b (old el eu ev ek) = absurd (omega arith)
  new_v e b (tip t i eu ev ek) = ev
  new_v e b (rib i li ir en eu ev ek) = ev

  deg_new : r - l + 1 ≤ deg g' g.k
  unfolding deg
  deg_new =
      omega (
        arith,
        tally_all (hits g' g.k) g.L (r - l + 1) (λ e b c. hit_v g' g.k e (new_v e b (a.line e (omega (arith, L-is))))),
        ap (tally (hits g' g.k)) L-is,
      )

  sides_old : (s : Side) (p : ℕ) → p < g.k → g.d s p < deg g p → g'.d s p < deg g' p
  sides_old s p pk b =
      elim (ℕ_discrete p (g.w (at s l r))) [
        | yes e ↦ let t = deg-tip s in rw e (let b' = rw e at b in omega (arith, a.d_tip s))
        | no d ↦ omega (arith, a.d_old s p pk d, deg_more p)
      ]

  pub degs' : Bends g g' l r a → Degs g → Degs g'
  degs' m b =
      record {
        sides = λ s. by_point h a (λ p. g'.d s p < deg g' p) (λ p pk. sides_old s p pk (b.sides s p pk)) (omega (arith, a.d_new s, deg_new));
        depth =
            by_point h a (λ p. 2 * g'.h p ≤ deg g' p) (λ p pk. omega (arith, m.h' p pk, b.depth p pk, deg_more p)) (omega (arith, m.h_new, deg_new));
      }
