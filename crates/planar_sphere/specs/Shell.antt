-- What is left after some points are taken off: the points not gone, and their boundary, a round of m darts.
use Rattle.std.specs.Prelude.{ℕ, ◌+◌, ◌<◌, ◌≤◌, ◌≡◌, refl, Bool, true, false}
use Rattle.std.proofs.Common.{ap, sym, ◌∙◌, arith}
use Rattle.std.proofs.Math.Decide.{dec_lt}
use Rattle.planar_sphere.specs.Map.{Map, Net, φ, end, φ_in, org_φ}

pub record Shell : Type 0 where
  pub gone : ℕ → Bool
  pub m : ℕ
  pub b : ℕ → ℕ

pub record Rim (g : Map) (h : Shell) : Type 0 where
  pub two : 2 ≤ h.m
  pub b_in : (a : ℕ) → a < h.m → h.b a < g.D
  pub chain : (a c : ℕ) → c ≡ a + 1 → c < h.m → end g (h.b a) ≡ g.org (h.b c)
  pub close : (a : ℕ) → a + 1 ≡ h.m → end g (h.b a) ≡ g.org (h.b 0)
  pub apart : (a c : ℕ) → a < h.m → c < h.m → g.org (h.b a) ≡ g.org (h.b c) → a ≡ c
  pub there : (a : ℕ) → a < h.m → h.gone (g.org (h.b a)) ≡ false
  -- the face outside a boundary line has a point that is gone
  pub out : (a : ℕ) → a < h.m → h.gone (end g (φ g (h.b a))) ≡ true
  -- a point with a neighbour that is gone lies on the boundary
  pub shore : (d : ℕ) → d < g.D → h.gone (g.org d) ≡ false → h.gone (end g d) ≡ true → (a : ℕ) × (a < h.m) × (g.org (h.b a) ≡ g.org d)
  -- round a point, the neighbours that are gone end at the next point of the boundary, and begin after the one before
  pub last : (d : ℕ) → d < g.D → h.gone (g.org d) ≡ false → h.gone (end g d) ≡ true → h.gone (end g (g.σ d)) ≡ false → (a : ℕ) × (a < h.m) × (g.σ d ≡ h.b a)
  pub begin : (d : ℕ) → d < g.D → h.gone (g.org d) ≡ false → h.gone (end g d) ≡ false → h.gone (end g (g.σ d)) ≡ true → (a : ℕ) × (a < h.m) × (d ≡ g.α (h.b a))
  -- the faces outside have one colour, where no line at a point that is gone parts colours
  pub same :
      (r : ℕ → ℕ) → ((d : ℕ) → d < g.D → r (φ g d) ≡ r d) → ((d : ℕ) → d < g.D → h.gone (g.org d) ≡ true → r (g.α d) ≡ r d) →
      (a c : ℕ) → a < h.m → c < h.m → r (h.b a) ≡ r (h.b c)

module _ {g : Map} (n : Net g) {h : Shell} (i : Rim g h) where
  -- which boundary dart ends at a boundary point
  pub ends : (k a : ℕ) → k < h.m → a < h.m → 0 < a → end g (h.b k) ≡ g.org (h.b a) → k + 1 ≡ a
  ends k a kl al p e =
      elim (dec_lt (k + 1) h.m) [
        | yes l ↦ i.apart (k + 1) a l al (sym (i.chain k (k + 1) refl l) ∙ e)
        | no ge ↦ absurd (omega (arith, ge, p, i.apart 0 a (omega arith) al (sym (i.close k (omega (arith, ge, kl))) ∙ e)))
      ]

  pub end_there : (k : ℕ) → k < h.m → h.gone (end g (h.b k)) ≡ false
  end_there k kl =
      elim (dec_lt (k + 1) h.m) [
        | yes l ↦ ap h.gone (i.chain k (k + 1) refl l) ∙ i.there (k + 1) l
        | no ge ↦ ap h.gone (i.close k (omega (arith, ge, kl))) ∙ i.there 0 (omega arith)
      ]

  -- before a boundary dart, round its point, stands a neighbour that is gone
  pub before : (d a : ℕ) → d < g.D → a < h.m → g.σ d ≡ h.b a → h.gone (end g d) ≡ true
  before d a dl al e =
      let x : g.α d ≡ φ g (φ g (h.b a)) = sym (n.three _ (n.α_in d dl)) ∙ ap (λ y. φ g (φ g y)) (ap g.σ (n.αα d dl) ∙ e) in
      ap h.gone (ap g.org x ∙ org_φ n _ (φ_in n _ (i.b_in a al))) ∙ i.out a al
