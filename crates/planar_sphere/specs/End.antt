-- With a boundary of two points nothing else is left.
use Rattle.std.specs.Prelude.{ℕ, zero, suc, ◌+◌, ◌<◌, ◌≡◌, refl, ◌⊎◌, Bool, true}
use Rattle.std.proofs.Common.{ap, sym, ◌∙◌, arith}
use Rattle.std.proofs.Math.Logic.{inl, inr}
use Rattle.std.proofs.Math.Decide.{ℕ_discrete}
use Rattle.planar_sphere.specs.Count.{same_bit, bit, bool, put, put-here, put_else, put_old, put-case, count, count-put, count_all}
use Rattle.planar_sphere.specs.Map.{Map, Net, end, turn}
use Rattle.planar_sphere.specs.Shell.{Shell, Rim}
use Rattle.planar_sphere.specs.Arc.{turn-zero, turn_suc, turn_in, turn-org}

module _ {g : Map} (n : Net g) {h : Shell} (w : Rim g h) (m2 : h.m ≡ 2) where
  l0 : h.b 0 < g.D
  l0 = w.b_in 0 (omega arith)

  l1 : h.b 1 < g.D
  l1 = w.b_in 1 (omega arith)

  e01 : end g (h.b 0) ≡ g.org (h.b 1)
  e01 = w.chain 0 1 refl (omega arith)

  e10 : end g (h.b 1) ≡ g.org (h.b 0)
  e10 = w.close 1 (omega arith)

  there_back : h.b 1 ≡ g.α (h.b 0)
  there_back = n.simple _ _ l1 (n.α_in _ l0) (sym e01) (e10 ∙ ap g.org (sym (n.αα _ l0)))

  back_there : h.b 0 ≡ g.α (h.b 1)
  back_there = sym (n.αα _ l0) ∙ ap g.α (sym there_back)

  -- a dart at either goes to the other or to a point that is gone
  only : (a c : ℕ) → a < h.m → c < h.m → h.b a ≡ g.α (h.b c) → (d : ℕ) → d < g.D → g.org d ≡ g.org (h.b a) → (d ≡ h.b a) ⊎ (h.gone (end g d) ≡ true)
  only a c am cm ac d dl o = let q = n.round (h.b a) d (w.b_in a am) dl (sym o) in rw q.1 at (go q.0)
    where
      go : (q : ℕ) → (turn g q (h.b a) ≡ h.b a) ⊎ (h.gone (end g (turn g q (h.b a))) ≡ true)
      go zero = inl (turn-zero g _)
      go (suc q) =
          let d : ℕ = turn g q (h.b a) in
          let dl : d < g.D = turn_in n q _ (w.b_in a am) in
          let o : g.org d ≡ g.org (h.b a) = turn-org n q _ (w.b_in a am) in
          rw (turn_suc g q (h.b a))
          (elim (go q) [
            | inl e ↦ inr (ap (λ x. h.gone (end g (g.σ x))) (e ∙ ac) ∙ w.out c cm)
            | inr y ↦ elim (bool (h.gone (end g (g.σ d)))) [
              | inl t ↦ inr t
              | inr f ↦
                  let x = w.last d dl (ap h.gone o ∙ w.there a am) y f in
                  let k = w.apart x.0 a x.1 am (ap g.org (sym x.2) ∙ n.org_σ d dl ∙ o) in
                  inl (x.2 ∙ ap h.b k)
            ]
          ])

  -- gone, or one of the two
  rest : ℕ → Bool
  rest = put (g.org (h.b 0)) (put (g.org (h.b 1)) h.gone)

  rest_0 : rest (g.org (h.b 0)) ≡ true
  unfolding rest
  rest_0 = put-here _ _

  rest_1 : rest (g.org (h.b 1)) ≡ true
  unfolding rest
  rest_1 = put_old _ _ _ (put-here _ _)

  rest-gone : (x : ℕ) → h.gone x ≡ true → rest x ≡ true
  unfolding rest
  rest-gone x t = put_old _ _ _ (put_old _ _ _ t)

  rest-case : (x : ℕ) → rest x ≡ true → (x ≡ g.org (h.b 0)) ⊎ ((x ≡ g.org (h.b 1)) ⊎ (h.gone x ≡ true))
  unfolding rest
  rest-case x t = elim (put-case _ _ x t) [ inl e ↦ inl e | inr t ↦ inr (put-case _ _ x t) ]

  rest-along : (d : ℕ) → d < g.D → rest (g.org d) ≡ true → rest (end g d) ≡ true
  rest-along d dl t =
      elim (rest-case _ t) [
        | inl o ↦ elim (only 0 1 (omega arith) (omega arith) back_there d dl o) [
          | inl e ↦ ap rest (ap (end g) e ∙ e01) ∙ rest_1
          | inr y ↦ rest-gone _ y
        ]
        | inr t ↦ elim t [
          | inl o ↦ elim (only 1 0 (omega arith) (omega arith) there_back d dl o) [
            | inl e ↦ ap rest (ap (end g) e ∙ e10) ∙ rest_0
            | inr y ↦ rest-gone _ y
          ]
          | inr y ↦ elim (bool (h.gone (end g d))) [
            | inl t ↦ rest-gone _ t
            | inr f ↦
                let x = w.shore (g.α d) (n.α_in d dl) f (ap (λ z. h.gone (g.org z)) (n.αα d dl) ∙ y) in
                go x.0 x.1 x.2
          ]
        ]
      ]
    where
      go : (a : ℕ) → a < h.m → g.org (h.b a) ≡ end g d → rest (end g d) ≡ true
      go a am e =
          elim (ℕ_discrete a 0) [
            | yes z ↦ ap rest (sym e ∙ ap (λ k. g.org (h.b k)) z) ∙ rest_0
            | no ne ↦ let z : a ≡ 1 = omega (arith, ne) in ap rest (sym e ∙ ap (λ k. g.org (h.b k)) z) ∙ rest_1
          ]

  all_rest : (x : ℕ) → x < g.n → rest x ≡ true
  all_rest x xl =
      elim (bool (rest x)) [
        | inl t ↦ t
        | inr f ↦
            let e = n.joined (λ y. bit (rest y))
            (λ d dl. same_bit _ _ (rest-along d dl) (λ t. ap rest (ap g.org (sym (n.αα d dl))) ∙ rest-along (g.α d) (n.α_in d dl) t))
            x (g.org (h.b 0)) xl (n.org_in _ l0) in
            let z : ◌≡◌ {A = ℕ} 0 1 = ap bit (sym f) ∙ e ∙ ap bit rest_0 in
            absurd (omega arith)
      ]

  pub left_two : count h.gone g.n + 2 ≡ g.n
  unfolding rest
  left_two =
      omega (
        arith,
        count_all rest g.n all_rest,
        count-put (g.org (h.b 1)) h.gone g.n (n.org_in _ l1) (w.there 1 (omega arith)),
        count-put (g.org (h.b 0)) (put (g.org (h.b 1)) h.gone) g.n (n.org_in _ l0)
            (put_else _ _ _ (λ e. omega (arith, w.apart 0 1 (omega arith) (omega arith) e)) ∙ w.there 0 (omega arith)),
      )
