-- The darts round a point that is taken off, and the boundary that its neighbours form.
use Rattle.std.specs.Prelude.{ℕ, zero, suc, ◌+◌, ◌-◌, ◌<◌, ◌≤◌, ◌≡◌, refl, ◌≢◌, true, false}
use Rattle.std.proofs.Common.{ap, sym, ◌∙◌, inl, inr, arith, zero-add}
use Rattle.std.proofs.Math.Decide.{ℕ_discrete}
use Rattle.planar_sphere.specs.Count.{bool, clash}
use Rattle.planar_sphere.specs.Map.{Map, Net, φ, end, turn, φ_in, org_φ}
use Rattle.planar_sphere.specs.Shell.{Shell, Rim, ends, end_there}

pub turn-zero : (g : Map) (d : ℕ) → turn g zero d ≡ d
unfolding turn
turn-zero g d = refl

pub turn_suc : (g : Map) (q d : ℕ) → turn g (suc q) d ≡ g.σ (turn g q d)
unfolding turn
turn_suc g zero d = refl
turn_suc g (suc q) d = turn_suc g q (g.σ d)

pub turn_in : {g : Map} → Net g → (q d : ℕ) → d < g.D → turn g q d < g.D
turn_in {g} n zero d l = rw (turn-zero g d) l
turn_in {g} n (suc q) d l = rw (turn_suc g q d) (n.σ_in _ (turn_in n q d l))

pub turn-org : {g : Map} (n : Net g) (q d : ℕ) → d < g.D → g.org (turn g q d) ≡ g.org d
turn-org {g} n zero d l = ap g.org (turn-zero g d)
turn-org {g} n (suc q) d l = ap g.org (turn_suc g q d) ∙ n.org_σ _ (turn_in n q d l) ∙ turn-org n q d l

-- the line that faces d's point: from the end of σ d to the end of d
module _ {g : Map} (n : Net g) (d : ℕ) (dl : d < g.D) where
  sl : g.σ d < g.D
  sl = n.σ_in d dl

  pub far_in : φ g (g.σ d) < g.D
  far_in = φ_in n _ sl

  pub far-org : g.org (φ g (g.σ d)) ≡ end g (g.σ d)
  far-org = org_φ n _ sl

  far_α : φ g (φ g (g.σ d)) ≡ g.α d
  far_α = ap (λ x. φ g (φ g (g.σ x))) (sym (n.αα d dl)) ∙ n.three (g.α d) (n.α_in d dl)

  pub far-end : end g (φ g (g.σ d)) ≡ end g d
  far-end = sym (org_φ n _ far_in) ∙ ap g.org far_α

  pub far_third : end g (φ g (φ g (g.σ d))) ≡ g.org d
  far_third = ap (end g) far_α ∙ ap g.org (n.αα d dl)

-- the darts that stay, round the t-th boundary point, from the one to the next boundary point to the one to the boundary point before, s
pub record Arc (g : Map) (h : Shell) (s t p : ℕ) : Type 0 where
  pub prev : s + 1 ≡ t
  pub next : t + 1 < h.m
  pub stay : (k : ℕ) → k ≤ p → h.gone (end g (turn g k (h.b t))) ≡ false
  pub first : (k : ℕ) → k < p → turn g k (h.b t) ≢ g.α (h.b s)
  pub at_end : turn g p (h.b t) ≡ g.α (h.b s)

pub first_hit : (g : Map) (q d z : ℕ) → turn g q d ≡ z → (p : ℕ) × ((k : ℕ) → k < p → turn g k d ≢ z) × (turn g p d ≡ z)
unfolding turn
first_hit g zero d z e = (0, (λ k l. absurd (omega arith)), e)
first_hit g (suc q) d z e =
    let t = first_hit g q (g.σ d) z e in
    elim (ℕ_discrete d z) [
      | yes y ↦ (0, (λ k l. absurd (omega arith)), turn-zero g d ∙ y)
      | no ne ↦ (suc t.0, (λ k l. less t.0 t.1 ne k l), t.2)
    ]
  where
    less : (p : ℕ) → ((k : ℕ) → k < p → turn g k (g.σ d) ≢ z) → d ≢ z → (k : ℕ) → k < suc p → turn g k d ≢ z
    less p f ne zero l e = ne (sym (turn-zero g d) ∙ e)
    less p f ne (suc k) l e = f k (omega arith) e

pub turn-add : (g : Map) (j k d : ℕ) → turn g (j + k) d ≡ turn g j (turn g k d)
turn-add g zero k d = ap (λ x. turn g x d) (zero-add k) ∙ sym (turn-zero g _)
turn-add g (suc j) k d =
    ap (λ x. turn g x d) (let e : suc j + k ≡ suc (j + k) = omega arith in e) ∙ turn_suc g (j + k) d ∙ ap g.σ (turn-add g j k d) ∙ sym (turn_suc g j _)

-- up to the first hit no dart comes twice
pub turn_one :
    (g : Map) (p d z : ℕ) → ((k : ℕ) → k < p → turn g k d ≢ z) → turn g p d ≡ z → (j k : ℕ) → j < k → k ≤ p → turn g j d ≡ turn g k d → ⊥
turn_one g p d z f e j k l kp q =
    f (p - k + j) (omega arith)
    (turn-add g (p - k) j d ∙ ap (turn g (p - k)) q ∙ sym (turn-add g (p - k) k d) ∙ ap (λ x. turn g x d) (let y : p - k + k ≡ p = omega arith in y) ∙ e)

module _ {g : Map} (n : Net g) {h : Shell} (w : Rim g h) (s t : ℕ) (st : s + 1 ≡ t) (tm : t + 1 < h.m) where
  abbrev u : ℕ → ℕ
  u k = turn g k (h.b t)

  tl : h.b t < g.D
  tl = w.b_in t (omega arith)

  staying : (p : ℕ) → ((k : ℕ) → k < p → u k ≢ g.α (h.b s)) → (k : ℕ) → k ≤ p → h.gone (end g (u k)) ≡ false
  staying p f zero l = rw (turn-zero g (h.b t)) (end_there n w t (omega arith))
  staying p f (suc k) l =
      elim (bool (h.gone (end g (u (suc k))))) [
        | inr z ↦ z
        | inl y ↦
            let ih = staying p f k (omega arith) in
            let o = turn-org n k (h.b t) tl in
            let x = w.begin (u k) (turn_in n k _ tl) (ap h.gone o ∙ w.there t (omega arith)) ih (ap (λ v. h.gone (end g v)) (sym (turn_suc g k (h.b t))) ∙ y) in
            let q = ends n w x.0 t x.1 (omega arith) (omega arith) (ap g.org (sym x.2) ∙ o) in
            let q' : x.0 ≡ s = omega arith in
            absurd (f k (omega arith) (x.2 ∙ ap (λ v. g.α (h.b v)) q'))
      ]

  -- the first hit is the arc
  pub arc_of : (p : ℕ) → ((k : ℕ) → k < p → turn g k (h.b t) ≢ g.α (h.b s)) → turn g p (h.b t) ≡ g.α (h.b s) → Arc g h s t p
  arc_of p f e = record { prev = st; next = tm; stay = staying p f; first = f; at_end = e }

  pub arc : (p : ℕ) × Arc g h s t p
  arc =
      let z = g.α (h.b s) in
      let zl = n.α_in _ (w.b_in s (omega arith)) in
      let q = n.round (h.b t) z tl zl (sym (w.chain s t (omega arith) (omega arith))) in
      let y = first_hit g q.0 (h.b t) z q.1 in
      (y.0, record { prev = st; next = tm; stay = staying y.0 y.1; first = y.1; at_end = y.2 })

  -- it has every dart there that stays
  module _ (p : ℕ) (a : Arc g h s t p) where
    pub some-step : 0 < p
    some-step =
        elim (ℕ_discrete p 0) [
          | no ne ↦ omega (arith, ne)
          | yes z ↦
              let e : h.b t ≡ g.α (h.b s) = sym (turn-zero g (h.b t)) ∙ ap u (sym z) ∙ a.at_end in
              absurd (omega (
                arith,
                w.apart (t + 1) s tm (omega arith)
                    (sym (w.chain t (t + 1) refl tm) ∙ ap (end g) e ∙ ap g.org (n.αα _ (w.b_in s (omega arith)))),
              ))
        ]

    data Where (d : ℕ) : Type 0 where
      stays : (k : ℕ) → k ≤ p → d ≡ u k → Where d
      goes : h.gone (end g d) ≡ true → Where d

    where_next : (d : ℕ) → d < g.D → g.org d ≡ g.org (h.b t) → Where d → Where (g.σ d)
    where_next d dl o (stays k l e) =
        elim (ℕ_discrete k p) [
          | no ne ↦ stays (suc k) (omega (arith, ne)) (ap g.σ e ∙ sym (turn_suc g k (h.b t)))
          | yes z ↦ goes (ap (λ x. h.gone (end g (g.σ x))) (e ∙ ap u z ∙ a.at_end) ∙ w.out s (omega arith))
        ]
    where_next d dl o (goes y) =
        elim (bool (h.gone (end g (g.σ d)))) [
          | inl y ↦ goes y
          | inr f ↦
              let x = w.last d dl (ap h.gone o ∙ w.there t (omega arith)) y f in
              let q = w.apart x.0 t x.1 (omega arith) (ap g.org (sym x.2) ∙ n.org_σ d dl ∙ o) in
              stays 0 (omega arith) (x.2 ∙ ap h.b q ∙ sym (turn-zero g (h.b t)))
        ]

    where_turn : (q : ℕ) → Where (u q)
    where_turn zero = stays 0 (omega arith) refl
    where_turn (suc q) = rw (turn_suc g q (h.b t)) (where_next (u q) (turn_in n q _ tl) (turn-org n q _ tl) (where_turn q))

    pub on_arc : (d : ℕ) → d < g.D → g.org d ≡ g.org (h.b t) → h.gone (end g d) ≡ false → (k : ℕ) × (k ≤ p) × (d ≡ u k)
    on_arc d dl o f =
        let q = n.round (h.b t) d tl dl (sym o) in
        go (rw q.1 at (where_turn q.0))
      where
        go : Where d → (k : ℕ) × (k ≤ p) × (d ≡ u k)
        go (stays k l e) = (k, l, e)
        go (goes y) = clash y f
