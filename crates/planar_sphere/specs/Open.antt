-- The first point taken off: the one after e's end, round e's point.
use Rattle.std.specs.Prelude.{ℕ, zero, suc, ◌+◌, ◌-◌, ◌<◌, ◌≤◌, ◌≡◌, ◌≢◌, true, false}
use Rattle.std.proofs.Math.Path.{refl}
use Rattle.std.proofs.Common.{ap, sym, ◌∙◌, inl, inr, arith}
use Rattle.std.proofs.Math.Decide.{ℕ_discrete, dec_lt}
use Rattle.planar_sphere.specs.Count.{bool, clash, put, put-here, put-case}
use Rattle.planar_sphere.specs.Map.{Map, Net, φ, end, turn, fan}
use Rattle.planar_sphere.specs.Shell.{Shell, Rim}
use Rattle.planar_sphere.specs.Arc.{turn-zero, turn_suc, turn_in, turn-org, turn_one, far_in, far-org, far-end, far_third}

-- the dart from the point taken off to e's point
abbrev pub hub : Map → ℕ → ℕ
hub g e = g.α (g.σ e)

pub record Opened (g : Map) (h : Shell) (e : ℕ) : Type 0 where
  pub gone' : (x : ℕ) → h.gone x ≡ put (g.org (hub g e)) (λ y. false) x
  -- once round, and not before
  pub once : turn g h.m (hub g e) ≡ hub g e
  pub new : (k : ℕ) → 0 < k → k < h.m → turn g k (hub g e) ≢ hub g e
  pub some : 0 < h.m
  pub lines : (x j : ℕ) → x + j + 1 ≡ h.m → h.b x ≡ φ g (g.σ (turn g j (hub g e)))

module _ {g : Map} (n : Net g) {h : Shell} (e : ℕ) (el : e < g.D) (v : Opened g h e) where
  abbrev z : ℕ
  z = hub g e

  zl : z < g.D
  zl = n.α_in _ (n.σ_in e el)

  abbrev u : ℕ → ℕ
  u k = turn g k (hub g e)

  ul : (k : ℕ) → u k < g.D
  ul k = turn_in n k z zl

  uo : (k : ℕ) → g.org (u k) ≡ g.org z
  uo k = turn-org n k z zl

  -- from index to turn
  record At (x : ℕ) : Type 0 where
    j : ℕ
    eq : x + j + 1 ≡ h.m
    line : h.b x ≡ φ g (g.σ (u j))

  at : (x : ℕ) → x < h.m → At x
  at x xl =
      let j : ℕ = h.m - (x + 1) in
      let q : x + j + 1 ≡ h.m = omega arith in
      record { j = j; eq = q; line = v.lines x j q }

  org_at : (x : ℕ) (a : At x) → g.org (h.b x) ≡ end g (u (suc a.j))
  org_at x a = ap g.org a.line ∙ far-org n (u a.j) (ul a.j) ∙ ap (end g) (sym (turn_suc g a.j z))

  end_at : (x : ℕ) (a : At x) → end g (h.b x) ≡ end g (u a.j)
  end_at x a = ap (end g) a.line ∙ far-end n (u a.j) (ul a.j)

  -- the darts 1..m are all, and all different
  turn_in-suc : (k : ℕ) → turn g (suc k) z ≡ turn g k (g.σ z)
  unfolding turn
  turn_in-suc k = refl

  ring_one : (j k : ℕ) → j < h.m → k < h.m → u (suc j) ≡ u (suc k) → j ≡ k
  ring_one j k jm km q =
      let p : ℕ = h.m - 1 in
      let ps : suc p ≡ h.m = omega (arith, v.some) in
      let hit : turn g p (g.σ z) ≡ z = sym (turn_in-suc p) ∙ ap u ps ∙ v.once in
      let f : (i : ℕ) → i < p → turn g i (g.σ z) ≢ z = λ i l y. v.new (suc i) (omega arith) (omega arith) (turn_in-suc i ∙ y) in
      elim (dec_lt j k) [
        | yes l ↦ absurd (turn_one g p (g.σ z) z f hit j k l (omega arith) (sym (turn_in-suc j) ∙ q ∙ turn_in-suc k))
        | no x ↦ elim (dec_lt k j) [
          | yes l ↦ absurd (turn_one g p (g.σ z) z f hit k j l (omega arith) (sym (turn_in-suc k) ∙ sym q ∙ turn_in-suc j))
          | no y ↦ omega (arith, x, y)
        ]
      ]

  ring_all : (q : ℕ) → (j : ℕ) × (j < h.m) × (u q ≡ u j)
  ring_all zero = (0, v.some, refl)
  ring_all (suc q) =
      let t = ring_all q in
      let s : u (suc q) ≡ u (suc t.0) = turn_suc g q z ∙ ap g.σ t.2 ∙ sym (turn_suc g t.0 z) in
      elim (ℕ_discrete (suc t.0) h.m) [
        | yes y ↦ (0, v.some, s ∙ ap u y ∙ v.once ∙ sym (turn-zero g z))
        | no ne ↦ (suc t.0, omega (arith, t.1, ne), s)
      ]

  ring : (d : ℕ) → d < g.D → g.org d ≡ g.org z → (j : ℕ) × (j < h.m) × (d ≡ u j)
  ring d dl o =
      let q = n.round z d zl dl (sym o) in
      let t = ring_all q.0 in
      (t.0, t.1, sym q.1 ∙ t.2)

  -- a dart of the ring is the next of another
  ring-suc : (d : ℕ) → d < g.D → g.org d ≡ g.org z → (j : ℕ) × (j < h.m) × (d ≡ u (suc j))
  ring-suc d dl o = let t = ring d dl o in go t.0 t.1 t.2
    where
      go : (k : ℕ) → k < h.m → d ≡ u k → (j : ℕ) × (j < h.m) × (d ≡ u (suc j))
      go zero l q =
          let j : ℕ = h.m - 1 in
          let js : suc j ≡ h.m = omega arith in
          (j, omega arith, q ∙ turn-zero g z ∙ sym v.once ∙ ap u (sym js))
      go (suc k) l q = (k, omega arith, q)

  here : (j : ℕ) → j < h.m → (x : ℕ) × (x < h.m) × (h.b x ≡ φ g (g.σ (u j)))
  here j jm =
      let x : ℕ = h.m - (j + 1) in
      (x, omega arith, v.lines x j (omega arith))

  -- ---- what is gone

  is_gone : (x : ℕ) → x ≡ g.org z → h.gone x ≡ true
  is_gone x q = v.gone' x ∙ ap (put (g.org z) (λ y. false)) q ∙ put-here _ _

  gone_is : (x : ℕ) → h.gone x ≡ true → x ≡ g.org z
  gone_is x y = elim (put-case _ _ x (sym (v.gone' x) ∙ y)) [ inl q ↦ q | inr t ↦ clash t refl ]

  left : (x : ℕ) → x ≢ g.org z → h.gone x ≡ false
  left x ne = elim (bool (h.gone x)) [ inr f ↦ f | inl t ↦ absurd (ne (gone_is x t)) ]

  -- ---- the ends of the boundary are e's

  pub zero-org : g.org (h.b 0) ≡ g.org e
  zero-org =
      let a = at 0 v.some in
      let q : suc a.j ≡ h.m = omega (arith, a.eq) in
      org_at 0 a ∙ ap (λ k. end g (u k)) q ∙ ap (end g) v.once ∙ ap g.org (n.αα _ (n.σ_in e el)) ∙ n.org_σ e el

  pub closing : (x : ℕ) → x + 1 ≡ h.m → h.b x ≡ g.α e
  closing x q =
      v.lines x 0 (omega arith) ∙ ap (λ d. φ g (g.σ d)) (turn-zero g z) ∙ ap (λ y. φ g (φ g (g.σ y))) (sym (n.αα e el)) ∙
      n.three (g.α e) (n.α_in e el)

  two' : 2 ≤ h.m
  two' =
      elim (ℕ_discrete h.m 1) [
        | no ne ↦ omega (arith, v.some, ne)
        | yes q ↦
            absurd (n.loop e el (sym zero-org ∙ ap g.org (closing 0 (omega arith))))
      ]

  pub opened : Rim g h
  opened =
      record {
        two = two';
        b_in = λ x xl. let a = at x xl in rw a.line (far_in n (u a.j) (ul a.j));
        chain = λ x c q cl.
            let a = at x (omega arith) in
            let b = at c cl in
            let y : a.j ≡ suc b.j = omega (arith, a.eq, b.eq) in
            end_at x a ∙ ap (λ k. end g (u k)) y ∙ sym (org_at c b);
        close = λ x q.
            ap (end g) (closing x q) ∙ ap g.org (n.αα e el) ∙ sym zero-org;
        apart = λ x c xl cl q.
            let a = at x xl in
            let b = at c cl in
            let y = ring_one a.j b.j (omega (arith, a.eq)) (omega (arith, b.eq))
            (n.simple _ _ (ul (suc a.j)) (ul (suc b.j)) (uo (suc a.j) ∙ sym (uo (suc b.j))) (sym (org_at x a) ∙ q ∙ org_at c b)) in
            omega (arith, a.eq, b.eq);
        there = λ x xl.
            let a = at x xl in
            left _ (λ q. n.loop (u (suc a.j)) (ul _) (uo (suc a.j) ∙ sym q ∙ org_at x a));
        out = λ x xl.
            let a = at x xl in
            is_gone _ (ap (λ d. end g (φ g d)) a.line ∙ far_third n (u a.j) (ul a.j) ∙ uo a.j);
        shore = λ d dl f y.
            let o : end g (g.α d) ≡ g.org d = ap g.org (n.αα d dl) in
            let k = ring-suc (g.α d) (n.α_in d dl) (gone_is _ y) in
            let x = here k.0 k.1 in
            (x.0, x.1, ap g.org x.2 ∙ far-org n _ (ul k.0) ∙ ap (end g) (sym (turn_suc g k.0 z) ∙ sym k.2) ∙ o);
        last = λ d dl f y f'.
            let k = ring-suc (g.α d) (n.α_in d dl) (gone_is _ y) in
            let x = here k.0 k.1 in
            (x.0, x.1, ap g.σ (sym (n.αα d dl)) ∙ ap (φ g) (k.2 ∙ turn_suc g k.0 z) ∙ sym x.2);
        begin = λ d dl f f' y.
            let sl = n.σ_in d dl in
            let k = ring (g.α (g.σ d)) (n.α_in _ sl) (gone_is _ y) in
            let c : φ g (g.σ (g.α (g.σ d))) ≡ g.α d =
            ap (λ x. φ g (φ g (g.σ x))) (sym (n.αα d dl)) ∙ n.three (g.α d) (n.α_in d dl) in
            let x = here k.0 k.1 in
            (x.0, x.1, sym (n.αα d dl) ∙ ap g.α (sym c ∙ ap (λ y. φ g (g.σ y)) k.2 ∙ sym x.2));
        same = λ r face cross x c xl cl.
            let all : (x : ℕ) → At x → r (h.b x) ≡ r z =
            λ x a. ap r (a.line ∙ ap (φ g) (sym (turn_suc g a.j z))) ∙ face _ (ul (suc a.j)) ∙
            fan n r face (u (suc a.j)) z (ul _) zl (uo (suc a.j)) (λ d dl o _. cross d dl (is_gone _ (o ∙ uo (suc a.j)))) in
            all x (at x xl) ∙ sym (all c (at c cl));
      }
