-- What a program keeps: which points are gone, and the boundary by its points. Points are the file's vertices, counted from 0.
use Rattle.std.specs.Prelude.{ℕ, suc, ◌+◌, ◌-◌, ◌<◌, ◌≤◌, ◌≡◌, refl, false}
use Rattle.std.proofs.Math.Path.{ap, sym}
use Rattle.std.proofs.Common.{◌∙◌, arith}
use Rattle.std.proofs.Math.Decide.{dec_lt}
use Rattle.planar_rules.specs.PlanarCode.{Flat, after, back}
use Rattle.planar_sphere.specs.Count.{put, put_same, count, count-put, count_same}
use Rattle.planar_sphere.specs.Map.{Map, Net, end, turn, φ}
use Rattle.planar_sphere.specs.Flat.{Listed, once, before, Valid}
use Rattle.planar_sphere.specs.Shell.{Shell, Rim}
use Rattle.planar_sphere.specs.Cross.{Chordless}
use Rattle.planar_sphere.specs.Arc.{Arc, arc_of, turn_in, turn-org, turn_suc, far-org}
use Rattle.planar_sphere.specs.Take.{Taken, run, below, above}
use Rattle.planar_sphere.specs.Open.{Opened, hub}
use Rattle.planar_sphere.proofs.Check.{net_of_lem, back_own}
use Rattle.planar_sphere.specs.Order.{take, start, first, next}
use Rattle.planar_sphere.proofs.Order.{sound, never_stuck, take_is}
use Rattle.planar_sphere.specs.Program.{State, net-map, Is, Free, Goes}

module _ (f : Flat) (l : Listed f) (v : Valid f) where
  n : Net (net-map f)
  n = net_of_lem l v

  some : 0 < f.D
  some = omega (arith, v.lines, v.four)

  ends-nbr : (d : ℕ) → d < f.D → end (net-map f) d ≡ f.nbr d
  ends-nbr d dl = back_own v d dl

  -- the vertex k places on from d, which is e
  pub turned-nbr : (k d e : ℕ) → d < f.D → e ≡ d → end (net-map f) (turn (net-map f) k d) ≡ f.nbr (turn (net-map f) k e)
  turned-nbr k d e dl q = ends-nbr _ (turn_in n k d dl) ∙ ap (λ x. f.nbr (turn (net-map f) k x)) (sym q)

  chordless : (s : State) (i : Is f s) (t : ℕ) → t < s.m → Free f s t → Chordless (net-map f) i.h t
  chordless s i t tl free d k dl kl p q =
      let kl' : k < s.m = omega (arith, i.m) in
      free d k dl kl' (p ∙ sym (i.w t (omega (arith, i.m)))) (sym (ends-nbr d dl) ∙ q ∙ sym (i.w k kl))

  pub pick : (s : State) → Is f s → count s.gone f.n + 3 ≤ f.n → (t : ℕ) × (0 < t) × (t + 1 < s.m) × Free f s t
  pick s i more =
      let e = count_same s.gone i.h.gone f.n (λ x _. i.gone x) in
      let t = never_stuck n 0 some i.shelled (omega (arith, e)) in (
        t.0,
        t.1,
        omega (arith, t.2, i.m),
        λ d k dl kl p q.
            t.3 d k dl (omega (arith, i.m)) (p ∙ i.w t.0 (omega (arith, t.2))) (ends-nbr d dl ∙ q ∙ i.w k (omega (arith, i.m))),
      )

  module _ (s s' : State) (i : Is f s) (t : ℕ) (t0 : 0 < t) (tm : t + 1 < s.m) (free : Free f s t) (d0 p : ℕ) (go : Goes f s s' t d0 p) where
    abbrev g : Map
    g = net-map f

    abbrev h : Shell
    h = i.h

    abbrev a : ℕ
    a = t - 1

    rim : Rim g h
    rim = sound n 0 some i.shelled

    at : a + 1 ≡ t
    at = omega arith

    tm' : t + 1 < h.m
    tm' = omega (arith, i.m)

    al : h.b a < f.D
    al = rim.b_in a (omega (arith, tm'))

    tl : h.b t < f.D
    tl = rim.b_in t (omega (arith, tm'))

    is_d0 : d0 ≡ h.b t
    is_d0 =
        n.simple d0 (h.b t) go.d0_in tl (go.d0-own ∙ i.w t (omega (arith, tm')))
        (ends-nbr d0 go.d0_in ∙ go.d0-nbr ∙ i.w (t + 1) tm' ∙ sym (rim.chain t (t + 1) refl tm'))

    before_end : end g (g.α (h.b a)) ≡ s.w a
    before_end = ap g.org (n.αα _ al) ∙ sym (i.w a (omega (arith, tm')))

    its_arc : Arc g h a t p
    its_arc =
        arc_of n rim a t at tm' p
        (λ k kp e. go.not_yet k kp (sym (turned-nbr k (h.b t) d0 tl is_d0) ∙ ap (end g) e ∙ before_end))
        (n.simple _ _ (turn_in n p _ tl) (n.α_in _ al) (turn-org n p _ tl ∙ sym (rim.chain a t (sym at) (omega (arith, tm'))))
        (turned-nbr p (h.b t) d0 tl is_d0 ∙ go.hit ∙ sym before_end))

    less : Chordless g h t
    less = chordless s i t (omega arith) free

    its_taken : Taken g h (take g h a t p) a t p
    its_taken = take_is g h a t p at rim.two

    w' : (x : ℕ) → x < (take g h a t p).m → s'.w x ≡ f.own ((take g h a t p).b x)
    w' x xl =
        elim (dec_lt x t) [
          | yes b ↦
              go.low x b ∙ i.w x (omega (arith, tm')) ∙ sym (below n rim a t p its_arc less its_taken x (omega (arith, at)))
          | no b ↦ elim (dec_lt x (t + p)) [
            | yes c ↦
                let j : ℕ = t + p - (x + 1) in
                go.run x j (omega (arith, b)) (omega arith) ∙ sym (turned-nbr j (h.b t) d0 tl is_d0) ∙ sym (run n rim a t p its_arc less its_taken x j (omega (arith, b)) (omega (arith, at)))
            | no c ↦
                let y : ℕ = x + 2 - p in
                let q : y + p ≡ x + 2 = omega (arith, c) in
                let ty : t < y = omega (arith, c) in
                go.high x y ty q ∙ i.w y (omega (arith, q, its_taken.m')) ∙ sym (above n rim a t p its_arc less its_taken x y ty q)
          ]
        ]

    pub goes : Is f s'
    goes =
        record {
          h = take g h a t p;
          shelled = next a t p i.shelled its_arc less its_taken;
          gone = λ x. go.gone' x ∙ put_same _ _ s.gone h.gone x (i.w t (omega (arith, tm'))) (i.gone x) ∙ sym (its_taken.gone' x);
          m = omega (arith, go.m', its_taken.m', i.m);
          w = w';
        }

    pub fewer : count s'.gone f.n ≡ count s.gone f.n + 1
    fewer =
        count_same s'.gone (put (s.w t) s.gone) f.n (λ x _. go.gone' x) ∙
        count-put (s.w t) s.gone f.n (rw (i.w t (omega (arith, tm'))) (l.own_in _ tl))
        (i.gone _ ∙ ap h.gone (i.w t (omega (arith, tm'))) ∙ rim.there t (omega (arith, tm')))

  -- the first state: v, the neighbour listed after the first one of vertex 0, is gone; its list, read backwards from vertex 0, is the boundary
  abbrev pub top : ℕ
  top = f.nbr (after f 0)

  pub record First (s : State) (z : ℕ) : Type 0 where
    pub z_in : z < f.D
    pub z_own : f.own z ≡ top
    pub z_nbr : f.nbr z ≡ f.own 0
    pub gone' : (x : ℕ) → s.gone x ≡ put top (λ y. false) x
    pub m' : s.m ≡ f.off (top + 1) - f.off top
    pub w' : (x j : ℕ) → 0 < j → x + j ≡ s.m → s.w x ≡ f.nbr (turn (net-map f) j z)

  module _ (s : State) (z : ℕ) (c : First s z) where
    e0 : after f 0 < f.D
    e0 = n.σ_in 0 some

    is_hub : z ≡ hub (net-map f) 0
    is_hub =
        n.simple z (hub (net-map f) 0) c.z_in (n.α_in _ e0) (c.z_own ∙ sym (back_own v _ e0))
        (ends-nbr z c.z_in ∙ c.z_nbr ∙ sym (n.org_σ 0 some) ∙ ap f.own (sym (n.αα _ e0)))

    m_is : f.off (f.own z + 1) - f.off (f.own z) ≡ s.m
    m_is = ap (λ v. f.off (v + 1) - f.off v) c.z_own ∙ sym c.m'

    opens : Opened (net-map f) (start (net-map f) 0 s.m) 0
    unfolding start
    opens =
        record {
          gone' = λ x. refl;
          once = ap (turn (net-map f) s.m) (sym is_hub) ∙ ap (λ k. turn (net-map f) k z) (sym m_is) ∙ once l (back f) z c.z_in ∙ is_hub;
          new = λ k k0 km e.
              before l (back f) z k c.z_in k0 (omega (arith, m_is)) (ap (turn (net-map f) k) is_hub ∙ e ∙ sym is_hub);
          some = omega (arith, m_is, l.from z c.z_in, l.upto z c.z_in);
          lines = λ x j q. let i : s.m - (x + 1) ≡ j = omega arith in ap (λ k. φ (net-map f) (after f (turn (net-map f) k (hub (net-map f) 0)))) i;
        }

    pub begins : Is f s
    unfolding start
    begins =
        record {
          h = start (net-map f) 0 s.m;
          shelled = first opens;
          gone = λ x. c.gone' x ∙ put_same _ _ (λ y. false) (λ y. false) x (sym c.z_own ∙ ap f.own is_hub) refl;
          m = refl;
          w = λ x xl.
              let j : ℕ = s.m - (x + 1) in
              let q : x + suc j ≡ s.m = omega arith in
              let zl = n.α_in _ e0 in
              let ul = turn_in n j (hub (net-map f) 0) zl in
              c.w' x (suc j) (omega arith) q ∙ ap (λ d. f.nbr (turn (net-map f) (suc j) d)) is_hub ∙ ap f.nbr (turn_suc (net-map f) j (hub (net-map f) 0)) ∙
              sym (ends-nbr _ (n.σ_in _ ul)) ∙ sym (far-org n _ ul);
        }
