-- Chords of the boundary do not cross; and where each boundary point between the first and the last had a chord, two would.
use Rattle.std.specs.Prelude.{ℕ, zero, suc, ◌-◌, ◌+◌, ◌*◌, ◌<◌, ◌≤◌, ◌≡◌, refl, ◌≢◌, ◌⊎◌, Bool, true, false}
use Rattle.std.proofs.Common.{ap, sym, ◌∙◌, inl, inr, arith, add-zero}
use Rattle.std.proofs.Math.Decide.{ℕ_discrete, dec_lt}
use Rattle.planar_sphere.specs.Count.{count, put, put-here, put_old, put-case, bool, clash, search_all}
use Rattle.planar_sphere.specs.Map.{Map, Net, end, rep, is_rep, rep_α, rep_inj, walk, around, fan, heal, whole}
use Rattle.planar_sphere.specs.Reveal.{Faces, OneFace, spare}
use Rattle.planar_sphere.specs.Shell.{Shell, Rim, ends, before}
use Rattle.planar_sphere.specs.Cross.{Chord, Chordless}

-- c, f 0, .. f (k - 1)
unfoldable among : ℕ → (ℕ → ℕ) → ℕ → ℕ → Bool
among c f zero = put c (λ x. false)
among c f (suc k) = put (f k) (among c f k)

among_c : (c : ℕ) (f : ℕ → ℕ) (k : ℕ) → among c f k c ≡ true
unfolding among
among_c c f zero = put-here c _
among_c c f (suc k) = put_old _ _ _ (among_c c f k)

among_f : (c : ℕ) (f : ℕ → ℕ) (k j : ℕ) → j < k → among c f k (f j) ≡ true
unfolding among
among_f c f zero j l = absurd (omega arith)
among_f c f (suc k) j l = elim (ℕ_discrete j k) [ yes e ↦ rw e (put-here _ _) | no ne ↦ put_old _ _ _ (among_f c f k j (omega (arith, ne))) ]

among-case : (c : ℕ) (f : ℕ → ℕ) (k x : ℕ) → among c f k x ≡ true → (x ≡ c) ⊎ ((j : ℕ) × (j < k) × (x ≡ f j))
unfolding among
among-case c f zero x t = elim (put-case _ _ _ t) [ inl e ↦ inl e | inr t ↦ clash t refl ]
among-case c f (suc k) x t =
    elim (put-case _ _ _ t) [
      | inl e ↦ inr (k, omega arith, e)
      | inr t ↦ elim (among-case c f k x t) [ inl e ↦ inl e | inr w ↦ inr (w.0, omega (arith, w.1), w.2) ]
    ]

-- a round: boundary darts from the i-th on, k of them, and a chord c from the last one's end back
data On (g : Map) (h : Shell) (i k c d : ℕ) : Type 0 where
  fore : (j : ℕ) → j < k → d ≡ h.b (i + j) → On g h i k c d
  back : (j : ℕ) → j < k → d ≡ g.α (h.b (i + j)) → On g h i k c d
  chord : d ≡ c → On g h i k c d
  drohc : d ≡ g.α c → On g h i k c d

module _
    {g : Map} (n : Net g) (half : 2 * count (is_rep g) g.D ≡ g.D) {h : Shell} (w : Rim g h) (i k c : ℕ) (k2 : 2 ≤ k) (jm : i + k < h.m) (cl : c < g.D)
    (c-org : g.org c ≡ g.org (h.b (i + k))) (c-end : end g c ≡ g.org (h.b i)) where
  abbrev bar : ℕ → Bool
  bar d = among (rep g c) (λ j. rep g (h.b (i + j))) k (rep g d)

  even : (d : ℕ) → d < g.D → bar (g.α d) ≡ bar d
  even d dl = ap (among (rep g c) (λ j. rep g (h.b (i + j))) k) (rep_α n d dl)

  on : (d : ℕ) → d < g.D → bar d ≡ true → On g h i k c d
  on d dl t =
      elim (among-case _ _ k (rep g d) t) [
        | inl e ↦ elim (rep_inj n d c dl cl e) [ inl e ↦ chord e | inr e ↦ drohc e ]
        | inr z ↦ elim (rep_inj n d (h.b (i + z.0)) dl (w.b_in _ (omega (arith, z.1))) z.2) [ inl e ↦ fore z.0 z.1 e | inr e ↦ back z.0 z.1 e ]
      ]

  -- its points are boundary points, from the i-th to the (i + k)-th
  on_org : (d : ℕ) → On g h i k c d → (j : ℕ) × (j ≤ k) × (g.org d ≡ g.org (h.b (i + j)))
  on_org d (fore j l e) = (j, omega arith, ap g.org e)
  on_org d (back j l e) = (j + 1, omega arith, ap g.org e ∙ w.chain (i + j) (i + (j + 1)) (omega arith) (omega arith))
  on_org d (chord e) = (k, omega arith, ap g.org e ∙ c-org)
  on_org d (drohc e) = (0, omega arith, ap g.org e ∙ c-end ∙ ap (λ x. g.org (h.b x)) (omega arith))

  off : (d a : ℕ) → d < g.D → a < h.m → g.org d ≡ g.org (h.b a) → (a < i) ⊎ (i + k < a) → bar d ≡ false
  off d a dl al p o =
      elim (bool (bar d)) [
        | inr f ↦ f
        | inl t ↦
            let z = on_org d (on d dl t) in
            let q = w.apart a (i + z.0) al (omega (arith, z.1)) (sym p ∙ z.2) in
            elim o [ inl l ↦ absurd (omega (arith, z.1)) | inr l ↦ absurd (omega (arith, z.1)) ]
      ]

  off_gone : (d : ℕ) → d < g.D → h.gone (g.org d) ≡ true → bar d ≡ false
  off_gone d dl t =
      elim (bool (bar d)) [
        | inr f ↦ f
        | inl u ↦ let z = on_org d (on d dl u) in clash (sym (ap h.gone z.2) ∙ t) (w.there _ (omega (arith, z.1)))
      ]

  module _ (r : ℕ → ℕ) (fs : Faces g bar r) where
    abbrev Heals : ℕ → Type 0
    Heals d = r (g.α d) ≡ r d

    heals_α : (d : ℕ) → d < g.D → Heals d → Heals (g.α d)
    heals_α d dl p = ap r (n.αα d dl) ∙ sym p

    outer : (a : ℕ) → a < h.m → r (h.b a) ≡ r (h.b i)
    outer a al = w.same r fs.face (λ d dl t. fs.cross d dl (off_gone d dl t)) a i al (omega arith)

    -- at the point after the i-th stands a dart e, neither of the round nor of the boundary, whose face has the colour outside
    module _ (e : ℕ) (el : e < g.D) (e-org : g.org e ≡ g.org (h.b (i + 1))) (e-end : h.gone (end g e) ≡ false) (ne₁ : e ≢ h.b (i + 1)) (out : r e ≡ r (h.b i)) where
      record Going (d : ℕ) : Type 0 where
        l : d < g.D
        o : g.org d ≡ g.org (h.b (i + 1))
        stays : h.gone (end g d) ≡ false
        ne : d ≢ h.b (i + 1)
        hue : r e ≡ r d

      abbrev z : ℕ
      z = g.α (h.b i)

      free : (d : ℕ) → d < g.D → g.org d ≡ g.org (h.b (i + 1)) → d ≢ z → d ≢ h.b (i + 1) → bar d ≡ false
      free d dl p nz ne = elim (bool (bar d)) [ inr f ↦ f | inl t ↦ absurd (go (on d dl t)) ]
        where
          go : On g h i k c d → ⊥
          go (fore j jk e) =
              let q = w.apart (i + j) (i + 1) (omega arith) (omega arith) (ap g.org (sym e) ∙ p) in
              ne (e ∙ ap h.b q)
          go (back j jk e) =
              let q = ends n w (i + j) (i + 1) (omega arith) (omega arith) (omega arith) (ap g.org (sym e) ∙ p) in
              nz (e ∙ ap (λ x. g.α (h.b x)) (omega arith))
          go (chord e) = omega (arith, w.apart (i + k) (i + 1) jm (omega arith) (sym c-org ∙ ap g.org (sym e) ∙ p))
          go (drohc e) = omega (arith, w.apart i (i + 1) (omega arith) (omega arith) (sym c-end ∙ ap g.org (sym e) ∙ p))

      go_on : (d : ℕ) → Going d → d ≢ z → Going (g.σ d)
      go_on d v nz =
          record {
            l = n.σ_in d v.l;
            o = n.org_σ d v.l ∙ v.o;
            stays = elim (bool (h.gone (end g (g.σ d)))) [
              | inr f ↦ f
              | inl t ↦
                  let x = w.begin d v.l (ap h.gone v.o ∙ w.there (i + 1) (omega arith)) v.stays t in
                  let q = ends n w x.0 (i + 1) x.1 (omega arith) (omega arith) (ap g.org (sym x.2) ∙ v.o) in
                  absurd (nz (x.2 ∙ ap (λ y. g.α (h.b y)) (omega arith)))
            ];
            ne = λ q. clash (before n w d (i + 1) v.l (omega arith) q) v.stays;
            hue = v.hue ∙ sym (fs.cross d v.l (free d v.l v.o nz v.ne)) ∙ sym (around n r fs.face d v.l);
          }

      heal_first : Heals (h.b i)
      heal_first =
          let o : g.org z ≡ g.org (h.b (i + 1)) = w.chain i (i + 1) refl (omega arith) in
          let q = n.round e z el (n.α_in _ (w.b_in i (omega arith))) (e-org ∙ sym o) in
          let v = walk n Going z go_on q.0 e (record { l = el; o = e-org; stays = e-end; ne = ne₁; hue = refl }) q.1 in
          sym v.hue ∙ out

      heal_next : (j : ℕ) → suc j < k → Heals (h.b (i + j)) → Heals (h.b (i + suc j))
      heal_next j l ih =
          heal n r fs.face (h.b (i + suc j)) (w.b_in _ (omega arith)) (λ x xl p ne.
          elim (bool (bar x)) [ inr f ↦ fs.cross x xl f | inl t ↦ go x xl p ne (on x xl t) ])
        where
          go : (x : ℕ) → x < g.D → g.org x ≡ g.org (h.b (i + suc j)) → x ≢ h.b (i + suc j) → On g h i k c x → Heals x
          go x xl p ne (fore a ak e) = absurd (ne (e ∙ ap h.b (w.apart (i + a) (i + suc j) (omega arith) (omega arith) (ap g.org (sym e) ∙ p))))
          go x xl p ne (back a ak e) =
              let q = ends n w (i + a) (i + suc j) (omega arith) (omega arith) (omega arith) (ap g.org (sym e) ∙ p) in
              let q' : a ≡ j = omega arith in
              rw (e, q') (heals_α (h.b (i + j)) (w.b_in _ (omega arith)) ih)
          go x xl p ne (chord e) = absurd (omega (arith, w.apart (i + k) (i + suc j) jm (omega arith) (sym c-org ∙ ap g.org (sym e) ∙ p)))
          go x xl p ne (drohc e) = absurd (omega (arith, w.apart i (i + suc j) (omega arith) (omega arith) (sym c-end ∙ ap g.org (sym e) ∙ p)))

      heal-fore : (j : ℕ) → j < k → Heals (h.b (i + j))
      heal-fore zero l = rw (add-zero i) heal_first
      heal-fore (suc j) l = heal_next j l (heal-fore j (omega arith))

      heal-chord : Heals c
      heal-chord = heal n r fs.face c cl (λ x xl p ne. elim (bool (bar x)) [ inr f ↦ fs.cross x xl f | inl t ↦ go x xl p ne (on x xl t) ])
        where
          go : (x : ℕ) → x < g.D → g.org x ≡ g.org c → x ≢ c → On g h i k c x → Heals x
          go x xl p ne (fore a ak e) = absurd (omega (arith, w.apart (i + a) (i + k) (omega arith) jm (ap g.org (sym e) ∙ p ∙ c-org)))
          go x xl p ne (back a ak e) = rw e (heals_α (h.b (i + a)) (w.b_in _ (omega arith)) (heal-fore a ak))
          go x xl p ne (chord e) = absurd (ne e)
          go x xl p ne (drohc e) = absurd (omega (arith, w.apart i (i + k) (omega arith) jm (sym c-end ∙ ap g.org (sym e) ∙ p ∙ c-org)))

      heal_all : (x : ℕ) → x < g.D → Heals x
      heal_all x xl = elim (bool (bar x)) [ inr f ↦ fs.cross x xl f | inl t ↦ go (on x xl t) ]
        where
          go : On g h i k c x → Heals x
          go (fore a ak e) = rw e (heal-fore a ak)
          go (back a ak e) = rw e (heals_α (h.b (i + a)) (w.b_in _ (omega arith)) (heal-fore a ak))
          go (chord e) = rw e heal-chord
          go (drohc e) = rw e (heals_α c cl heal-chord)

  -- no chord from the point after the i-th to a boundary point outside
  module _ (e l : ℕ) (el : e < g.D) (e-org : g.org e ≡ g.org (h.b (i + 1))) (ll : l < h.m) (e-end : end g e ≡ g.org (h.b l)) (far : (l < i) ⊎ (i + k < l)) where
    l≢ : (a : ℕ) → i ≤ a → a ≤ i + k → l ≢ a
    l≢ a p q e = elim far [ inl f ↦ omega arith | inr f ↦ omega arith ]

    one : OneFace g bar
    one r fs =
        let al = n.α_in e el in
        let ne : e ≢ h.b (i + 1) =
        λ q. l≢ (i + 2) (omega arith) (omega arith)
        (w.apart l (i + 2) ll (omega arith) (sym e-end ∙ ap (end g) q ∙ w.chain (i + 1) (i + 2) (omega arith) (omega arith))) in
        let x : r (g.α e) ≡ r (h.b l) =
        fan n r fs.face (g.α e) (h.b l) al (w.b_in l ll) e-end (λ x xl p _. fs.cross x xl (off x l xl ll (p ∙ e-end) far)) in
        let y : r (g.α e) ≡ r e = sym (fs.cross (g.α e) al (off (g.α e) l al ll e-end far)) ∙ ap r (n.αα e el) in
        whole n r fs.face (heal_all r fs e el e-org (ap h.gone e-end ∙ w.there l ll) ne (sym y ∙ x ∙ outer r fs l ll))

    round : (s : ℕ → ℕ) → ((d : ℕ) → d < g.D → bar d ≡ true → rep g d ≢ rep g c → s (g.org d) ≡ s (end g d)) → s (g.org c) ≡ s (end g c)
    round s f = ap s c-org ∙ path k (omega arith) ∙ sym (ap s c-end)
      where
        other : (j : ℕ) → j < k → rep g (h.b (i + j)) ≢ rep g c
        other j jk q =
            elim (rep_inj n (h.b (i + j)) c (w.b_in _ (omega arith)) cl q) [
              | inl e ↦ omega (arith, w.apart (i + j) (i + k) (omega arith) jm (ap g.org e ∙ c-org))
              | inr e ↦
                  omega (
                    arith,
                    w.apart (i + j) i (omega arith) (omega arith) (ap g.org e ∙ c-end),
                    w.apart (i + j + 1) (i + k) (omega arith) jm
                        (sym (w.chain (i + j) (i + j + 1) refl (omega arith)) ∙ ap (end g) e ∙ ap g.org (n.αα c cl) ∙ c-org),
                  )
            ]

        path : (j : ℕ) → j ≤ k → s (g.org (h.b (i + j))) ≡ s (g.org (h.b i))
        path zero l = rw (add-zero i)
        path (suc j) l =
            ap s (sym (w.chain (i + j) (i + suc j) (omega arith) (omega arith))) ∙
            sym (f (h.b (i + j)) (w.b_in _ (omega arith)) (among_f _ (λ j. rep g (h.b (i + j))) k j (omega arith)) (other j (omega arith))) ∙ path j (omega arith)

    pub cross : ⊥
    cross = spare n bar even one half c cl (among_c _ _ k) round

module _ {g : Map} (n : Net g) (half : 2 * count (is_rep g) g.D ≡ g.D) {h : Shell} (w : Rim g h) (three : 3 ≤ h.m) where
  descend :
      ((a : ℕ) → 0 < a → a + 1 < h.m → Chord g h a) → (fuel i k c : ℕ) → k < fuel → 2 ≤ k → i + k < h.m → c < g.D →
      g.org c ≡ g.org (h.b (i + k)) → end g c ≡ g.org (h.b i) → ⊥
  descend all zero i k c kf k2 jm cl p q = omega arith
  descend all (suc fuel) i k c kf k2 jm cl p q =
      let t = all (i + 1) (omega arith) (omega arith) in
      let cr = cross n half w i k c k2 jm cl p q t.e t.l t.e_in t.from t.l_in t.to in
      elim (dec_lt t.l i) [
        | yes x ↦ cr (inl x)
        | no x ↦ elim (dec_lt (i + k) t.l) [
          | yes y ↦ cr (inr y)
          | no y ↦
              let z : t.l ≢ i + 1 = λ u. n.loop t.e t.e_in (t.from ∙ ap (λ v. g.org (h.b v)) (sym u) ∙ sym t.to) in
              let b : i + 3 ≤ t.l = omega (arith, x, z, t.next, t.prev) in
              let u : i + 1 + (t.l - (i + 1)) ≡ t.l = omega arith in
              descend all fuel (i + 1) (t.l - (i + 1)) (g.α t.e) (omega (arith, b, y)) (omega (arith, b)) (omega (arith, b, t.l_in)) (n.α_in _ t.e_in)
              (t.to ∙ ap (λ v. g.org (h.b v)) (sym u)) (ap g.org (n.αα _ t.e_in) ∙ t.from)
        ]
      ]

  stuck : ((a : ℕ) → 0 < a → a + 1 < h.m → Chord g h a) → ⊥
  stuck all =
      let k : ℕ = h.m - 1 in
      descend all (suc k) 0 k (h.b k) (omega arith) (omega arith) (omega arith) (w.b_in k (omega arith))
      (ap (λ v. g.org (h.b v)) (omega arith)) (w.close k (omega arith))

  tell : (a : ℕ) → Chord g h a ⊎ Chordless g h a
  tell a =
      elim (search_all g.D (λ e. Chord g h a) (λ e. (l : ℕ) → l < h.m → g.org e ≡ g.org (h.b a) → end g e ≡ g.org (h.b l) → (l ≡ a + 1) ⊎ (l + 1 ≡ a))
      (λ e el. elim (search_all h.m (λ l. Chord g h a) (λ l. g.org e ≡ g.org (h.b a) → end g e ≡ g.org (h.b l) → (l ≡ a + 1) ⊎ (l + 1 ≡ a))
      (λ l ll. elim (ℕ_discrete (g.org e) (g.org (h.b a))) [
        | no x ↦ inr (λ p. absurd (x p))
        | yes p ↦ elim (ℕ_discrete (end g e) (g.org (h.b l))) [
          | no x ↦ inr (λ _ q. absurd (x q))
          | yes q ↦ elim (ℕ_discrete l (a + 1)) [
            | yes x ↦ inr (λ _ _. inl x)
            | no x ↦ elim (ℕ_discrete (l + 1) a) [
              | yes y ↦ inr (λ _ _. inr y)
              | no y ↦ inl (record { e = e; l = l; e_in = el; l_in = ll; from = p; to = q; next = x; prev = y })
            ]
          ]
        ]
      ])) [ inl v ↦ inl v.2 | inr v ↦ inr v ])) [ inl v ↦ inl v.2 | inr v ↦ inr (λ e l el ll p q. v e el l ll p q) ]

  -- a point that can be taken off
  pub removable : (a : ℕ) × (0 < a) × (a + 1 < h.m) × Chordless g h a
  removable =
      elim (search_all h.m (λ a. (0 < a) × (a + 1 < h.m) × Chordless g h a) (λ a. 0 < a → a + 1 < h.m → Chord g h a)
      (λ a al. elim (dec_lt 0 a) [
        | no x ↦ inr (λ p _. absurd (x p))
        | yes p ↦ elim (dec_lt (a + 1) h.m) [
          | no x ↦ inr (λ _ q. absurd (x q))
          | yes q ↦ elim (tell a) [ inl v ↦ inr (λ _ _. v) | inr v ↦ inl (p, q, v) ]
        ]
      ])) [
        | inl v ↦ (v.0, v.2.0, v.2.1, v.2.2)
        | inr v ↦ absurd (stuck (λ a p q. v a (omega arith) p q))
      ]
