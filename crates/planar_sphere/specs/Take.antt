-- Taking a chordless boundary point off keeps the boundary sound.
use Rattle.std.specs.Prelude.{ℕ, zero, suc, ◌+◌, ◌-◌, ◌<◌, ◌≤◌, ◌≡◌, refl, ◌≢◌, ◌⊎◌, true, false}
use Rattle.std.proofs.Common.{ap, sym, ◌∙◌, inl, inr, arith}
use Rattle.std.proofs.Math.Decide.{ℕ_discrete, dec_lt}
use Rattle.planar_sphere.specs.Count.{bool, clash, put, put-here, put_else, put_old, put-case}
use Rattle.planar_sphere.specs.Map.{Map, Net, φ, end, turn, φ_in, org_φ, fan}
use Rattle.planar_sphere.specs.Shell.{Shell, Rim}
use Rattle.planar_sphere.specs.Cross.{Chordless}
use Rattle.planar_sphere.specs.Arc.{Arc, turn-zero, turn_suc, turn_in, turn-org, turn_one, far_in, far-org, far-end, far_third, some-step, on_arc}

-- the new boundary: the old one, with the lines that face the point taken off in place of its two
pub record Taken (g : Map) (h h' : Shell) (s t p : ℕ) : Type 0 where
  pub m' : h'.m + 2 ≡ h.m + p
  pub gone' : (x : ℕ) → h'.gone x ≡ put (g.org (h.b t)) h.gone x
  pub lo : (x : ℕ) → x < s → h'.b x ≡ h.b x
  pub mid : (x j : ℕ) → j < p → x + j + 1 ≡ s + p → h'.b x ≡ φ g (g.σ (turn g j (h.b t)))
  pub hi : (x y : ℕ) → t < y → y + p ≡ x + 2 → h'.b x ≡ h.b y

data View (g : Map) (h h' : Shell) (s t p x : ℕ) : Type 0 where
  lo : x < s → h'.b x ≡ h.b x → View g h h' s t p x
  mid : (j : ℕ) → j < p → x + j + 1 ≡ s + p → h'.b x ≡ φ g (g.σ (turn g j (h.b t))) → View g h h' s t p x
  hi : (y : ℕ) → t < y → y < h.m → y + p ≡ x + 2 → h'.b x ≡ h.b y → View g h h' s t p x

module _
    {g : Map} (n : Net g) {h h' : Shell} (w : Rim g h) (s t p : ℕ) (a : Arc g h s t p) (less : Chordless g h t) (v : Taken g h h' s t p) where
  abbrev u : ℕ → ℕ
  u j = turn g j (h.b t)

  st : s + 1 ≡ t
  st = a.prev

  tm : t + 1 < h.m
  tm = a.next

  p1 : 0 < p
  p1 = some-step n w s t st tm p a

  tl : h.b t < g.D
  tl = w.b_in t (omega (arith, tm))

  ul : (j : ℕ) → u j < g.D
  ul j = turn_in n j (h.b t) tl

  uo : (j : ℕ) → g.org (u j) ≡ g.org (h.b t)
  uo j = turn-org n j (h.b t) tl

  arc_one : (j k : ℕ) → j ≤ p → k ≤ p → u j ≡ u k → j ≡ k
  arc_one j k jp kp e =
      elim (dec_lt j k) [
        | yes l ↦ absurd (turn_one g p (h.b t) _ a.first a.at_end j k l kp e)
        | no x ↦ elim (dec_lt k j) [
          | yes l ↦ absurd (turn_one g p (h.b t) _ a.first a.at_end k j l jp (sym e))
          | no y ↦ omega (arith, x, y)
        ]
      ]

  end_one : (j k : ℕ) → j ≤ p → k ≤ p → end g (u j) ≡ end g (u k) → j ≡ k
  end_one j k jp kp e = arc_one j k jp kp (n.simple (u j) (u k) (ul j) (ul k) (uo j ∙ sym (uo k)) e)

  view : (x : ℕ) → x < h'.m → View g h h' s t p x
  view x xl =
      elim (dec_lt x s) [
        | yes l ↦ lo l (v.lo x l)
        | no l ↦ elim (dec_lt x (s + p)) [
          | yes k ↦
              let j : ℕ = s + p - (x + 1) in
              mid j (omega (arith, l)) (omega arith) (v.mid x j (omega (arith, l)) (omega arith))
          | no k ↦
              let y : ℕ = x + 2 - p in
              let q : y + p ≡ x + 2 = omega (arith, k) in
              let ty : t < y = omega (arith, k, st) in
              hi y ty (omega (arith, q, v.m')) q (v.hi x y ty q)
        ]
      ]

  -- the points and the ends of the new lines
  mid-org : (x j : ℕ) → j < p → h'.b x ≡ φ g (g.σ (u j)) → g.org (h'.b x) ≡ end g (u (suc j))
  mid-org x j jp e = ap g.org e ∙ far-org n (u j) (ul j) ∙ ap (end g) (sym (turn_suc g j (h.b t)))

  mid-end : (x j : ℕ) → j < p → h'.b x ≡ φ g (g.σ (u j)) → end g (h'.b x) ≡ end g (u j)
  mid-end x j jp e = ap (end g) e ∙ far-end n (u j) (ul j)

  end_first : end g (u 0) ≡ g.org (h.b (t + 1))
  end_first = ap (end g) (turn-zero g (h.b t)) ∙ w.chain t (t + 1) refl tm

  end_last : end g (u p) ≡ g.org (h.b s)
  end_last = ap (end g) a.at_end ∙ ap g.org (n.αα _ (w.b_in s (omega (arith, st, tm))))

  in' : (x : ℕ) → x < h'.m → h'.b x < g.D
  in' x xl = go (view x xl)
    where
      go : View g h h' s t p x → h'.b x < g.D
      go (lo l e) = rw e (w.b_in x (omega (arith, st, tm)))
      go (mid j jp q e) = rw e (far_in n (u j) (ul j))
      go (hi y ty ym q e) = rw e (w.b_in y ym)

  chain' : (x c : ℕ) → c ≡ x + 1 → c < h'.m → end g (h'.b x) ≡ g.org (h'.b c)
  chain' x c cx cl = go (view x (omega arith)) (view c cl)
    where
      go : View g h h' s t p x → View g h h' s t p c → end g (h'.b x) ≡ g.org (h'.b c)
      go (lo l e) (lo l' e') = ap (end g) e ∙ w.chain x c cx (omega (arith, st, tm)) ∙ ap g.org (sym e')
      go (lo l e) (mid j jp q e') =
          let z : suc j ≡ p = omega arith in
          let z' : c ≡ s = omega arith in
          ap (end g) e ∙ w.chain x s (omega arith) (omega (arith, st, tm)) ∙ sym end_last ∙ ap (λ k. end g (u k)) (sym z) ∙ sym (mid-org c j jp e')
      go (lo l e) (hi y ty ym q e') = absurd (omega (arith, st, p1))
      go (mid j jp q e) (lo l' e') = absurd (omega arith)
      go (mid j jp q e) (mid k kp q' e') =
          let z : j ≡ suc k = omega arith in
          mid-end x j jp e ∙ ap (λ k. end g (u k)) z ∙ sym (mid-org c k kp e')
      go (mid j jp q e) (hi y ty ym q' e') =
          let z : j ≡ 0 = omega (arith, st) in
          let z' : t + 1 ≡ y = omega (arith, st) in
          mid-end x j jp e ∙ ap (λ k. end g (u k)) z ∙ end_first ∙ ap (λ k. g.org (h.b k)) z' ∙ ap g.org (sym e')
      go (hi y ty ym q e) (lo l' e') = absurd (omega (arith, st, p1))
      go (hi y ty ym q e) (mid k kp q' e') = absurd (omega (arith, st))
      go (hi y ty ym q e) (hi y' ty' ym' q' e') = ap (end g) e ∙ w.chain y y' (omega arith) ym' ∙ ap g.org (sym e')

  pub zero' : g.org (h'.b 0) ≡ g.org (h.b 0)
  zero' = go (view 0 (omega (arith, v.m', tm, st, p1)))
    where
      go : View g h h' s t p 0 → g.org (h'.b 0) ≡ g.org (h.b 0)
      go (lo l e) = ap g.org e
      go (mid j jp q e) =
          let z : suc j ≡ p = omega arith in
          let z' : s ≡ 0 = omega arith in
          mid-org 0 j jp e ∙ ap (λ k. end g (u k)) z ∙ end_last ∙ ap (λ k. g.org (h.b k)) z'
      go (hi y ty ym q e) = absurd (omega (arith, st, p1))

  -- the line that closes the boundary stays
  pub last' : (x y : ℕ) → x + 1 ≡ h'.m → y + 1 ≡ h.m → h'.b x ≡ h.b y
  last' x y xm ym = v.hi x y (omega (arith, tm)) (omega (arith, v.m'))

  close' : (x : ℕ) → x + 1 ≡ h'.m → end g (h'.b x) ≡ g.org (h'.b 0)
  close' x xm =
      let y : ℕ = h.m - 1 in
      let q : y + 1 ≡ h.m = omega (arith, tm) in
      ap (end g) (last' x y xm q) ∙ w.close y q ∙ sym zero'

  -- the new points are no old boundary points but the neighbours
  mid_old : (j c : ℕ) → j < p → c < h.m → end g (u (suc j)) ≡ g.org (h.b c) → (c ≡ s) × (suc j ≡ p)
  mid_old j c jp cm e =
      elim (less (u (suc j)) c (ul _) cm (uo (suc j)) e) [
        | inl z ↦ absurd (omega (arith, end_one (suc j) 0 (omega arith) (omega arith) (e ∙ ap (λ k. g.org (h.b k)) z ∙ sym end_first)))
        | inr z ↦
            let z' : c ≡ s = omega (arith, st) in
            (z', end_one (suc j) p (omega arith) (omega arith) (e ∙ ap (λ k. g.org (h.b k)) z' ∙ sym end_last))
      ]

  apart' : (x c : ℕ) → x < h'.m → c < h'.m → g.org (h'.b x) ≡ g.org (h'.b c) → x ≡ c
  apart' x c xl cl e = go (view x xl) (view c cl)
    where
      go : View g h h' s t p x → View g h h' s t p c → x ≡ c
      go (lo l i) (lo l' i') = w.apart x c (omega (arith, st, tm)) (omega (arith, st, tm)) (sym (ap g.org i) ∙ e ∙ ap g.org i')
      go (lo l i) (mid j jp q i') =
          absurd (omega (arith, (mid_old j x jp (omega (arith, st, tm)) (sym (mid-org c j jp i') ∙ sym e ∙ ap g.org i)).0))
      go (lo l i) (hi y ty ym q i') =
          absurd (omega (arith, st, w.apart x y (omega (arith, st, tm)) ym (sym (ap g.org i) ∙ e ∙ ap g.org i')))
      go (mid j jp q i) (lo l' i') =
          absurd (omega (arith, (mid_old j c jp (omega (arith, st, tm)) (sym (mid-org x j jp i) ∙ e ∙ ap g.org i')).0))
      go (mid j jp q i) (mid k kp q' i') =
          let z = end_one (suc j) (suc k) (omega arith) (omega arith) (sym (mid-org x j jp i) ∙ e ∙ mid-org c k kp i') in
          omega arith
      go (mid j jp q i) (hi y ty ym q' i') =
          absurd (omega (arith, st, (mid_old j y jp ym (sym (mid-org x j jp i) ∙ e ∙ ap g.org i')).0))
      go (hi y ty ym q i) (lo l' i') =
          absurd (omega (arith, st, w.apart y c ym (omega (arith, st, tm)) (sym (ap g.org i) ∙ e ∙ ap g.org i')))
      go (hi y ty ym q i) (mid k kp q' i') =
          absurd (omega (arith, st, (mid_old k y kp ym (sym (mid-org c k kp i') ∙ sym e ∙ ap g.org i)).0))
      go (hi y ty ym q i) (hi y' ty' ym' q' i') =
          let z = w.apart y y' ym ym' (sym (ap g.org i) ∙ e ∙ ap g.org i') in
          omega arith

  -- ---- what is gone

  new_gone : h'.gone (g.org (h.b t)) ≡ true
  new_gone = v.gone' _ ∙ put-here _ _

  old_gone : (x : ℕ) → h.gone x ≡ true → h'.gone x ≡ true
  old_gone x y = v.gone' x ∙ put_old _ _ x y

  gone-case : (x : ℕ) → h'.gone x ≡ true → (x ≡ g.org (h.b t)) ⊎ (h.gone x ≡ true)
  gone-case x y = put-case _ _ x (sym (v.gone' x) ∙ y)

  left_new : (x : ℕ) → h'.gone x ≡ false → x ≢ g.org (h.b t)
  left_new x f e = clash (ap h'.gone e ∙ new_gone) f

  left_old : (x : ℕ) → h'.gone x ≡ false → h.gone x ≡ false
  left_old x f = elim (bool (h.gone x)) [ inr z ↦ z | inl z ↦ clash (old_gone x z) f ]

  left : (x : ℕ) → x ≢ g.org (h.b t) → h.gone x ≡ false → h'.gone x ≡ false
  left x ne f = v.gone' x ∙ put_else _ _ x ne ∙ f

  there' : (x : ℕ) → x < h'.m → h'.gone (g.org (h'.b x)) ≡ false
  there' x xl = go (view x xl)
    where
      other : (c : ℕ) → c < h.m → c ≢ t → h'.gone (g.org (h.b c)) ≡ false
      other c cm ne = left _ (λ e. ne (w.apart c t cm (omega (arith, tm)) e)) (w.there c cm)

      go : View g h h' s t p x → h'.gone (g.org (h'.b x)) ≡ false
      go (lo l e) = ap (λ d. h'.gone (g.org d)) e ∙ other x (omega (arith, st, tm)) (λ z. omega (arith, st))
      go (mid j jp q e) =
          ap h'.gone (mid-org x j jp e) ∙ left _ (λ z. n.loop (u (suc j)) (ul _) (uo (suc j) ∙ sym z)) (a.stay (suc j) (omega arith))
      go (hi y ty ym q e) = ap (λ d. h'.gone (g.org d)) e ∙ other y ym (λ z. omega arith)

  out' : (x : ℕ) → x < h'.m → h'.gone (end g (φ g (h'.b x))) ≡ true
  out' x xl = go (view x xl)
    where
      go : View g h h' s t p x → h'.gone (end g (φ g (h'.b x))) ≡ true
      go (lo l e) = ap (λ d. h'.gone (end g (φ g d))) e ∙ old_gone _ (w.out x (omega (arith, st, tm)))
      go (mid j jp q e) = ap (λ d. h'.gone (end g (φ g d))) e ∙ ap h'.gone (far_third n (u j) (ul j) ∙ uo j) ∙ new_gone
      go (hi y ty ym q e) = ap (λ d. h'.gone (end g (φ g d))) e ∙ old_gone _ (w.out y ym)

  -- ---- where old and new lines stand in the new boundary

  old_dart : (c : ℕ) → c < h.m → c ≢ t → c ≢ s → (x : ℕ) × (x < h'.m) × (h'.b x ≡ h.b c)
  old_dart c cm nt ns =
      elim (dec_lt c s) [
        | yes l ↦ (c, omega (arith, v.m', tm, st), v.lo c l)
        | no l ↦
            let x : ℕ = c + p - 2 in
            let q : c + p ≡ x + 2 = omega (arith, l, nt, ns, st, p1) in
            (x, omega (arith, v.m', q), v.hi x c (omega (arith, l, nt, ns, st)) q)
      ]

  new_dart : (j : ℕ) → j < p → (x : ℕ) × (x < h'.m) × (h'.b x ≡ φ g (g.σ (u j)))
  new_dart j jp =
      let x : ℕ = s + p - (j + 1) in
      let q : x + j + 1 ≡ s + p = omega arith in
      (x, omega (arith, v.m', tm, st), v.mid x j jp q)

  old_point : (c : ℕ) → c < h.m → c ≢ t → (x : ℕ) × (x < h'.m) × (g.org (h'.b x) ≡ g.org (h.b c))
  old_point c cm nt =
      elim (ℕ_discrete c s) [
        | no ns ↦ let z = old_dart c cm nt ns in (z.0, z.1, ap g.org z.2)
        | yes e ↦
            let j : ℕ = p - 1 in
            let jp : suc j ≡ p = omega (arith, p1) in
            let z = new_dart j (omega arith) in
            (z.0, z.1, mid-org z.0 j (omega arith) z.2 ∙ ap (λ k. end g (u k)) jp ∙ end_last ∙ ap (λ k. g.org (h.b k)) (sym e))
      ]

  -- a dart at the point taken off to a point that stays
  at_taken : (d : ℕ) → d < g.D → g.org d ≡ g.org (h.b t) → h'.gone (end g d) ≡ false → (k : ℕ) × (k ≤ p) × (d ≡ u k)
  at_taken d dl o f = on_arc n w s t st tm p a d dl o (left_old _ f)

  shore' : (d : ℕ) → d < g.D → h'.gone (g.org d) ≡ false → h'.gone (end g d) ≡ true → (x : ℕ) × (x < h'.m) × (g.org (h'.b x) ≡ g.org d)
  shore' d dl f y =
      elim (gone-case _ y) [
        | inr z ↦
            let c = w.shore d dl (left_old _ f) z in
            let x = old_point c.0 c.1 (λ e. left_new _ f (sym c.2 ∙ ap (λ k. g.org (h.b k)) e)) in
            (x.0, x.1, x.2 ∙ c.2)
        | inl z ↦
            let o : end g (g.α d) ≡ g.org d = ap g.org (n.αα d dl) in
            let k = at_taken (g.α d) (n.α_in d dl) z (ap h'.gone o ∙ f) in
            go k.0 k.1 (sym o ∙ ap (end g) k.2)
      ]
    where
      go : (k : ℕ) → k ≤ p → g.org d ≡ end g (u k) → (x : ℕ) × (x < h'.m) × (g.org (h'.b x) ≡ g.org d)
      go zero l e = let x = old_point (t + 1) tm (λ e. omega arith) in (x.0, x.1, x.2 ∙ sym end_first ∙ sym e)
      go (suc j) l e = let x = new_dart j (omega arith) in (x.0, x.1, mid-org x.0 j (omega arith) x.2 ∙ sym e)

  last'' :
      (d : ℕ) → d < g.D → h'.gone (g.org d) ≡ false → h'.gone (end g d) ≡ true → h'.gone (end g (g.σ d)) ≡ false →
      (x : ℕ) × (x < h'.m) × (g.σ d ≡ h'.b x)
  last'' d dl f y f' =
      elim (gone-case _ y) [
        | inr z ↦
            let c = w.last d dl (left_old _ f) z (left_old _ f') in
            let x = old_dart c.0 c.1
            (λ e. left_new _ f (sym (n.org_σ d dl) ∙ ap g.org c.2 ∙ ap (λ k. g.org (h.b k)) e))
            (λ e. left_new _ f' (ap (end g) c.2 ∙ ap (λ k. end g (h.b k)) e ∙ w.chain s t (omega (arith, st)) (omega (arith, tm)))) in
            (x.0, x.1, c.2 ∙ sym x.2)
        | inl z ↦
            let o : end g (g.α d) ≡ g.org d = ap g.org (n.αα d dl) in
            let k = at_taken (g.α d) (n.α_in d dl) z (ap h'.gone o ∙ f) in
            go k.0 k.1 (ap g.σ (sym (n.αα d dl)) ∙ ap (φ g) k.2)
      ]
    where
      go : (k : ℕ) → k ≤ p → g.σ d ≡ φ g (u k) → (x : ℕ) × (x < h'.m) × (g.σ d ≡ h'.b x)
      go zero l e = clash (old_gone _ (w.out t (omega (arith, tm)))) (ap (λ k. h'.gone (end g k)) (sym (e ∙ ap (φ g) (turn-zero g (h.b t)))) ∙ f')
      go (suc j) l e =
          let x = new_dart j (omega arith) in
          (x.0, x.1, e ∙ ap (φ g) (turn_suc g j (h.b t)) ∙ sym x.2)

  begin' :
      (d : ℕ) → d < g.D → h'.gone (g.org d) ≡ false → h'.gone (end g d) ≡ false → h'.gone (end g (g.σ d)) ≡ true →
      (x : ℕ) × (x < h'.m) × (d ≡ g.α (h'.b x))
  begin' d dl f f' y =
      elim (gone-case _ y) [
        | inr z ↦
            let c = w.begin d dl (left_old _ f) (left_old _ f') z in
            let x = old_dart c.0 c.1
            (λ e. left_new _ f' (ap (end g) c.2 ∙ ap g.org (n.αα _ (w.b_in _ c.1)) ∙ ap (λ k. g.org (h.b k)) e))
            (λ e. left_new _ f (ap g.org c.2 ∙ ap (λ k. end g (h.b k)) e ∙ w.chain s t (omega (arith, st)) (omega (arith, tm)))) in
            (x.0, x.1, c.2 ∙ ap g.α (sym {a = h'.b x.0} x.2))
        | inl z ↦
            let sl = n.σ_in d dl in
            let el = n.α_in _ sl in
            let o : end g (g.α (g.σ d)) ≡ g.org d = ap g.org (n.αα _ sl) ∙ n.org_σ d dl in
            let k = at_taken (g.α (g.σ d)) el z (ap h'.gone o ∙ f) in
            -- the face of α d: α d, σ d, σ e
            let c : φ g (g.σ (g.α (g.σ d))) ≡ g.α d =
            ap (λ x. φ g (φ g (g.σ x))) (sym (n.αα d dl)) ∙ n.three (g.α d) (n.α_in d dl) in
            go k.0 k.1 (sym c ∙ ap (λ x. φ g (g.σ x)) k.2)
      ]
    where
      go : (k : ℕ) → k ≤ p → g.α d ≡ φ g (g.σ (u k)) → (x : ℕ) × (x < h'.m) × (d ≡ g.α (h'.b x))
      go k l e =
          elim (ℕ_discrete k p) [
            | no ne ↦
                let x = new_dart k (omega (arith, ne)) in
                (x.0, x.1, sym (n.αα d dl) ∙ ap g.α (e ∙ sym x.2))
            | yes i ↦
                let sm : s < h.m = omega (arith, st, tm) in
                let z : end g d ≡ end g (φ g (h.b s)) =
                ap g.org (e ∙ ap (λ k. φ g (g.σ (u k))) i ∙ ap (λ x. φ g (g.σ x)) a.at_end) ∙ org_φ n _ (φ_in n _ (w.b_in s sm)) in
                clash (old_gone _ (w.out s sm)) (ap h'.gone (sym z) ∙ f')
          ]

  same' :
      (r : ℕ → ℕ) → ((d : ℕ) → d < g.D → r (φ g d) ≡ r d) → ((d : ℕ) → d < g.D → h'.gone (g.org d) ≡ true → r (g.α d) ≡ r d) →
      (x c : ℕ) → x < h'.m → c < h'.m → r (h'.b x) ≡ r (h'.b c)
  same' r face cross x c xl cl = all x (view x xl) ∙ sym (all c (view c cl))
    where
      old : (c : ℕ) → c < h.m → r (h.b c) ≡ r (h.b t)
      old c cm = w.same r face (λ d dl y. cross d dl (old_gone _ y)) c t cm (omega (arith, tm))

      all : (x : ℕ) → View g h h' s t p x → r (h'.b x) ≡ r (h.b t)
      all x (lo l e) = ap r e ∙ old x (omega (arith, st, tm))
      all x (mid j jp q e) =
          ap r (e ∙ ap (φ g) (sym (turn_suc g j (h.b t)))) ∙ face _ (ul (suc j)) ∙
          fan n r face (u (suc j)) (h.b t) (ul _) tl (uo (suc j)) (λ d dl o _. cross d dl (ap h'.gone (o ∙ uo (suc j)) ∙ new_gone))
      all x (hi y ty ym q e) = ap r e ∙ old y ym

  pub taken : Rim g h'
  taken =
      record {
        two = omega (arith, v.m', tm, st, p1);
        b_in = in';
        chain = chain';
        close = close';
        apart = apart';
        there = there';
        out = out';
        shore = shore';
        last = last'';
        begin = begin';
        same = same';
      }

  -- the point taken off stands, for the new boundary, over the run from s to s + p: its neighbours that stay, each once
  pub run : (x j : ℕ) → j ≤ p → x + j ≡ s + p → g.org (h'.b x) ≡ end g (u j)
  run x zero l q = ap g.org (v.hi x (t + 1) (omega arith) (omega (arith, st))) ∙ sym end_first
  run x (suc j) l q = mid-org x j (omega arith) (v.mid x j (omega arith) (omega arith))

  pub run_all : (d : ℕ) → d < g.D → g.org d ≡ g.org (h.b t) → h'.gone (end g d) ≡ false → (x : ℕ) × (s ≤ x) × (x ≤ s + p) × (g.org (h'.b x) ≡ end g d)
  run_all d dl o f =
      let k = at_taken d dl o f in
      let x : ℕ = s + p - k.0 in
      (x, omega (arith, k.1), omega arith, run x k.0 k.1 (omega (arith, k.1)) ∙ ap (end g) (sym k.2))

  -- outside the run the boundary is the old one
  pub below : (x : ℕ) → x ≤ s → g.org (h'.b x) ≡ g.org (h.b x)
  below x l =
      elim (ℕ_discrete x s) [
        | yes e ↦ run x p (omega arith) (omega arith) ∙ end_last ∙ ap (λ k. g.org (h.b k)) (sym e)
        | no ne ↦ ap g.org (v.lo x (omega (arith, ne)))
      ]

  pub above : (x y : ℕ) → t < y → y + p ≡ x + 2 → g.org (h'.b x) ≡ g.org (h.b y)
  above x y ty q = ap g.org (v.hi x y ty q)
