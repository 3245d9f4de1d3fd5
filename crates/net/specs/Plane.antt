-- The straight drawing is plane: two lines with four different ends do not meet, and two different lines with a common end have no other point in common.
-- A tie is broken by a slight tilt: N times x - y (or x + y) and the height together, N above every height in question.
use Rattle.std.specs.Prelude.{ℕ, suc, ◌+◌, ◌*◌, ◌-◌, ◌<◌, ◌≤◌, ◌≡◌, refl, ◌≢◌, ◌⊎◌}
use Rattle.std.proofs.Common.{sym, ap, subst₂, inl, inr, arith, mul-le-mul_left, add-sub_of_le}
use Rattle.std.proofs.Math.Path.{fun_ext}
use Rattle.std.proofs.Math.Decide.{dec_lt, dec_le}
use Rattle.rules.specs.declared.Place.{Place}
use Rattle.rules.specs.declared.Style.TheVariants.{Straight}
use Rattle.plane.specs.Common.{Common, flip}
use Rattle.plane.specs.Apart.{Fun, Lt, fy, OnlyAt, no_common, apart, apart-swap}
use Rattle.plane.specs.Only.{only_swap, only_flip, only_second}
use Rattle.net.specs.Side.{Side, rt, lf}
use Rattle.net.specs.Net.{Net, flat, Beyond, Clear, beside, above, clear-swap}
use Rattle.net.specs.Inv.{Core}
use Rattle.net.specs.Bend.{pt, Spot, start, bend, end, spot, Way, to, high}
use Rattle.net.specs.Disjoint.{Wins, Parted, over, under, parted}
use Rattle.net.specs.Stack.{one, two, OnlyHalf}
use Rattle.net.specs.Parting.{Missed, EndsApart, EndShared}

-- ---- pieces that share an end, where neither far end lies on the other piece

-- the common point of two pieces from e, seen from p, and from r
inner : (e p r : Place) (w : Common e p e r) → 0 < w.B → w.D ≤ w.B → Common p p e r
inner e p r w h k =
    let z = add-sub_of_le k in
    record {
      A = w.B;
      B = 0;
      C = w.B - w.D;
      D = w.D;
      pos = omega arith;
      tot = omega arith;
      eqx = omega (arith, ap (λ n. n * e.x) z, ap (λ n. n * e.x) w.tot);
      eqy = omega (arith, ap (λ n. n * e.y) z, ap (λ n. n * e.y) w.tot);
    }

fan-apart : (e p r : Place) → (Common p p e r → ⊥) → (Common r r e p → ⊥) → OnlyAt e e p e r
fan-apart e p r f b w =
    elim (dec_lt 0 w.B) [
      | no h ↦
          let z : w.B ≡ 0 = omega arith in
          record { atx = omega (arith, ap (λ n. n * p.x) z, ap (λ n. n * e.x) z); aty = omega (arith, ap (λ n. n * p.y) z, ap (λ n. n * e.y) z) }
      | yes h ↦
          absurd
          (elim (dec_le w.D w.B) [
            | yes k ↦ f (inner e p r w h k)
            | no k ↦ b (inner e r p (flip w) (omega arith) (omega arith))
          ])
    ]

-- an end of the first piece instead of the piece
only_end : {z p q r s : Place} → OnlyAt z p q r s → OnlyAt z p p r s
only_end {z} {p} {q} {r} {s} h w =
    let v : Common p q r s = record { A = w.A + w.B; B = 0; C = w.C; D = w.D; pos = omega (arith, w.pos); tot = omega (arith, w.tot); eqx = omega (arith, w.eqx); eqy = omega (arith, w.eqy) } in
    let k = h v in
    record { atx = omega (arith, k.atx); aty = omega (arith, k.aty) }

-- ---- the three ways, tilted

abbrev tilt : ℕ → Way → Fun
tilt N (to rt) = record { au = N; bu = 1; av = 0; bv = N }
tilt N (to lf) = record { au = 0; bu = 1; av = N; bv = N }
tilt N high = fy

tilted : (N : ℕ) (s : Side) {g : Net} {p z : ℕ} → g.y p < N → Beyond Straight s g p z → Lt (tilt N (to s)) (pt g p) (pt g z)
tilted N rt {g} {p} {z} b h =
    elim (dec_lt (g.x p + g.y z) (g.x z + g.y p)) [
      | yes k ↦ omega (arith, mul-le-mul_left N k)
      | no k ↦
          let e : g.x p + g.y z ≡ g.x z + g.y p = omega arith in
          omega (arith, ap (λ n. N * n) e)
    ]
tilted N lf {g} {p} {z} b h =
    elim (dec_lt (g.x z + g.y z) (g.x p + g.y p)) [
      | yes k ↦ omega (arith, mul-le-mul_left N k)
      | no k ↦
          let e : g.x z + g.y z ≡ g.x p + g.y p = omega arith in
          omega (arith, ap (λ n. N * n) e)
    ]

wins : (N : ℕ) {g : Net} {p q z : ℕ} → g.y p < N → g.y q < N → Clear Straight g p q z → Wins (tilt N) (pt g p) (pt g q) (pt g z)
wins N b b' (beside s c c' h h') = (to s, tilted N s b h, tilted N s b' h')
wins N b b' (above h h') = (high, omega arith, omega arith)

-- a point that is clear of a line is not on it
off_line : {g : Net} {p q z : ℕ} → Clear Straight g p q z → Common (pt g z) (pt g z) (pt g p) (pt g q) → ⊥
off_line {g} {p} {q} {z} c w =
    let N = suc (g.y p + g.y q) in
    let t = wins N (omega arith) (omega arith) c in
    no_common (tilt N t.0) (pt g p) (pt g q) (pt g z) (pt g z) t.1 t.1 t.2 t.2 (flip w)

-- ---- the three places of a straight line: its bend is its earlier end

abbrev ends : Net → ℕ → Spot → Place
ends g e start = pt g (g.u e)
ends g e bend = pt g (g.u e)
ends g e end = pt g (g.v e)

spot-ends : (g : Net) (e : ℕ) → g.kind e ≡ flat → ends g e ≡ spot g e
spot-ends g e k = fun_ext go
  where
    go : (i : Spot) → ends g e i ≡ spot g e i
    go start = refl
    go bend = rw k
    go end = refl

-- what both ends of a line fulfil, its three places fulfil
at_ends : (P : Place → Type 0) (g : Net) (e : ℕ) → P (pt g (g.u e)) → P (pt g (g.v e)) → (i : Spot) → P (ends g e i)
at_ends P g e a b start = a
at_ends P g e a b bend = a
at_ends P g e a b end = b

module _ {g : Net} (n : Core Straight g) where
  -- all places of one line below all places of another
  spread : (f : Fun) (e e' : ℕ) → Lt f (pt g (g.u e)) (pt g (g.u e')) → Lt f (pt g (g.v e)) (pt g (g.u e')) → Lt f (pt g (g.u e)) (pt g (g.v e')) → Lt f (pt g (g.v e)) (pt g (g.v e')) →
      (i j : Spot) → Lt f (ends g e i) (ends g e' j)
  spread f e e' a b c d i j =
      at_ends (λ q. Lt f (ends g e i) q) g e' (at_ends (λ p. Lt f p (pt g (g.u e'))) g e a b i) (at_ends (λ p. Lt f p (pt g (g.v e'))) g e c d i) j

  pub disjoint : EndsApart g
  disjoint e f el fl n₁ n₂ n₃ n₄ =
      subst₂ Missed (spot-ends g e (n.lines.fits e el).0) (spot-ends g f (n.lines.fits f fl).0)
      (go
      (parted (tilt N)
      (wins N (omega arith) (omega arith) (t f (g.u e) fl (o e el).0 n₁ n₂)) (wins N (omega arith) (omega arith) (t f (g.v e) fl (o e el).1 n₃ n₄))
      (wins N (omega arith) (omega arith) (t e (g.u f) el (o f fl).0 (λ q. n₁ (sym q)) (λ q. n₃ (sym q))))
      (wins N (omega arith) (omega arith) (t e (g.v f) el (o f fl).1 (λ q. n₂ (sym q)) (λ q. n₄ (sym q))))))
    where
      N : ℕ
      N = suc (g.y (g.u e) + g.y (g.v e) + (g.y (g.u f) + g.y (g.v f)))

      o : (e : ℕ) → e < g.L → (g.u e < g.k) × (g.v e < g.k)
      o = n.lines.ends

      t : (e p : ℕ) → e < g.L → p < g.k → p ≢ g.u e → p ≢ g.v e → Clear Straight g (g.u e) (g.v e) p
      t = n.lines.tri

      go : Parted (tilt N) (pt g (g.u e)) (pt g (g.v e)) (pt g (g.u f)) (pt g (g.v f)) → Missed (ends g e) (ends g f)
      go (over w a b c d) i j i' j' = let h = spread (tilt N w) f e a b c d in apart-swap (tilt N w) _ _ _ _ (h i' i) (h j' i) (h i' j) (h j' j)
      go (under w a b c d) i j i' j' = let h = spread (tilt N w) e f a b c d in apart (tilt N w) _ _ _ _ (h i i') (h i j') (h j i') (h j j')

  -- a line from z to p, in one order or the other
  data From (z e p : ℕ) : Type 0 where
    out : g.u e ≡ z → g.v e ≡ p → From z e p
    home : g.v e ≡ z → g.u e ≡ p → From z e p

  from : (z e : ℕ) → (g.u e ≡ z) ⊎ (g.v e ≡ z) → (p : ℕ) × From z e p
  from z e (inl b) = (g.v e, out b refl)
  from z e (inr b) = (g.u e, home b refl)

  clear_of : (z e p q : ℕ) → e < g.L → q < g.k → From z e p → q ≢ z → q ≢ p → Clear Straight g z p q
  clear_of z e p q el qk (out b c) d d' = rw (b, c) at (n.lines.tri e q el qk (rw b d) (rw c d'))
  clear_of z e p q el qk (home b c) d d' = clear-swap (rw (b, c) at (n.lines.tri e q el qk (rw c d') (rw b d)))

  far-end : (z e p : ℕ) → e < g.L → From z e p → (p < g.k) × (p ≢ z)
  far-end z e p el (out b c) = (omega (arith, n.lines.ends e el), omega (arith, n.alike.up e el))
  far-end z e p el (home b c) = (omega (arith, n.lines.ends e el), omega (arith, n.alike.up e el))

  differ : (z e f p q : ℕ) → e < g.L → f < g.L → e ≢ f → From z e p → From z f q → p ≢ q
  differ z e f p q el fl d (out b c) (out b' c') s = d (n.alike.one e f el fl (omega arith) (omega arith))
  differ z e f p q el fl d (out b c) (home b' c') s = omega (arith, n.alike.up e el, n.alike.up f fl)
  differ z e f p q el fl d (home b c) (out b' c') s = omega (arith, n.alike.up e el, n.alike.up f fl)
  differ z e f p q el fl d (home b c) (home b' c') s = d (n.alike.one e f el fl (omega arith) (omega arith))

  orient : (z e f p q : ℕ) → From z e p → From z f q → OnlyAt (pt g z) (pt g z) (pt g p) (pt g z) (pt g q) →
      OnlyAt (pt g z) (pt g (g.u e)) (pt g (g.v e)) (pt g (g.u f)) (pt g (g.v f))
  orient z e f p q (out b c) (out b' c') h = rw (b, c, b', c') h
  orient z e f p q (out b c) (home b' c') h = rw (b, c, b', c') (only_second _ _ _ _ _ h)
  orient z e f p q (home b c) (out b' c') h = rw (b, c, b', c') (only_swap _ _ _ _ _ h)
  orient z e f p q (home b c) (home b' c') h = rw (b, c, b', c') (only_swap _ _ _ _ _ (only_second _ _ _ _ _ h))

  whole : (z e f : ℕ) → e < g.L → f < g.L → e ≢ f → (g.u e ≡ z) ⊎ (g.v e ≡ z) → (g.u f ≡ z) ⊎ (g.v f ≡ z) →
      OnlyAt (pt g z) (pt g (g.u e)) (pt g (g.v e)) (pt g (g.u f)) (pt g (g.v f))
  whole z e f el fl d b c = go (from z e b) (from z f c)
    where
      go : ((p : ℕ) × From z e p) → ((q : ℕ) × From z f q) → OnlyAt (pt g z) (pt g (g.u e)) (pt g (g.v e)) (pt g (g.u f)) (pt g (g.v f))
      go (p, i) (q, j) =
          let k = far-end z e p el i in
          let k' = far-end z f q fl j in
          let s = differ z e f p q el fl d i j in
          orient z e f p q i j
          (fan-apart (pt g z) (pt g p) (pt g q)
          (off_line (clear_of z f q p fl k.0 j k.1 s))
          (off_line (clear_of z e p q el k'.0 i k'.1 (λ x. s (sym x)))))

  pub shared : EndShared g
  shared z e f el fl d b c =
      subst₂ (OnlyHalf (pt g z)) (spot-ends g e (n.lines.fits e el).0) (spot-ends g f (n.lines.fits f fl).0) (go (whole z e f el fl d b c))
    where
      go : OnlyAt (pt g z) (pt g (g.u e)) (pt g (g.v e)) (pt g (g.u f)) (pt g (g.v f)) → OnlyHalf (pt g z) (ends g e) (ends g f)
      go h two two = h
      go h one two = only_end h
      go h two one = only_flip _ _ _ _ _ (only_end (only_flip _ _ _ _ _ h))
      go h one one = only_end (only_flip _ _ _ _ _ (only_end (only_flip _ _ _ _ _ h)))
