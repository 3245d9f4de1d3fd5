-- Two lines with a common end have only that end in common.
use Rattle.std.specs.Prelude.{ℕ, ◌<◌, ◌≡◌, refl, ◌≢◌, ◌⊎◌}
use Rattle.std.proofs.Common.{ap, sym, ◌∙◌, inl, inr, arith}
use Rattle.std.proofs.Math.Decide.{dec_lt, ℕ_discrete}
use Rattle.rules.specs.declared.Place.{Place}
use Rattle.plane.specs.Only.{only_flip}
use Rattle.rules.specs.declared.Style.TheVariants.{OneBend}
use Rattle.net.specs.Side.{Side, rt, lf, op, Which, which, same, other}
use Rattle.net.specs.Net.{Net, BendKind, side, middle, flat, Beyond, beyond_not, Clear, beside, above}
use Rattle.net.specs.Inv.{Aside, Bent, port, within, plain, Inv}
use Rattle.net.specs.Ports.{aside_of}
use Rattle.net.specs.Bend.{pt, Spot, spot}
use Rattle.net.specs.Roles
use Rattle.net.specs.Roles.{PortAt, FreeAt, MidAt, TopAt, Only}
use Rattle.net.specs.Stack.{head, tail, OnlyHalf, ports_only, mids_only}
use Rattle.net.specs.Parting.{EndShared}

-- why a line's free piece ends at z on side s
pub data Came (g : Net) (z e : ℕ) (s : Side) : Type 0 where
  landed : (j : ℕ) → g.kind e ≡ side (op s) j → g.v e ≡ z → Came g z e s
  based : g.kind e ≡ flat → (g.u e ≡ z) ⊎ (g.v e ≡ z) → Came g z e s

-- the role of the line e at its end z
data Role (g : Net) (z e : ℕ) : Type 0 where
  out : (s : Side) (j : ℕ) → g.kind e ≡ side s j → g.u e ≡ z → PortAt s (pt g z) (spot g e) → Role g z e
  free : (s : Side) → Came g z e s → FreeAt s (pt g z) (spot g e) → Role g z e
  mid : (j : ℕ) → g.kind e ≡ middle j → g.v e ≡ z → MidAt (pt g z) (spot g e) → Role g z e
  top : (j : ℕ) → g.kind e ≡ middle j → g.u e ≡ z → TopAt (pt g z) (spot g e) → Role g z e

halves : (z : Place) (S T : Spot → Place) → Only z S T → OnlyHalf z S T
halves z S T h i j = h (head i) (tail i) (head j) (tail j)

flip_half : (z : Place) (S T : Spot → Place) → OnlyHalf z S T → OnlyHalf z T S
flip_half z S T h i j = only_flip _ _ _ _ _ (h j i)

module _ {g : Net} (n : Inv g) where
  start-role : (e : ℕ) → e < g.L → (κ : BendKind) → g.kind e ≡ κ → Bent g (g.u e) (g.v e) κ → Role g (g.u e) e
  start-role e el (side s j) q (port f b c) = out s j q refl (rw q (Roles.port_at_lem g (g.u e) (g.v e) s j b c (n.slopes.slope s j e el q)))
  start-role e el (middle j) q (within f b c) =
      top j q refl (rw q (Roles.top_at g (g.u e) (g.v e) j (n.core.points.frame (g.v e) (n.core.lines.ends e el).1) (n.slopes.reach j e el q)))
  start-role e el flat q (plain f c) = free rt (based q (inl refl)) (rw q (Roles.flat_start g (g.u e) (g.v e) f c))

  end-role : (e : ℕ) → e < g.L → (κ : BendKind) → g.kind e ≡ κ → Bent g (g.u e) (g.v e) κ → Role g (g.v e) e
  end-role e el (side rt j) q (port f b c) = free lf (landed j q refl) (rw q (Roles.free_at g (g.u e) (g.v e) rt j c (n.slopes.slope rt j e el q)))
  end-role e el (side lf j) q (port f b c) = free rt (landed j q refl) (rw q (Roles.free_at g (g.u e) (g.v e) lf j c (n.slopes.slope lf j e el q)))
  end-role e el (middle j) q (within f b c) =
      mid j q refl (rw q (Roles.mid_at g (g.u e) (g.v e) j (n.core.points.frame (g.v e) (n.core.lines.ends e el).1) (n.slopes.reach j e el q)))
  end-role e el flat q (plain f c) = free lf (based q (inr refl)) (rw q (Roles.flat-end g (g.u e) (g.v e) f c))

  -- one line at most in each free role
  alone : (s : Side) (z e f j : ℕ) → e < g.L → f < g.L → g.kind e ≡ side s j → g.v e ≡ z → g.kind f ≡ flat → (g.u f ≡ z) ⊎ (g.v f ≡ z) → ⊥
  alone s z e f j el fl ek ev fk r =
      let f0 = n.frees.base f fl fk in
      elim (ℕ_discrete e 0) [
        | yes e0 ↦ let c : ◌≡◌ {A = ℕ} 0 1 = cc in omega arith
        | no p ↦ let d = n.frees.first e el (omega arith) in go f0 d r
      ]
    where
      go : f ≡ 0 → (g.v e ≢ g.u 0) × (g.v e ≢ g.v 0) → (g.u f ≡ z) ⊎ (g.v f ≡ z) → ⊥
      go f0 d (inl r) = d.0 (ev ∙ sym r ∙ ap g.u f0)
      go f0 d (inr r) = d.1 (ev ∙ sym r ∙ ap g.v f0)

  pub came_once : (s : Side) (z e f : ℕ) → e < g.L → f < g.L → Came g z e s → Came g z f s → e ≡ f
  came_once s z e f el fl (landed i ek ev) (landed j fk fv) = n.frees.late (op s) i j e f el fl ek fk (ev ∙ sym fv)
  came_once s z e f el fl (landed i ek ev) (based fk fv) = absurd (alone (op s) z e f i el fl ek ev fk fv)
  came_once s z e f el fl (based ek ev) (landed j fk fv) = absurd (alone (op s) z f e j fl el fk fv ek ev)
  came_once s z e f el fl (based ek ev) (based fk fv) = omega (arith, n.frees.base e el ek, n.frees.base f fl fk)

  -- two ports on one side, two middle ports, the lower one first
  stack_only : (s : Side) (z e f i j : ℕ) → e < g.L → f < g.L → g.kind e ≡ side s i → g.kind f ≡ side s j → g.u e ≡ z → g.u f ≡ z → i < j →
      OnlyHalf (pt g z) (spot g e) (spot g f)
  stack_only s z e f i j el fl ek fk eu fu lt =
      rw (eu, fu, ek, fk)
      (ports_only g z s (g.v e) (g.v f) i j lt (rw eu at (n.slopes.slope s i e el ek)) (rw fu at (n.slopes.slope s j f fl fk)) y
      (go (n.core.lines.tri f (g.v e) fl (n.core.lines.ends e el).1 (λ q. not_u (q ∙ fu ∙ sym eu)) (λ q. omega (arith, ap g.y q, y)))))
    where
      y : g.y (g.v e) < g.y (g.v f)
      y = n.ports.stack s i j e f el fl ek fk (eu ∙ sym fu) lt

      a : Aside OneBend s g (g.u e) (g.v e)
      a = (aside_of (g.kind e) ek (n.core.lines.fits e el)).0

      not_u : g.v e ≢ g.u e
      not_u q = let b : Beyond OneBend s g (g.u e) (g.u e) = rw q at a.away in beyond_not s b b

      by_side : (t : Side) → Which s t → Beyond OneBend t g (g.u f) (g.v e) → Beyond OneBend t g (g.v f) (g.v e) → Beyond OneBend s g (g.v f) (g.v e)
      by_side t same b c = c
      by_side t other b c = absurd (beyond_not (op s) a.back (rw (eu ∙ sym fu) b))

      go : Clear OneBend g (g.u f) (g.v f) (g.v e) → Beyond OneBend s g (g.v f) (g.v e)
      go (beside t c c' b b') = by_side t (which s t) b b'
      go (above b b') = absurd (omega (arith, y))

  row_only : (z e f i j : ℕ) → e < g.L → f < g.L → g.kind e ≡ middle i → g.kind f ≡ middle j → g.v e ≡ z → g.v f ≡ z → i < j →
      OnlyHalf (pt g z) (spot g e) (spot g f)
  row_only z e f i j el fl ek fk ev fv lt =
      let b = n.ports.row i j e f el fl ek fk (ev ∙ sym fv) lt in
      rw (ev, fv, ek, fk)
      (mids_only g z (n.core.points.frame z (rw ev at (n.core.lines.ends e el).1)) (g.u e) (g.u f) i j lt
      (rw ev at (n.slopes.reach i e el ek)) (rw fv at (n.slopes.reach j f fl fk)) b.0 b.1)

  -- all pairs of roles; z is the place of the common end, S and T are the lines' places
  module _ (z : Place) (S T : Spot → Place) where
    port-free : (s t : Side) → Which s t → PortAt s z S → FreeAt t z T → OnlyHalf z S T
    port-free s t same a b = halves z S T (Roles.port_same z S T s a b)
    port-free s t other a b = halves z S T (Roles.port_other z S T s a b)

  module _ (z e f : ℕ) (el : e < g.L) (fl : f < g.L) (n≢ : e ≢ f) where
    abbrev Z : Place
    Z = pt g z

    abbrev S : Spot → Place
    S = spot g e

    abbrev T : Spot → Place
    T = spot g f

    port-port : (s t : Side) (i j : ℕ) → Which s t → g.kind e ≡ side s i → g.kind f ≡ side t j → g.u e ≡ z → g.u f ≡ z → PortAt s Z S → PortAt t Z T → OnlyHalf Z S T
    port-port s t i j other ek fk eu fu a b = halves Z S T (Roles.port-port Z S T s a b)
    port-port s t i j same ek fk eu fu a b =
        elim (dec_lt i j) [
          | yes h ↦ stack_only s z e f i j el fl ek fk eu fu h
          | no h ↦ elim (dec_lt j i) [
            | yes k ↦ flip_half Z T S (stack_only s z f e j i fl el fk ek fu eu k)
            | no k ↦ let q : j ≡ i = omega arith in absurd (n≢ (n.ports.once s i e f el fl ek (rw q at fk) (eu ∙ sym fu)))
          ]
        ]

    mid-mid : (i j : ℕ) → g.kind e ≡ middle i → g.kind f ≡ middle j → g.v e ≡ z → g.v f ≡ z → OnlyHalf Z S T
    mid-mid i j ek fk ev fv =
        elim (dec_lt i j) [
          | yes h ↦ row_only z e f i j el fl ek fk ev fv h
          | no h ↦ elim (dec_lt j i) [
            | yes k ↦ flip_half Z T S (row_only z f e j i fl el fk ek fv ev k)
            | no k ↦ let q : j ≡ i = omega arith in absurd (n≢ (n.ports.single i e f el fl ek (rw q at fk) (ev ∙ sym fv)))
          ]
        ]

    free-free : (s t : Side) → Which s t → Came g z e s → Came g z f t → FreeAt s Z S → FreeAt t Z T → OnlyHalf Z S T
    free-free s t same c d a b = absurd (n≢ (came_once s z e f el fl c d))
    free-free s t other c d a b = halves Z S T (Roles.free-free Z S T s a b)

    pair : Role g z e → Role g z f → OnlyHalf Z S T
    pair (out s i ek eu a) (out t j fk fu b) = port-port s t i j (which s t) ek fk eu fu a b
    pair (out s i ek eu a) (free t d b) = port-free Z S T s t (which s t) a b
    pair (out s i ek eu a) (mid j fk fv b) = halves Z S T (Roles.port-mid Z S T s a b)
    pair (out s i ek eu a) (top j fk fu b) = halves Z S T (Roles.port-top Z S T s a b)
    pair (free s c a) (out t j fk fu b) = flip_half Z T S (port-free Z T S t s (which t s) b a)
    pair (free s c a) (free t d b) = free-free s t (which s t) c d a b
    pair (free s c a) (mid j fk fv b) = flip_half Z T S (halves Z T S (Roles.mid-free Z T S s b a))
    pair (free s c a) (top j fk fu b) = flip_half Z T S (halves Z T S (Roles.top-free Z T S s b a))
    pair (mid i ek ev a) (out t j fk fu b) = flip_half Z T S (halves Z T S (Roles.port-mid Z T S t b a))
    pair (mid i ek ev a) (free t d b) = halves Z S T (Roles.mid-free Z S T t a b)
    pair (mid i ek ev a) (mid j fk fv b) = mid-mid i j ek fk ev fv
    pair (mid i ek ev a) (top j fk fu b) = halves Z S T (Roles.mid-top Z S T a b)
    pair (top i ek eu a) (out t j fk fu b) = flip_half Z T S (halves Z T S (Roles.port-top Z T S t b a))
    pair (top i ek eu a) (free t d b) = halves Z S T (Roles.top-free Z S T t a b)
    pair (top i ek eu a) (mid j fk fv b) = flip_half Z T S (halves Z T S (Roles.mid-top Z T S b a))
    pair (top i ek eu a) (top j fk fu b) = absurd (n≢ (n.frees.cover i j e f el fl ek fk (eu ∙ sym fu)))

  role : (z e : ℕ) → e < g.L → (g.u e ≡ z) ⊎ (g.v e ≡ z) → Role g z e
  role z e el (inl q) = rw (sym q) (start-role e el (g.kind e) refl (n.core.lines.fits e el))
  role z e el (inr q) = rw (sym q) (end-role e el (g.kind e) refl (n.core.lines.fits e el))

  pub shared : EndShared g
  shared z e f el fl d p q = pair z e f el fl d (role z e el p) (role z f fl q)
