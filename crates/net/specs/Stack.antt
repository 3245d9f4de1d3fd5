-- Two lines in one role at a point: two ports on one side, two middle ports. They have only that point in common.
use Rattle.std.specs.Prelude.{ℕ, ◌+◌, ◌-◌, ◌<◌, ◌≤◌, ◌≡◌, refl, ◌≢◌, false}
use Rattle.std.proofs.Common.{sym, ◌∙◌, true≢false, arith}
use Rattle.std.proofs.Math.Decide.{dec_lt, ℕ_discrete}
use Rattle.rules.specs.declared.Place.{Place}
use Rattle.rules.specs.Meeting.{cross_plus, cross_minus, meet}
use Rattle.plane.specs.Common.{Common, flip, swap₁, swap₂}
use Rattle.plane.specs.Exact.{common_meet}
use Rattle.plane.specs.Apart.{Le, OnlyAt, fy, fa, apart, no_common}
use Rattle.plane.specs.Fan.{fan, fan', fan-end, one_side_lem, steep, cross-lt}
use Rattle.plane.specs.Only.{only_flip, only_swap}
use Rattle.rules.specs.declared.Style.TheVariants.{OneBend}
use Rattle.net.specs.Side.{Side, rt, lf}
use Rattle.net.specs.Net.{Net, side, middle, Beyond}
use Rattle.net.specs.Inv.{Slope, Reach}
use Rattle.net.specs.Bend.{pt, turn, places, Spot, start, bend, end}
use Rattle.net.specs.Touch.{Lift, more, same, neg, part_at}
use Rattle.net.specs.Roles.{out}

-- the two pieces of a line
pub data Half : Type 0 where
  one two : Half

abbrev pub head : Half → Spot
head one = start
head two = bend

abbrev pub tail : Half → Spot
tail one = bend
tail two = end

abbrev pub OnlyHalf : Place → (Spot → Place) → (Spot → Place) → Type 0
OnlyHalf z S T = (i j : Half) → OnlyAt z (S (head i)) (S (tail i)) (T (head j)) (T (tail j))

none : (z p q r s : Place) → (Common p q r s → ⊥) → OnlyAt z p q r s
none z p q r s h w = absurd (h w)

missed : (p q r s : Place) → meet p q r s ≡ false → Common p q r s → ⊥
missed p q r s e w = true≢false (sym (common_meet p q r s w) ∙ e)

-- two places of one column, and of one row, seen from outside it
column-turn : (z : Place) (c y y' : ℕ) → z.x ≢ c → y < y' → cross_plus z (record { x = c; y = y }) (record { x = c; y = y' }) ≢ cross_minus z (record { x = c; y = y }) (record { x = c; y = y' })
unfolding cross_plus cross_minus
column-turn z c y y' n lt =
    elim (dec_lt z.x c) [
      | yes h ↦ omega (arith, cross-lt h lt)
      | no h ↦ let k : c < z.x = omega arith in omega (arith, cross-lt k lt)
    ]

row-turn : (z : Place) (c x x' : ℕ) → c < z.y → x < x' → cross_plus z (record { x = x; y = c }) (record { x = x'; y = c }) ≢ cross_minus z (record { x = x; y = c }) (record { x = x'; y = c })
unfolding cross_plus cross_minus
row-turn z c x x' h lt = omega (arith, cross-lt h lt)

-- ---- ports j < j' on side s of p, to q and q'

module _ (g : Net) (p : ℕ) where
  past-port : (s : Side) (q j : ℕ) → Slope s g p q j → Lift (out s) (turn g p q (side s j)) (pt g q)
  past-port rt q j f =
      elim (ℕ_discrete (g.x q) (g.x p + (g.d rt p + 1))) [ yes e ↦ same e (omega arith) | no n ↦ more (omega arith) ]
  past-port lf q j f =
      elim (ℕ_discrete (g.x q) (g.x p - (g.d lf p + 1))) [ yes e ↦ same e (omega arith) | no n ↦ more (omega arith) ]

  before_port : (s : Side) (q j : ℕ) → Slope s g p q j → Lift (neg (out s)) (turn g p q (side s j)) (pt g p)
  before_port rt q j f = more (omega arith)
  before_port lf q j f = more (omega arith)

  one_column : (s : Side) (q q' j j' : ℕ) → Le (out s) (turn g p q (side s j)) (turn g p q' (side s j'))
  one_column rt q q' j j' = omega arith
  one_column lf q q' j j' = omega arith

  -- the port piece of one against the free piece of the other
  port-free : (s : Side) (q q' j j' : ℕ) → j ≢ j' → Slope s g p q j → Slope s g p q' j' →
      Common (turn g p q' (side s j')) (pt g q') (pt g p) (turn g p q (side s j)) → ⊥
  port-free s q q' j j' n f f' w = clash s (part_at (out s) _ _ _ _ _ _ (one_column s q q' j j') (same refl refl) (past-port s q' j' f') (before_port s q j f) (same refl refl) w)
    where
      clash : (s : Side) → ((turn g p q' (side s j')).x ≡ (turn g p q (side s j)).x) × ((turn g p q' (side s j')).y ≡ (turn g p q (side s j)).y) → ⊥
      clash rt e = n (omega arith)
      clash lf e = n (omega arith)

  free-free : (s : Side) (q q' j j' : ℕ) → j < j' → Slope s g p q j → Slope s g p q' j' → g.y q < g.y q' → Beyond OneBend s g q' q →
      meet (turn g p q (side s j)) (pt g q) (turn g p q' (side s j')) (pt g q') ≡ false
  free-free rt q q' j j' lt f f' y b =
      elim (dec_lt (g.y p + j) (g.y q)) [
        | yes h ↦ fan _ _ _ _ (omega arith) h refl (omega arith) (omega arith) (omega arith)
        | no h ↦ apart fy _ _ _ _ (omega arith) (omega arith) (omega arith) (omega arith)
      ]
  free-free lf q q' j j' lt f f' y b =
      elim (dec_lt (g.y p + j) (g.y q)) [
        | yes h ↦ fan' _ _ _ _ (omega arith) h refl (omega arith) (omega arith) (omega arith)
        | no h ↦ apart fy _ _ _ _ (omega arith) (omega arith) (omega arith) (omega arith)
      ]

  ports-turn : (s : Side) (q q' j j' : ℕ) → j < j' → Slope s g p q j → OnlyAt (pt g p) (pt g p) (turn g p q (side s j)) (pt g p) (turn g p q' (side s j'))
  ports-turn rt q q' j j' lt f = fan-end (pt g p) _ _ (column-turn (pt g p) (g.x p + (g.d rt p + 1)) (g.y p + j) (g.y p + j') (omega arith) (omega arith))
  ports-turn lf q q' j j' lt f = fan-end (pt g p) _ _ (column-turn (pt g p) (g.x p - (g.d lf p + 1)) (g.y p + j) (g.y p + j') (omega arith) (omega arith))

  pub ports_only : (s : Side) (q q' j j' : ℕ) → j < j' → Slope s g p q j → Slope s g p q' j' → g.y q < g.y q' → Beyond OneBend s g q' q →
      OnlyHalf (pt g p) (places g p q (side s j)) (places g p q' (side s j'))
  ports_only s q q' j j' lt f f' y b one one = ports-turn s q q' j j' lt f
  ports_only s q q' j j' lt f f' y b one two = none _ _ _ _ _ (λ w. port-free s q q' j j' (omega arith) f f' (flip w))
  ports_only s q q' j j' lt f f' y b two one = none _ _ _ _ _ (λ w. port-free s q' q j' j (omega arith) f' f w)
  ports_only s q q' j j' lt f f' y b two two = none _ _ _ _ _ (missed _ _ _ _ (free-free s q q' j j' lt f f' y b))

-- ---- middle ports j < j' of q, to p and p'

module _ (g : Net) (q : ℕ) (in_frame_lem : g.y q ≤ g.x q) where
  under_port : (p j : ℕ) → Reach g p q j → Lift (neg fy) (turn g p q (middle j)) (pt g p)
  under_port p j f =
      elim (ℕ_discrete (g.y p) (g.y q - g.h q)) [ yes e ↦ same (omega arith) e | no n ↦ more (omega arith) ]

  mid-free : (p p' j j' : ℕ) → j ≢ j' → Reach g p q j → Reach g p' q j' → Common (turn g p' q (middle j')) (pt g q) (pt g p) (turn g p q (middle j)) → ⊥
  mid-free p p' j j' n f f' w =
      let e = part_at fy _ _ _ _ _ _ (omega arith) (same refl refl) (more (omega arith)) (under_port p j f) (same refl refl) w in
      n (omega arith)

  steep-free : (p p' j j' : ℕ) → j < j' → Reach g p q j → Reach g p' q j' → Beyond OneBend rt g p p' → Beyond OneBend lf g p' p →
      Common (pt g p) (turn g p q (middle j)) (pt g p') (turn g p' q (middle j')) → ⊥
  unfolding cross_plus cross_minus
  steep-free p p' j j' lt f f' b c w =
      elim (dec_lt (g.y p) (g.y q - g.h q)) [
        | yes h ↦
            missed (turn g p q (middle j)) (pt g p) (turn g p' q (middle j')) (pt g p')
            (one_side_lem _ _ _ _ (omega (arith, cross-lt r h)) (steep _ _ _ (omega arith) (omega arith) h (omega arith) (omega arith)))
            (swap₁ (swap₂ w))
        | no h ↦ no_common fa _ _ _ _ (omega arith) (omega arith) (omega arith) (omega arith) w
      ]
    where
      r : g.x q + j - g.h q < g.x q + j' - g.h q
      r = omega arith

  mids_turn : (p p' j j' : ℕ) → j < j' → Reach g p q j → OnlyAt (pt g q) (turn g p q (middle j)) (pt g q) (turn g p' q (middle j')) (pt g q)
  mids_turn p p' j j' lt f =
      let a = fan-end (pt g q) (turn g p q (middle j)) (turn g p' q (middle j')) (row-turn (pt g q) (g.y q - g.h q) _ _ (omega arith) (omega arith)) in
      only_swap _ _ _ _ _ (only_flip _ _ _ _ _ (only_swap _ _ _ _ _ (only_flip _ _ _ _ _ a)))

  pub mids_only : (p p' j j' : ℕ) → j < j' → Reach g p q j → Reach g p' q j' → Beyond OneBend rt g p p' → Beyond OneBend lf g p' p →
      OnlyHalf (pt g q) (places g p q (middle j)) (places g p' q (middle j'))
  mids_only p p' j j' lt f f' b c one one = none _ _ _ _ _ (steep-free p p' j j' lt f f' b c)
  mids_only p p' j j' lt f f' b c one two = none _ _ _ _ _ (λ w. mid-free p p' j j' (omega arith) f f' (flip w))
  mids_only p p' j j' lt f f' b c two one = none _ _ _ _ _ (λ w. mid-free p' p j' j (omega arith) f' f w)
  mids_only p p' j j' lt f f' b c two two = mids_turn p p' j j' lt f
