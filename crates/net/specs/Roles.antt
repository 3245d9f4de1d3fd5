-- How a line leaves one of its ends, and why lines in different roles have only that end in common.
use Rattle.std.specs.Prelude.{ℕ, ◌+◌, ◌-◌, ◌<◌, ◌≤◌, ◌≡◌, refl}
use Rattle.std.proofs.Common.{arith}
use Rattle.std.proofs.Math.Decide.{ℕ_discrete}
use Rattle.rules.specs.declared.Place.{Place}
use Rattle.plane.specs.Apart.{Fun, Le, OnlyAt, fx, fy, fa}
use Rattle.rules.specs.declared.Style.TheVariants.{OneBend}
use Rattle.net.specs.Side.{Side, rt, lf, op}
use Rattle.net.specs.Net.{Net, side, middle, flat}
use Rattle.net.specs.Inv.{Aside, Slope, Reach}
use Rattle.net.specs.Bend.{pt, turn, places, Spot, start, bend, end}
use Rattle.net.specs.Touch.{Lift, more, same, lift_le, neg, touch_at}

-- outwards by x, outwards by x - y or x + y, up, down
abbrev pub out : Side → Fun
out rt = fx
out lf = neg fx

abbrev pub slant : Side → Fun
slant rt = fa
slant lf = record { au = 0; bu = 0; av = 1; bv = 1 }

-- S are the three places of a line, z the one of its ends
pub record PortAt (s : Side) (z : Place) (S : Spot → Place) : Type 0 where
  pub outs : (i : Spot) → Lift (out s) z (S i)
  pub ups : (i : Spot) → Lift fy z (S i)
  pub slants : (i : Spot) → Lift (slant s) z (S i)

pub record FreeAt (s : Side) (z : Place) (S : Spot → Place) : Type 0 where
  pub outs : (i : Spot) → Lift (out s) z (S i)
  pub low : (i : Spot) → Le fy (S i) z
  pub inner : (i : Spot) → Le (slant (op s)) (S i) z

pub record MidAt (z : Place) (S : Spot → Place) : Type 0 where
  pub downs : (i : Spot) → Lift (neg fy) z (S i)
  pub slants : (s : Side) (i : Spot) → Lift (slant s) z (S i)

pub record TopAt (z : Place) (S : Spot → Place) : Type 0 where
  pub ups : (i : Spot) → Lift fy z (S i)
  pub inner : (s : Side) (i : Spot) → Le (slant s) (S i) z

-- only z in common, whatever pieces the places make
abbrev pub Only : Place → (Spot → Place) → (Spot → Place) → Type 0
Only z S T = (i j i' j' : Spot) → OnlyAt z (S i) (S j) (T i') (T j')

-- what rises one way sinks the other way
sink : (z : Place) (T : Spot → Place) (s : Side) → ((i : Spot) → Lift (out (op s)) z (T i)) → (i : Spot) → Le (out s) (T i) z
sink z T rt h i = let k = lift_le (out lf) z (T i) (h i) in omega arith
sink z T lf h i = let k = lift_le (out rt) z (T i) (h i) in omega arith

module _ (z : Place) (S T : Spot → Place) where
  only : (f : Fun) → ((i : Spot) → Lift f z (S i)) → ((i : Spot) → Le f (T i) z) → Only z S T
  only f a b i j i' j' = touch_at f z (S i) (S j) (T i') (T j') (a i) (a j) (b i') (b j')

  pub port-port : (s : Side) → PortAt s z S → PortAt (op s) z T → Only z S T
  port-port s a b = only (out s) a.outs (sink z T s b.outs)

  pub port-mid : (s : Side) → PortAt s z S → MidAt z T → Only z S T
  port-mid s a b = only fy a.ups (λ i. let k = lift_le (neg fy) z (T i) (b.downs i) in omega arith)

  pub port_same : (s : Side) → PortAt s z S → FreeAt s z T → Only z S T
  port_same s a b = only fy a.ups b.low

  pub port_other : (s : Side) → PortAt s z S → FreeAt (op s) z T → Only z S T
  port_other s a b = only (out s) a.outs (sink z T s b.outs)

  pub port-top : (s : Side) → PortAt s z S → TopAt z T → Only z S T
  port-top s a b = only (slant s) a.slants (b.inner s)

  pub mid-free : (s : Side) → MidAt z S → FreeAt s z T → Only z S T
  mid-free s a b = only (slant (op s)) (a.slants (op s)) b.inner

  pub mid-top : MidAt z S → TopAt z T → Only z S T
  mid-top a b = only (neg fy) a.downs (λ i. let k = lift_le fy z (T i) (b.ups i) in omega arith)

  pub free-free : (s : Side) → FreeAt s z S → FreeAt (op s) z T → Only z S T
  free-free s a b = only (out s) a.outs (sink z T s b.outs)

  pub top-free : (s : Side) → TopAt z S → FreeAt s z T → Only z S T
  top-free s a b = only fy a.ups b.low

-- ---- every line at each of its ends

module _ (g : Net) (p q : ℕ) where
  pub port_at_lem : (s : Side) (j : ℕ) → 0 < j → j ≤ g.d s p → Slope s g p q j → PortAt s (pt g p) (places g p q (side s j))
  port_at_lem s j b c f = record { outs = outs s b c f; ups = ups s b c f; slants = slants s b c f }
    where
      outs : (s : Side) → 0 < j → j ≤ g.d s p → Slope s g p q j → (i : Spot) → Lift (out s) (pt g p) (places g p q (side s j) i)
      outs s b c f start = same refl refl
      outs rt b c f bend = more (omega arith)
      outs rt b c f end = more (omega arith)
      outs lf b c f bend = more (omega arith)
      outs lf b c f end = more (omega arith)

      ups : (s : Side) → 0 < j → j ≤ g.d s p → Slope s g p q j → (i : Spot) → Lift fy (pt g p) (places g p q (side s j) i)
      ups s b c f start = same refl refl
      ups rt b c f bend = more (omega arith)
      ups rt b c f end = more (omega arith)
      ups lf b c f bend = more (omega arith)
      ups lf b c f end = more (omega arith)

      slants : (s : Side) → 0 < j → j ≤ g.d s p → Slope s g p q j → (i : Spot) → Lift (slant s) (pt g p) (places g p q (side s j) i)
      slants s b c f start = same refl refl
      slants rt b c f bend = more (omega arith)
      slants rt b c f end = more (omega arith)
      slants lf b c f bend = more (omega arith)
      slants lf b c f end = more (omega arith)

  -- the later end of a side's port: the free piece may have no length
  landed : (s : Side) (j : ℕ) → Slope s g p q j → Lift (out (op s)) (pt g q) (turn g p q (side s j))
  landed rt j f =
      elim (ℕ_discrete (g.x p + (g.d rt p + 1)) (g.x q)) [
        | yes e ↦ same e (omega arith)
        | no n ↦ more (omega arith)
      ]
  landed lf j f =
      elim (ℕ_discrete (g.x p - (g.d lf p + 1)) (g.x q)) [
        | yes e ↦ same e (omega arith)
        | no n ↦ more (omega arith)
      ]

  pub free_at : (s : Side) (j : ℕ) → j ≤ g.d s p → Slope s g p q j → FreeAt (op s) (pt g q) (places g p q (side s j))
  free_at s j c f = record { outs = outs s c f; low = low s f; inner = inner s c f }
    where
      outs : (s : Side) → j ≤ g.d s p → Slope s g p q j → (i : Spot) → Lift (out (op s)) (pt g q) (places g p q (side s j) i)
      outs s c f end = same refl refl
      outs s c f bend = landed s j f
      outs rt c f start = more (omega arith)
      outs lf c f start = more (omega arith)

      low : (s : Side) → Slope s g p q j → (i : Spot) → Le fy (places g p q (side s j) i) (pt g q)
      low s f start = omega arith
      low rt f bend = omega arith
      low lf f bend = omega arith
      low s f end = omega arith

      inner : (s : Side) → j ≤ g.d s p → Slope s g p q j → (i : Spot) → Le (slant (op (op s))) (places g p q (side s j) i) (pt g q)
      inner rt c f start = omega arith
      inner rt c f bend = omega arith
      inner rt c f end = omega arith
      inner lf c f start = omega arith
      inner lf c f bend = omega arith
      inner lf c f end = omega arith

  pub mid_at : (j : ℕ) → g.y q ≤ g.x q → Reach g p q j → MidAt (pt g q) (places g p q (middle j))
  mid_at j c f = record { downs = downs; slants = slants }
    where
      downs : (i : Spot) → Lift (neg fy) (pt g q) (places g p q (middle j) i)
      downs start = more (omega arith)
      downs bend = more (omega arith)
      downs end = same refl refl

      slants : (s : Side) (i : Spot) → Lift (slant s) (pt g q) (places g p q (middle j) i)
      slants s end = same refl refl
      slants rt start = more (omega arith)
      slants rt bend = more (omega arith)
      slants lf start = more (omega arith)
      slants lf bend = more (omega arith)

  pub top_at : (j : ℕ) → g.y q ≤ g.x q → Reach g p q j → TopAt (pt g p) (places g p q (middle j))
  top_at j c f = record { ups = ups; inner = inner }
    where
      ups : (i : Spot) → Lift fy (pt g p) (places g p q (middle j) i)
      ups start = same refl refl
      ups bend =
          elim (ℕ_discrete (g.y q - g.h q) (g.y p)) [
            | yes e ↦ same (omega arith) e
            | no n ↦ more (omega arith)
          ]
      ups end = more (omega arith)

      inner : (s : Side) (i : Spot) → Le (slant s) (places g p q (middle j) i) (pt g p)
      inner rt start = omega arith
      inner rt bend = omega arith
      inner rt end = omega arith
      inner lf start = omega arith
      inner lf bend = omega arith
      inner lf end = omega arith

  pub flat_start : Aside OneBend rt g p q → g.y p ≡ g.y q → FreeAt rt (pt g p) (places g p q flat)
  flat_start f e = record { outs = outs; low = low; inner = inner }
    where
      outs : (i : Spot) → Lift (out rt) (pt g p) (places g p q flat i)
      outs start = same refl refl
      outs bend = same refl refl
      outs end = more (omega arith)

      low : (i : Spot) → Le fy (places g p q flat i) (pt g p)
      low start = omega arith
      low bend = omega arith
      low end = omega arith

      inner : (i : Spot) → Le (slant lf) (places g p q flat i) (pt g p)
      inner start = omega arith
      inner bend = omega arith
      inner end = omega arith

  pub flat-end : Aside OneBend rt g p q → g.y p ≡ g.y q → FreeAt lf (pt g q) (places g p q flat)
  flat-end f e = record { outs = outs; low = low; inner = inner }
    where
      outs : (i : Spot) → Lift (out lf) (pt g q) (places g p q flat i)
      outs start = more (omega arith)
      outs bend = more (omega arith)
      outs end = same refl refl

      low : (i : Spot) → Le fy (places g p q flat i) (pt g q)
      low start = omega arith
      low bend = omega arith
      low end = omega arith

      inner : (i : Spot) → Le (slant rt) (places g p q flat i) (pt g q)
      inner start = omega arith
      inner bend = omega arith
      inner end = omega arith
