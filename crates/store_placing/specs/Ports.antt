-- The ports of the inner points, and when 25 needs no look.
use Rattle.std.specs.Prelude.{ℕ, zero, suc, ◌+◌, ◌≡◌, refl, Bool, true, false, List, Option, Some, None, if◌then◌else◌}
use Rattle.std.proofs.Common.{◌∙◌, arith}
use Rattle.store_links.specs.declared.Spot.{Spot}
use Rattle.store_links.specs.Placing.{port_reaches, change_from, all_reach_from}

-- they change at `from`, if all reach
abbrev pub ports_for : ℕ → Bool → Option ℕ
ports_for from true = Some from
ports_for from false = None

-- Where no port changes, all reach.
pub no_change : (p : Spot) (gap ys es : List ℕ) (i c : ℕ) → change_from p gap ys es i c ≡ i + c → all_reach_from p gap ys es i c ≡ true
no_change p gap ys es i zero h = refl
no_change p gap ys es i (suc c) h = go (port_reaches p gap ys es i i) refl h (no_change p gap ys es (suc i) c)
  where
    go : (b : Bool) → port_reaches p gap ys es i i ≡ b → (if b then change_from p gap ys es (suc i) c else i) ≡ i + suc c →
        (change_from p gap ys es (suc i) c ≡ suc i + c → all_reach_from p gap ys es (suc i) c ≡ true) → all_reach_from p gap ys es i (suc c) ≡ true
    go true q h rest = rw q (rest (h ∙ omega arith))
    go false q h rest = absurd (omega arith)

-- What they tell.
pub from_told : (f g : ℕ) (b : Bool) → ports_for f b ≡ Some g → (b ≡ true) × (g ≡ f)
from_told f g true h = (refl, cc)
from_told f g false h = absurd (let z : ◌≡◌ {A = ℕ} 0 1 = cc in omega arith)

pub none_told : (f : ℕ) (b : Bool) → ports_for f b ≡ None → b ≡ false
none_told f true h = absurd (let z : ◌≡◌ {A = ℕ} 0 1 = cc in omega arith)
none_told f false h = refl
