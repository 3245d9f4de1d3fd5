-- Steps 1 to 5 of an adding call by distances from wl, over the run of its entries.
use Rattle.std.specs.Prelude.{ℕ, zero, suc, ◌+◌, ◌-◌, ◌*◌, ◌/◌, ◌%◌, Bool, true, ◌&&◌, ◌||◌, List, length, get_or, if◌then◌else◌}
use Rattle.rules.specs.declared.Style.{Style}
use Rattle.rules.specs.Styles.{amount, inset}
use Rattle.rules.specs.Adding.{reaches}
use Rattle.store_links.specs.declared.Spot.{Spot}
use Rattle.store_links.specs.Arrays.{at_point}
use Rattle.store_links.specs.Judging.{point_in}

-- the point of entry i
abbrev pub entry_point : List ℕ → ℕ → ℕ
entry_point es i = point_in (get_or es i 0)

-- how far the point of entry i lies to the right of the first entry's, before the call moves anything
abbrev pub way : List ℕ → List ℕ → ℕ → ℕ
way gap es zero = 0
way gap es (suc i) = way gap es i + at_point gap (entry_point es (suc i))

-- steps 1 to 4: wr lies `far` to the right of wl, their heights are yl and yr, dr of wl and dl of wr are `rights` and `lefts`, and there are `entries` entries
abbrev pub widened : Style → ℕ → ℕ → ℕ → ℕ
widened style far rights lefts = far + amount style rights + amount style lefts

-- step 3 makes the sum of all even, which it is already in a straight drawing
abbrev pub total : Style → ℕ → ℕ → ℕ → ℕ → ℕ → ℕ
total style far yl yr rights lefts = widened style far rights lefts + (widened style far rights lefts + yl + yr) % 2

unfoldable pub spot_of : Style → ℕ → ℕ → ℕ → ℕ → ℕ → ℕ → Spot
spot_of style far yl yr rights lefts entries =
    record {
      dx = (total style far yl yr rights lefts + yr - yl) / 2;
      y = (total style far yl yr rights lefts + yr + yl - 2 * inset style) / 2;
      h = entries / 2;
      s1 = amount style rights;
      rest = total style far yl yr rights lefts - (total style far yl yr rights lefts + yr - yl) / 2;
    }

-- middle port `port` of the new point reaches the point of entry i
abbrev pub port_reaches : Spot → List ℕ → List ℕ → List ℕ → ℕ → ℕ → Bool
port_reaches p gap ys es port i = reaches p.dx p.y p.h port (way gap es i + p.s1) (at_point ys (entry_point es i))

-- step 5: the first of the entries i, i + 1, .., c of them, whose port i doesn't reach it
abbrev pub change_from : Spot → List ℕ → List ℕ → List ℕ → ℕ → ℕ → ℕ
change_from p gap ys es i zero = i
change_from p gap ys es i (suc c) = if port_reaches p gap ys es i i then change_from p gap ys es (suc i) c else i

-- 25 is false of the entries i, i + 1, .., c of them
abbrev pub all_reach_from : Spot → List ℕ → List ℕ → List ℕ → ℕ → ℕ → Bool
all_reach_from p gap ys es i zero = true
all_reach_from p gap ys es i (suc c) = (port_reaches p gap ys es i i || port_reaches p gap ys es (suc i) i) && all_reach_from p gap ys es (suc i) c

-- the inner entries are 1, .., D - 1
abbrev pub inner_count : List ℕ → ℕ
inner_count es = length es - 2
