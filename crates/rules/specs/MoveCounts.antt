-- How many moves a line gives.
use Rattle.std.specs.Prelude.{ℕ, ◌+◌, if◌then◌else◌}
use Rattle.rules.specs.declared.Place.{Place}
use Rattle.rules.specs.Meeting.{same_place}

-- how many moves a line over these places gives, each time that it is cut
abbrev pub moves_each : Place → Place → Place → ℕ
moves_each later bend earlier = 3 + (if same_place bend later then 0 else 1) + (if same_place earlier bend then 0 else 1)
