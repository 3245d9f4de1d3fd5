-- A point's group of line records, and its entries as 16-bit numbers. An earlier point of the limit or more has no such form: 0 stands for it, and a call refuses both alike.
use Rattle.std.specs.Prelude.{ℕ, ◌+◌, ◌-◌, ◌*◌, ◌≤◌, ◌≡◌, List, map, take, ltb, if◌then◌else◌}
use Rattle.rules.specs.declared.Style.{Style}
use Rattle.rules.specs.declared.Entry.{Entry}
use Rattle.rules.specs.Entries.{word_of, point_limit}
use Rattle.rules.specs.DrawingFile.{group, behind}
use Rattle.rules.specs.Records.{line_size}
use Rattle.read_groups.specs.Lines.{lines_at}

-- the 16-bit number that stands for an entry
abbrev pub number_for : Entry → ℕ
number_for e = if ltb e.point point_limit then word_of e else 0

-- the group of point p among the `left` lines from `at` on has c lines, whose entries begin the list e
pub record Taken (τ : Style) (f : List ℕ) (at left p : ℕ) (e : List ℕ) (c : ℕ) : Type 0 where
  pub few : c ≤ left
  pub entries : take c e ≡ map number_for (group τ p (lines_at τ f left at))
  pub rest : behind p (lines_at τ f left at) ≡ lines_at τ f (left - c) (at + line_size τ * c)
