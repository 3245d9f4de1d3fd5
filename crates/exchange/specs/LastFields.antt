-- Where a drawing file has each line's last field.
use Rattle.std.specs.Prelude.{ℕ, pred, ◌+◌, ◌*◌, List, drop}
use Rattle.rules.specs.declared.Style.{Style}
use Rattle.rules.specs.Basics.{head_of}
use Rattle.rules.specs.Styles.{line_numbers}
use Rattle.rules.specs.Records.{bytes_in, head_size, place_size, line_size, words_in}

-- the number that stands at an offset of a file
abbrev pub number_at : List ℕ → ℕ → ℕ
number_at bytes at = head_of (words_in 1 (drop at bytes))

-- where line i has its last field: among the lines, behind those before it, its mark and its other numbers; and in the drawing file of n points
abbrev pub field_among : Style → ℕ → ℕ
field_among τ i = line_size τ * i + bytes_in (pred (line_numbers τ))

abbrev pub field_place : Style → ℕ → ℕ → ℕ
field_place τ n i = head_size + (place_size * n + field_among τ i)
