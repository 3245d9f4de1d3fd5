-- The questions: a move, a point's place, a line with its bend or without, and a cut line that ends at a point.
use Rattle.std.specs.Prelude.{ℕ, ◌≡◌, Float, Option}
use Rattle.rules.specs.declared.Place.{Place}
use Rattle.rules.specs.Lookups.{look_point, look_line, LooksCut}
use Rattle.rules.specs.Moves.{move_at}
use Rattle.answers.specs.declared.LineSeen.{LineSeen}
use Rattle.answers.specs.Told.{point_seen, line_seen, told_cut}
use Rattle.tool.specs.declared.Tool.{Tool}
use Rattle.tool.specs.declared.Move.{Move}
use Rattle.tool.specs.Checking.{whole_tool}
use Rattle.cutter.specs.Seen.{MoveSeen}
use Rattle.panel_told.specs.Answers.{move_words, point_words, seen_words, ends_seen, cut_words}
use Rattle.panel_asked.specs.Asking.{Question}

-- "Moves are numbered from 0 through the cut lines in line order, and given one at a time by number"
abbrev pub move_asked : Tool → ℕ → Question Move Float
move_asked t i = record { right = λ q m. MoveSeen m (move_at q (whole_tool t) i); given = move_words }

-- "Look-ups give, in grid units, a point's place"
abbrev pub point_asked : ℕ → Question Place ℕ
point_asked p = record { right = λ q s. s ≡ point_seen (look_point q p); given = point_words }

-- "a line's ends, bend and cut flag", which is its kind now
abbrev pub line_asked : ℕ → Question LineSeen ℕ
line_asked e = record { right = λ q s. s ≡ line_seen (look_line q e); given = seen_words }

-- "its look-up gives no bend"
abbrev pub ends_asked : ℕ → Question LineSeen ℕ
ends_asked e = record { right = λ q s. s ≡ line_seen (look_line q e); given = ends_seen }

-- "and some cut line ending at a given point, or none exactly if there is none; which one is free"
abbrev pub cut_asked : ℕ → Question (Option ℕ) ℕ
cut_asked p = record { right = λ q s. LooksCut q p (told_cut s); given = cut_words }
