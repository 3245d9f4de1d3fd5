-- The lines of all moves, as they are put into a page.
use Rattle.std.specs.Prelude.{ℕ, ◌≤◌, ◌≡◌, List, length, take}
use Rattle.std.proofs.Common.{ap, arith, subst, take_all}
use Rattle.rules.specs.Moves.{Move}
use Rattle.rules.specs.MoveLines.{move_lines}
use Rattle.pages.specs.declared.Page.{Page}
use Rattle.pages.specs.Pages.{Grown}
use Rattle.printing_line.specs.Putting.{Put, Printed, put_as, put-start}
use Rattle.printing_line.specs.Pages.{printed}

-- all of them
pub lines_all : {page after : List ℕ} {at : ℕ} (ms : List Move) (i : ℕ) → length ms ≤ i → at ≤ length page → Put page 0 (move_lines (take i ms)) after at → Printed page (move_lines ms) after at
lines_all ms i h room p = let q = put_as (ap move_lines (take_all i ms h)) p in put-start (omega (arith, q.behind)) q

-- all of them, in a page that was filled from its first byte on
pub all_printed : {first last : Page} {buffer after : List ℕ} (ms : List Move) (i : ℕ) → length ms ≤ i → first.at ≡ 0 → first.bytes.now ≡ buffer → Grown first (move_lines (take i ms)) last → after ≡ last.bytes.now →
    Printed buffer (move_lines ms) after last.at
all_printed {first} {last} ms i h z b p e = printed z b (subst (λ (l : List Move). Grown first (move_lines l) last) (take_all i ms h) p) e
