-- The lines of all vertices, as they are put into a page.
use Rattle.std.specs.Prelude.{ℕ, ◌≤◌, ◌≡◌, List, length, take}
use Rattle.std.proofs.Common.{ap, arith, subst}
use Rattle.planar_rules.specs.Programs.{vertex_lines}
use Rattle.pages.specs.declared.Page.{Page}
use Rattle.pages.specs.Pages.{Grown}
use Rattle.printing_line.specs.Putting.{Put, Printed, put_as, put-start}
use Rattle.printing_line.specs.Pages.{printed}

-- all of them
pub lines_all : {page after : List ℕ} {at : ℕ} (vs : List ℕ) (i count : ℕ) → i ≡ count → at ≤ length page → Put page 0 (vertex_lines (take i vs)) after at → Printed page (vertex_lines (take count vs)) after at
lines_all vs i count h room p = let q = put_as (ap (λ (k : ℕ). vertex_lines (take k vs)) h) p in put-start (omega (arith, q.behind)) q

-- all of them, in a page that was filled from its first byte on
pub all_printed : {first last : Page} {buffer after : List ℕ} (vs : List ℕ) (i count : ℕ) → i ≡ count → first.at ≡ 0 → first.bytes.now ≡ buffer → Grown first (vertex_lines (take i vs)) last → after ≡ last.bytes.now →
    Printed buffer (vertex_lines (take count vs)) after last.at
all_printed {first} {last} vs i count h z b p e = printed z b (subst (λ (k : ℕ). Grown first (vertex_lines (take k vs)) last) h p) e
