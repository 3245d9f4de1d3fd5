-- A page that is being filled: what is printed, and how far it reaches.
use Rattle.std.specs.Prelude.{ℕ, ◌+◌, ◌≤◌, ◌≡◌, List, length}
use Rattle.std.proofs.Common.{ap, arith}
use Rattle.pages.specs.declared.Page.{Page}
use Rattle.pages.specs.Pages.{Grown, page_filled}
use Rattle.printing_line.specs.Putting.{Printed}

-- at most n bytes were put there
pub record Within (before : Page) (n : ℕ) (after : Page) : Type 0 where
  pub same : after.bytes.ghost_name ≡ before.bytes.ghost_name
  pub size : length after.bytes.now ≡ length before.bytes.now
  pub most : after.at ≤ before.at + n

-- ---- its law

-- FROM THE START: a page that was filled from its first byte on, and the buffer that it leaves
pub printed : {first last : Page} {buffer bytes after : List ℕ} → first.at ≡ 0 → first.bytes.now ≡ buffer → Grown first bytes last → after ≡ last.bytes.now →
    Printed buffer bytes after last.at
printed z b p e = record { is = page_filled z b p e; size = omega (arith, z, p.at); fits = omega (arith, p.fits, ap length e) }
