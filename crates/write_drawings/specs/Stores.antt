-- Records of one size put into a page, one behind the other.
use Rattle.std.specs.Prelude.{ℕ, zero, suc, ◌+◌, ◌*◌, ◌≤◌, ◌≡◌, List, length}
use Rattle.std.proofs.Common.{arith, add-one, length-append}
use Rattle.pages.specs.declared.Page.{Page}
use Rattle.pages.specs.Pages.{Grown, grown_none, grown_both}
use Rattle.write_drawings.specs.Lists.{several}

-- Records of `size` bytes each.
pub length-several : (f : ℕ → List ℕ) (size : ℕ) → ((i : ℕ) → length (f i) ≡ size) → (n : ℕ) → length (several f n) ≡ size * n
unfolding several
length-several f size h zero = omega arith
length-several f size h (suc n) = rw (length-append (several f n) (f n), length-several f size h n, h n) (omega arith)

-- Before the first record nothing is put.
pub none_put : (f : ℕ → List ℕ) (page : Page) → page.at ≤ length page.bytes.now → Grown page (several f 0) page
unfolding several
none_put f page h = grown_none page h

-- One record more behind i records.
pub record_more : (f : ℕ → List ℕ) (i : ℕ) {page middle after : Page} → Grown page (several f i) middle → Grown middle (f i) after → Grown page (several f (i + 1)) after
unfolding several
record_more f i g e = rw add-one (grown_both g e)
