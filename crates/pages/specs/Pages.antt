-- A page that is being filled, as the struct `Page`: bytes put behind what stands there.
use Rattle.std.specs.Prelude.{ℕ, ◌+◌, ◌-◌, ◌*◌, ◌≤◌, ◌≡◌, List, [], ◌++◌, length, take, drop}
use Rattle.std.proofs.Common.{refl, ap, sym, ◌∙◌, arith, append_assoc, length-append, drop-drop}
use Rattle.std.proofs.lemmas.List.Edits.{sets-eq}
use Rattle.rules.specs.Refusals.{good}
use Rattle.rules.specs.Records.{bytes_of}
use Rattle.rules.specs.Output.{filled}
use Rattle.rules.proofs.Lengths.{length-bytes, bytes_append}
use Rattle.words.specs.Writing.{Stored, stored_none, behind, length-stored, stored-filled, Pasted}
use Rattle.pages.specs.declared.Page.{Page}
use borrow.Rule.Slice.PartMut.{put_mid}

-- n bytes more fit
abbrev pub HasRoom : Page → ℕ → Type 0
HasRoom page n = page.at + n ≤ length page.bytes.now

-- these bytes were put behind what stood there, in the same buffer
pub record Grown (before : Page) (bytes : List ℕ) (after : Page) : Type 0 where
  pub same : after.bytes.ghost_name ≡ before.bytes.ghost_name
  pub size : length after.bytes.now ≡ length before.bytes.now
  pub at : after.at ≡ before.at + length bytes
  pub fits : after.at ≤ length after.bytes.now
  pub is : Stored before.bytes.now before.at bytes after.bytes.now

-- ---- laws

-- a part of the buffer, now as the text
pub text_stored : (a : ℕ) (text xs : List ℕ) {ys : List ℕ} → ys ≡ text → a + length text ≤ length xs → Stored xs a text (put_mid a (a + length text - a) xs ys)
text_stored a text xs e h =
    let k : a + length text - a ≡ length text = omega arith in
    record { is = rw (e, k, drop-drop (length text) a xs) (sym (sets-eq text xs a h ∙ append_assoc (take a xs) text (drop (a + length text) xs))) }

-- nothing was put
pub grown_none : (page : Page) → page.at ≤ length page.bytes.now → Grown page [] page
grown_none page h = record { same = refl; size = refl; at = omega arith; fits = h; is = stored_none _ _ }

module _ {page middle after : Page} where
  -- some bytes, and then others behind them
  pub grown_both : {a b : List ℕ} → Grown page a middle → Grown middle b after → Grown page (a ++ b) after
  grown_both {a} {b} p q =
      record {
        same = q.same ∙ p.same;
        size = q.size ∙ p.size;
        at = omega (arith, p.at, q.at, length-append a b);
        fits = q.fits;
        is = behind p.at p.is q.is;
      }

  -- numbers, and then others
  pub words_both : (us ws : List ℕ) → Grown page (bytes_of us) middle → Grown middle (bytes_of ws) after → Grown page (bytes_of (us ++ ws)) after
  words_both us ws p q = rw (bytes_append us ws) (grown_both p q)

module _ {page after : Page} (ws : List ℕ) where
  -- numbers were put, over plain lists
  pub pasted : Grown page (bytes_of ws) after → Pasted page.bytes.now page.at ws after.bytes.now after.at
  pasted p = record { is = p.is; behind = omega (arith, p.at, length-bytes ws) }

  -- and back
  pub pasted_grown : after.bytes.ghost_name ≡ page.bytes.ghost_name → page.at + 2 * length ws ≤ length page.bytes.now → Pasted page.bytes.now page.at ws after.bytes.now after.at → Grown page (bytes_of ws) after
  pasted_grown n r p = let l = length-stored p.is in record { same = n; size = l; at = omega (arith, p.behind, length-bytes ws); fits = omega (arith, p.behind, l); is = p.is }

module _ {first last : Page} {buffer bytes after : List ℕ} (z : first.at ≡ 0) (b : first.bytes.now ≡ buffer) (p : Grown first bytes last) (e : after ≡ last.bytes.now) where
  -- FROM THE START: a page that was filled from its first byte on, and the buffer that it leaves
  pub page_stored : Stored buffer 0 bytes after
  page_stored = rw (e, ← b, ← z) p.is

  -- the buffer begins with the bytes, and behind them stands what stood there
  pub page_filled : after ≡ filled buffer (good bytes)
  page_filled = stored-filled (omega (arith, z, p.at, p.fits, ap length e, length-stored page_stored)) page_stored
