-- The lines of a stored drawing.
use Rattle.std.specs.Prelude.{ℕ, pred, ◌<◌, ◌≤◌, ◌≡◌, List, length, get_or}
use Rattle.std.proofs.Common.{sym, ap, ◌∙◌, arith, get_or-take}
use Rattle.rules.specs.declared.Line.{Line}
use Rattle.rules.specs.Points.{Drawing, line_at}
use Rattle.promise.specs.Standing.{Standing}
use Rattle.store_links.specs.declared.Counts.{Counts}
use Rattle.store_links.specs.Arrays.{Arrays, Stores}
use Rattle.store_links.specs.Opening.{no_line}

-- A stored line is the drawing's.
pub line_is : {d : Drawing} {a : Arrays} {c : Counts} → Stores d a c → (e : ℕ) → e < length d.lines → get_or a.lines e no_line ≡ line_at d e
line_is {d} {a} s e el = sym (get_or-take (length d.lines) a.lines e no_line el) ∙ ap (λ (l : List Line). get_or l e no_line) s.drawn

module _ {d : Drawing} (h : Standing d) (e : ℕ) (el : e < length d.lines) where
  -- Its ends are placed points.
  pub ends : (0 < (line_at d e).later) × ((line_at d e).later ≤ d.k) × (0 < (line_at d e).earlier) × ((line_at d e).earlier ≤ d.k)
  ends =
      let some = h.sound.ended.ends e el in
      let most : (pred (line_at d e).earlier < d.k) × (pred (line_at d e).later < d.k) = h.sound.core.lines.ends e el in
      (some.1, omega (arith, most.1), some.0, omega (arith, most.0))
