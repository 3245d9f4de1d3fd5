-- What reading the header and the scale of an order file f gives, whatever the style, by the definitions of `rules` at a cursor.
use Rattle.std.specs.Prelude.{ℕ, ◌≤◌, ◌≡◌, List, length, Ok, Err}
use Rattle.rules.specs.declared.Style.{Style}
use Rattle.rules.specs.Refusals.{Answer, good, refused}
use Rattle.rules.specs.OrderFile.{read_scale, read_points, read_order}
use Rattle.read_records.specs.Cursors.{cursor}
use Rattle.read_start.specs.declared.Head.{Head}

-- the scale behind the header, for n points
abbrev pub ScaleRead : List ℕ → ℕ → Answer Head → Type 0
ScaleRead f n (Ok h) = (h.n ≡ n) × (h.at ≤ length f) × (read_scale (cursor f 4) ≡ good (record { s = h.s; next = cursor f h.at }))
ScaleRead f n (Err e) = read_scale (cursor f 4) ≡ refused e.refusal e.place

-- the header and the scale: the points' records are left
abbrev pub HeadRead : List ℕ → Answer Head → Type 0
HeadRead f (Ok h) = (3 ≤ h.n) × (h.n ≤ 1024) × (h.at ≤ length f) × ((τ : Style) → read_order τ f ≡ read_points τ h.n h.s (cursor f h.at))
HeadRead f (Err e) = (τ : Style) → read_order τ f ≡ refused e.refusal e.place
