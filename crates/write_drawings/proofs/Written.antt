-- What is read, found and written is the record of a point or of a line, on plain values.
use Rattle.std.specs.Prelude.{ℕ, ◌+◌, ◌*◌, ◌≡◌, refl, List, [], ◌∷◌, length, get_or, take}
use Rattle.std.proofs.Common.{ap, ◌∙◌, arith, length-append}
use Rattle.rules.specs.declared.Style.{Style}
use Rattle.rules.specs.declared.Style.TheVariants.{OneBend, Straight}
use Rattle.rules.specs.declared.Line.{Line}
use Rattle.rules.specs.declared.Place.{Place}
use Rattle.rules.specs.Records.{bytes_of, written, drawing_head, point_place, line_shape, end_mark, head_size, place_size, line_size}
use Rattle.rules.specs.DrawingFile.{highest, last_field}
use Rattle.rules.specs.Styles.{drawing_mark}
use Rattle.store_links.specs.declared.Counts.{Counts}
use Rattle.store_links.specs.Arrays.{Arrays}
use Rattle.store_links.specs.Opening.{no_line}
use Rattle.write_drawings.specs.Lists.{several, starting, point_bytes, bend_at, line_bytes, head_bytes, file_bytes}
use Rattle.pages.specs.declared.Page.{Page}
use Rattle.pages.specs.Pages.{Grown, grown_both}
use Rattle.write_drawings.specs.Stores.{length-several}
use Rattle.write_drawings.specs.Files.{length-line, from_first}

-- The numbers that are written are the line's record, with its bend
pub line-put : (xs : List ℕ) (a : Arrays) (s e : ℕ) {τ : Style} {l : Line} {place : Place} {x y field : ℕ} {page after : Page} → τ ≡ OneBend → l ≡ get_or a.lines e no_line →
    place ≡ bend_at xs a l → x ≡ s * place.x → y ≡ s * place.y → field ≡ last_field l.kind →
    Grown page (written (line_shape OneBend) (l.later ∷ l.earlier ∷ x ∷ y ∷ field ∷ [])) after → Grown page (line_bytes τ s xs a e) after
unfolding line_bytes
line-put xs a s e t is p x y m h = rw t (rw (x, y, m, p, is) at h)

-- or without one.
pub straight-put : (xs : List ℕ) (a : Arrays) (s e : ℕ) {τ : Style} {l : Line} {field : ℕ} {page after : Page} → τ ≡ Straight → l ≡ get_or a.lines e no_line → field ≡ last_field l.kind →
    Grown page (written (line_shape Straight) (l.later ∷ l.earlier ∷ field ∷ [])) after → Grown page (line_bytes τ s xs a e) after
unfolding line_bytes
straight-put xs a s e t is m h = rw t (rw (m, is) at h)

-- It has its size.
pub length-bytes : (τ : Style) (s : ℕ) (xs : List ℕ) (a : Arrays) (e : ℕ) → length (line_bytes τ s xs a e) ≡ line_size τ
unfolding line_bytes
length-bytes τ s xs a e = length-line τ s (get_or a.lines e no_line) (bend_at xs a (get_or a.lines e no_line))

-- The numbers that are written are the point's record.
pub point-put : (s : ℕ) (xs ys : List ℕ) (i : ℕ) {x y : ℕ} {page after : Page} → x ≡ s * get_or xs i 0 → y ≡ s * get_or ys i 0 →
    Grown page (written point_place (x ∷ y ∷ [])) after → Grown page (point_bytes s xs ys i) after
point-put s xs ys i x y h = rw (x, y) at h

-- Where the records of points and of lines end.
pub points_end : (s : ℕ) (xs ys : List ℕ) (k : ℕ) {page after : Page} → Grown page (several (point_bytes s xs ys) k) after → after.at ≡ page.at + place_size * k
points_end s xs ys k p = omega (arith, p.at, length-several (point_bytes s xs ys) place_size (λ i. refl) k)

pub lines_end : (τ : Style) (s : ℕ) (xs : List ℕ) (a : Arrays) (i k : ℕ) {page after : Page} → Grown page (several (starting (line_bytes τ s xs a) i) k) after → after.at ≡ page.at + line_size τ * k
lines_end τ s xs a i k p = omega (arith, p.at, length-several (starting (line_bytes τ s xs a) i) (line_size τ) (λ j. length-bytes τ s xs a (i + j)) k)

-- The header and the points, one behind the other, are the file's start,
pub head-put : (xs : List ℕ) (a : Arrays) (c : Counts) {mark width top height : ℕ} {p₀ p₁ p₂ : Page} → mark ≡ drawing_mark c.style →
    width ≡ c.s * get_or xs 1 0 → top ≡ highest (take c.k a.ys) → height ≡ c.s * top → Grown p₀ (bytes_of (mark ∷ c.n ∷ c.s ∷ width ∷ height ∷ [])) p₁ →
    Grown p₁ (several (point_bytes c.s xs a.ys) c.k) p₂ → Grown p₀ (head_bytes xs a c) p₂
unfolding head_bytes
head-put xs a c m w t h head points = grown_both (rw (m, w, h, t) at head) points

-- which has its size.
pub length-head : (xs : List ℕ) (a : Arrays) (c : Counts) → length (head_bytes xs a c) ≡ head_size + place_size * c.k
unfolding head_bytes
length-head xs a c =
    length-append (written (drawing_head c.style) (c.n ∷ c.s ∷ c.s * get_or xs 1 0 ∷ c.s * highest (take c.k a.ys) ∷ [])) (several (point_bytes c.s xs a.ys) c.k) ∙
    ap (λ (n : ℕ). head_size + n) (length-several (point_bytes c.s xs a.ys) place_size (λ i. refl) c.k)

-- It, the lines and the end mark are the file.
pub file-put : (xs : List ℕ) (a : Arrays) (c : Counts) {p₀ p₁ p₂ p₃ : Page} → Grown p₀ (head_bytes xs a c) p₁ →
    Grown p₁ (several (starting (line_bytes c.style c.s xs a) 0) c.lines) p₂ → Grown p₂ (bytes_of (end_mark ∷ [])) p₃ → Grown p₀ (file_bytes xs a c) p₃
unfolding file_bytes
file-put xs a c head lines end = grown_both head (grown_both (rw (from_first (line_bytes c.style c.s xs a) c.lines) at lines) end)
