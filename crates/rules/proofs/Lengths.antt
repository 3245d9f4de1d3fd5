-- How long the lists of the rules are, what their front is, what their highest number is, and lists one behind the other.
use Rattle.std.specs.Prelude.{ℕ, zero, suc, ◌*◌, ◌/◌, ◌%◌, ◌<◌, ◌≤◌, ◌≡◌, refl, List, [], ◌∷◌, ◌++◌, map, length, get_or, take}
use Rattle.std.proofs.Common.{sym, ap, ◌∙◌, arith, length-append, get_or-take}
use Rattle.std.proofs.lemmas.List.{length-map}
use Rattle.rules.specs.declared.Style.{Style}
use Rattle.rules.specs.declared.Style.TheVariants.{OneBend, Straight}
use Rattle.rules.specs.declared.Entry.{Entry}
use Rattle.rules.specs.declared.Bend.{Bend}
use Rattle.rules.specs.Basics.{snoc}
use Rattle.rules.specs.Readings.{entry_of}
use Rattle.rules.specs.Adding.{points_of, new_lines}
use Rattle.rules.specs.Records.{bytes_of, words_in, line_size}
use Rattle.rules.specs.DrawingFile.{highest}

-- there are as many points as entries
pub length-points : (es : List Entry) → length (points_of es) ≡ length es
length-points es = length-map es (λ e. e.point)

-- so of the numbers of a call
pub length-call : (ws : List ℕ) → length (points_of (map entry_of ws)) ≡ length ws
length-call ws = length-points (map entry_of ws) ∙ length-map ws entry_of

-- and as many new lines
pub length_new : (p : ℕ) (bend : ℕ → Bend) (i : ℕ) (es : List Entry) → length (new_lines p bend i es) ≡ length es
length_new p bend i [] = refl
length_new p bend i (e ∷ es) = ap suc (length_new p bend (suc i) es)

-- a list with one element more is one longer
pub length-snoc : {A : Type 0} (l : List A) (a : A) → length (snoc l a) ≡ suc (length l)
length-snoc l a = omega (arith, length-append l (a ∷ []))

-- an element of the first k, which are the list g
pub first_at : (l g : List ℕ) (k i : ℕ) → take k l ≡ g → i < k → get_or l i 0 ≡ get_or g i 0
first_at l g k i e h = sym (get_or-take k l i 0 h) ∙ ap (λ (t : List ℕ). get_or t i 0) e

-- no number is above the highest
pub high_most : (ys : List ℕ) (i : ℕ) → i < length ys → get_or ys i 0 ≤ highest ys
high_most [] i h = absurd (omega arith)
high_most (y ∷ ys) zero h = omega arith
high_most (y ∷ ys) (suc i) h = omega (arith, high_most ys i (omega arith))

-- and the highest is at most what bounds all of them
pub high-least : (ys : List ℕ) (b : ℕ) → ((i : ℕ) → i < length ys → get_or ys i 0 ≤ b) → highest ys ≤ b
high-least [] b h = omega arith
high-least (y ∷ ys) b h = omega (arith, h 0 (omega arith), high-least ys b (λ i k. h (suc i) (omega arith)))

-- numbers have two bytes each
pub length-bytes : (ws : List ℕ) → length (bytes_of ws) ≡ 2 * length ws
length-bytes [] = refl
length-bytes (w ∷ ws) = omega (arith, length-bytes ws)

-- c numbers, taken from the front of enough bytes, are c
pub length-words : (c : ℕ) (bs : List ℕ) → 2 * c ≤ length bs → length (words_in c bs) ≡ c
length-words zero bs b = refl
length-words (suc c) [] b = absurd (omega arith)
length-words (suc c) (x ∷ []) b = absurd (omega arith)
length-words (suc c) (x ∷ y ∷ bs) b = ap suc (length-words c bs (omega arith))

-- the bytes of two lists of numbers, one behind the other
pub bytes_append : (us ws : List ℕ) → bytes_of (us ++ ws) ≡ bytes_of us ++ bytes_of ws
bytes_append [] ws = refl
bytes_append (u ∷ us) ws = ap (λ (l : List ℕ). (u / 256) ∷ (u % 256) ∷ l) (bytes_append us ws)

-- a function over two lists, one behind the other
pub map_append : {A B : Type 0} (f : A → B) (a b : List A) → map f (a ++ b) ≡ map f a ++ map f b
map_append f [] b = refl
map_append {B = B} f (x ∷ a) b = ap (λ (l : List B). f x ∷ l) (map_append f a b)

-- ---- the line records of a drawing file

-- each has two points and a kind at least, and a bend besides at most
pub line-long : (τ : Style) → (8 ≤ line_size τ) × (line_size τ ≤ 12)
line-long OneBend = (omega arith, omega arith)
line-long Straight = (omega arith, omega arith)

-- c of them fit where more do
pub lines_fit : (τ : Style) (c left : ℕ) → c ≤ left → line_size τ * c ≤ line_size τ * left
lines_fit OneBend c left h = omega arith
lines_fit Straight c left h = omega arith
