-- A number in a list, and the lines of a drawing by the entries of their later points: each line is an entry, each entry a line.
use Rattle.std.specs.Prelude.{ℕ, zero, suc, ◌<◌, ◌≡◌, refl, Bool, true, false, List, [], ◌∷◌, map, length, get_or, eqb, if◌then◌else◌}
use Rattle.std.proofs.Common.{sym, ◌∙◌, arith, eq-eqb, eqb-true}
use Rattle.std.proofs.lemmas.List.{length-map}
use Rattle.rules.specs.declared.Line.{Line}
use Rattle.rules.specs.Basics.{keep}
use Rattle.rules.specs.Adding.{points_of}
use Rattle.exchange.specs.Entries.{ends, entry_for, entries_at}

-- x stands in the list
pub record Has (l : List ℕ) (x : ℕ) : Type 0 where
  pub at : ℕ
  pub inside : at < length l
  pub is : get_or l at 0 ≡ x

-- with one more in front it still does
has_more : {l : List ℕ} {x : ℕ} (y : ℕ) → Has l x → Has (y ∷ l) x
has_more y h = record { at = suc h.at; inside = omega (arith, h.inside); is = h.is }

-- the list of a function's values, by index
pub at_map : (g : ℕ → ℕ) (l : List ℕ) (i : ℕ) → i < length l → get_or (map g l) i 0 ≡ g (get_or l i 0)
at_map g [] i b = absurd (omega arith)
at_map g (x ∷ l) zero b = refl
at_map g (x ∷ l) (suc i) b = at_map g l i (omega arith)

-- it has the value of each that the list has, and no other
pub has_map : (g : ℕ → ℕ) {l : List ℕ} {x : ℕ} → Has l x → Has (map g l) (g x)
has_map g {l} h = record { at = h.at; inside = omega (arith, h.inside, length-map l g); is = rw (at_map g l h.at h.inside, h.is) }

pub map_has : (g : ℕ → ℕ) (l : List ℕ) {y : ℕ} → Has (map g l) y → (x : ℕ) × Has l x × (g x ≡ y)
map_has g l h =
    let b : h.at < length l = omega (arith, h.inside, length-map l g) in
    (get_or l h.at 0, record { at = h.at; inside = b; is = refl }, sym (at_map g l h.at b) ∙ h.is)

-- a line whose later point is p: its earlier point is an entry of p
pub line-entry : (p : ℕ) (z : Line) (ls : List Line) (e : ℕ) → e < length ls → (get_or ls e z).later ≡ p → Has (points_of (entries_at p ls)) (get_or ls e z).earlier
line-entry p z [] e b h = absurd (omega arith)
line-entry p z (l ∷ ls) zero b h = rw (eq-eqb l.later p h) (record { at = 0; inside = omega arith; is = refl })
line-entry p z (l ∷ ls) (suc e) b h = go (eqb l.later p) (line-entry p z ls e (omega arith) h)
  where
    go : (t : Bool) → Has (points_of (entries_at p ls)) (get_or ls e z).earlier → Has (points_of (map entry_for (if t then l ∷ keep (ends p) ls else keep (ends p) ls))) (get_or ls e z).earlier
    go true r = has_more l.earlier r
    go false r = r

-- line e of some has these ends
pub record LineOf (ls : List Line) (z : Line) (p q : ℕ) : Type 0 where
  pub line : ℕ
  pub inside : line < length ls
  pub later : (get_or ls line z).later ≡ p
  pub earlier : (get_or ls line z).earlier ≡ q

-- an entry of p: a line of p to it
pub entry-line : (p q : ℕ) (z : Line) (ls : List Line) → Has (points_of (entries_at p ls)) q → LineOf ls z p q
entry-line p q z [] h = absurd (omega (arith, h.inside))
entry-line p q z (l ∷ ls) h = go (eqb l.later p) refl h (λ k. entry-line p q z ls k)
  where
    later : LineOf ls z p q → LineOf (l ∷ ls) z p q
    later k = record { line = suc k.line; inside = omega (arith, k.inside); later = k.later; earlier = k.earlier }

    own : l.later ≡ p → (Has (points_of (entries_at p ls)) q → LineOf ls z p q) → (i : ℕ) → i < suc (length (points_of (entries_at p ls))) → get_or (l.earlier ∷ points_of (entries_at p ls)) i 0 ≡ q →
        LineOf (l ∷ ls) z p q
    own e rec zero b i = record { line = 0; inside = omega arith; later = e; earlier = i }
    own e rec (suc x) b i = later (rec (record { at = x; inside = omega arith; is = i }))

    go : (t : Bool) → eqb l.later p ≡ t → Has (points_of (map entry_for (if t then l ∷ keep (ends p) ls else keep (ends p) ls))) q →
        (Has (points_of (entries_at p ls)) q → LineOf ls z p q) → LineOf (l ∷ ls) z p q
    go false e k rec = later (rec k)
    go true e k rec = own (eqb-true l.later p e) rec k.at k.inside k.is
