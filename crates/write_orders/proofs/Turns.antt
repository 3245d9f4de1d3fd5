-- Parts of the stored lines, and one turn of the loop over the points, over plain lists.
use Rattle.std.specs.Prelude.{ℕ, zero, suc, ◌+◌, ◌-◌, ◌*◌, ◌<◌, ◌≤◌, ◌≡◌, refl, Bool, true, false, cond, List, [], ◌∷◌, ◌++◌, map, length, get_or, take, drop, eqb, if◌then◌else◌}
use Rattle.std.specs.List.{prefix_len}
use Rattle.std.proofs.Common.{ap, ap₂, sym, subst, ◌∙◌, arith, length-append}
use Rattle.std.proofs.lemmas.List.{length-take-le, length-drop, get_or-take, get_or-drop}
use Rattle.std.proofs.Math.Seq.{drop-cons}
use Rattle.rules.specs.Records.{entries_mark}
use Rattle.words.specs.Writing.{Pasted, Ahead, ahead_all, ahead_as, ahead-part, ahead_none}
use Rattle.store_links.specs.Opening.{no_line}
use Rattle.rules.specs.declared.Line.{Line}
use Rattle.write_orders.specs.Writing.{Joinable, word_for, count_of, entry_words, point_words, points_words}

-- ---- counting

-- the lines of p that come first in a part of them
pub count-part : (stored : List Line) (p from left : ℕ) → from + left ≤ length stored → prefix_len (λ (l : Line). eqb l.later p) (take left (drop from stored)) ≡ count_of stored p from left
unfolding count_of
count-part stored p from zero h = refl
count-part stored p from (suc left) h =
    rw (drop-cons stored from no_line (omega arith)) (go (eqb (get_or stored from no_line).later p) (count-part stored p (suc from) left (omega arith)))
  where
    go : {m n : ℕ} (t : Bool) → m ≡ n → cond t (1 + m) 0 ≡ (if t then suc n else 0)
    go true e = omega arith
    go false e = refl

-- no more than there are
pub count_most : (stored : List Line) (p from left : ℕ) → count_of stored p from left ≤ left
unfolding count_of
count_most stored p from zero = omega arith
count_most stored p from (suc left) = go (eqb (get_or stored from no_line).later p) (count_most stored p (suc from) left)
  where
    go : (t : Bool) → count_of stored p (suc from) left ≤ left → (if t then suc (count_of stored p (suc from) left) else 0) ≤ suc left
    go true h = omega arith
    go false h = omega arith

-- ---- the entries of a point

pub length-entries : (stored : List Line) (from c : ℕ) → length (entry_words stored from c) ≡ c
unfolding entry_words
length-entries stored from zero = refl
length-entries stored from (suc c) = ap suc (length-entries stored (suc from) c)

-- those of a part of them
entries-part : (stored : List Line) (from c : ℕ) → from + c ≤ length stored → map word_for (take c (drop from stored)) ≡ entry_words stored from c
unfolding entry_words
entries-part stored from zero h = refl
entries-part stored from (suc c) h =
    rw (drop-cons stored from no_line (omega arith)) (ap (λ (l : List ℕ). word_for (get_or stored from no_line) ∷ l) (entries-part stored (suc from) c (omega arith)))

-- the lines from `from` to `from + count`, cut out of them
abbrev pub part : List Line → ℕ → ℕ → List Line
part stored from count = take (from + count - from) (drop from stored)

part_is : (stored : List Line) (from count : ℕ) → part stored from count ≡ take count (drop from stored)
part_is stored from count = let e : from + count - from ≡ count = omega arith in ap (λ (n : ℕ). take n (drop from stored)) e

pub length-part : (stored : List Line) (from count : ℕ) → from + count ≤ length stored → length (part stored from count) ≡ count
length-part stored from count h = ap length (part_is stored from count) ∙ length-take-le count (drop from stored) (omega (arith, length-drop from stored))

-- and its numbers are as small as theirs
pub part_low : (stored : List Line) (from count : ℕ) {lines : ℕ} → Joinable stored lines → from + count ≤ lines → lines ≤ length stored → Joinable (part stored from count) (length (part stored from count))
part_low stored from count h b long e el =
    let t : e < count = omega (arith, el, length-part stored from count (omega arith)) in
    rw (part_is stored from count, get_or-take count (drop from stored) e no_line t, get_or-drop from stored e no_line) (h (from + e) (omega arith))

-- their record
record-part : (stored : List Line) (from count : ℕ) → from + count ≤ length stored →
    ◌≡◌ {A = List ℕ} (entries_mark ∷ length (part stored from count) ∷ map word_for (part stored from count)) (point_words stored from count)
record-part stored from count h =
    ap₂ (λ (n : ℕ) (l : List ℕ). entries_mark ∷ n ∷ l) (length-part stored from count h) (ap (map word_for) (part_is stored from count) ∙ entries-part stored from count h)

-- ---- the records of the points

-- the next point's record, and the others
pub point_next : (stored : List Line) (lines n p from : ℕ) → p ≤ n →
    points_words stored lines (n + 1 - p) p from ≡
    point_words stored from (count_of stored p from (lines - from)) ++
    points_words stored lines (n + 1 - (p + 1)) (p + 1) (from + count_of stored p from (lines - from))
unfolding points_words
point_next stored lines n p from h =
    let a : n + 1 - p ≡ suc (n + 1 - (p + 1)) = omega arith in
    let b : suc p ≡ p + 1 = omega arith in
    let count = count_of stored p from (lines - from) in
    ap (λ (k : ℕ). points_words stored lines k p from) a ∙
    ap (λ (k : ℕ). point_words stored from count ++ points_words stored lines (n + 1 - (p + 1)) k (from + count)) b

-- none is left
pub point_last : (stored : List Line) (lines n p from : ℕ) → n < p → points_words stored lines (n + 1 - p) p from ≡ []
unfolding points_words
point_last stored lines n p from h =
    let a : n + 1 - p ≡ 0 = omega arith in
    ap (λ (k : ℕ). points_words stored lines k p from) a

-- the points below p are written, the others are ahead
pub record Pointing (out₀ : List ℕ) (at : ℕ) (stored : List Line) (n lines : ℕ) (out : List ℕ) (place from p : ℕ) : Type 0 where
  pub within : p ≤ n + 1
  pub lines_left : from ≤ lines
  pub ahead : Ahead out₀ at (points_words stored lines n 1 0) out place (points_words stored lines (n + 1 - p) p from)

pub pointing_start : (out : List ℕ) (at : ℕ) (stored : List Line) (n lines : ℕ) → Pointing out at stored n lines out at 0 1
pointing_start out at stored n lines =
    let a : n ≡ n + 1 - 1 = omega arith in
    let e : points_words stored lines n 1 0 ≡ points_words stored lines (n + 1 - 1) 1 0 = ap (λ (k : ℕ). points_words stored lines k 1 0) a in
    record { within = omega arith; lines_left = omega arith; ahead = ahead_as e (ahead_all out at (points_words stored lines n 1 0)) }

module _ {out₀ : List ℕ} {at : ℕ} {stored : List Line} {n lines : ℕ} {out : List ℕ} {place from p count : ℕ}
    (h : Pointing out₀ at stored n lines out place from p) (b : p ≤ n) (long : lines ≤ length stored)
    (c : count ≡ prefix_len (λ (l : Line). eqb l.later p) (take (lines - from) (drop from stored))) where
  -- its lines
  own : count ≡ count_of stored p from (lines - from)
  own = c ∙ count-part stored p from (lines - from) (omega (arith, h.lines_left))

  -- are there
  pub pointing_lines : from + count ≤ lines
  pointing_lines = omega (arith, own, h.lines_left, count_most stored p from (lines - from))

  -- what is ahead at the next point
  next_point : Ahead out₀ at (points_words stored lines n 1 0) out place (point_words stored from count ++ points_words stored lines (n + 1 - (p + 1)) (p + 1) (from + count))
  next_point =
      ahead_as
      (point_next stored lines n p from b ∙
      ap (λ (k : ℕ). point_words stored from k ++ points_words stored lines (n + 1 - (p + 1)) (p + 1) (from + k)) (sym own))
      h.ahead

  -- its record has room
  pub pointing_room : at + 2 * length (points_words stored lines n 1 0) ≤ length out₀ → place + 4 + 2 * count ≤ length out
  pointing_room r =
      let rest = points_words stored lines (n + 1 - (p + 1)) (p + 1) (from + count) in
      omega (arith, next_point.place, h.ahead.long, length-append (point_words stored from count) rest, length-entries stored from count)

  -- it is written
  pub pointing_more : {out' : List ℕ} {end : ℕ} → Pasted out place (entries_mark ∷ length (part stored from count) ∷ map word_for (part stored from count)) out' end →
      Pointing out₀ at stored n lines out' end (from + count) (p + 1)
  pointing_more {out'} {end} t =
      let w : Pasted out place (point_words stored from count) out' end = subst (λ (l : List ℕ). Pasted out place l out' end) (record-part stored from count (omega (arith, pointing_lines))) t in
      record { within = omega arith; lines_left = pointing_lines; ahead = ahead-part next_point w }

-- all are written
pub pointed : {out₀ : List ℕ} {at : ℕ} {stored : List Line} {n lines : ℕ} {out : List ℕ} {place from p : ℕ} →
    Pointing out₀ at stored n lines out place from p → n < p → Pasted out₀ at (points_words stored lines n 1 0) out place
pointed {stored = stored} {n} {lines} {from = from} {p} h b = ahead_none (ahead_as (point_last stored lines n p from b) h.ahead)
