-- The records of points 1 to 3: what each test makes of them.
use Rattle.std.proofs.Common.{sym, ◌∙◌, subst, arith, eq-eqb, ne_eqb}
use Rattle.std.specs.Prelude.{ℕ, ◌+◌, ◌≡◌, true, false, ◌||◌, List, [], ◌∷◌, map, Ok, Err, length, drop}
use Rattle.std.proofs.lemmas.List.{length-map}
use Rattle.rules.specs.declared.Style.{Style}
use Rattle.rules.specs.declared.Entry.{Entry}
use Rattle.rules.specs.declared.Refusal.{Refusal}
use Rattle.rules.specs.declared.Refusal.TheVariants.{BothMarks, OtherStart}
use Rattle.rules.specs.declared.Reading.TheVariants.{Given}
use Rattle.rules.specs.Basics.{same, any_of}
use Rattle.rules.specs.Bools.{neither}
use Rattle.rules.specs.Same.{other_length}
use Rattle.rules.specs.Refusals.{Answer, refused}
use Rattle.rules.specs.Entries.{read_entry, is_both, point_read, points_read}
use Rattle.rules.specs.Readings.{entry_of}
use Rattle.rules.proofs.Readings.{entry_read}
use Rattle.rules.specs.Records.{words_in, read_record, point_entries}
use Rattle.rules.specs.OrderFile.{read_points}
use Rattle.store_links.specs.Judging.{point_in}
use Rattle.words.specs.Bytes.{word_at}
use Rattle.read_records.specs.Cursors.{cursor, one_left, two_left, words_count}
use Rattle.read_records.specs.Reading.{Got}
use Rattle.read_start.specs.declared.Start.{Start}
use Rattle.read_start.specs.Starting.{third_from, second_from, points_from, Begun, StartRead}

-- entries of another count are not the same
other_count : (ws wanted : List ℕ) → (length ws ≡ length wanted → ⊥) → same (points_read (map read_entry ws)) wanted ≡ false
other_count ws wanted n = other_length (points_read (map read_entry ws)) wanted (λ q. n (sym (length-map (map read_entry ws) point_read ∙ length-map ws read_entry) ∙ q))

-- a record whose count is known
pub counted : {f : List ℕ} {at c d from next : ℕ} → Got f at c from next → c ≡ d → Got f at d from next
counted {f = f} {at = at} {from = from} {next = next} g h = subst (λ (n : ℕ). Got f at n from next) h g

pub none_both : (f : List ℕ) (from : ℕ) {c d : ℕ} → c ≡ d → any_of is_both (map read_entry (words_in c (drop from f))) ≡ false → any_of is_both (map read_entry (words_in d (drop from f))) ≡ false
none_both f from h o = subst (λ (n : ℕ). any_of is_both (map read_entry (words_in n (drop from f))) ≡ false) h o

-- the record is refused
module _ (f : List ℕ) (at : ℕ) (r : Refusal) (p : ℕ) (h : read_record point_entries (cursor f at) ≡ refused r p) (τ : Style) (n s : ℕ) where
  pub first_bad : points_from (cursor f at) τ n s ≡ refused r p
  unfolding read_points
  first_bad = rw h

  pub second_bad : second_from (cursor f at) τ n s ≡ refused r p
  second_bad = rw h

  pub third_bad : (second : List Entry) → third_from second (cursor f at) τ n s ≡ refused r p
  third_bad second = rw h

module _ {f : List ℕ} {at c from next : ℕ} (g : Got f at c from next) where
  wrong_count : (wanted : List ℕ) → (c ≡ length wanted → ⊥) → same (points_read (map read_entry (words_in c (drop from f)))) wanted ≡ false
  wrong_count wanted n = other_count (words_in c (drop from f)) wanted (λ q. n (sym (words_count f from c (omega (arith, g.room, g.behind))) ∙ q))

  -- ---- point 1
  pub first_count : (c ≡ 0 → ⊥) → (τ : Style) (n s : ℕ) → points_from (cursor f at) τ n s ≡ refused OtherStart at
  unfolding read_points
  first_count w τ n s = rw (g.is, wrong_count [] w)

  -- ---- point 2, and point 3
  module _ (b : any_of is_both (map read_entry (words_in c (drop from f))) ≡ true) where
    pub second_both : (τ : Style) (n s : ℕ) → second_from (cursor f at) τ n s ≡ refused BothMarks at
    second_both τ n s = rw (g.is, b)

    pub third_both : (second : List Entry) (τ : Style) (n s : ℕ) → third_from second (cursor f at) τ n s ≡ refused BothMarks at
    third_both second τ n s = rw (g.is, b)

  module _ (o : any_of is_both (map read_entry (words_in c (drop from f))) ≡ false) where
    pub second_count : (c ≡ 1 → ⊥) → (τ : Style) (n s : ℕ) → second_from (cursor f at) τ n s ≡ refused OtherStart at
    second_count w τ n s = rw (g.is, o, wrong_count (1 ∷ []) w)

    pub third_count : (c ≡ 2 → ⊥) → (second : List Entry) (τ : Style) (n s : ℕ) → third_from second (cursor f at) τ n s ≡ refused OtherStart at
    third_count w second τ n s = rw (g.is, o, wrong_count (1 ∷ 2 ∷ []) w)

-- point 1's record has no entry
module _ {f : List ℕ} {at from next : ℕ} (g : Got f at 0 from next) where
  pub first_in : (o : Answer Start) → StartRead f (second_from (cursor f next)) o → StartRead f (points_from (cursor f at)) o
  unfolding read_points
  first_in (Ok t) h = record { room = h.room; first = h.first; second = h.second; third = h.third; rest = λ τ n s. rw g.is (h.rest τ n s) }
  first_in (Err e) h = λ τ n s. rw g.is (h τ n s)

-- point 2's record has one, a
module _ {f : List ℕ} {at from next : ℕ} (g : Got f at 1 from next) (o : any_of is_both (map read_entry (words_in 1 (drop from f))) ≡ false) {a : ℕ} (is-a : a ≡ word_at f from) where
  one : words_in 1 (drop from f) ≡ a ∷ []
  one = one_left f from (omega (arith, g.room, g.behind)) ∙ rw is-a

  given : read_entry a ≡ Given (entry_of a)
  given = entry_read a (neither (is_both (read_entry a)) false (rw one at o)).0

  pub second_other : (point_in a ≡ 1 → ⊥) → (τ : Style) (n s : ℕ) → second_from (cursor f at) τ n s ≡ refused OtherStart at
  second_other w τ n s = rw (g.is, one, given, ne_eqb (point_in a) 1 w)

  second_by : point_in a ≡ 1 → (τ : Style) (n s : ℕ) → second_from (cursor f at) τ n s ≡ third_from (entry_of a ∷ []) (cursor f next) τ n s
  second_by w τ n s = rw (g.is, one, given, eq-eqb (point_in a) 1 w)

  pub second_in : point_in a ≡ 1 → (o : Answer Start) → StartRead f (third_from (entry_of a ∷ []) (cursor f next)) o → StartRead f (second_from (cursor f at)) o
  second_in w (Ok t) h = record { room = h.room; first = h.first; second = h.second; third = h.third; rest = λ τ n s. second_by w τ n s ∙ h.rest τ n s }
  second_in w (Err e) h = λ τ n s. second_by w τ n s ∙ h τ n s

-- point 3's record has two, b and c
module _ {f : List ℕ} {at from next : ℕ} (g : Got f at 2 from next) (o : any_of is_both (map read_entry (words_in 2 (drop from f))) ≡ false) {b c : ℕ} (is_b : b ≡ word_at f from) (is_c : c ≡ word_at f (from + 2)) where
  two : words_in 2 (drop from f) ≡ b ∷ c ∷ []
  two = two_left f from (omega (arith, g.room, g.behind)) ∙ rw (is_b, is_c)

  neither_both : (is_both (read_entry b) ≡ false) × ((is_both (read_entry c) || false) ≡ false)
  neither_both = neither (is_both (read_entry b)) (is_both (read_entry c) || false) (rw two at o)

  given_b : read_entry b ≡ Given (entry_of b)
  given_b = entry_read b neither_both.0

  given_c : read_entry c ≡ Given (entry_of c)
  given_c = entry_read c (neither (is_both (read_entry c)) false neither_both.1).0

  pub third_first : (point_in b ≡ 1 → ⊥) → (second : List Entry) (τ : Style) (n s : ℕ) → third_from second (cursor f at) τ n s ≡ refused OtherStart at
  third_first w second τ n s = rw (g.is, two, given_b, given_c, ne_eqb (point_in b) 1 w)

  module _ (w : point_in b ≡ 1) where
    pub third_second : (point_in c ≡ 2 → ⊥) → (second : List Entry) (τ : Style) (n s : ℕ) → third_from second (cursor f at) τ n s ≡ refused OtherStart at
    third_second v second τ n s = rw (g.is, two, given_b, given_c, eq-eqb (point_in b) 1 w, ne_eqb (point_in c) 2 v)

    pub third_in : (a : ℕ) → point_in a ≡ 1 → point_in c ≡ 2 → Begun f (third_from (entry_of a ∷ []) (cursor f at)) a b c next
    third_in a h v = record { room = g.room; first = h; second = w; third = v; rest = λ τ n s. rw (g.is, two, given_b, given_c, eq-eqb (point_in b) 1 w, eq-eqb (point_in c) 2 v) }
