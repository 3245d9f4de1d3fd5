-- The bytes of a file from an offset on, and a record read there, by the file's length and the numbers in it.
use Rattle.std.specs.Prelude.{ℕ, zero, suc, ◌+◌, ◌*◌, ◌<◌, ◌≤◌, ◌≡◌, refl, Bool, true, false, not, List, [], ◌∷◌, ◌++◌, length, take, drop, set, ltb, eqb, Ok, Err}
use Rattle.std.proofs.Common.{ap, sym, ◌∙◌, add-one, arith, length-drop, drop-cons, drop-drop, get_or-drop, take-suc-set, lt-ltb, le-ltb, ltb-true, ltb-false}
use Rattle.rules.specs.declared.Refusal.TheVariants.{FileEnds, WrongMark, ExtraBytes}
use Rattle.rules.specs.declared.Refused.{Refused}
use Rattle.rules.specs.Refusals.{Result, good, refused, answer, refusal_at, ◌>>◌, refuse_if}
use Rattle.rules.specs.Records.{Shape, plain, Cursor, Found, words_in, words_at, rest_of, read_record, read_end, point_entries, end_shape, entries_mark, end_mark}
use Rattle.words.specs.Bytes.{word_at}
use Rattle.rules.proofs.Lengths.{length-words}
use Rattle.rules.specs.Results.{refusing, all_passed}

-- the file f from offset `at` on
abbrev pub cursor : List ℕ → ℕ → Cursor
cursor f at = record { offset = at; bytes = drop at f }

-- the mark of a record: 1, then 2
abbrev pub mark_at : ℕ → List ℕ → ℕ → Result (Unit {0})
mark_at mark f at = do
  refuse_if (ltb (length f) (at + 2)) FileEnds at
  refuse_if (not (eqb (word_at f at) mark)) WrongMark at

-- a mark and `size` numbers
abbrev pub plain_shape : ℕ → ℕ → Shape
plain_shape mark size = record { mark = mark; size = plain size }

-- a record with the numbers ws, and the offset behind it
abbrev pub found : List ℕ → ℕ → List ℕ → ℕ → Result Found
found f at ws next = good (record { place = at; words = ws; next = cursor f next })

-- ---- numbers

-- fewer than two bytes are no number
no_number : (l : List ℕ) → length l < 2 → words_in 1 l ≡ []
no_number [] h = refl
no_number (a ∷ []) h = refl
no_number (a ∷ b ∷ l) h = absurd (omega arith)

module _ (f : List ℕ) (at : ℕ) where
  pub none_left : length f < at + 2 → words_in 1 (drop at f) ≡ []
  none_left h = no_number (drop at f) (omega (arith, length-drop at f))

  pub one_left : at + 2 ≤ length f → words_in 1 (drop at f) ≡ word_at f at ∷ []
  one_left h =
      let a : at < length f = omega arith in
      let b : suc at < length f = omega arith in
      rw (add-one, drop-cons f at 0 a, drop-cons f (suc at) 0 b)

  module _ (place c : ℕ) where
    -- c numbers that aren't all there
    pub short : at ≤ length f → length f < at + 2 * c → words_at place c (cursor f at) ≡ refused FileEnds place
    short h l = rw (lt-ltb (length (drop at f)) (2 * c) (omega (arith, length-drop at f)))

    -- and that are
    pub there : at + 2 * c ≤ length f → words_at place c (cursor f at) ≡ found f place (words_in c (drop at f)) (at + 2 * c)
    there l = rw (le-ltb (length (drop at f)) (2 * c) (omega (arith, length-drop at f)), drop-drop (2 * c) at f)

-- one number more
words_more : (c : ℕ) (l : List ℕ) → 2 * suc c ≤ length l → words_in (suc c) l ≡ words_in c l ++ (word_at l (2 * c) ∷ [])
words_more c [] h = absurd (omega arith)
words_more c (a ∷ []) h = absurd (omega arith)
words_more zero (a ∷ b ∷ l) h = refl
words_more (suc c) (a ∷ b ∷ l) h =
    let two : 2 * suc c ≡ suc (suc (2 * c)) = omega arith in
    rw (two, add-one (suc (suc (2 * c)))) (ap (λ (ws : List ℕ). (a * 256 + b) ∷ ws) (rw (add-one (2 * c)) at (words_more c l (omega arith))))

-- a number behind an offset
word_behind : (f : List ℕ) (at j : ℕ) → word_at (drop at f) j ≡ word_at f (at + j)
word_behind f at j = let assoc : at + (j + 1) ≡ at + j + 1 = omega arith in rw (get_or-drop at f j 0, get_or-drop at f (j + 1) 0, assoc)

-- two numbers
pub two_left : (f : List ℕ) (at : ℕ) → at + 4 ≤ length f → words_in 2 (drop at f) ≡ word_at f at ∷ word_at f (at + 2) ∷ []
two_left f at h = rw (words_more 1 (drop at f) (omega (arith, length-drop at f)), one_left f at (omega arith), word_behind f at 2)

-- a turn of the copying: i numbers stand at the front of e, and the next one is stored
pub copied : (f e : List ℕ) (at i v : ℕ) → at + 2 * (i + 1) ≤ length f → i < length e → take i e ≡ words_in i (drop at f) → v ≡ word_at f (at + 2 * i) →
    take (i + 1) (set e i v) ≡ words_in (i + 1) (drop at f)
copied f e at i v h b t q =
    let one : word_at (drop at f) (2 * i) ≡ v = word_behind f at (2 * i) ∙ sym q in
    let more = words_more i (drop at f) (omega (arith, length-drop at f)) in
    rw (add-one i, take-suc-set e i v b, t, more, one)

-- c numbers that are there
pub words_count : (f : List ℕ) (from c : ℕ) → from + 2 * c ≤ length f → length (words_in c (drop from f)) ≡ c
words_count f from c h = length-words c (drop from f) (omega (arith, length-drop from f))

-- ---- a record

-- its mark, then the rest
pub record_by : (r : Shape) (f : List ℕ) (at : ℕ) → read_record r (cursor f at) ≡ (mark_at r.mark f at >> rest_of at r.size (cursor f (at + 2)))
record_by r f at = go (ltb (length f) (at + 2)) refl
  where
    go : (b : Bool) → ltb (length f) (at + 2) ≡ b → read_record r (cursor f at) ≡ (mark_at r.mark f at >> rest_of at r.size (cursor f (at + 2)))
    go true q = let l = ltb-true (length f) (at + 2) q in rw (q, lt-ltb (length (drop at f)) 2 (omega (arith, length-drop at f)))
    go false q = let l = ltb-false (length f) (at + 2) q in rw (q, there f at at 1 l, one_left f at l)

module _ (r : Shape) (f : List ℕ) (at : ℕ) where
  -- the mark is refused
  pub unmarked : (e : Refused) → answer (mark_at r.mark f at) ≡ Err e → read_record r (cursor f at) ≡ refused e.refusal e.place
  unmarked e q = rw (record_by r f at, refusing (mark_at r.mark f at) e q)

  -- the mark is there
  pub marked_by : answer (mark_at r.mark f at) ≡ Ok tt → read_record r (cursor f at) ≡ rest_of at r.size (cursor f (at + 2))
  marked_by q = rw (record_by r f at, all_passed (mark_at r.mark f at) q)

-- two bytes are there, where a mark was found
pub mark_there : (mark : ℕ) (f : List ℕ) (at : ℕ) → answer (mark_at mark f at) ≡ Ok tt → at + 2 ≤ length f
mark_there mark f at m = go (ltb (length f) (at + 2)) refl m
  where
    go : (b : Bool) → ltb (length f) (at + 2) ≡ b → answer (refuse_if b FileEnds at >> refuse_if (not (eqb (word_at f at) mark)) WrongMark at) ≡ Ok tt → at + 2 ≤ length f
    go true q a = let z : ◌≡◌ {A = ℕ} 0 1 = cc in absurd (omega arith)
    go false q a = ltb-false (length f) (at + 2) q

-- ---- what follows the mark

module _ (f : List ℕ) (at : ℕ) where
  -- one number, and nothing else
  module _ (mark : ℕ) (m : answer (mark_at mark f at) ≡ Ok tt) where
    pub number_short : length f < at + 4 → read_record (plain_shape mark 1) (cursor f at) ≡ refused FileEnds at
    number_short l = marked_by (plain_shape mark 1) f at m ∙ short f (at + 2) at 1 (mark_there mark f at m) (omega arith)

    pub number_there : (v : ℕ) → at + 4 ≤ length f → v ≡ word_at f (at + 2) → read_record (plain_shape mark 1) (cursor f at) ≡ found f at (v ∷ []) (at + 4)
    number_there v l q =
        let four : at + 2 + 2 * 1 ≡ at + 4 = omega arith in
        marked_by (plain_shape mark 1) f at m ∙ there f (at + 2) at 1 (omega arith) ∙ rw (one_left f (at + 2) (omega arith), ← q, four)

  -- a count, and that many
  module _ (m : answer (mark_at entries_mark f at) ≡ Ok tt) where
    pub no_count : length f < at + 4 → read_record point_entries (cursor f at) ≡ refused FileEnds at
    no_count l = marked_by point_entries f at m ∙ rw (short f (at + 2) at 1 (mark_there entries_mark f at m) (omega arith))

    counted_by : (c : ℕ) → at + 4 ≤ length f → c ≡ word_at f (at + 2) → read_record point_entries (cursor f at) ≡ words_at at c (cursor f (at + 4))
    counted_by c l q =
        let four : at + 2 + 2 * 1 ≡ at + 4 = omega arith in
        marked_by point_entries f at m ∙ rw (there f (at + 2) at 1 (omega arith), one_left f (at + 2) (omega arith), ← q, four)

    pub entries-short : (c : ℕ) → at + 4 ≤ length f → c ≡ word_at f (at + 2) → length f < at + 4 + 2 * c → read_record point_entries (cursor f at) ≡ refused FileEnds at
    entries-short c l q s = counted_by c l q ∙ short f (at + 4) at c l s

    pub entries_there : (c : ℕ) → at + 4 + 2 * c ≤ length f → c ≡ word_at f (at + 2) → read_record point_entries (cursor f at) ≡ found f at (words_in c (drop (at + 4) f)) (at + 4 + 2 * c)
    entries_there c l q = counted_by c (omega arith) q ∙ there f (at + 4) at c l

  -- nothing: the end record
  module _ (m : answer (mark_at end_mark f at) ≡ Ok tt) where
    end_by : read_record end_shape (cursor f at) ≡ found f at [] (at + 2)
    end_by =
        let none : at + 2 + 2 * 0 ≡ at + 2 = omega arith in
        marked_by end_shape f at m ∙ there f (at + 2) at 0 (omega (arith, mark_there end_mark f at m)) ∙ rw none

    pub extra : at + 2 < length f → Err (refusal_at ExtraBytes (at + 2)) ≡ answer (read_end (cursor f at))
    extra l = rw (end_by, lt-ltb 0 (length (drop (at + 2) f)) (omega (arith, length-drop (at + 2) f)))

    pub ended : length f ≤ at + 2 → Ok tt ≡ answer (read_end (cursor f at))
    ended l = rw (end_by, le-ltb 0 (length (drop (at + 2) f)) (omega (arith, length-drop (at + 2) f)))

  -- no end record
  pub no_end : (e : Refused) → answer (mark_at end_mark f at) ≡ Err e → answer (mark_at end_mark f at) ≡ answer (read_end (cursor f at))
  no_end e q = q ∙ rw (unmarked end_shape f at e q)
