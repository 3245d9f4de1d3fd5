-- Writing back what was read: where a record was read, the bytes at the cursor are that record, written, and what follows it.
use Rattle.std.specs.Prelude.{ℕ, zero, suc, ◌+◌, ◌*◌, ◌/◌, ◌%◌, ◌<◌, ◌≤◌, ◌≡◌, refl, not, List, [], ◌∷◌, ◌++◌, length, drop, ltb, eqb}
use Rattle.std.proofs.Common.{ap, ap₂, sym, ◌∙◌, subst, arith, length-drop, get_or-drop, ltb-false, eqb-true}
use Rattle.std.proofs.lemmas.Bool.{not-false}
use Rattle.rules.specs.declared.Refusal.TheVariants.{FileEnds, WrongMark}
use Rattle.rules.specs.Basics.{head_of}
use Rattle.rules.specs.Refusals.{good}
use Rattle.rules.specs.Records.{Size, plain, counted, Shape, Cursor, Found, bytes_of, sized, written, words_in, skip, words_at, first, rest_of, read_record}
use Rattle.rules.specs.Found.{Fits}
use Rattle.exchange.specs.Built.{Bytes}
use Rattle.exchange.specs.Numbers.{Words, words_cons}
use Rattle.rules.specs.Results.{same_value, bound, tested}

-- ---- bytes and numbers

-- bytes without the first
bytes-tail : {a : ℕ} {l : List ℕ} → Bytes (a ∷ l) → Bytes l
bytes-tail h = record { byte = λ i b. h.byte (suc i) (omega arith) }

-- bytes without the first c
bytes_drop : {l : List ℕ} (c : ℕ) → Bytes l → Bytes (drop c l)
bytes_drop {l} c h = record { byte = λ i b. rw (get_or-drop c l i 0) (h.byte (c + i) (omega (arith, length-drop c l))) }

-- c numbers, taken from the front of some bytes
record Front (c : ℕ) (bs : List ℕ) : Type 0 where
  split : bs ≡ bytes_of (words_in c bs) ++ drop (2 * c) bs
  count : length (words_in c bs) ≡ c
  words : Words (words_in c bs)

-- where bytes are there for c numbers
front : (c : ℕ) (bs : List ℕ) → Bytes bs → 2 * c ≤ length bs → Front c bs
front zero bs h b = record { split = refl; count = refl; words = record { low = λ i b. absurd (omega arith) } }
front (suc c) [] h b = absurd (omega arith)
front (suc c) (x ∷ []) h b = absurd (omega arith)
front (suc c) (x ∷ y ∷ bs) h b =
    let t = front c bs (bytes-tail (bytes-tail h)) (omega arith) in
    let hx : x < 256 = h.byte 0 (omega arith) in
    let hy : y < 256 = h.byte 1 (omega arith) in
    let high : (x * 256 + y) / 256 ≡ x = omega arith in
    let low : (x * 256 + y) % 256 ≡ y = omega arith in
    let two : 2 * suc c ≡ suc (suc (2 * c)) = omega arith in
    record { split = rw two (cc t.split); count = ap suc t.count; words = words_cons (omega arith) t.words }

-- ---- a record

-- the numbers that were taken at a cursor, and what is left
record Taken (c : ℕ) (at : Cursor) (f : Found) : Type 0 where
  bytes : at.bytes ≡ bytes_of f.words ++ f.next.bytes
  count : length f.words ≡ c
  words : Words f.words
  rest : Bytes f.next.bytes

-- what reading c numbers takes
taken : (place c : ℕ) (at : Cursor) (f : Found) → Bytes at.bytes → words_at place c at ≡ good f → Taken c at f
taken place c at f b h =
    let t = tested (ltb (length at.bytes) (2 * c)) FileEnds place (good (record { place = place; words = words_in c at.bytes; next = skip (2 * c) at })) f h in
    let z = front c at.bytes b (ltb-false (length at.bytes) (2 * c) t.passed) in
    subst (Taken c at) (same_value _ f t.last) (record { bytes = z.split; count = z.count; words = z.words; rest = bytes_drop (2 * c) b })

-- the only number of a list
pub single : (ws : List ℕ) → length ws ≡ 1 → ws ≡ head_of ws ∷ []
single [] h = absurd (omega arith)
single (w ∷ []) h = refl
single (w ∷ v ∷ ws) h = absurd (omega arith)

-- what follows the mark
record Behind (z : Size) (at : Cursor) (f : Found) : Type 0 where
  bytes : at.bytes ≡ bytes_of (sized z f.words) ++ f.next.bytes
  fits : Fits z f.words
  words : Words f.words
  rest : Bytes f.next.bytes

-- by the record's size
behind : (z : Size) (place : ℕ) (at : Cursor) (f : Found) → Bytes at.bytes → rest_of place z at ≡ good f → Behind z at f
behind (plain c) place at f b h = let t = taken place c at f b h in record { bytes = t.bytes; fits = t.count; words = t.words; rest = t.rest }
behind counted place at f b h =
    let g = bound (words_at place 1 at) (λ g. words_at place (first g) g.next) f h in
    let n = taken place 1 at g.value b g.first in
    let t = taken place (first g.value) g.value.next f n.rest g.last in
    let one : g.value.words ≡ length f.words ∷ [] = single g.value.words n.count ∙ ap (λ (c : ℕ). c ∷ []) (sym t.count) in
    record { bytes = n.bytes ∙ ap₂ (λ (ws l : List ℕ). bytes_of ws ++ l) one t.bytes; fits = tt; words = t.words; rest = t.rest }

-- the bytes at the cursor are the record, written, and what follows it
pub record Reread (r : Shape) (at : Cursor) (f : Found) : Type 0 where
  pub bytes : at.bytes ≡ written r f.words ++ f.next.bytes
  pub fits : Fits r.size f.words
  pub words : Words f.words
  pub rest : Bytes f.next.bytes

-- a record that was read
pub reread : (r : Shape) (at : Cursor) (f : Found) → Bytes at.bytes → read_record r at ≡ good f → Reread r at f
reread r at f b h =
    let g = bound (words_at at.offset 1 at) _ f h in
    let n = taken at.offset 1 at g.value b g.first in
    let m = tested (not (eqb (first g.value) r.mark)) WrongMark at.offset (rest_of at.offset r.size g.value.next) f g.last in
    let is : first g.value ≡ r.mark = eqb-true _ _ (not-false _ m.passed) in
    let t = behind r.size at.offset g.value.next f n.rest m.last in
    let one : g.value.words ≡ r.mark ∷ [] = single g.value.words n.count ∙ ap (λ (c : ℕ). c ∷ []) is in
    record { bytes = n.bytes ∙ ap₂ (λ (ws l : List ℕ). bytes_of ws ++ l) one t.bytes; fits = t.fits; words = t.words; rest = t.rest }
