-- Records of one size in a file, by their offsets: what 1 and 2 refuse, and what the records hold.
use Rattle.std.specs.Prelude.{ℕ, zero, suc, ◌+◌, ◌-◌, ◌*◌, ◌<◌, ◌≤◌, ◌≡◌, Bool, true, false, List, [], ◌∷◌, Ok, Err, length, get_or, drop, ltb}
use Rattle.std.proofs.Math.Path.{refl, ap}
use Rattle.std.proofs.Common.{◌∙◌, add-one, length-drop, drop-cons, drop-drop, arith, lt-ltb, le-ltb, ltb-true, ltb-false}
use Rattle.rules.specs.declared.Refusal.TheVariants.{FileEnds}
use Rattle.rules.specs.declared.Refused.{Refused}
use Rattle.rules.specs.Refusals.{Result, good, refused, answer, ◌>>◌, ◌>>=◌, refuse_if}
use Rattle.rules.specs.Records.{Found, Several, words_in, words_at, read_record, several, bytes_in}
use Rattle.words.specs.Bytes.{word_at}
use Rattle.rules.specs.Results.{refusing, all_passed, answer-then, then-then, then-value, both_pass}
use Rattle.read_records.specs.Cursors.{cursor, mark_at, plain_shape, record_by, mark_there}

-- "1 if fewer than two bytes are left, 2, then 1 for the rest"
unfoldable pub record_test : List ℕ → ℕ → ℕ → ℕ → Result (Unit {0})
record_test f mark size at = do
  mark_at mark f at
  refuse_if (ltb (length f) (at + bytes_in size)) FileEnds at

-- the record at an offset
abbrev pub record_at : List ℕ → ℕ → ℕ → Found
record_at f size at = record { place = at; words = words_in size (drop (at + 2) f); next = cursor f (at + bytes_in size) }

-- c records in succession
unfoldable pub record_tests : List ℕ → ℕ → ℕ → ℕ → ℕ → Result (Unit {0})
record_tests f mark size zero at = good tt
record_tests f mark size (suc c) at = do
  record_test f mark size at
  record_tests f mark size c (at + bytes_in size)

unfoldable pub records_at : List ℕ → ℕ → ℕ → ℕ → List Found
records_at f size zero at = []
records_at f size (suc c) at = record_at f size at ∷ records_at f size c (at + bytes_in size)

-- ---- bytes and numbers

-- a test on what is left, as a test on the length
ltb_left : (a b c : ℕ) → b ≤ a → ltb (a - b) c ≡ ltb a (b + c)
ltb_left a b c h = go (ltb a (b + c)) refl
  where
    go : (t : Bool) → ltb a (b + c) ≡ t → ltb (a - b) c ≡ t
    go true q = let l = ltb-true a (b + c) q in lt-ltb (a - b) c (omega arith)
    go false q = let l = ltb-false a (b + c) q in le-ltb (a - b) c (omega arith)

module _ (f : List ℕ) where
  -- two bytes, and the rest
  two_bytes : (at : ℕ) → at + 2 ≤ length f → drop at f ≡ get_or f at 0 ∷ get_or f (at + 1) 0 ∷ drop (at + 2) f
  two_bytes at h =
      let a : at + 2 ≡ suc (suc at) = omega arith in
      rw (a, add-one, drop-cons f at 0 (omega arith), drop-cons f (suc at) 0 (omega arith))

  -- the numbers of a record, by their offsets
  pub words_in_lem : (size at : ℕ) → at + 2 * size ≤ length f → (i : ℕ) → i < size → get_or (words_in size (drop at f)) i 0 ≡ word_at f (at + 2 * i)
  words_in_lem zero at h i l = absurd (omega arith)
  words_in_lem (suc size) at h zero l =
      let a : at + 2 * 0 ≡ at = omega arith in
      rw (two_bytes at (omega arith), a)
  words_in_lem (suc size) at h (suc i) l =
      let a : at + 2 * suc i ≡ at + 2 + 2 * i = omega arith in
      rw (two_bytes at (omega arith), a) (words_in_lem size (at + 2) (omega arith) i (omega arith))

  -- ---- a record

  -- behind the mark
  rest_is : (size at : ℕ) → at + 2 ≤ length f → words_at at size (cursor f (at + 2)) ≡ (refuse_if (ltb (length f) (at + bytes_in size)) FileEnds at >> good (record_at f size at))
  rest_is size at h =
      let more : at + 2 + 2 * size ≡ at + bytes_in size = omega arith in
      let short : ltb (length f - (at + 2)) (2 * size) ≡ ltb (length f) (at + bytes_in size) = ltb_left (length f) (at + 2) (2 * size) h ∙ ap (ltb (length f)) more in
      rw (length-drop (at + 2) f, short, drop-drop (2 * size) (at + 2) f, more)

  pub record_is : (mark size at : ℕ) → read_record (plain_shape mark size) (cursor f at) ≡ (record_test f mark size at >> good (record_at f size at))
  unfolding record_test
  record_is mark size at = record_by (plain_shape mark size) f at ∙ go (mark_at mark f at) refl
    where
      go : (t : Result (Unit {0})) → mark_at mark f at ≡ t →
          (t >> words_at at size (cursor f (at + 2))) ≡ ((t >> refuse_if (ltb (length f) (at + bytes_in size)) FileEnds at) >> good (record_at f size at))
      go (good u) q = rest_is size at (mark_there mark f at (ap answer q))
      go (refused r p) q = refl

  -- what 1 and 2 say of it
  module _ (mark size at : ℕ) where
    pub mark-refused : (e : Refused) → answer (mark_at mark f at) ≡ Err e → record_test f mark size at ≡ refused e.refusal e.place
    unfolding record_test
    mark-refused e h = rw (refusing (mark_at mark f at) e h)

    module _ (h : answer (mark_at mark f at) ≡ Ok tt) where
      pub cut_off : length f < at + bytes_in size → record_test f mark size at ≡ refused FileEnds at
      unfolding record_test
      cut_off l = rw (all_passed (mark_at mark f at) h, lt-ltb (length f) (at + bytes_in size) l)

      pub stands : at + bytes_in size ≤ length f → record_test f mark size at ≡ good tt
      unfolding record_test
      stands l = rw (all_passed (mark_at mark f at) h, le-ltb (length f) (at + bytes_in size) l)

  -- ---- c records in succession

  pub several_is : (mark size c at : ℕ) →
      several c (plain_shape mark size) (cursor f at) ≡
      (record_tests f mark size c at >> good (record { all = records_at f size c at; next = cursor f (at + bytes_in size * c) }))
  unfolding record_tests records_at
  several_is mark size zero at = ap (λ (n : ℕ). good (record { all = []; next = cursor f n })) (omega arith)
  several_is mark size (suc c) at =
      let one = record_at f size at in
      let far : at + bytes_in size + bytes_in size * c ≡ at + bytes_in size * suc c = omega arith in
      let next = at + bytes_in size in
      let tests = record_tests f mark size c next in
      ap (λ (t : Result Found). t >>= λ g. several c (plain_shape mark size) g.next >>= λ gs. good (record { all = g ∷ gs.all; next = gs.next })) (record_is mark size at) ∙
      then-value (record_test f mark size at) one _ _
      (ap (λ (t : Result Several). t >>= λ gs. good (record { all = one ∷ gs.all; next = gs.next })) (several_is mark size c next) ∙
      then-value tests (record { all = records_at f size c next; next = cursor f (next + bytes_in size * c) }) (λ gs. good (record { all = one ∷ gs.all; next = gs.next })) _ refl ∙
      ap (λ (n : ℕ). tests >> good (record { all = one ∷ records_at f size c next; next = cursor f n })) far) ∙
      then-then (record_test f mark size at) tests _

  -- their answer is that of the tests
  pub several-answer : (mark size c at : ℕ) → answer (several c (plain_shape mark size) (cursor f at)) ≡ answer (record_tests f mark size c at)
  several-answer mark size c at = ap answer (several_is mark size c at) ∙ answer-then (record_tests f mark size c at) _

-- ---- what passed tests tell of the length

-- a record that passes is there whole
pub record_there : (f : List ℕ) (mark size at : ℕ) → record_test f mark size at ≡ good tt → at + bytes_in size ≤ length f
unfolding record_test
record_there f mark size at h = go (ltb (length f) (at + bytes_in size)) refl
  where
    last : refuse_if (ltb (length f) (at + bytes_in size)) FileEnds at ≡ good tt
    last = (both_pass (mark_at mark f at) _ h).1

    go : (t : Bool) → ltb (length f) (at + bytes_in size) ≡ t → at + bytes_in size ≤ length f
    go true q = let z : ◌≡◌ {A = ℕ} 0 1 = cc (ap (λ (b : Bool). refuse_if b FileEnds at) q, last) in absurd (omega arith)
    go false q = ltb-false (length f) (at + bytes_in size) q

-- and so are c of them
pub records_there : (f : List ℕ) (mark size c at : ℕ) → at ≤ length f → record_tests f mark size c at ≡ good tt → at + bytes_in size * c ≤ length f
unfolding record_tests
records_there f mark size zero at l h = omega arith
records_there f mark size (suc c) at l h =
    let t = both_pass (record_test f mark size at) _ h in
    let r = records_there f mark size c (at + bytes_in size) (record_there f mark size at t.0) t.1 in
    omega arith
