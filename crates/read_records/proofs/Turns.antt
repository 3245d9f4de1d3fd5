-- One turn of the loop over records of one size.
use Rattle.std.specs.Prelude.{ℕ, zero, suc, List, ◌≡◌, refl, ◌+◌, ◌-◌, ◌*◌, ◌<◌, ◌≤◌, length, Ok, Err}
use Rattle.std.proofs.Common.{ap, sym, ◌∙◌, arith}
use Rattle.rules.specs.declared.Refused.{Refused}
use Rattle.rules.specs.declared.Refusal.TheVariants.{FileEnds}
use Rattle.rules.specs.Refusals.{Result, good, answer, refusal_at, ◌>>◌}
use Rattle.rules.specs.Records.{several, bytes_in}
use Rattle.read_records.specs.Cursors.{cursor, mark_at, plain_shape}
use Rattle.read_records.specs.Marked.{record_test, record_tests, several-answer, mark-refused, cut_off, stands}

-- the record at hand, then those behind it
records-turn : (f : List ℕ) (mark size left here : ℕ) → 0 < left →
    record_tests f mark size left here ≡ (record_test f mark size here >> record_tests f mark size (left - 1) (here + bytes_in size))
unfolding record_tests
records-turn f mark size zero here h = absurd (omega arith)
records-turn f mark size (suc left) here h =
    let e : left ≡ suc left - 1 = omega arith in
    ap (λ (k : ℕ). record_test f mark size here >> record_tests f mark size k (here + bytes_in size)) e

-- none is left
records_over : (f : List ℕ) (mark size left here : ℕ) → left ≤ 0 → record_tests f mark size left here ≡ good tt
unfolding record_tests
records_over f mark size zero here h = refl
records_over f mark size (suc left) here h = absurd (omega arith)

-- the first i records are there: the tests of all are those of the records behind them
pub record Passed (f : List ℕ) (mark size count at i : ℕ) : Type 0 where
  pub room : at + bytes_in size * i ≤ length f
  pub tests : record_tests f mark size count at ≡ record_tests f mark size (count - i) (at + bytes_in size * i)

pub passed_none : (f : List ℕ) (mark size count at : ℕ) → at ≤ length f → Passed f mark size count at 0
passed_none f mark size count at h =
    let here : at + bytes_in size * 0 ≡ at = omega arith in
    let all : count - 0 ≡ count = omega arith in
    record { room = omega arith; tests = rw (here, all) }

module _ {f : List ℕ} {mark size count at i : ℕ} (p : Passed f mark size count at i) where
  -- what all of them answer, by the test of the record at hand
  module _ (more : i < count) {g : List ℕ} (same : g ≡ f) {here : ℕ} (is : here ≡ at + bytes_in size * i) where
    turn : (t : Result (Unit {0})) → record_test g mark size here ≡ t →
        record_tests f mark size count at ≡ (t >> record_tests f mark size (count - (i + 1)) (at + bytes_in size * (i + 1)))
    turn t h =
        let one : count - i - 1 ≡ count - (i + 1) = omega arith in
        let next : at + bytes_in size * i + bytes_in size ≡ at + bytes_in size * (i + 1) = omega arith in
        let this : record_test f mark size (at + bytes_in size * i) ≡ t = rw (← same, ← is) h in
        p.tests ∙ records-turn f mark size (count - i) (at + bytes_in size * i) (omega arith) ∙ rw (one, next, this)

    pub stops_unmarked : (e : Refused) → answer (mark_at mark g here) ≡ Err e → Err e ≡ answer (several count (plain_shape mark size) (cursor f at))
    stops_unmarked e h = sym (several-answer f mark size count at ∙ ap answer (turn _ (mark-refused g mark size here e h)))

    module _ (marked : answer (mark_at mark g here) ≡ Ok tt) where
      pub stops_short : length g < here + bytes_in size → Err (refusal_at FileEnds here) ≡ answer (several count (plain_shape mark size) (cursor f at))
      stops_short l = sym (several-answer f mark size count at ∙ ap answer (turn _ (cut_off g mark size here marked l)))

      pub passed_more : here + bytes_in size ≤ length g → Passed f mark size count at (i + 1)
      passed_more l = record { room = omega (arith, is, ap (length {A = ℕ}) same); tests = turn _ (stands g mark size here marked l) }

  -- none is left
  pub passed_all : count ≤ i → Ok tt ≡ answer (several count (plain_shape mark size) (cursor f at))
  passed_all h = sym (several-answer f mark size count at ∙ ap answer (p.tests ∙ records_over f mark size (count - i) (at + bytes_in size * i) (omega arith)))
