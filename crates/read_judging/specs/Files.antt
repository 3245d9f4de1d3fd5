-- A drawing file of a style by its offsets: the header, n points of 6 bytes, 3n - 6 lines, the end; and the tests on these before the groups of points 4 to n.
use Rattle.std.specs.Prelude.{ℕ, ◌+◌, ◌-◌, ◌*◌, ◌≤◌, ◌≡◌, not, ◌&&◌, List, length}
use Rattle.std.proofs.Common.{arith}
use Rattle.std.proofs.lemmas.Bool.{not-false}
use Rattle.rules.specs.declared.Style.{Style}
use Rattle.rules.specs.declared.Refusal.TheVariants.{OutOfRange}
use Rattle.rules.specs.Basics.{between}
use Rattle.rules.specs.Refusals.{Result, good, ◌>>◌, refuse_if}
use Rattle.rules.specs.Styles.{drawing_mark, line_numbers}
use Rattle.rules.specs.Records.{Found, read_end, place_mark, line_mark, head_size, place_size, line_size}
use Rattle.words.specs.Bytes.{word_at}
use Rattle.rules.specs.Bools.{both, in_range}
use Rattle.rules.specs.Results.{both_pass, test_false}
use Rattle.read_records.specs.Cursors.{cursor}
use Rattle.read_records.specs.Marked.{record_tests, records_there}
use Rattle.read_groups.specs.Lines.{lines_at}
use Rattle.read_judging.specs.Starting.{start_tests}

-- n and s in the header
abbrev pub n_in : List ℕ → ℕ
n_in f = word_at f 2

abbrev pub s_in : List ℕ → ℕ
s_in f = word_at f 4

-- where the lines start, how many there are, and where they end
abbrev pub lines_from : ℕ → ℕ
lines_from n = head_size + place_size * n

abbrev pub line_count : ℕ → ℕ
line_count n = 3 * n - 6

abbrev pub lines_end : Style → ℕ → ℕ
lines_end τ n = lines_from n + line_size τ * line_count n

-- the lines of a file
abbrev pub lines_of : Style → List ℕ → List Found
lines_of τ f = lines_at τ f (line_count (n_in f)) (lines_from (n_in f))

-- "1, 2, 3 on the header (s from 1 to 8)"
unfoldable pub head_tests : Style → List ℕ → Result (Unit {0})
head_tests τ f = do
  record_tests f (drawing_mark τ) 4 1 0
  refuse_if (not (between 3 1024 (n_in f) && between 1 8 (s_in f))) OutOfRange 0

-- "1 and 2 on all other records, 10"
unfoldable pub body_tests : Style → List ℕ → ℕ → Result (Unit {0})
body_tests τ f n = do
  record_tests f place_mark 2 n head_size
  record_tests f line_mark (line_numbers τ) (line_count n) (lines_from n)
  read_end (cursor f (lines_end τ n))

-- "1, 2, 3 on the header, 1 and 2 on all other records, 10, then 4"
unfoldable pub file_tests : Style → List ℕ → Result (Unit {0})
file_tests τ f = do
  head_tests τ f
  body_tests τ f (n_in f)
  start_tests τ (lines_end τ (n_in f)) (lines_of τ f)

-- ---- what tests that pass tell

pub head_tells : (τ : Style) (f : List ℕ) → head_tests τ f ≡ good tt → (head_size ≤ length f) × (3 ≤ n_in f) × (n_in f ≤ 1024)
unfolding head_tests
head_tells τ f h =
    let t = both_pass (record_tests f (drawing_mark τ) 4 1 0) _ h in
    let r = both (between 3 1024 (n_in f)) (between 1 8 (s_in f)) (not-false _ (test_false _ OutOfRange 0 t.1)) in
    let n = in_range 3 1024 (n_in f) r.0 in
    (records_there f (drawing_mark τ) 4 1 0 (omega arith) t.0, n.0, n.1)

pub body_tells : (τ : Style) (f : List ℕ) (n : ℕ) → head_size ≤ length f → body_tests τ f n ≡ good tt → lines_end τ n ≤ length f
unfolding body_tests
body_tells τ f n l h =
    let p = both_pass (record_tests f place_mark 2 n head_size) _ h in
    let q = both_pass (record_tests f line_mark (line_numbers τ) (line_count n) (lines_from n)) _ p.1 in
    records_there f line_mark (line_numbers τ) (line_count n) (lines_from n) (records_there f place_mark 2 n head_size l p.0) q.0
