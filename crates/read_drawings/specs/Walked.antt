-- Judging a drawing file, by the tests on its header and records at their offsets.
use Rattle.std.specs.Prelude.{ℕ, ◌-◌, ◌*◌, ◌≤◌, ◌≡◌, not, ◌&&◌, List, length, get_or}
use Rattle.std.proofs.Math.Path.{refl, ap}
use Rattle.std.proofs.Common.{ap₂, ◌∙◌, arith}
use Rattle.rules.specs.declared.Style.{Style}
use Rattle.rules.specs.declared.Refusal.TheVariants.{OutOfRange}
use Rattle.rules.specs.Basics.{between}
use Rattle.rules.specs.Refusals.{Result, good, refused, ◌>>◌, ◌>>=◌, refuse_if}
use Rattle.rules.specs.Styles.{drawing_mark, line_numbers}
use Rattle.rules.specs.Points.{Drawing}
use Rattle.rules.specs.Records.{Cursor, Found, Several, several, read_end, point_place, line_shape, place_mark, line_mark, head_size}
use Rattle.rules.specs.DrawingFile.{judge_lines, judge_drawing}
use Rattle.rules.specs.Results.{then-then, then-good, then-value}
use Rattle.read_records.specs.Cursors.{cursor}
use Rattle.read_records.specs.Marked.{record_test, record_at, record_tests, words_in_lem, record_is, several_is, record_there}
use Rattle.read_groups.specs.Lines.{lines_at}
use Rattle.read_judging.specs.Files.{n_in, s_in, lines_from, line_count, lines_end, head_tests, body_tests}

module _ (τ : Style) (f : List ℕ) where
  -- the records behind the header
  abbrev behind_head : ℕ → ℕ → Cursor → Result Drawing
  behind_head n s at = do
    ps ← several n point_place at
    ls ← several (3 * n - 6) (line_shape τ) ps.next
    read_end ls.next
    judge_lines τ n s ls.next.offset ls.all

  behind_head_lem : (n s : ℕ) → behind_head n s (cursor f head_size) ≡ (body_tests τ f n >> judge_lines τ n s (lines_end τ n) (lines_at τ f (line_count n) (lines_from n)))
  unfolding body_tests
  behind_head_lem n s =
      let points = record_tests f place_mark 2 n head_size in
      let lines = record_tests f line_mark (line_numbers τ) (line_count n) (lines_from n) in
      ap (λ (t : Result Several). t >>= λ ps. several (3 * n - 6) (line_shape τ) ps.next >>= λ ls. read_end ls.next >> judge_lines τ n s ls.next.offset ls.all) (several_is f place_mark 2 n head_size) ∙
      then-value points _ _ _
      (ap (λ (t : Result Several). t >>= λ ls. read_end ls.next >> judge_lines τ n s ls.next.offset ls.all) (several_is f line_mark (line_numbers τ) (line_count n) (lines_from n)) ∙
      then-value lines _ _ _ refl) ∙
      simp then-then

  -- everything behind the header's mark, by its n and s
  abbrev behind_mark : ℕ → ℕ → Cursor → Result Drawing
  behind_mark n s at = refuse_if (not (between 3 1024 n && between 1 8 s)) OutOfRange 0 >> behind_head n s at

  -- the header's numbers
  numbers : head_size ≤ length f → (get_or (record_at f 4 0).words 0 0 ≡ n_in f) × (get_or (record_at f 4 0).words 1 0 ≡ s_in f)
  numbers h = (words_in_lem f 4 2 h 0 (omega arith), words_in_lem f 4 2 h 1 (omega arith))

  by_mark : (t : Result (Unit {0})) → record_test f (drawing_mark τ) 4 0 ≡ t →
      ((t >> good (record_at f 4 0)) >>= λ g. behind_mark (get_or g.words 0 0) (get_or g.words 1 0) g.next) ≡ (t >> behind_mark (n_in f) (s_in f) (cursor f head_size))
  by_mark (good u) q = let z = numbers (record_there f (drawing_mark τ) 4 0 q) in ap₂ (λ (n s : ℕ). behind_mark n s (cursor f head_size)) z.0 z.1
  by_mark (refused r p) q = refl

  pub judge_is : judge_drawing τ f ≡ (head_tests τ f >> (body_tests τ f (n_in f) >> judge_lines τ (n_in f) (s_in f) (lines_end τ (n_in f)) (lines_at τ f (line_count (n_in f)) (lines_from (n_in f)))))
  unfolding judge_drawing head_tests record_tests
  judge_is =
      let head = record_test f (drawing_mark τ) 4 0 in
      let range = refuse_if (not (between 3 1024 (n_in f) && between 1 8 (s_in f))) OutOfRange 0 in
      ap (λ (t : Result Found). t >>= λ g. behind_mark (get_or g.words 0 0) (get_or g.words 1 0) g.next) (record_is f (drawing_mark τ) 4 0) ∙
      by_mark head refl ∙
      ap (λ (t : Result Drawing). head >> (range >> t)) (behind_head_lem (n_in f) (s_in f)) ∙
      simp (then-then, then-good)
