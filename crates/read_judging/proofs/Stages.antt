-- Which test of the header and of the records behind it gives the answer, from what the tests before it have shown.
use Rattle.std.proofs.Common.{ap, ◌∙◌, arith}
use Rattle.rules.specs.declared.Style.{Style}
use Rattle.std.specs.Prelude.{ℕ, ◌≤◌, ◌≡◌, true, false, List, Ok, Err, length}
use Rattle.rules.specs.declared.Refused.{Refused}
use Rattle.rules.specs.declared.Refusal.TheVariants.{OutOfRange}
use Rattle.rules.specs.Basics.{between}
use Rattle.rules.specs.Refusals.{Result, ◌>>◌, answer, refusal_at}
use Rattle.rules.specs.Styles.{drawing_mark, line_numbers}
use Rattle.rules.specs.Records.{read_end, place_mark, line_mark, head_size}
use Rattle.rules.specs.Results.{all_passed, stops, goes_on}
use Rattle.read_records.specs.Cursors.{cursor}
use Rattle.read_records.specs.Marked.{record_tests, records_there}
use Rattle.read_groups.specs.Lines.{lines_at}
use Rattle.read_judging.specs.Starting.{start_tests}
use Rattle.read_judging.specs.Files.{n_in, s_in, lines_from, line_count, lines_end, head_tests, body_tests, file_tests}

module _ (τ : Style) (f : List ℕ) where
  -- ---- the header

  abbrev head : Result (Unit {0})
  head = record_tests f (drawing_mark τ) 4 1 0

  pub head-stops : (e : Refused) → answer head ≡ Err e → answer head ≡ answer (head_tests τ f)
  unfolding head_tests
  head-stops e h = stops head _ e h

  module _ (h : answer head ≡ Ok tt) where
    pub head-long : head_size ≤ length f
    head-long = records_there f (drawing_mark τ) 4 1 0 (omega arith) (all_passed head h)

    pub n_out : between 3 1024 (n_in f) ≡ false → Err (refusal_at OutOfRange 0) ≡ answer (head_tests τ f)
    unfolding head_tests
    n_out q = rw (all_passed head h, q)

    pub s_out : between 3 1024 (n_in f) ≡ true → between 1 8 (s_in f) ≡ false → Err (refusal_at OutOfRange 0) ≡ answer (head_tests τ f)
    unfolding head_tests
    s_out q t = rw (all_passed head h, q, t)

    pub head-good : between 3 1024 (n_in f) ≡ true → between 1 8 (s_in f) ≡ true → Ok tt ≡ answer (head_tests τ f)
    unfolding head_tests
    head-good q t = rw (all_passed head h, q, t)

  -- ---- the points, the lines and the end

  module _ (n : ℕ) (start : head_size ≤ length f) where
    abbrev points : Result (Unit {0})
    points = record_tests f place_mark 2 n head_size

    abbrev lines : Result (Unit {0})
    lines = record_tests f line_mark (line_numbers τ) (line_count n) (lines_from n)

    pub points_stop : (e : Refused) → answer points ≡ Err e → answer points ≡ answer (body_tests τ f n)
    unfolding body_tests
    points_stop e h = stops points _ e h

    module _ (h : answer points ≡ Ok tt) where
      pub points_there : lines_from n ≤ length f
      points_there = records_there f place_mark 2 n head_size start (all_passed points h)

      pub lines_stop : (e : Refused) → answer lines ≡ Err e → answer lines ≡ answer (body_tests τ f n)
      unfolding body_tests
      lines_stop e q = stops lines _ e q ∙ goes_on points _ h

      module _ (g : answer lines ≡ Ok tt) where
        pub lines_there : lines_end τ n ≤ length f
        lines_there = records_there f line_mark (line_numbers τ) (line_count n) (lines_from n) points_there (all_passed lines g)

        pub end_says : answer (read_end (cursor f (lines_end τ n))) ≡ answer (body_tests τ f n)
        unfolding body_tests
        end_says = goes_on lines _ g ∙ goes_on points _ h

  -- ---- the header, the records, points 1 to 3

  pub file-head : (e : Refused) → answer (head_tests τ f) ≡ Err e → answer (head_tests τ f) ≡ answer (file_tests τ f)
  unfolding file_tests
  file-head e h = stops (head_tests τ f) _ e h

  module _ (h : answer (head_tests τ f) ≡ Ok tt) (n : ℕ) (is : n ≡ n_in f) where
    pub file-body : (e : Refused) → answer (body_tests τ f n) ≡ Err e → answer (body_tests τ f n) ≡ answer (file_tests τ f)
    unfolding file_tests
    file-body e q = stops (body_tests τ f n) _ e q ∙ ap (λ (m : ℕ). answer (body_tests τ f m >> start_tests τ (lines_end τ m) (lines_at τ f (line_count m) (lines_from m)))) is ∙ goes_on (head_tests τ f) _ h

    pub file-start : answer (body_tests τ f n) ≡ Ok tt → answer (start_tests τ (lines_end τ n) (lines_at τ f (line_count n) (lines_from n))) ≡ answer (file_tests τ f)
    unfolding file_tests
    file-start g = goes_on (body_tests τ f n) _ g ∙ ap (λ (m : ℕ). answer (body_tests τ f m >> start_tests τ (lines_end τ m) (lines_at τ f (line_count m) (lines_from m)))) is ∙ goes_on (head_tests τ f) _ h
