-- What a drawing file that passes all tests before the groups of points 4 to n is known to be, and what is left to judge of it.
use Rattle.std.specs.Prelude.{ℕ, ◌+◌, ◌-◌, ◌*◌, ◌<◌, ◌≤◌, ◌≡◌, refl, Bool, true, false, List, ◌∷◌, length}
use Rattle.std.proofs.Common.{ap, ap₂, sym, ◌∙◌, arith, eq-eqb, ne_eqb, lt-ltb}
use Rattle.rules.specs.declared.Style.{Style}
use Rattle.rules.specs.declared.Style.TheVariants.{OneBend}
use Rattle.rules.specs.Refusals.{Result, good, ◌>>◌}
use Rattle.rules.specs.Entries.{word_of, point_limit}
use Rattle.rules.specs.Readings.{entry_of}
use Rattle.rules.proofs.Readings.{given_is}
use Rattle.rules.specs.Points.{Drawing, start}
use Rattle.rules.specs.Records.{Found, line_size}
use Rattle.rules.proofs.RoundTrip.{entry_back}
use Rattle.rules.specs.OrderFile.{start_with}
use Rattle.rules.specs.DrawingFile.{later_in, entry_in, group, behind, judge_rest, judge_lines, judge_drawing}
use Rattle.rules.specs.Results.{never-good, both_pass, then-then}
use Rattle.read_groups.specs.Lines.{lines_at, line_at, earlier_in, joins, three_lines_lem}
use Rattle.read_groups.specs.Groups.{number_for}
use Rattle.read_judging.specs.Files.{n_in, s_in, lines_from, line_count, lines_end, lines_of, head_tests, body_tests, file_tests, head_tells, body_tells}
use Rattle.read_judging.specs.Starting.{joined, next_is, none_next, start_tests, not_2_1, two_of_2, not_3_1, not_3_2, three_of_3}
use Rattle.read_drawings.specs.Walked.{judge_is}

-- the drawing that points 1 to 3 begin, and the lines behind theirs
unfoldable pub begun_with : Style → ℕ → ℕ → List Found → Drawing
begun_with τ n s fs = start_with τ n s (group τ 2 (behind 1 fs)) (group τ 3 (behind 2 (behind 1 fs)))

unfoldable pub behind_start : List Found → List Found
behind_start fs = behind 3 (behind 2 (behind 1 fs))

pub lines-judged : (τ : Style) (n s end : ℕ) (fs : List Found) → judge_lines τ n s end fs ≡ (start_tests τ end fs >> judge_rest τ (n - 3) end (begun_with τ n s fs) (behind_start fs))
unfolding judge_lines start_tests begun_with behind_start
lines-judged τ n s end fs = simp then-then

-- all tests before, then "5 to 9 on each point's group of lines in turn"
pub judged_so : (τ : Style) (f : List ℕ) →
    judge_drawing τ f ≡ (file_tests τ f >> judge_rest τ (n_in f - 3) (lines_end τ (n_in f)) (begun_with τ (n_in f) (s_in f) (lines_of τ f)) (behind_start (lines_of τ f)))
unfolding file_tests
judged_so τ f =
    judge_is τ f ∙
    ap (λ (t : Result Drawing). head_tests τ f >> (body_tests τ f (n_in f) >> t)) (lines-judged τ (n_in f) (s_in f) (lines_end τ (n_in f)) (lines_of τ f)) ∙
    simp then-then

-- the first three lines are 2-1, 3-1, 3-2, and no more lines are of points 2 and 3
pub record Begins (x y z : Found) (fs : List Found) : Type 0 where
  pub first : joins x 2 1 ≡ true
  pub one : next_is 2 (y ∷ z ∷ fs) ≡ false
  pub second : joins y 3 1 ≡ true
  pub third : joins z 3 2 ≡ true
  pub two : next_is 3 fs ≡ false

start_tells : (τ : Style) (end : ℕ) (x y z : Found) (fs : List Found) → start_tests τ end (x ∷ y ∷ z ∷ fs) ≡ good tt → Begins x y z fs
start_tells τ end x y z fs h = a (joins x 2 1) refl
  where
    e : (j : joins x 2 1 ≡ true) (o : next_is 2 (y ∷ z ∷ fs) ≡ false) (k : joins y 3 1 ≡ true) (l : joins z 3 2 ≡ true) (t : Bool) → next_is 3 fs ≡ t → Begins x y z fs
    e j o k l true q = absurd (never-good (sym (three_of_3 τ end x y z fs j o k l q) ∙ h))
    e j o k l false q = record { first = j; one = o; second = k; third = l; two = q }

    d : (j : joins x 2 1 ≡ true) (o : next_is 2 (y ∷ z ∷ fs) ≡ false) (k : joins y 3 1 ≡ true) (t : Bool) → joins z 3 2 ≡ t → Begins x y z fs
    d j o k true q = e j o k q (next_is 3 fs) refl
    d j o k false q = absurd (never-good (sym (not_3_2 τ end x y z fs j o k q) ∙ h))

    c : (j : joins x 2 1 ≡ true) (o : next_is 2 (y ∷ z ∷ fs) ≡ false) (t : Bool) → joins y 3 1 ≡ t → Begins x y z fs
    c j o true q = d j o q (joins z 3 2) refl
    c j o false q = absurd (never-good (sym (not_3_1 τ end x y (z ∷ fs) j o q) ∙ h))

    b : (j : joins x 2 1 ≡ true) (t : Bool) → next_is 2 (y ∷ z ∷ fs) ≡ t → Begins x y z fs
    b j true q = absurd (never-good (sym (two_of_2 τ end x (y ∷ z ∷ fs) j q) ∙ h))
    b j false q = c j q (joins y 3 1) refl

    a : (t : Bool) → joins x 2 1 ≡ t → Begins x y z fs
    a true q = b q (next_is 2 (y ∷ z ∷ fs)) refl
    a false q = absurd (never-good (sym (not_2_1 τ end x (y ∷ z ∷ fs) q) ∙ h))

-- then the drawing is the one that they begin, and the lines behind theirs are left
module _ {x y z : Found} {fs : List Found} (t : Begins x y z fs) where
  abbrev all : List Found
  all = x ∷ y ∷ z ∷ fs

  begun_is : (τ : Style) (n s : ℕ) → begun_with τ n s all ≡ start τ n s (entry_in τ x).kind (entry_in τ y).kind (entry_in τ z).kind
  unfolding begun_with
  begun_is τ n s =
      let a = joined x 2 1 t.first in
      let b = joined y 3 1 t.second in
      let c = joined z 3 2 t.third in
      rw (ne_eqb (later_in x) 1 (omega arith), eq-eqb (later_in x) 2 a.0, t.one, eq-eqb (later_in y) 3 b.0, eq-eqb (later_in z) 3 c.0)

  behind_is : behind_start all ≡ fs
  unfolding behind_start
  behind_is =
      let a = joined x 2 1 t.first in
      let b = joined y 3 1 t.second in
      let c = joined z 3 2 t.third in
      rw (ne_eqb (later_in x) 1 (omega arith), eq-eqb (later_in x) 2 a.0, t.one, eq-eqb (later_in y) 3 b.0, eq-eqb (later_in z) 3 c.0, (none_next OneBend 3 fs t.two).1)

-- ---- a file that passes

-- its first three lines
abbrev pub first_line : Style → List ℕ → Found
first_line τ f = line_at τ f (lines_from (n_in f))

abbrev pub second_line : Style → List ℕ → Found
second_line τ f = line_at τ f (lines_from (n_in f) + line_size τ)

abbrev pub third_line : Style → List ℕ → Found
third_line τ f = line_at τ f (lines_from (n_in f) + line_size τ + line_size τ)

-- the drawing that it begins
abbrev pub begun_in : Style → List ℕ → Drawing
begun_in τ f = start τ (n_in f) (s_in f) (entry_in τ (first_line τ f)).kind (entry_in τ (second_line τ f)).kind (entry_in τ (third_line τ f)).kind

pub record Passes (τ : Style) (f : List ℕ) : Type 0 where
  pub low : 3 ≤ n_in f
  pub high : n_in f ≤ 1024
  pub there : lines_end τ (n_in f) ≤ length f
  pub first : earlier_in (first_line τ f) ≡ 1
  pub second : earlier_in (second_line τ f) ≡ 1
  pub third : earlier_in (third_line τ f) ≡ 2
  pub left : judge_drawing τ f ≡ judge_rest τ (n_in f - 3) (lines_end τ (n_in f)) (begun_in τ f) (lines_at τ f (line_count (n_in f) - 3) (lines_from (n_in f) + line_size τ * 3))

pub file-passes : (τ : Style) (f : List ℕ) → file_tests τ f ≡ good tt → Passes τ f
unfolding file_tests
file-passes τ f h =
    let n = n_in f in
    let s = s_in f in
    let end = lines_end τ n in
    let x = first_line τ f in
    let y = second_line τ f in
    let z = third_line τ f in
    let fs = lines_at τ f (line_count n - 3) (lines_from n + line_size τ * 3) in
    let a = both_pass (head_tests τ f) _ h in
    let b = both_pass (body_tests τ f n) _ a.1 in
    let t = head_tells τ f a.0 in
    let all : lines_of τ f ≡ x ∷ y ∷ z ∷ fs = three_lines_lem τ f (line_count n) (lines_from n) (line_size τ) refl (omega (arith, t.1)) ∙ ap (λ (o : ℕ). x ∷ y ∷ z ∷ lines_at τ f (line_count n - 3) o) (omega arith) in
    let g = start_tells τ end x y z fs (sym (ap (start_tests τ end) all) ∙ b.1) in
    let begun : begun_with τ n s (lines_of τ f) ≡ begun_in τ f = ap (begun_with τ n s) all ∙ begun_is g τ n s in
    let rest : behind_start (lines_of τ f) ≡ fs = ap behind_start all ∙ behind_is g in
    record {
      low = t.1;
      high = t.2;
      there = body_tells τ f n t.0 b.0;
      first = (joined x 2 1 g.first).1;
      second = (joined y 3 1 g.second).1;
      third = (joined z 3 2 g.third).1;
      left = judged_so τ f ∙ ap (λ (t : Result (Unit {0})). t >> judge_rest τ (n - 3) end (begun_with τ n s (lines_of τ f)) (behind_start (lines_of τ f))) h ∙ ap₂ (judge_rest τ (n - 3) end) begun rest;
    }

-- the number that stands for a line's entry reads back, where its earlier point is small
pub number_back : (τ : Style) (l : Found) (p : ℕ) → earlier_in l ≡ p → p < point_limit → entry_of (number_for (entry_in τ l)) ≡ record { point = p; kind = (entry_in τ l).kind }
number_back τ l p h small =
    let low : earlier_in l < point_limit = omega arith in
    let form : number_for (entry_in τ l) ≡ word_of (entry_in τ l) = rw (lt-ltb (earlier_in l) point_limit low) in
    ap entry_of form ∙ sym (given_is (word_of (entry_in τ l)) (entry_in τ l) (entry_back (entry_in τ l) low)) ∙ λ i. record { point = h i; kind = (entry_in τ l).kind }
