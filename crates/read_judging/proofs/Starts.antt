-- Which test of points 1 to 3 gives the answer, from the file's numbers.
use Rattle.std.proofs.Common.{ap, sym, ◌∙◌, arith, eq-eqb, ne_eqb}
use Rattle.rules.specs.declared.Style.{Style}
use Rattle.std.specs.Prelude.{ℕ, ◌+◌, ◌-◌, ◌*◌, ◌<◌, ◌≤◌, ◌≡◌, true, false, List, ◌∷◌, Ok, Err, length, eqb}
use Rattle.rules.specs.declared.Refusal.TheVariants.{OtherStart}
use Rattle.rules.specs.Refusals.{Answer, answer, refusal_at}
use Rattle.rules.specs.Records.{Found, line_size}
use Rattle.rules.proofs.Lengths.{lines_fit}
use Rattle.words.specs.Bytes.{word_at}
use Rattle.read_groups.specs.Lines.{lines_at, line_at, line_is, joins, three_lines_lem, lines_more, lines_none}
use Rattle.read_judging.specs.Starting.{next_is, start_tests, not_2_1, two_of_2, not_3_1, not_3_2, three_of_3, starts}

module _ (τ : Style) (f : List ℕ) (at left : ℕ) (enough : 3 ≤ left) (there : at + line_size τ * left ≤ length f) (size : ℕ) (is-size : size ≡ line_size τ) where
  abbrev x : Found
  x = line_at τ f at

  abbrev y : Found
  y = line_at τ f (at + size)

  abbrev z : Found
  z = line_at τ f (at + size + size)

  abbrev fs : List Found
  fs = lines_at τ f (left - 3) (at + size + size + size)

  abbrev said : Answer (Unit {0})
  said = answer (start_tests τ (at + line_size τ * left) (lines_at τ f left at))

  -- the lines by these names
  by_name : lines_at τ f left at ≡ x ∷ y ∷ z ∷ fs
  by_name = three_lines_lem τ f left at size is-size enough

  -- c of them fit
  pub fit : (c : ℕ) → c ≤ left → at + line_size τ * c ≤ length f
  fit c h = omega (arith, there, lines_fit τ c left h)

  -- later points of the second and of the fourth line
  second_later : next_is 2 (y ∷ z ∷ fs) ≡ eqb (word_at f (at + size + 2)) 2
  second_later = ap (λ (v : ℕ). eqb v 2) (line_is τ f (at + size) (omega (arith, is-size, fit 2 (omega arith)))).later

  fourth-later : 3 < left → next_is 3 fs ≡ eqb (word_at f (at + size + size + size + 2)) 3
  fourth-later h =
      ap (next_is 3) (lines_more τ f (left - 3) (at + size + size + size) (omega arith)) ∙
      ap (λ (v : ℕ). eqb v 3) (line_is τ f (at + size + size + size) (omega (arith, is-size, fit 4 (omega arith)))).later

  no_fourth : left ≡ 3 → next_is 3 fs ≡ false
  no_fourth h =
      let none : left - 3 ≡ 0 = omega arith in
      ap (λ (c : ℕ). next_is 3 (lines_at τ f c (at + size + size + size))) none ∙ ap (next_is 3) (lines_none τ f (at + size + size + size))

  pub first_other : joins x 2 1 ≡ false → Err (refusal_at OtherStart at) ≡ said
  first_other h = rw (by_name, not_2_1 τ (at + line_size τ * left) x (y ∷ z ∷ fs) h)

  module _ (h : joins x 2 1 ≡ true) (v : ℕ) (is : v ≡ word_at f (at + size + 2)) where
    pub second_of_2 : v ≡ 2 → Err (refusal_at OtherStart at) ≡ said
    second_of_2 q = rw (by_name, two_of_2 τ (at + line_size τ * left) x (y ∷ z ∷ fs) h (second_later ∙ eq-eqb _ 2 (sym is ∙ q)))

    module _ (other : v ≡ 2 → ⊥) where
      one : next_is 2 (y ∷ z ∷ fs) ≡ false
      one = second_later ∙ ne_eqb _ 2 (λ q. other (is ∙ q))

      pub second_other : joins y 3 1 ≡ false → Err (refusal_at OtherStart (at + size)) ≡ said
      second_other q = rw (by_name, not_3_1 τ (at + line_size τ * left) x y (z ∷ fs) h one q)

      module _ (g : joins y 3 1 ≡ true) where
        pub third_other : joins z 3 2 ≡ false → Err (refusal_at OtherStart (at + size)) ≡ said
        third_other q = rw (by_name, not_3_2 τ (at + line_size τ * left) x y z fs h one g q)

        module _ (k : joins z 3 2 ≡ true) where
          pub all_there : left ≡ 3 → Ok tt ≡ said
          all_there q = rw (by_name, starts τ (at + line_size τ * left) x y z fs h one g k (no_fourth q))

          module _ (more : left ≡ 3 → ⊥) (u : ℕ) (at-u : u ≡ word_at f (at + size + size + size + 2)) where
            pub fourth_of_3 : u ≡ 3 → Err (refusal_at OtherStart (at + size)) ≡ said
            fourth_of_3 q = rw (by_name, three_of_3 τ (at + line_size τ * left) x y z fs h one g k (fourth-later (omega arith) ∙ eq-eqb _ 3 (sym at-u ∙ q)))

            pub all_begun : (u ≡ 3 → ⊥) → Ok tt ≡ said
            all_begun q = rw (by_name, starts τ (at + line_size τ * left) x y z fs h one g k (fourth-later (omega arith) ∙ ne_eqb _ 3 (λ e. q (at-u ∙ e))))
