-- The test of a vertex that may come off, by where it stands on the boundary, and the test for chords.
use Rattle.std.specs.Prelude.{ℕ, ◌+◌, ◌-◌, ◌<◌, ◌≤◌, ◌≡◌, ◌≢◌, refl, ◌⊎◌, List, Option, Some, None, Bool, true, false, ◌&&◌, ◌||◌, length, get_or, take, eqb, ltb}
use Rattle.std.proofs.Common.{ap, sym, ◌∙◌, inl, inr, arith, eq-eqb, ne_eqb, eqb-true, lt-ltb, le-ltb}
use Rattle.std.proofs.Math.Bool.{or-true}
use Rattle.rules.specs.Basics.{index_of}
use Rattle.planar_rules.specs.PlanarCode.{Flat, free?, open?}
use Rattle.planar_choosing.specs.Rows.{Positions, found_index, index_some, row_some, row_inside}
use Rattle.planar_choosing.specs.Free.{beside?, no_chord?}
use Rattle.planar_choosing.specs.Choosing.{open_is}

-- ---- one that may come off: pos v is one more than v's index among the first m of b, or 0

module _ (f : Flat) (b pos : List ℕ) (m : ℕ) (long : m ≤ length b) (p : Positions b m pos) (v : ℕ) where
  -- it is the first, or none
  pub open_low : get_or pos v 0 ≤ 1 → open? f (take m b) v ≡ false
  open_low l =
      let e : (ltb 1 (get_or pos v 0) && ltb (get_or pos v 0) m) ≡ false = rw (le-ltb 1 (get_or pos v 0) l) in
      sym (open_is f (take m b) v) ∙ ap (λ (t : Bool). t && free? f (take m b) (index_of v (take m b))) (sym (row_inside b pos m long p v) ∙ e)

  -- it is the last
  pub open_last : 1 < get_or pos v 0 → m ≤ get_or pos v 0 → open? f (take m b) v ≡ false
  open_last q l =
      let e : (ltb 1 (get_or pos v 0) && ltb (get_or pos v 0) m) ≡ false = rw (lt-ltb 1 (get_or pos v 0) q, le-ltb (get_or pos v 0) m l) in
      sym (open_is f (take m b) v) ∙ ap (λ (t : Bool). t && free? f (take m b) (index_of v (take m b))) (sym (row_inside b pos m long p v) ∙ e)

  -- it is between them
  pub open_test : 1 < get_or pos v 0 → get_or pos v 0 < m → open? f (take m b) v ≡ free? f (take m b) (get_or pos v 0 - 1)
  open_test q l =
      let i = index_some (take m b) v (row_some b pos m long p v (omega arith)) in
      let e : (ltb 1 (get_or pos v 0) && ltb (get_or pos v 0) m) ≡ true = rw (lt-ltb 1 (get_or pos v 0) q, lt-ltb (get_or pos v 0) m l) in
      sym (open_is f (take m b) v) ∙
      ap (λ (t : Bool). t && free? f (take m b) (index_of v (take m b))) (sym (row_inside b pos m long p v) ∙ e) ∙
      ap (free? f (take m b)) i.0

-- ---- the test for chords of the t-th vertex: u stands off the boundary, before that vertex, or neither: then behind it

module _ (b : List ℕ) (t u : ℕ) where
  pub no_chord_off : found_index b u ≡ None → true ≡ no_chord? b t u
  no_chord_off e = rw e

  module _ {l : ℕ} (at : found_index b u ≡ Some l) where
    pub no_chord_before : l + 1 ≡ t → true ≡ no_chord? b t u
    no_chord_before e = sym (ap (λ (o : Option ℕ). beside? o t) at ∙ rw (eq-eqb (l + 1) t e) (or-true (eqb l (t + 1))))

    pub no_chord_behind : l + 1 ≢ t → eqb l (t + 1) ≡ no_chord? b t u
    no_chord_behind d = sym (ap (λ (o : Option ℕ). beside? o t) at ∙ rw (ne_eqb (l + 1) t d) (or_false (eqb l (t + 1))))
      where
        or_false : (a : Bool) → (a || false) ≡ a
        or_false true = refl
        or_false false = refl

-- the line to the k-th of a list is no chord of the t-th vertex
abbrev pub no_chord_at? : List ℕ → List ℕ → ℕ → ℕ → Bool
no_chord_at? list b t k = no_chord? b t (get_or list k 0)

-- the three ways to pass it
abbrev pub NoChord : List ℕ → ℕ → ℕ → Type 0
NoChord b t u = (found_index b u ≡ None) ⊎ ((found_index b u ≡ Some (t - 1)) × (1 ≤ t) ⊎ (found_index b u ≡ Some (t + 1)))

-- the test passes in these ways, and in no other
pub no_chord-yes : (b : List ℕ) (t u : ℕ) → no_chord? b t u ≡ true → NoChord b t u
no_chord-yes b t u h = go (found_index b u) refl h
  where
    one : (l : ℕ) → found_index b u ≡ Some l → (a : Bool) → eqb l (t + 1) ≡ a → (a || eqb (l + 1) t) ≡ true → NoChord b t u
    one l e true q z = inr (inr (e ∙ ap (λ i. Some i) (eqb-true _ _ q)))
    one l e false q z = let k = eqb-true (l + 1) t z in let i : l ≡ t - 1 = omega arith in inr (inl (e ∙ ap (λ i. Some i) i, omega arith))

    go : (o : Option ℕ) → found_index b u ≡ o → beside? o t ≡ true → NoChord b t u
    go None e z = inl e
    go (Some l) e z = one l e (eqb l (t + 1)) refl z

pub yes_no_chord : (b : List ℕ) (t u : ℕ) → NoChord b t u → no_chord? b t u ≡ true
yes_no_chord b t u (inl e) = sym (no_chord_off b t u e)
yes_no_chord b t u (inr (inl e)) = sym (no_chord_before b t u e.0 (omega (arith, e.1)))
yes_no_chord b t u (inr (inr e)) = sym (no_chord_behind b t u e (λ z. omega arith)) ∙ eq-eqb (t + 1) (t + 1) refl
