-- The groups of points 1 to 3 in a drawing file, by the first lines.
use Rattle.std.specs.Prelude.{ℕ, ◌≡◌, Bool, not, List, [], ◌∷◌, if◌then◌else◌}
use Rattle.std.proofs.Math.Path.{refl}
use Rattle.std.proofs.Common.{◌∙◌, arith, eq-eqb, ne_eqb, eqb-true}
use Rattle.std.proofs.Math.Bool.{true, false}
use Rattle.std.proofs.Math.Dec.{eqb}
use Rattle.rules.specs.declared.Style.{Style}
use Rattle.rules.specs.declared.Refusal.TheVariants.{OtherStart}
use Rattle.rules.specs.Basics.{same}
use Rattle.rules.specs.Refusals.{Result, good, refused, ◌>>◌, refuse_if}
use Rattle.rules.specs.Adding.{points_of}
use Rattle.rules.specs.Records.{Found}
use Rattle.rules.specs.OrderFile.{start_test}
use Rattle.rules.specs.DrawingFile.{later_in, entry_in, group, behind, group_place}
use Rattle.read_groups.specs.Lines.{earlier_in, joins}

-- "Point 1 has no entry, point 2 has 1, point 3 has 1, 2": else 4
unfoldable pub start_tests : Style → ℕ → List Found → Result (Unit {0})
start_tests τ end fs = do
  start_test [] (points_of (group τ 1 fs)) (group_place end fs)
  let gs = behind 1 fs
  start_test (1 ∷ []) (points_of (group τ 2 gs)) (group_place end gs)
  let hs = behind 2 gs
  start_test (1 ∷ 2 ∷ []) (points_of (group τ 3 hs)) (group_place end hs)

-- whether the next line's later point is p
abbrev pub next_is : ℕ → List Found → Bool
next_is p [] = false
next_is p (f ∷ fs) = eqb (later_in f) p

not_not : (t : Bool) → not (not t) ≡ t
not_not true = refl
not_not false = refl

-- a line that joins a and b
pub joined : (l : Found) (a b : ℕ) → joins l a b ≡ true → (later_in l ≡ a) × (earlier_in l ≡ b)
joined l a b h = go (eqb (later_in l) a) refl
  where
    go : (t : Bool) → eqb (later_in l) a ≡ t → (later_in l ≡ a) × (earlier_in l ≡ b)
    go true q = (eqb-true (later_in l) a q, eqb-true (earlier_in l) b (rw q at h))
    go false q = let z : ◌≡◌ {A = Bool} false true = rw q at h in absurd (let o : ◌≡◌ {A = ℕ} 0 1 = cc in omega arith)

-- where the next line isn't p's, its group is empty
pub none_next : (τ : Style) (p : ℕ) (fs : List Found) → next_is p fs ≡ false → (group τ p fs ≡ []) × (behind p fs ≡ fs)
none_next τ p [] h = (refl, refl)
none_next τ p (f ∷ fs) h = (rw h, rw h)

-- whether there is some entry
none_there : (τ : Style) (p : ℕ) (fs : List Found) → same (points_of (group τ p fs)) [] ≡ not (next_is p fs)
none_there τ p [] = refl
none_there τ p (f ∷ fs) = go (eqb (later_in f) p)
  where
    go : (t : Bool) → same (points_of (if t then entry_in τ f ∷ group τ p fs else [])) [] ≡ not t
    go true = refl
    go false = refl

module _ (τ : Style) (end : ℕ) (x : Found) (fs : List Found) where
  -- 4 at the first line
  pub not_2_1 : joins x 2 1 ≡ false → start_tests τ end (x ∷ fs) ≡ refused OtherStart x.place
  unfolding start_tests
  not_2_1 h = go (eqb (later_in x) 1) (eqb (later_in x) 2) refl refl
    where
      go : (a b : Bool) → eqb (later_in x) 1 ≡ a → eqb (later_in x) 2 ≡ b → start_tests τ end (x ∷ fs) ≡ refused OtherStart x.place
      go true b q r = rw q
      go false true q r = let e : eqb (earlier_in x) 1 ≡ false = rw r at h in rw (q, r, e)
      go false false q r = rw (q, r)

  module _ (h : joins x 2 1 ≡ true) where
    -- what is left of the tests
    abbrev second : Result (Unit {0})
    second = do
      start_test (1 ∷ []) (points_of (entry_in τ x ∷ group τ 2 fs)) x.place
      start_test (1 ∷ 2 ∷ []) (points_of (group τ 3 (behind 2 fs))) (group_place end (behind 2 fs))

    second_left : start_tests τ end (x ∷ fs) ≡ second
    unfolding start_tests
    second_left = let j = joined x 2 1 h in rw (ne_eqb (later_in x) 1 (omega arith), eq-eqb (later_in x) 2 j.0)

    pub two_of_2 : next_is 2 fs ≡ true → start_tests τ end (x ∷ fs) ≡ refused OtherStart x.place
    two_of_2 q = second_left ∙ rw (eq-eqb (earlier_in x) 1 (joined x 2 1 h).1, none_there τ 2 fs, q)

    third_left : next_is 2 fs ≡ false → start_tests τ end (x ∷ fs) ≡ start_test (1 ∷ 2 ∷ []) (points_of (group τ 3 fs)) (group_place end fs)
    third_left q = second_left ∙ rw (eq-eqb (earlier_in x) 1 (joined x 2 1 h).1, none_there τ 2 fs, q, (none_next τ 2 fs q).1)

-- 4 at the second line
module _ (τ : Style) (end : ℕ) (x y : Found) (fs : List Found) (h : joins x 2 1 ≡ true) (one : next_is 2 (y ∷ fs) ≡ false) where
  pub not_3_1 : joins y 3 1 ≡ false → start_tests τ end (x ∷ y ∷ fs) ≡ refused OtherStart y.place
  not_3_1 q = third_left τ end x (y ∷ fs) h one ∙ go (eqb (later_in y) 3) refl
    where
      go : (a : Bool) → eqb (later_in y) 3 ≡ a → start_test (1 ∷ 2 ∷ []) (points_of (group τ 3 (y ∷ fs))) y.place ≡ refused OtherStart y.place
      go true r = let e : eqb (earlier_in y) 1 ≡ false = rw r at q in rw (r, e)
      go false r = rw r

  module _ (g : joins y 3 1 ≡ true) where
    fourth_left : start_tests τ end (x ∷ y ∷ fs) ≡ refuse_if (not (same (points_of (group τ 3 fs)) (2 ∷ []))) OtherStart y.place
    fourth_left = let j = joined y 3 1 g in third_left τ end x (y ∷ fs) h one ∙ rw (eq-eqb (later_in y) 3 j.0, eq-eqb (earlier_in y) 1 j.1)

module _ (τ : Style) (end : ℕ) (x y z : Found) (fs : List Found) (h : joins x 2 1 ≡ true) (one : next_is 2 (y ∷ z ∷ fs) ≡ false) (g : joins y 3 1 ≡ true) where
  abbrev all : List Found
  all = x ∷ y ∷ z ∷ fs

  pub not_3_2 : joins z 3 2 ≡ false → start_tests τ end all ≡ refused OtherStart y.place
  not_3_2 q = fourth_left τ end x y (z ∷ fs) h one g ∙ go (eqb (later_in z) 3) refl
    where
      go : (a : Bool) → eqb (later_in z) 3 ≡ a → refuse_if (not (same (points_of (group τ 3 (z ∷ fs))) (2 ∷ []))) OtherStart y.place ≡ refused OtherStart y.place
      go true r = let e : eqb (earlier_in z) 2 ≡ false = rw r at q in rw (r, e)
      go false r = rw r

  module _ (k : joins z 3 2 ≡ true) where
    fifth_left : start_tests τ end all ≡ refuse_if (next_is 3 fs) OtherStart y.place
    fifth_left =
        let j = joined z 3 2 k in
        fourth_left τ end x y (z ∷ fs) h one g ∙ rw (eq-eqb (later_in z) 3 j.0, eq-eqb (earlier_in z) 2 j.1, none_there τ 3 fs, not_not (next_is 3 fs))

    pub three_of_3 : next_is 3 fs ≡ true → start_tests τ end all ≡ refused OtherStart y.place
    three_of_3 q = rw (fifth_left, q)

    -- no refusal
    pub starts : next_is 3 fs ≡ false → start_tests τ end all ≡ good tt
    starts q = rw (fifth_left, q)
