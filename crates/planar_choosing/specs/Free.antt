-- The test for chords, over the list of a vertex.
use Rattle.std.specs.Prelude.{ℕ, ◌+◌, ◌-◌, ◌<◌, ◌≤◌, ◌≡◌, refl, ◌⊎◌, List, [], Option, Some, None, Bool, true, false, ◌||◌, length, get_or, eqb}
use Rattle.std.proofs.Common.{ap, sym, ◌∙◌, inl, inr, arith, eq-eqb, eqb-true}
use Rattle.rules.specs.Basics.{index_of}
use Rattle.rules.specs.Indices.{index_at}
use Rattle.planar_rules.specs.PlanarCode.{Flat, all, free?}
use Rattle.planar_sphere.proofs.Check.{all_true, true_all}
use Rattle.planar_sphere.specs.Flat.{Listed}
use Rattle.planar_sphere.specs.Program.{Free}
use Rattle.planar_order.specs.Model.{Distinct, index_is}
use Rattle.planar_order.specs.Step.{state_of, free-yes, yes-free}
use Rattle.planar_judging.specs.Laws.{same_bool}
use Rattle.planar_choosing.specs.Rows.{found_index, found_at, index_some}

-- a line to one that stands nowhere is no chord of the t-th vertex, nor is one to those at t - 1 and t + 1, which are beside it
abbrev pub beside? : Option ℕ → ℕ → Bool
beside? None t = true
beside? (Some l) t = eqb l (t + 1) || eqb (l + 1) t

abbrev pub no_chord? : List ℕ → ℕ → ℕ → Bool
no_chord? b t u = beside? (found_index b u) t

-- none of the lines to those in the list is one
unfoldable pub free_in : List ℕ → List ℕ → ℕ → Bool
free_in list b t = all (λ k. no_chord? b t (get_or list k 0)) (length list)

-- the test passes if it is none, and in no other case
beside-yes : (l t : ℕ) → (eqb l (t + 1) || eqb (l + 1) t) ≡ true → (l ≡ t + 1) ⊎ (l + 1 ≡ t)
beside-yes l t = go (eqb l (t + 1)) refl
  where
    go : (a : Bool) → eqb l (t + 1) ≡ a → (a || eqb (l + 1) t) ≡ true → (l ≡ t + 1) ⊎ (l + 1 ≡ t)
    go true e z = inl (eqb-true _ _ e)
    go false e z = inr (eqb-true _ _ z)

yes_beside : (l t : ℕ) → (l ≡ t + 1) ⊎ (l + 1 ≡ t) → (eqb l (t + 1) || eqb (l + 1) t) ≡ true
yes_beside l t (inl e) = rw (eq-eqb l (t + 1) e)
yes_beside l t (inr e) = rw (eq-eqb (l + 1) t e) (or_true (eqb l (t + 1)))
  where
    or_true : (a : Bool) → (a || true) ≡ true
    or_true true = refl
    or_true false = refl

-- ---- all of a vertex's lines

-- the test over its list is the rules'
module _ (f : Flat) (li : Listed f) (b : List ℕ) (di : Distinct b) (t : ℕ) (tl : t < length b) (vn : get_or b t 0 < f.n) (list : List ℕ)
    (size : length list ≡ f.off (get_or b t 0 + 1) - f.off (get_or b t 0)) (at : (k : ℕ) → k < length list → get_or list k 0 ≡ f.nbr (f.off (get_or b t 0) + k)) where
  abbrev v : ℕ
  v = get_or b t 0

  passes : free_in list b t ≡ true → Free f (state_of b []) t
  unfolding free_in
  passes z d l dl ll o q =
      let a : f.off v ≤ d = omega (arith, li.from d dl, ap f.off o) in
      let c : d < f.off (v + 1) = omega (arith, li.upto d dl, ap (λ v. f.off (v + 1)) o) in
      let k : ℕ = d - f.off v in
      let i : f.off v + k ≡ d = omega arith in
      let kl : k < length list = omega (arith, size) in
      let u : get_or list k 0 ≡ get_or b l 0 = at k kl ∙ ap f.nbr i ∙ q in
      let s : index_of (get_or b l 0) b ≡ l = index_is b di l ll in
      let e : found_index b (get_or list k 0) ≡ Some l = ap (found_index b) u ∙ found_at b (get_or b l 0) (omega (arith, s)) ∙ ap (λ i. Some i) s in
      let y = all_true (λ k. no_chord? b t (get_or list k 0)) (length list) z k kl in
      beside-yes l t (ap (λ o. beside? o t) (sym e) ∙ y)

  passed : Free f (state_of b []) t → free_in list b t ≡ true
  unfolding free_in
  passed fr =
      true_all (λ k. no_chord? b t (get_or list k 0)) (length list) (λ k kl.
      let w = li.within v (f.off v + k) vn (omega arith) (omega (arith, size)) in
      one (f.off v + k) w.0 w.1 (get_or list k 0) (at k kl) (found_index b (get_or list k 0)) refl)
    where
      one : (d : ℕ) → d < f.D → f.own d ≡ v → (u : ℕ) → u ≡ f.nbr d → (o : Option ℕ) → found_index b u ≡ o → beside? o t ≡ true
      one d dl o u e None h = refl
      one d dl o u e (Some l) h =
          let w = index_some b u h in
          let q : get_or b l 0 ≡ u = ap (λ i. get_or b i 0) (sym w.0) ∙ index_at u b (omega (arith, w)) in
          yes_beside l t (fr d l dl w.1 o (sym e ∙ sym q))

  pub free_is : free_in list b t ≡ free? f b t
  free_is = same_bool _ _ (λ h. yes-free f b [] t (passes h)) (λ h. passed (free-yes f b [] t h))
