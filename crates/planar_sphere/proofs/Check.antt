-- The tests on a file's net, and what they tell: a net passes exactly if it is a net to be taken.
use Rattle.std.specs.Prelude.{ℕ, zero, suc, ◌<◌, ◌≤◌, ◌≡◌, refl, ◌≢◌, Bool, true, false, not, ◌&&◌, ◌||◌, eqb, ltb, if◌then◌else◌, ◌+◌, ◌*◌}
use Rattle.std.proofs.Common.{ap, sym, ◌∙◌, inl, inr, arith, le_refl, eq-eqb, ne_eqb, eqb-true, ltb-true, lt-ltb}
use Rattle.std.proofs.Math.Decide.{ℕ_discrete}
use Rattle.rules.specs.Bools.{both}
use Rattle.planar_rules.specs.PlanarCode.{all, seek, Flat, place, back, not_self?, not_twice?, in_both?, merge, labels, joined?, side, faces?, taken?}
use Rattle.planar_sphere.specs.Count.{bool, clash}
use Rattle.planar_sphere.specs.Tree.{merge_in, merge_out, merge-join, merge_same}
use Rattle.planar_sphere.specs.Map.{Net}
use Rattle.planar_sphere.specs.Flat.{Listed, Joined, Valid, Good, map, net}

-- ---- tests over all numbers below a bound

pub all_true : (p : ℕ → Bool) (n : ℕ) → all p n ≡ true → (x : ℕ) → x < n → p x ≡ true
unfolding all
all_true p zero t x l = absurd (omega arith)
all_true p (suc n) t x l =
    let w = both (p n) (all p n) t in
    elim (ℕ_discrete x n) [ yes q ↦ ap p q ∙ w.0 | no ne ↦ all_true p n w.1 x (omega (arith, ne)) ]

pub true_all : (p : ℕ → Bool) (n : ℕ) → ((x : ℕ) → x < n → p x ≡ true) → all p n ≡ true
unfolding all
true_all p zero f = refl
true_all p (suc n) f = rw (f n (omega arith)) (true_all p n (λ x l. f x (omega arith)))

pub seek_hit : (p : ℕ → Bool) (z n x : ℕ) → x < n → p x ≡ true → (seek p z n < n) × (p (seek p z n) ≡ true)
unfolding seek
seek_hit p z zero x l t = absurd (omega arith)
seek_hit p z (suc n) x l t =
    elim (bool (p n)) [
      | inl y ↦ rw y (omega arith, y)
      | inr f ↦
          let ne : x ≢ n = λ e. clash t (ap p e ∙ f) in
          let w = seek_hit p z n x (omega (arith, ne)) t in
          rw f (omega (arith, w.0), w.1)
    ]

pub seek-miss : (p : ℕ → Bool) (z n : ℕ) → n ≤ z → seek p z n < z → p (seek p z n) ≡ true
unfolding seek
seek-miss p z zero l k = absurd (omega arith)
seek-miss p z (suc n) l k = go (p n) refl (λ j. seek-miss p z n (omega arith) j)
  where
    go : (b : Bool) → p n ≡ b → (seek p z n < z → p (seek p z n) ≡ true) → p (if b then n else seek p z n) ≡ true
    go true e f = e
    go false e f = f (rw e at k)

-- ---- connected, by labels

labels-along : (f : Flat) (k d : ℕ) → d < k → labels f k (f.own d) ≡ labels f k (f.nbr d)
unfolding labels
labels-along f zero d l = absurd (omega arith)
labels-along f (suc k) d l =
    elim (ℕ_discrete d k) [
      | yes e ↦ rw e (merge-join (labels f k) (f.own k) (f.nbr k))
      | no ne ↦ merge_same (labels f k) (f.own k) (f.nbr k) _ _ (labels-along f k d (omega (arith, ne)))
    ]

labels_same : (f : Flat) (s : ℕ → ℕ) (k : ℕ) → ((d : ℕ) → d < k → s (f.own d) ≡ s (f.nbr d)) → (x : ℕ) → s (labels f k x) ≡ s x
unfolding labels
labels_same f s zero h x = refl
labels_same f s (suc k) h x = go (λ y. labels_same f s k (λ d l. h d (omega arith)) y)
  where
    go : ((y : ℕ) → s (labels f k y) ≡ s y) → s (merge (labels f k) (f.own k) (f.nbr k) x) ≡ s x
    go ih =
        elim (ℕ_discrete (labels f k x) (labels f k (f.own k))) [
          | yes e ↦ ap s (merge_in (labels f k) (f.own k) (f.nbr k) x e) ∙ ih (f.nbr k) ∙ sym (h k (omega arith)) ∙ sym (ih (f.own k)) ∙ ap s (sym e) ∙ ih x
          | no ne ↦ ap s (merge_out (labels f k) (f.own k) (f.nbr k) x ne) ∙ ih x
        ]

pub joined-yes : (f : Flat) → joined? f ≡ true → Joined f
unfolding joined?
joined-yes f t s h x y xl yl =
    let at : (x : ℕ) → x < f.n → s x ≡ s (labels f f.D 0) =
    λ x xl. sym (labels_same f s f.D h x) ∙ ap s (eqb-true _ _ (all_true (λ x. eqb (labels f f.D x) (labels f f.D 0)) f.n t x xl)) in
    at x xl ∙ sym (at y yl)

pub yes-joined : (f : Flat) → Joined f → joined? f ≡ true
unfolding joined?
yes-joined f j = true_all _ f.n (λ x xl. eq-eqb _ _ (j (labels f f.D) (λ d dl. labels-along f f.D d dl) x 0 xl (omega arith)))

-- ---- what is asked of a net

abbrev at? : Flat → ℕ → ℕ → ℕ → Bool
at? f v u d = eqb (f.own d) v && eqb (f.nbr d) u

at_true : (f : Flat) (v u d : ℕ) → at? f v u d ≡ true → (f.own d ≡ v) × (f.nbr d ≡ u)
at_true f v u d t = let w = both (eqb (f.own d) v) (eqb (f.nbr d) u) t in (eqb-true _ _ w.0, eqb-true _ _ w.1)

true_at : (f : Flat) (v u d : ℕ) → f.own d ≡ v → f.nbr d ≡ u → at? f v u d ≡ true
true_at f v u d p q = rw (eq-eqb _ _ p) (eq-eqb _ _ q)

-- the place of u in v's list, where there is one
pub place-hit : (f : Flat) (v u d : ℕ) → d < f.D → f.own d ≡ v → f.nbr d ≡ u → (place f v u < f.D) × (f.own (place f v u) ≡ v) × (f.nbr (place f v u) ≡ u)
unfolding place
place-hit f v u d dl p q =
    let w = seek_hit (at? f v u) f.D f.D d dl (true_at f v u d p q) in
    let z = at_true f v u _ w.1 in
    (w.0, z.0, z.1)

pub place_in : (f : Flat) (v u : ℕ) → place f v u < f.D → (f.own (place f v u) ≡ v) × (f.nbr (place f v u) ≡ u)
unfolding place
place_in f v u l = at_true f v u _ (seek-miss (at? f v u) f.D f.D (le_refl _) l)

pub good : {f : Flat} → Valid f → Good f
good {f} v =
    let hit : (d : ℕ) → d < f.D → (back f d < f.D) × (f.own (back f d) ≡ f.nbr d) × (f.nbr (back f d) ≡ f.own d) =
    λ d dl. let e = v.both d dl in place-hit f (f.nbr d) (f.own d) e.0 e.1 e.2 e.3 in
    record { valid = v; back_in = λ d dl. (hit d dl).0; back_own = λ d dl. (hit d dl).1; back_nbr = λ d dl. (hit d dl).2 }

pub back_own : {f : Flat} (v : Valid f) (d : ℕ) → d < f.D → f.own (back f d) ≡ f.nbr d
unfolding good
back_own v d dl = (good v).back_own d dl

pub net_of_lem : {f : Flat} → Listed f → Valid f → Net (map f (back f))
unfolding good
net_of_lem l v = net l (good v)

pub or_not : (a b : Bool) → (not a || b) ≡ true → a ≡ true → b ≡ true
or_not true b t e = t
or_not false b t e = clash e refl

pub not_or : (a b : Bool) → (a ≡ true → b ≡ true) → (not a || b) ≡ true
not_or true b h = h refl
not_or false b h = refl

pub true_and : (a b : Bool) → a ≡ true → b ≡ true → (a && b) ≡ true
true_and a b p q = rw p q

abbrev same? : Flat → ℕ → ℕ → Bool
same? f d e = eqb (f.own d) (f.own e) && eqb (f.nbr d) (f.nbr e)

-- what passes the tests is a net to be taken, and back
pub taken_yes : (f : Flat) → 4 ≤ f.n → taken? f ≡ true → Valid f
unfolding taken? not_self? not_twice? in_both? faces?
taken_yes f four t =
    let t2 = both _ _ t in
    let t3 = both _ _ t2.1 in
    let t4 = both _ _ t3.1 in
    let t5 = both _ _ t4.1 in
    let t6 = both _ _ t5.1 in
    record {
      four = four;
      self = λ d dl e. clash (all_true (λ d. not (eqb (f.nbr d) (f.own d))) f.D t2.0 d dl) (rw (eq-eqb _ _ e));
      twice = λ d e dl el p q.
          eqb-true d e (or_not (same? f d e) _
          (all_true (λ e. not (same? f d e) || eqb d e) f.D
          (all_true (λ d. all (λ e. not (same? f d e) || eqb d e) f.D) f.D t3.0 d dl) e el)
          (true_and _ _ (eq-eqb _ _ p) (eq-eqb _ _ q)));
      both = λ d dl.
          let k = ltb-true _ _ (all_true (λ d. ltb (back f d) f.D) f.D t4.0 d dl) in
          let w = place_in f _ _ k in
          (back f d, k, w.0, w.1);
      joined = joined-yes f t5.0;
      lines = eqb-true _ _ t6.0;
      faces = λ d dl. eqb-true _ _ (all_true (λ d. eqb (side f (side f (side f d))) d) f.D t6.1 d dl);
    }

pub yes_taken : (f : Flat) → Valid f → taken? f ≡ true
unfolding taken? not_self? not_twice? in_both? faces? good
yes_taken f v =
    true_and _ _ (true_all _ f.D (λ d dl. rw (ne_eqb _ _ (v.self d dl))))
    (true_and _ _ (true_all _ f.D (λ d dl. true_all _ f.D (λ e el. not_or (same? f d e) _ (λ t.
    let w = both _ _ t in
    eq-eqb d e (v.twice d e dl el (eqb-true _ _ w.0) (eqb-true _ _ w.1))))))
    (true_and _ _ (true_all _ f.D (λ d dl. lt-ltb _ _ ((good v).back_in d dl)))
    (true_and _ _ (yes-joined f v.joined)
    (true_and _ _ (eq-eqb _ _ v.lines)
    (true_all _ f.D (λ d dl. eq-eqb _ _ (v.faces d dl)))))))
