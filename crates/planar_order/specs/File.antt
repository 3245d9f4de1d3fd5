-- A well-formed file's lists stand one after another.
use Rattle.std.specs.Prelude.{ℕ, zero, suc, ◌+◌, ◌<◌, ◌≤◌, ◌≡◌, refl, List, [], ◌∷◌, true, leb}
use Rattle.std.proofs.Common.{◌∙◌, arith}
use Rattle.std.proofs.Math.Nat.{zero-add}
use Rattle.std.proofs.Math.Numerals.{add-one}
use Rattle.std.proofs.Math.ListN.{length, get_or}
use Rattle.rules.specs.Basics.{between}
use Rattle.rules.specs.Bools.{both, in_range}
use Rattle.planar_rules.specs.PlanarCode.{net_of, n_of, body, opening, begins?, lists?, formed?, neighbours, owners, ends}
use Rattle.planar_sphere.specs.Count.{clash}
use Rattle.planar_sphere.specs.Flat.{Listed}

-- no list ends before the places that stand before
ends_low : (n k e j : ℕ) (bs : List ℕ) → lists? n k bs ≡ true → j < k → e ≤ get_or (ends e bs) j 0
unfolding lists? ends
ends_low n zero e j bs t l = absurd (omega arith)
ends_low n (suc k) e j [] t l = clash t refl
ends_low n (suc k) e zero (zero ∷ bs) t l = omega arith
ends_low n (suc k) e (suc j) (zero ∷ bs) t l = ends_low n k e j bs t (omega arith)
ends_low n (suc k) e j (suc b ∷ bs) t l = omega (arith, ends_low n (suc k) (suc e) j bs (both (leb (suc b) n) _ t).1 l)

-- a place stands in its owner's list: the first list is v's and begins at s, and d0 places stand before
stands :
    (n k v s d0 d : ℕ) (bs : List ℕ) → lists? n k bs ≡ true → s ≤ d0 → d < length (neighbours bs) →
    (j : ℕ) × (get_or (owners v bs) d 0 ≡ v + j) × (j < k) × (get_or (s ∷ ends d0 bs) j 0 ≤ d0 + d) × (d0 + d < get_or (ends d0 bs) j 0)
unfolding lists? ends owners neighbours
stands n zero v s d0 d [] t sd l = absurd (omega arith)
stands n zero v s d0 d (b ∷ bs) t sd l = clash t refl
stands n (suc k) v s d0 d [] t sd l = clash t refl
stands n (suc k) v s d0 d (zero ∷ bs) t sd l =
    let w = stands n k (suc v) d0 d0 d bs t (omega arith) l in
    (suc w.0, w.1 ∙ (let z : suc v + w.0 ≡ v + suc w.0 = omega arith in z), omega (arith, w.2), w.3, w.4)
stands n (suc k) v s d0 zero (suc b ∷ bs) t sd l =
    (0, (let z : v ≡ v + 0 = omega arith in z), omega arith, omega arith, omega (arith, ends_low n (suc k) (suc d0) 0 bs (both (leb (suc b) n) _ t).1 (omega arith)))
stands n (suc k) v s d0 (suc d) (suc b ∷ bs) t sd l =
    let w = stands n (suc k) v s (suc d0) d bs (both (leb (suc b) n) _ t).1 (omega arith) (omega arith) in
    (w.0, w.1, w.2, omega (arith, w.3), omega (arith, w.4))

-- and what stands between a list's bounds is in it
inside :
    (n k v s d0 d j : ℕ) (bs : List ℕ) → lists? n k bs ≡ true → j < k → get_or (s ∷ ends d0 bs) j 0 ≤ d0 + d → d0 + d < get_or (ends d0 bs) j 0 →
    (d < length (neighbours bs)) × (get_or (owners v bs) d 0 ≡ v + j)
unfolding lists? ends owners neighbours
inside n zero v s d0 d j bs t jk a b = absurd (omega arith)
inside n (suc k) v s d0 d j [] t jk a b = clash t refl
inside n (suc k) v s d0 d zero (zero ∷ bs) t jk a b = absurd (omega arith)
inside n (suc k) v s d0 d (suc j) (zero ∷ bs) t jk a b =
    let w = inside n k (suc v) d0 d0 d j bs t (omega arith) a b in
    (w.0, w.1 ∙ (let z : suc v + j ≡ v + suc j = omega arith in z))
inside n (suc k) v s d0 zero zero (suc b ∷ bs) t jk a c = (omega arith, (let z : v ≡ v + 0 = omega arith in z))
inside n (suc k) v s d0 zero (suc j) (suc b ∷ bs) t jk a c =
    absurd (omega (arith, ends_low n (suc k) (suc d0) j bs (both (leb (suc b) n) _ t).1 (omega arith)))
inside n (suc k) v s d0 (suc d) j (suc b ∷ bs) t jk a c =
    let e : suc d0 + d ≡ d0 + suc d = omega arith in
    let w = inside n (suc k) v s (suc d0) d j bs (both (leb (suc b) n) _ t).1 jk (rw e a) (rw e c) in
    (omega (arith, w.0), w.1)

module _ (bs : List ℕ) (ok : formed? bs ≡ true) where
  parts : (4 ≤ n_of bs) × (n_of bs ≤ 255) × (lists? (n_of bs) (n_of bs) (body bs) ≡ true)
  unfolding formed?
  parts =
      let t1 = both (begins? opening bs) _ ok in
      let t2 = both (between 4 255 (n_of bs)) _ t1.1 in
      let r = in_range 4 255 (n_of bs) t2.0 in
      (r.0, r.1, t2.1)

  -- the lists are all there
  pub all_lists : lists? (n_of bs) (n_of bs) (body bs) ≡ true
  all_lists = parts.2

  pub four : 4 ≤ (net_of bs).n
  unfolding net_of
  four = parts.0

  pub byte : (net_of bs).n ≤ 255
  unfolding net_of
  byte = parts.1

  pub listed : Listed (net_of bs)
  unfolding net_of
  listed =
      let at : (d : ℕ) → d < length (neighbours (body bs)) → (j : ℕ) × (get_or (owners 0 (body bs)) d 0 ≡ 0 + j) × (j < n_of bs) × (get_or (0 ∷ ends 0 (body bs)) j 0 ≤ 0 + d) × (0 + d < get_or (ends 0 (body bs)) j 0) =
      λ d dl. stands (n_of bs) (n_of bs) 0 0 0 d (body bs) parts.2 (omega arith) dl in
      record {
        own_in = λ d dl. let w = at d dl in omega (arith, w.1, w.2);
        from = λ d dl. let w = at d dl in rw (w.1, zero-add w.0) (omega (arith, w.3));
        upto = λ d dl. let w = at d dl in rw (w.1, zero-add w.0, add-one w.0) (omega (arith, w.4));
        within = λ v d vn a b.
            let c : d < get_or (ends 0 (body bs)) v 0 = rw (add-one v) at b in
            let w = inside (n_of bs) (n_of bs) 0 0 0 d v (body bs) parts.2 vn (omega arith) (omega arith) in
            (w.0, w.1 ∙ zero-add v);
      }
