-- Laws of the tests, one step at a time.
use Rattle.std.specs.Prelude.{ℕ, ◌+◌, ◌<◌, ◌≤◌, ◌≡◌, ◌≢◌, Bool, true, false, not, ◌&&◌, ◌||◌, List, length, get_or, set, eqb, if◌then◌else◌, Option, Some, None, zero, suc, replicate}
use Rattle.std.specs.Option.{option_eq}
use Rattle.std.proofs.Math.Path.{refl, ap}
use Rattle.std.proofs.Common.{sym, ◌∙◌, inl, inr, arith, add-one, length-set, get_or-set_same, get_or-set_other, eq-eqb, ne_eqb, eqb-true}
use Rattle.std.proofs.Math.Decide.{ℕ_discrete, dec_le}
use Rattle.std.proofs.lemmas.Option.{none-some}
use Rattle.rules.specs.Bools.{both}
use Rattle.planar_rules.specs.PlanarCode.{Flat, all, after, back, not_self?, not_twice?, in_both?, merge, labels, joined?, counted?, side, faces?, taken?}
use Rattle.planar_reading.specs.Arrays.{Kept}
use Rattle.planar_sphere.specs.Count.{bool, clash}
use Rattle.planar_sphere.specs.Flat.{Listed, after_both}
use Rattle.planar_sphere.proofs.Check.{true_and, or_not, not_or, all_true, true_all}

-- ---- a test of every index, from below

-- of n, the first i pass
pub record Passed (p : ℕ → Bool) (n i : ℕ) : Type 0 where
  pub within : i ≤ n
  pub yes : all p i ≡ true

-- none is tested yet
pub passed_none : {p : ℕ → Bool} {n : ℕ} → Passed p n 0
unfolding all
passed_none = record { within = omega arith; yes = refl }

module _ {p : ℕ → Bool} {n i : ℕ} (x : Passed p n i) where
  -- the next one passes, or doesn't
  pub passed_more : i < n → p i ≡ true → Passed p n (i + 1)
  unfolding all
  passed_more l e = record { within = omega arith; yes = rw (add-one i) (true_and (p i) (all p i) e x.yes) }

  pub passed_stop : i < n → p i ≡ false → false ≡ all p n
  passed_stop l e = elim (bool (all p n)) [ inr z ↦ sym z | inl t ↦ clash (all_true p n t i l) e ]

  -- there is no other
  pub passed_all : n ≤ i → true ≡ all p n
  passed_all l = let e : i ≡ n = omega (arith, x.within) in sym (rw e at x.yes)

-- two tests that imply each other
pub same_bool : (a b : Bool) → (a ≡ true → b ≡ true) → (b ≡ true → a ≡ true) → a ≡ b
same_bool true true f g = refl
same_bool true false f g = sym (f refl)
same_bool false true f g = g refl
same_bool false false f g = refl

-- ---- no vertex twice: marks of what the list has named

-- two places stand in one list and name one vertex
abbrev same? : Flat → ℕ → ℕ → Bool
same? f d e = eqb (f.own d) (f.own e) && eqb (f.nbr d) (f.nbr e)

-- where no list names a vertex twice, such places are one
twice_no : (f : Flat) → not_twice? f ≡ true → (d e : ℕ) → d < f.D → e < f.D → f.own d ≡ f.own e → f.nbr d ≡ f.nbr e → d ≡ e
unfolding not_twice?
twice_no f t d e dl el p q =
    let one = all_true (λ d. all (λ e. not (same? f d e) || eqb d e) f.D) f.D t d dl in
    let here = all_true (λ e. not (same? f d e) || eqb d e) f.D one e el in
    eqb-true d e (or_not (same? f d e) _ here (true_and _ _ (eq-eqb _ _ p) (eq-eqb _ _ q)))

-- what stands between two places of a list is of that list
between-own : {f : Flat} → Listed f → (j i k : ℕ) → j ≤ i → i ≤ k → k < f.D → f.own k ≡ f.own j → f.own i ≡ f.own j
between-own {f} l j i k ji ik kd e =
    let lo : f.off (f.own j) ≤ i = omega (arith, l.from j (omega arith)) in
    let hi : i < f.off (f.own j + 1) = omega (arith, l.upto k kd, ap (λ v. f.off (v + 1)) e) in
    (l.within (f.own j) i (l.own_in j (omega arith)) lo hi).1

-- after i places, a mark is the vertex whose list named its index last
pub record Marks (f : Flat) (i : ℕ) (marks : List (Option ℕ)) : Type 0 where
  pub long : length marks ≡ 256
  -- whatever is marked was named
  pub named : (u v : ℕ) → get_or marks u None ≡ Some v → (j : ℕ) × (j < i) × (f.own j ≡ v) × (f.nbr j ≡ u)
  -- what was named by a list that goes on is marked
  pub shown : (j k : ℕ) → j < i → i ≤ k → k < f.D → f.own k ≡ f.own j → get_or marks (f.nbr j) None ≡ Some (f.own j)
  -- and no list has named one twice
  pub once : (j k : ℕ) → j < k → k < i → f.own j ≡ f.own k → f.nbr j ≡ f.nbr k → ⊥

-- an array of none has none at every index
pub unmarked : (n u : ℕ) → get_or {A = Option ℕ} (replicate n None) u None ≡ None
unmarked zero u = refl
unmarked (suc n) zero = refl
unmarked (suc n) (suc u) = unmarked n u

-- a mark that is v's, and one that is not
pub mark_is : (o : Option ℕ) (v : ℕ) → option_eq eqb o (Some v) ≡ true → o ≡ Some v
mark_is None v e = clash e refl
mark_is (Some u) v e = ap Some (eqb-true u v e)

pub mark_isnt : (o : Option ℕ) (v : ℕ) → option_eq eqb o (Some v) ≡ false → o ≡ Some v → ⊥
mark_isnt o v e q = clash (ap (λ o. option_eq eqb o (Some v)) q ∙ eq-eqb v v refl) e

-- nothing is named yet
pub marks_none : (f : Flat) (marks : List (Option ℕ)) → length marks ≡ 256 → ((u : ℕ) → get_or marks u None ≡ None) → Marks f 0 marks
marks_none f marks l z =
    record {
      long = l;
      named = λ u v e. absurd (none-some v (sym (z u) ∙ e));
      shown = λ j k p a b e. absurd (omega arith);
      once = λ j k a b p q. omega arith;
    }

module _ {f : Flat} {i : ℕ} {marks : List (Option ℕ)} (l : Listed f) (d : i < f.D) (m : Marks f i marks) where
  -- the list has named the next place's vertex
  pub marks_stop : get_or marks (f.nbr i) None ≡ Some (f.own i) → false ≡ not_twice? f
  marks_stop e =
      let w = m.named (f.nbr i) (f.own i) e in
      elim (bool (not_twice? f)) [
        | inr z ↦ sym z
        | inl t ↦ absurd (omega (arith, w.1, twice_no f t w.0 i (omega (arith, w.1)) d w.2 w.3))
      ]

  -- it has not, and is marked as its owner
  pub marks_more : f.nbr i < 256 → (get_or marks (f.nbr i) None ≡ Some (f.own i) → ⊥) → Marks f (i + 1) (set marks (f.nbr i) (Some (f.own i)))
  marks_more small fresh =
      record {
        long = length-set marks (f.nbr i) (Some (f.own i)) ∙ m.long;
        named = λ u v e. elim (ℕ_discrete u (f.nbr i)) [
          | yes q ↦
              let z : Some (f.own i) ≡ Some v = sym here ∙ ap (λ u. get_or new u None) (sym q) ∙ e in
              (i, omega arith, cc, sym q)
          | no ne ↦
              let w = m.named u v (sym (other u ne) ∙ e) in
              (w.0, omega (arith, w.1), w.2, w.3)
        ];
        shown = λ j k ji ik kd e. elim (ℕ_discrete (f.nbr j) (f.nbr i)) [
          | yes q ↦
              let o = between-own l j i k (omega arith) (omega arith) kd e in
              ap (λ u. get_or new u None) q ∙ here ∙ ap Some o
          | no ne ↦
              let ji' : j ≢ i = λ z. ne (ap f.nbr z) in
              other (f.nbr j) ne ∙ m.shown j k (omega (arith, ji')) (omega arith) kd e
        ];
        once = λ j k jk ki p q. elim (ℕ_discrete k i) [
          | no ne ↦ m.once j k jk (omega (arith, ne)) p q
          | yes z ↦
              let o : f.own j ≡ f.own i = p ∙ ap f.own z in
              fresh (ap (λ u. get_or marks u None) (sym (q ∙ ap f.nbr z)) ∙ m.shown j i (omega arith) (omega arith) d (sym o) ∙ ap Some o)
        ];
      }
    where
      new : List (Option ℕ)
      new = set marks (f.nbr i) (Some (f.own i))

      here : get_or new (f.nbr i) None ≡ Some (f.own i)
      here = get_or-set_same marks (f.nbr i) (Some (f.own i)) None (omega (arith, m.long))

      other : (u : ℕ) → u ≢ f.nbr i → get_or new u None ≡ get_or marks u None
      other u ne = get_or-set_other marks (f.nbr i) u (Some (f.own i)) None ne

-- there is no other place
pub marks_all : {f : Flat} {i : ℕ} {marks : List (Option ℕ)} → Marks f i marks → f.D ≤ i → true ≡ not_twice? f
unfolding not_twice?
marks_all {f} {i} m l =
    sym (true_all _ f.D (λ d dl. true_all _ f.D (λ e el. not_or (same? f d e) _ (λ s.
    let w = both (eqb (f.own d) (f.own e)) _ s in
    eq-eqb d e (one d e dl el (eqb-true _ _ w.0) (eqb-true _ _ w.1))))))
  where
    one : (d e : ℕ) → d < f.D → e < f.D → f.own d ≡ f.own e → f.nbr d ≡ f.nbr e → d ≡ e
    one d e dl el p q =
        elim (dec_le d e) [
          | no a ↦ absurd (m.once e d (omega (arith, a)) (omega arith) (sym p) (sym q))
          | yes a ↦ elim (ℕ_discrete d e) [ yes z ↦ z | no ne ↦ absurd (m.once d e (omega (arith, ne)) (omega arith) p q) ]
        ]

-- ---- filling an array by a function of the index

-- the first i are h's, and with what is set at i the first i + 1
pub set_more :
    (l : List ℕ) (h : ℕ → ℕ) (i x : ℕ) → i < length l → ((k : ℕ) → k < i → get_or l k 0 ≡ h k) → x ≡ h i →
    (k : ℕ) → k < i + 1 → get_or (set l i x) k 0 ≡ h k
set_more l h i x il p e k kl =
    elim (ℕ_discrete k i) [
      | yes q ↦ ap (λ k. get_or (set l i x) k 0) q ∙ get_or-set_same l i x 0 il ∙ e ∙ ap h (sym q)
      | no q ↦ get_or-set_other l i k x 0 q ∙ p k (omega (arith, q))
    ]

-- ---- the sides of a face

-- bk has the place of the same line in the other list
pub record Backs (f : Flat) (bk : List ℕ) : Type 0 where
  pub is : (d : ℕ) → d < f.D → get_or bk d 0 ≡ back f d
  pub within : (d : ℕ) → d < f.D → back f d < f.D

module _ {f : Flat} {bk : List ℕ} (k : Kept f) (b : Backs f bk) where
  -- what `side_of` asks, and what it gives
  pub side_asks : {d : ℕ} → d < f.D → (d < 1536) × (get_or bk d 0 < 1536)
  side_asks {d} l = (omega (arith, k.few), omega (arith, b.is d l, b.within d l, k.few))

  pub side-gives : {d x : ℕ} → d < f.D → x ≡ after f (get_or bk d 0) → (x ≡ side f d) × (x < f.D)
  side-gives {d} {x} l e =
      let q : x ≡ side f d = e ∙ ap (after f) (b.is d l) in (q, rw q (after_both k.listed (back f d) (b.within d l)).0)

  -- three times
  pub three-sides :
      {i x y z : ℕ} → i < f.D → x ≡ after f (get_or bk i 0) → y ≡ after f (get_or bk x 0) → z ≡ after f (get_or bk y 0) →
      z ≡ side f (side f (side f i))
  three-sides l p q r =
      let a = side-gives l p in
      let c = side-gives a.1 q in
      (side-gives c.1 r).0 ∙ ap (side f) (c.0 ∙ ap (side f) a.0)

-- ---- labels

-- those below n that had label a have label b now
pub record Relabelled (n a b : ℕ) (old new : List ℕ) : Type 0 where
  pub same : length new ≡ length old
  pub done : (x : ℕ) → x < n → get_or new x 0 ≡ (if eqb (get_or old x 0) a then b else get_or old x 0)
  pub rest : (x : ℕ) → n ≤ x → get_or new x 0 ≡ get_or old x 0

-- none is given another yet, the next one is, or it stays
pub relabel_none : (a b : ℕ) (l : List ℕ) → Relabelled 0 a b l l
relabel_none a b l = record { same = refl; done = λ x p. absurd (omega arith); rest = λ x p. refl }

pub relabel_set :
    {x a b : ℕ} {old new : List ℕ} → Relabelled x a b old new → x < length old → get_or new x 0 ≡ a → Relabelled (x + 1) a b old (set new x b)
relabel_set {x} {a} {b} {old} {new} r l e =
    record {
      same = length-set new x b ∙ r.same;
      done = λ y yl. elim (ℕ_discrete y x) [
        | yes q ↦ rw q (get_or-set_same new x b 0 (omega (arith, r.same)) ∙ sym (rw (eq-eqb _ _ (sym (r.rest x (omega arith)) ∙ e))))
        | no q ↦ get_or-set_other new x y b 0 q ∙ r.done y (omega (arith, q))
      ];
      rest = λ y yl. get_or-set_other new x y b 0 (λ q. omega arith) ∙ r.rest y (omega arith);
    }

pub relabel_keep : {x a b : ℕ} {old new : List ℕ} → Relabelled x a b old new → (get_or new x 0 ≡ a → ⊥) → Relabelled (x + 1) a b old new
relabel_keep {x} {a} {b} {old} {new} r e =
    record {
      same = r.same;
      done = λ y yl. elim (ℕ_discrete y x) [
        | yes q ↦ rw q (r.rest x (omega arith) ∙ sym (rw (ne_eqb _ _ (λ z. e (r.rest x (omega arith) ∙ z)))))
        | no q ↦ r.done y (omega (arith, q))
      ];
      rest = λ y yl. r.rest y (omega arith);
    }

-- the line from v to u gives the label of v to all that have u's
pub record Merged (n v u : ℕ) (old new : List ℕ) : Type 0 where
  pub same : length new ≡ length old
  pub done : (x : ℕ) → x < n → get_or new x 0 ≡ merge (λ y. get_or old y 0) v u x

-- they have one label already
pub merged_same : {n v u : ℕ} {l : List ℕ} → get_or l v 0 ≡ get_or l u 0 → Merged n v u l l
unfolding merge
merged_same {n} {v} {u} {l} e = record { same = refl; done = λ x xl. sym (go x (eqb (get_or l x 0) (get_or l v 0)) refl) }
  where
    go : (x : ℕ) (b : Bool) → eqb (get_or l x 0) (get_or l v 0) ≡ b → (if b then get_or l u 0 else get_or l x 0) ≡ get_or l x 0
    go x true q = sym e ∙ sym (eqb-true _ _ q)
    go x false q = refl

-- all of v's label are given u's
pub merged_all : {n v u a b : ℕ} {old new : List ℕ} → a ≡ get_or old v 0 → b ≡ get_or old u 0 → Relabelled n a b old new → Merged n v u old new
unfolding merge
merged_all {old = old} p q r = record { same = r.same; done = λ x xl. r.done x xl ∙ rw (p, q) }

-- the labels after i lines
abbrev pub Labelled : Flat → ℕ → List ℕ → Type 0
Labelled f i lab = (x : ℕ) → x < f.n → get_or lab x 0 ≡ labels f i x

-- before the first line each vertex has its own
pub labelled_none : (f : Flat) (lab : List ℕ) → ((x : ℕ) → x < f.n → get_or lab x 0 ≡ x) → Labelled f 0 lab
unfolding labels
labelled_none f lab h = h

-- line i gives all of its owner's label that of the vertex which it names
pub labelled_more :
    (f : Flat) (i : ℕ) {old new : List ℕ} → f.own i < f.n → f.nbr i < f.n → Labelled f i old →
    Merged f.n (f.own i) (f.nbr i) old new → Labelled f (i + 1) new
unfolding labels merge
labelled_more f i a b l m x xl = rw (add-one i) (m.done x xl ∙ rw (l x xl, l (f.own i) a, l (f.nbr i) b))

-- tests that agree pass alike
all_same : (p q : ℕ → Bool) (n : ℕ) → ((x : ℕ) → x < n → p x ≡ q x) → all p n ≡ all q n
all_same p q n h = same_bool _ _ (λ t. true_all q n (λ x l. sym (h x l) ∙ all_true p n t x l)) (λ t. true_all p n (λ x l. h x l ∙ all_true q n t x l))

-- the labels after the last line tell whether all is connected
pub joined_is : (f : Flat) (lab : List ℕ) → 0 < f.n → Labelled f f.D lab → all (λ x. eqb (get_or lab x 0) (get_or lab 0 0)) f.n ≡ joined? f
unfolding joined?
joined_is f lab p l = all_same _ _ f.n (λ x xl. rw (l x xl, l 0 p))

-- ---- 15, in the order in which the program tests

-- no list names its own vertex or one vertex twice, and all is connected
abbrev pub sound_lists? : Flat → Bool
sound_lists? f = not_self? f && (not_twice? f && joined? f)

-- every line stands in both lists, and every face has three sides
abbrev pub sound_faces? : Flat → Bool
sound_faces? f = in_both? f && faces? f

-- the same tests in another order: the last four, then all six
four-turned : (c e d x : Bool) → (c && (d && (e && x))) ≡ (e && (d && (c && x)))
four-turned true true d x = refl
four-turned true false true x = refl
four-turned true false false x = refl
four-turned false true true x = refl
four-turned false true false x = refl
four-turned false false d x = refl

six_turned : (a b c d e x : Bool) → (a && (b && (c && (d && (e && x))))) ≡ (e && ((a && (b && d)) && (c && x)))
six_turned true true c d e x = four-turned c e d x
six_turned true false c d true x = refl
six_turned true false c d false x = refl
six_turned false b c d true x = refl
six_turned false b c d false x = refl

-- 15's tests in the program's order
pub taken_parts : (f : Flat) → taken? f ≡ (counted? f && (sound_lists? f && sound_faces? f))
unfolding taken?
taken_parts f = six_turned (not_self? f) (not_twice? f) (in_both? f) (joined? f) (counted? f) (faces? f)

-- a net whose places are not counted right is not taken
pub taken_count : (f : Flat) → counted? f ≡ false → taken? f ≡ false
taken_count f e = taken_parts f ∙ rw e
