-- Laws of the rules' scans, one byte at a time.
use Rattle.std.specs.Prelude.{ℕ, zero, suc, ◌+◌, ◌-◌, ◌<◌, ◌≤◌, ◌≡◌, refl, true, false, ◌&&◌, List, [], ◌∷◌, ◌++◌, length, get_or, take, drop, set, replicate, eqb, leb}
use Rattle.std.specs.List.{starts_with}
use Rattle.std.proofs.Common.{ap, sym, ◌∙◌, arith, length-append, length-set, get_or-set_other, get_or-take, drop_of_length-le, drop-cons, take-suc-set, length-take-le, ne_eqb, le-leb, append_assoc, append-nil}
use Rattle.std.proofs.Math.Bool.{and-false}
use Rattle.std.proofs.Math.Numerals.{add-one}
use Rattle.std.proofs.Math.Decide.{ℕ_discrete, dec_le}
use Rattle.std.proofs.Math.ListN.{get_or-eq_default}
use Rattle.std.proofs.lemmas.Bool.{lt-leb}
use Rattle.planar_rules.specs.PlanarCode.{begins?, opening, n_of, body, lists?, formed?, neighbours, owners, ends}
use Rattle.planar_sphere.specs.Count.{clash}
use Rattle.rules.specs.Bools.{both}

-- the i-th byte and the rest
pub next_byte : (bs : List ℕ) (i : ℕ) → i < length bs → drop i bs ≡ get_or bs i 0 ∷ drop (i + 1) bs
next_byte bs i l = rw (add-one i) (drop-cons bs i 0 l)

-- behind the last byte there is nothing
pub no_byte : (bs : List ℕ) (i : ℕ) → length bs ≤ i → drop i bs ≡ []
no_byte bs i l = drop_of_length-le bs {i = i} l

-- an array of zeros has 0 at every index
pub zeros : (n u : ℕ) → get_or {A = ℕ} (replicate n 0) u 0 ≡ 0
zeros zero u = refl
zeros (suc n) zero = refl
zeros (suc n) (suc u) = zeros n u

-- ---- the opening

-- byte by byte, as far as the text goes
pub begins_is : (text bs : List ℕ) → starts_with eqb bs text ≡ begins? text bs
unfolding begins?
begins_is [] bs = refl
begins_is (a ∷ text) [] = refl
begins_is (a ∷ text) (b ∷ bs) = ap (λ t. eqb a b && t) (begins_is text bs)

-- ---- the lists, with v of them to come

-- a byte that is 0, a neighbour, or above n
lists_0 : (n v : ℕ) (l : List ℕ) → lists? n (suc v) (0 ∷ l) ≡ lists? n v l
unfolding lists?
lists_0 n v l = refl

lists_1 : (n v c : ℕ) (l : List ℕ) → 0 < c → c ≤ n → lists? n (suc v) (c ∷ l) ≡ lists? n (suc v) l
unfolding lists?
lists_1 n v zero l p q = absurd (omega arith)
lists_1 n v (suc c) l p q = rw (le-leb (suc c) n q)

lists_2 : (n v c : ℕ) (l : List ℕ) → n < c → lists? n (suc v) (c ∷ l) ≡ false
unfolding lists?
lists_2 n v zero l p = absurd (omega arith)
lists_2 n v (suc c) l p = rw (lt-leb (suc c) n p)

module _ (n : ℕ) (bs : List ℕ) (i : ℕ) (il : i < length bs) where
  -- byte i where none is to come; where it ends a list, names a neighbour, or names none
  pub lists_over : lists? n 0 (drop i bs) ≡ false
  unfolding lists?
  lists_over = rw (next_byte bs i il)

  pub lists-zero : (v : ℕ) → 0 < v → get_or bs i 0 ≡ 0 → lists? n v (drop i bs) ≡ lists? n (v - 1) (drop (i + 1) bs)
  lists-zero zero p e = absurd (omega arith)
  lists-zero (suc v) p e = let q : suc v - 1 ≡ v = omega arith in rw (next_byte bs i il, e, q) (lists_0 n v (drop (i + 1) bs))

  pub lists_more : (v : ℕ) → 0 < v → 0 < get_or bs i 0 → get_or bs i 0 ≤ n → lists? n v (drop i bs) ≡ lists? n v (drop (i + 1) bs)
  lists_more zero p q e = absurd (omega arith)
  lists_more (suc v) p q e = rw (next_byte bs i il) (lists_1 n v (get_or bs i 0) (drop (i + 1) bs) q e)

  pub lists-high : (v : ℕ) → 0 < v → n < get_or bs i 0 → lists? n v (drop i bs) ≡ false
  lists-high zero p e = absurd (omega arith)
  lists-high (suc v) p e = rw (next_byte bs i il) (lists_2 n v (get_or bs i 0) (drop (i + 1) bs) e)

-- behind the last byte none may be to come
pub lists-done : (n v : ℕ) (bs : List ℕ) (i : ℕ) → length bs ≤ i → lists? n v (drop i bs) ≡ eqb v 0
unfolding lists?
lists-done n zero bs i l = rw (no_byte bs i l)
lists-done n (suc v) bs i l = rw (no_byte bs i l, ne_eqb (suc v) 0 (λ e. omega arith))

-- ---- 14

-- shorter than its first 16 bytes: no n, or one of 0
pub formed-short : (bs : List ℕ) → length bs < 16 → formed? bs ≡ false
unfolding formed?
formed-short bs l = rw (get_or-eq_default bs 0 {n = 15} (omega arith)) (and-false (begins? opening bs))

-- the opening is another
pub formed_not : (bs : List ℕ) → begins? opening bs ≡ false → formed? bs ≡ false
unfolding formed?
formed_not bs e = rw e

-- n is too small
pub formed_small : (bs : List ℕ) → begins? opening bs ≡ true → n_of bs < 4 → formed? bs ≡ false
unfolding formed?
formed_small bs e l = rw (e, lt-leb 4 (n_of bs) l)

-- the lists decide
pub formed-lists : (bs : List ℕ) → begins? opening bs ≡ true → 4 ≤ n_of bs → n_of bs ≤ 255 → formed? bs ≡ lists? (n_of bs) (n_of bs) (body bs)
unfolding formed?
formed-lists bs e l h = rw (e, le-leb 4 (n_of bs) l, le-leb (n_of bs) 255 h)

-- ---- the places: neighbours, owners and ends by the byte that comes, 0 or a neighbour

nbr_1 : (c : ℕ) (l : List ℕ) → 0 < c → neighbours (c ∷ l) ≡ (c - 1) ∷ neighbours l
unfolding neighbours
nbr_1 zero l p = absurd (omega arith)
nbr_1 (suc c) l p = let e : suc c - 1 ≡ c = omega arith in rw e

own_1 : (v c : ℕ) (l : List ℕ) → 0 < c → owners v (c ∷ l) ≡ v ∷ owners v l
unfolding owners
own_1 v zero l p = absurd (omega arith)
own_1 v (suc c) l p = refl

end_1 : (d c : ℕ) (l : List ℕ) → 0 < c → ends d (c ∷ l) ≡ ends (d + 1) l
unfolding ends
end_1 d zero l p = absurd (omega arith)
end_1 d (suc c) l p = rw (add-one d)

module _ (bs : List ℕ) (i : ℕ) (il : i < length bs) where
  pub nbr-zero : get_or bs i 0 ≡ 0 → neighbours (drop i bs) ≡ neighbours (drop (i + 1) bs)
  unfolding neighbours
  nbr-zero e = rw (next_byte bs i il, e)

  pub nbr_more : 0 < get_or bs i 0 → neighbours (drop i bs) ≡ (get_or bs i 0 - 1) ∷ neighbours (drop (i + 1) bs)
  nbr_more p = ap neighbours (next_byte bs i il) ∙ nbr_1 (get_or bs i 0) (drop (i + 1) bs) p

  pub own-zero : (v : ℕ) → get_or bs i 0 ≡ 0 → owners v (drop i bs) ≡ owners (v + 1) (drop (i + 1) bs)
  unfolding owners
  own-zero v e = rw (next_byte bs i il, e, add-one v)

  pub own_more : (v : ℕ) → 0 < get_or bs i 0 → owners v (drop i bs) ≡ v ∷ owners v (drop (i + 1) bs)
  own_more v p = ap (owners v) (next_byte bs i il) ∙ own_1 v (get_or bs i 0) (drop (i + 1) bs) p

  pub end-zero : (d : ℕ) → get_or bs i 0 ≡ 0 → ends d (drop i bs) ≡ d ∷ ends d (drop (i + 1) bs)
  unfolding ends
  end-zero d e = rw (next_byte bs i il, e)

  pub end_more : (d : ℕ) → 0 < get_or bs i 0 → ends d (drop i bs) ≡ ends (d + 1) (drop (i + 1) bs)
  end_more d p = ap (ends d) (next_byte bs i il) ∙ end_1 d (get_or bs i 0) (drop (i + 1) bs) p

module _ (bs : List ℕ) (i : ℕ) (il : length bs ≤ i) where
  -- behind the last byte there are none
  pub nbr-done : neighbours (drop i bs) ≡ []
  unfolding neighbours
  nbr-done = rw (no_byte bs i il)

  pub own-done : (v : ℕ) → owners v (drop i bs) ≡ []
  unfolding owners
  own-done v = rw (no_byte bs i il)

  pub end-done : (d : ℕ) → ends d (drop i bs) ≡ []
  unfolding ends
  end-done d = rw (no_byte bs i il)

-- ---- filling an array of zeros from its start

-- the array has the elements of X, and 0 behind them
abbrev pub Holds : List ℕ → List ℕ → Type 0
Holds X array = (k : ℕ) → get_or array k 0 ≡ get_or X k 0

-- X is what is filled in, R what is still to come
pub record Filling (X R array : List ℕ) (d : ℕ) : Type 0 where
  pub so_far : X ≡ take d array ++ R
  pub rest : (k : ℕ) → d ≤ k → get_or array k 0 ≡ 0
  pub within : d ≤ length array

-- nothing is filled in yet
pub fill_begin : (X : List ℕ) (size : ℕ) → Filling X X (replicate size 0) 0
fill_begin X size = record { so_far = refl; rest = λ k l. zeros size k; within = omega arith }

-- where something is to come there is a place for it
pub fill_one : {X R R' array : List ℕ} {d x : ℕ} → Filling X R array d → R ≡ x ∷ R' → length X ≤ length array → d < length array
fill_one {R = R} {array = array} {d = d} f e l =
    omega (arith, ap length f.so_far, length-take-le d array f.within, length-append (take d array) R, ap length e)

-- the next one is filled in
pub fill_next :
    {X R R' array : List ℕ} {d x : ℕ} → Filling X R array d → R ≡ x ∷ R' → length X ≤ length array → Filling X R' (set array d x) (d + 1)
fill_next {X} {R} {R'} {array} {d} {x} f e l =
    let r = fill_one f e l in
    record {
      so_far =
          f.so_far ∙ ap (λ k. take d array ++ k) e ∙ sym (append_assoc (take d array) (x ∷ []) R') ∙
          ap (λ k. k ++ R') (sym (take-suc-set array d x r)) ∙
          ap (λ k. take k (set array d x) ++ R') (sym (add-one d));
      rest = λ k kl. get_or-set_other array d k x 0 (λ q. omega arith) ∙ f.rest k (omega arith);
      within = omega (arith, length-set array d x);
    }

-- what is to come, told otherwise
pub fill_same : {X R R' array : List ℕ} {d : ℕ} → Filling X R array d → R ≡ R' → Filling X R' array d
fill_same {array = array} {d = d} f e = record { so_far = f.so_far ∙ ap (λ k. take d array ++ k) e; rest = f.rest; within = f.within }

-- nothing is to come
pub fill_end : {X R array : List ℕ} {d : ℕ} → Filling X R array d → R ≡ [] → Holds X array
fill_end {X} {R} {array} {d} f e k =
    let q : X ≡ take d array = f.so_far ∙ ap (λ k. take d array ++ k) e ∙ append-nil (take d array) in
    let long : length X ≡ d = ap length q ∙ length-take-le d array f.within in
    elim (dec_le d k) [
      | yes l ↦ f.rest k l ∙ sym (get_or-eq_default X 0 {n = k} (omega arith))
      | no l ↦ sym (ap (λ t. get_or t k 0) q ∙ get_or-take d array k 0 (omega (arith, l)))
    ]

-- ---- a file whose lists are well formed, k of them from byte i on

module _ (n : ℕ) (bs : List ℕ) (i : ℕ) (il : i < length bs) (k : ℕ) (ok : lists? n k (drop i bs) ≡ true) where
  -- at byte i lists are still to come, and what comes behind it is well formed
  pub left_some : 0 < k
  left_some =
      elim (ℕ_discrete k 0) [ no ne ↦ omega (arith, ne) | yes e ↦ clash ok (ap (λ k. lists? n k (drop i bs)) e ∙ lists_over n bs i il) ]

  pub left_zero : get_or bs i 0 ≡ 0 → lists? n (k - 1) (drop (i + 1) bs) ≡ true
  left_zero e = sym (lists-zero n bs i il k left_some e) ∙ ok

  pub left_more : 0 < get_or bs i 0 → lists? n k (drop (i + 1) bs) ≡ true
  left_more p =
      elim (dec_le (get_or bs i 0) n) [
        | yes l ↦ sym (lists_more n bs i il k left_some p l) ∙ ok
        | no l ↦ clash ok (lists-high n bs i il k left_some (omega (arith, l)))
      ]

-- each list has an end
pub ends-length : (n k d : ℕ) (bs : List ℕ) → lists? n k bs ≡ true → length (ends d bs) ≡ k
unfolding lists? ends
ends-length n zero d [] t = refl
ends-length n zero d (b ∷ bs) t = clash t refl
ends-length n (suc k) d [] t = clash t refl
ends-length n (suc k) d (zero ∷ bs) t = ap suc (ends-length n k d bs t)
ends-length n (suc k) d (suc b ∷ bs) t = ends-length n (suc k) (suc d) bs (both (leb (suc b) n) _ t).1

-- and each place an owner
pub owners-length : (v : ℕ) (bs : List ℕ) → length (owners v bs) ≡ length (neighbours bs)
unfolding owners neighbours
owners-length v [] = refl
owners-length v (zero ∷ bs) = owners-length (suc v) bs
owners-length v (suc b ∷ bs) = ap suc (owners-length v bs)

-- an array of zeros begins with 0 already
pub fill_from_one : (X : List ℕ) (size : ℕ) → 0 < size → Filling (0 ∷ X) X (replicate size 0) 1
fill_from_one X zero l = absurd (omega arith)
fill_from_one X (suc size) l = record { so_far = refl; rest = λ k l. zeros (suc size) k; within = omega arith }
