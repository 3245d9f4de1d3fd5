-- The place of a vertex in a list, and the opening of a file, one step at a time.
use Rattle.std.specs.Prelude.{ℕ, zero, suc, ◌+◌, ◌-◌, ◌<◌, ◌≤◌, ◌≡◌, refl, List, Bool, true, false, ◌&&◌, length, get_or, drop, eqb, leb}
use Rattle.std.proofs.Common.{ap, sym, ◌∙◌, arith, eq-eqb, ne_eqb, le-leb}
use Rattle.std.proofs.Math.Decide.{dec_le}
use Rattle.std.proofs.lemmas.Bool.{lt-leb}
use Rattle.planar_rules.specs.PlanarCode.{Flat, seek, place, begins?}
use Rattle.planar_sphere.specs.Flat.{Listed}
use Rattle.planar_reading.specs.Laws.{next_byte, no_byte}

-- ---- the place of u in a list

-- place e is not below lo, and names u
abbrev pub in_list : List ℕ → ℕ → ℕ → ℕ → Bool
in_list nbr u lo e = leb lo e && eqb (get_or nbr e 0) u

-- the highest such place below hi, or z
unfoldable pub seek_in : List ℕ → ℕ → ℕ → ℕ → ℕ → ℕ
seek_in nbr u z lo hi = seek (in_list nbr u lo) z hi

-- what the code's e - 1 comes to
suc_less : (e : ℕ) → suc e - 1 ≡ e
suc_less e = omega arith

-- from e down: the place below e names u, it doesn't, or there is none
module _ (nbr : List ℕ) (u z lo : ℕ) where
  pub seek_found : (e : ℕ) → lo < e → get_or nbr (e - 1) 0 ≡ u → seek_in nbr u z lo e ≡ e - 1
  unfolding seek_in seek
  seek_found zero l q = absurd (omega arith)
  seek_found (suc e) l q = rw (suc_less e, le-leb lo e (omega arith), eq-eqb _ _ (rw (suc_less e) at q))

  pub seek_on : (e : ℕ) → lo < e → (get_or nbr (e - 1) 0 ≡ u → ⊥) → seek_in nbr u z lo e ≡ seek_in nbr u z lo (e - 1)
  unfolding seek_in seek
  seek_on zero l q = absurd (omega arith)
  seek_on (suc e) l q = rw (suc_less e, le-leb lo e (omega arith), ne_eqb _ _ (rw (suc_less e) at q))

  pub seek_none : (e : ℕ) → e ≤ lo → seek_in nbr u z lo e ≡ z
  unfolding seek_in seek
  seek_none zero l = refl
  seek_none (suc e) l = rw (lt-leb lo e (omega arith)) (seek_none e (omega arith))

-- what finds nothing from hi on may begin there
seek-skip : (p : ℕ → Bool) (z hi k : ℕ) → ((x : ℕ) → hi ≤ x → x < hi + k → p x ≡ false) → seek p z (hi + k) ≡ seek p z hi
unfolding seek
seek-skip p z hi zero h = let e : hi + 0 ≡ hi = omega arith in rw e
seek-skip p z hi (suc k) h =
    let e : hi + suc k ≡ suc (hi + k) = omega arith in
    rw (e, h (hi + k) (omega arith) (omega arith)) (seek-skip p z hi k (λ x a b. h x a (omega arith)))

-- tests that agree find the same
seek_same : (p q : ℕ → Bool) (z n : ℕ) → ((x : ℕ) → x < n → p x ≡ q x) → seek p z n ≡ seek q z n
unfolding seek
seek_same p q z zero h = refl
seek_same p q z (suc n) h = rw (h n (omega arith), seek_same p q z n (λ x l. h x (omega arith)))

-- only v's own list can have it
pub place_is :
    (f : Flat) (nbr : List ℕ) → ((d : ℕ) → f.nbr d ≡ get_or nbr d 0) → Listed f → (v u : ℕ) → v < f.n → f.off (v + 1) ≤ f.D →
    place f v u ≡ seek_in nbr u f.D (f.off v) (f.off (v + 1))
unfolding place seek_in
place_is f nbr e l v u vn h =
    let k : ℕ = f.D - f.off (v + 1) in
    let q : f.off (v + 1) + k ≡ f.D = omega arith in
    let p : ℕ → Bool = λ d. eqb (f.own d) v && eqb (f.nbr d) u in
    ap (seek p f.D) (sym q) ∙
    seek-skip p f.D (f.off (v + 1)) k (λ x a b. other x (omega arith) a) ∙
    seek_same p (in_list nbr u (f.off v)) f.D (f.off (v + 1)) (λ x xl. same x (omega arith) xl)
  where
    other : (x : ℕ) → x < f.D → f.off (v + 1) ≤ x → (eqb (f.own x) v && eqb (f.nbr x) u) ≡ false
    other x xl a = rw (ne_eqb (f.own x) v (λ o. omega (arith, l.upto x xl, ap (λ v. f.off (v + 1)) o)))

    same : (x : ℕ) → x < f.D → x < f.off (v + 1) → (eqb (f.own x) v && eqb (f.nbr x) u) ≡ in_list nbr u (f.off v) x
    same x xl xh =
        elim (dec_le (f.off v) x) [
          | yes a ↦ rw (eq-eqb (f.own x) v (l.within v x vn a xh).1, le-leb (f.off v) x a, e x)
          | no a ↦ rw (ne_eqb (f.own x) v (λ o. omega (arith, a, l.from x xl, ap f.off o)), lt-leb (f.off v) x (omega (arith, a)))
        ]

-- ---- the opening

-- character i is the same, is another, or there is none
pub begins_same :
    (as' bs : List ℕ) (i : ℕ) → i < length as' → i < length bs → get_or as' i 0 ≡ get_or bs i 0 →
    begins? (drop i as') (drop i bs) ≡ begins? (drop (i + 1) as') (drop (i + 1) bs)
unfolding begins?
begins_same as' bs i l k e = rw (next_byte as' i l, next_byte bs i k, eq-eqb _ _ e)

pub begins_not :
    (as' bs : List ℕ) (i : ℕ) → i < length as' → i < length bs → (get_or as' i 0 ≡ get_or bs i 0 → ⊥) → begins? (drop i as') (drop i bs) ≡ false
unfolding begins?
begins_not as' bs i l k e = rw (next_byte as' i l, next_byte bs i k, ne_eqb _ _ e)

pub begins-end : (as' bs : List ℕ) (i : ℕ) → length as' ≤ i → begins? (drop i as') bs ≡ true
unfolding begins?
begins-end as' bs i l = rw (no_byte as' i l)
