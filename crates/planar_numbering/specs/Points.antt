-- The numbered points as arrays hold them: a vertex and a number of entries for each, and all entries in one list.
use Rattle.std.specs.Prelude.{ℕ, zero, suc, ◌-◌, ◌<◌, ◌≤◌, ◌≡◌, refl, List, [], ◌∷◌, ◌++◌, length, get_or, take, drop, set}
use Rattle.std.proofs.Common.{ap, arith, length-append, get_or-set_same, get_or-set_other, take_at, drop_at}
use Rattle.planar_rules.specs.PlanarCode.{Point}

-- the points with indices i, i + 1, .., from arrays of vertices and of numbers of entries, and all their entries in one list
unfoldable pub points_in : List ℕ → List ℕ → ℕ → ℕ → List ℕ → List Point
points_in ver ln i zero l = []
points_in ver ln i (suc c) l = record { vertex = get_or ver i 0; entries = take (get_or ln i 0) l } ∷ points_in ver ln (suc i) c (drop (get_or ln i 0) l)

-- those with index i and above, where there are n and their entries stand in ent from s on
abbrev pub points_from : ℕ → List ℕ → List ℕ → List ℕ → ℕ → ℕ → List Point
points_from n ver ln ent s i = points_in ver ln i (n - i) (drop s ent)

-- what stands below i doesn't matter
pub points_same :
    (ver ln ver' ln' : List ℕ) (i c : ℕ) (l : List ℕ) →
    ((j : ℕ) → i ≤ j → get_or ver' j 0 ≡ get_or ver j 0) → ((j : ℕ) → i ≤ j → get_or ln' j 0 ≡ get_or ln j 0) →
    points_in ver' ln' i c l ≡ points_in ver ln i c l
unfolding points_in
points_same ver ln ver' ln' i zero l a b = refl
points_same ver ln ver' ln' i (suc c) l a b =
    rw (a i (omega arith), b i (omega arith))
    (ap (λ t. record { vertex = get_or ver i 0; entries = take (get_or ln i 0) l } ∷ t)
    (points_same ver ln ver' ln' (suc i) c (drop (get_or ln i 0) l) (λ j p. a j (omega arith)) (λ j p. b j (omega arith))))

-- behind the last there is none
pub none_left : (ver ln : List ℕ) (i : ℕ) (p : Point) → p ∷ points_in ver ln i 0 [] ≡ p ∷ []
unfolding points_in
none_left ver ln i p = refl

-- one more in front: its vertex and its number of entries at k, its entries before the others
pub points_more :
    (ver ln : List ℕ) (k c v : ℕ) (E l : List ℕ) → k < length ver → k < length ln →
    points_in (set ver k v) (set ln k (length E)) k (suc c) (E ++ l) ≡ record { vertex = v; entries = E } ∷ points_in ver ln (suc k) c l
unfolding points_in
points_more ver ln k c v E l a b =
    rw (get_or-set_same ver k v 0 a, get_or-set_same ln k (length E) 0 b, take_at E l (length E) refl, drop_at E l (length E) refl)
    (ap (λ t. record { vertex = v; entries = E } ∷ t)
    (points_same ver ln (set ver k v) (set ln k (length E)) (suc k) c l
    (λ j p. get_or-set_other ver k j v 0 (λ e. omega arith))
    (λ j p. get_or-set_other ln k j (length E) 0 (λ e. omega arith))))

-- as many as were asked for
pub points-length : (ver ln : List ℕ) (i c : ℕ) (l : List ℕ) → length (points_in ver ln i c l) ≡ c
unfolding points_in
points-length ver ln i zero l = refl
points-length ver ln i (suc c) l = ap suc (points-length ver ln (suc i) c (drop (get_or ln i 0) l))

-- ---- no point has more entries than are left

unfoldable pub Fitting : List ℕ → ℕ → ℕ → List ℕ → Type 0
Fitting ln i zero l = Unit {0}
Fitting ln i (suc c) l = (get_or ln i 0 ≤ length l) × Fitting ln (suc i) c (drop (get_or ln i 0) l)

-- what stands below i doesn't matter
pub fitting_same : (ln ln' : List ℕ) (i c : ℕ) (l : List ℕ) → ((j : ℕ) → i ≤ j → get_or ln' j 0 ≡ get_or ln j 0) → Fitting ln i c l → Fitting ln' i c l
unfolding Fitting
fitting_same ln ln' i zero l a f = tt
fitting_same ln ln' i (suc c) l a f = rw (a i (omega arith)) (f.0, fitting_same ln ln' (suc i) c (drop (get_or ln i 0) l) (λ j p. a j (omega arith)) f.1)

-- one more in front
pub fitting_more : (ln : List ℕ) (k c : ℕ) (E l : List ℕ) → k < length ln → Fitting ln (suc k) c l → Fitting (set ln k (length E)) k (suc c) (E ++ l)
unfolding Fitting
fitting_more ln k c E l b f =
    rw (get_or-set_same ln k (length E) 0 b, drop_at E l (length E) refl) (
      omega (arith, length-append E l),
      fitting_same ln (set ln k (length E)) (suc k) c l (λ j p. get_or-set_other ln k j (length E) 0 (λ e. omega arith)) f,
    )

-- none behind the last
pub fitting_none : (ln : List ℕ) (i : ℕ) (l : List ℕ) → Fitting ln i 0 l
unfolding Fitting
fitting_none ln i l = tt
