-- The net of a file, in arrays: what reading it gives.
use Rattle.std.specs.Prelude.{ℕ, zero, suc, ◌+◌, ◌-◌, ◌<◌, ◌≤◌, ◌≡◌, ◌≢◌, refl, List, [], ◌∷◌, Option, Some, None, Bool, true, false, ◌&&◌, length, get_or, take, drop, eqb, ltb, leb, if◌then◌else◌}
use Rattle.std.proofs.Common.{ap, sym, ◌∙◌, inl, inr, arith, get_or-take, get_or-drop, add-one, eq-eqb, ne_eqb, lt-ltb, le-ltb, ltb-true, leb-true}
use Rattle.std.proofs.lemmas.Option.{cond_some, none-some}
use Rattle.std.proofs.Math.Path.{subst, fun_ext}
use Rattle.std.proofs.Math.Decide.{ℕ_discrete, dec_lt}
use Rattle.rules.specs.declared.Refusal.TheVariants.{BadCode, NoNet}
use Rattle.rules.specs.Refusals.{refused}
use Rattle.rules.specs.Bools.{both}
use Rattle.planar_rules.specs.PlanarCode.{Flat, n_of, body, lists?, formed?, neighbours, owners, ends, net_of, seek, place, taken?, imported}
use Rattle.planar_sphere.specs.Count.{bool, clash}
use Rattle.planar_sphere.specs.Flat.{Listed}
use Rattle.planar_sphere.proofs.Check.{taken_yes}
use Rattle.planar_order.specs.File.{four, byte, listed, all_lists}
use Rattle.planar_reading.specs.Laws.{Holds, formed-short}
use Rattle.planar_reading.specs.Arrays.{flat_of, Kept}
use Rattle.planar_reading.specs.declared.net.Net.{Net}

-- the rules' net
abbrev pub net_in : Net → Flat
net_in net = flat_of net.n net.places net.starts net.owners net.neighbours

-- the file is well formed, and this is its net
pub record Holding (file : List ℕ) (net : Net) : Type 0 where
  pub formed : formed? file ≡ true
  pub is : net_in net ≡ net_of file

-- whom v's list names
abbrev pub list_in : Net → ℕ → List ℕ
list_in net v = take (get_or net.starts (v + 1) 0 - get_or net.starts v 0) (drop (get_or net.starts v 0) net.neighbours)

-- its k-th
pub list_at : (net : Net) (v k : ℕ) → k < get_or net.starts (v + 1) 0 - get_or net.starts v 0 → get_or (list_in net v) k 0 ≡ get_or net.neighbours (get_or net.starts v 0 + k) 0
list_at net v k l = get_or-take _ (drop (get_or net.starts v 0) net.neighbours) k 0 l ∙ get_or-drop (get_or net.starts v 0) net.neighbours k 0

-- the place of u in v's list, if there is one
abbrev pub found_place : Flat → ℕ → ℕ → Option ℕ
found_place f v u = if ltb (place f v u) f.D then Some (place f v u) else None

-- ---- 14, and too many places

module _ (file : List ℕ) where
  pub bad_code : formed? file ≡ false → imported file ≡ refused BadCode 0
  unfolding imported
  bad_code e = rw e

  pub no_net : formed? file ≡ true → taken? (net_of file) ≡ false → imported file ≡ refused NoNet 0
  unfolding imported
  no_net e t = rw (e, t)

  -- a file that is well formed has its n
  pub long : formed? file ≡ true → 16 ≤ length file
  long ok = elim (dec_lt 15 (length file)) [ yes l ↦ l | no l ↦ clash ok (formed-short file (omega (arith, l))) ]

  -- a net that is taken has at most 6n - 12 places
  pub too_many : formed? file ≡ true → 1536 < length (neighbours (body file)) → taken? (net_of file) ≡ false
  unfolding net_of
  too_many ok l =
      elim (bool (taken? (net_of file))) [
        | inr z ↦ z
        | inl t ↦ absurd (omega (arith, l, byte file ok, (taken_yes (net_of file) (four file ok) t).lines))
      ]

-- ---- what the arrays hold is the net

-- no list ends behind the last place
ends-high : (n k e j : ℕ) (bs : List ℕ) → lists? n k bs ≡ true → j < k → get_or (ends e bs) j 0 ≤ e + length (neighbours bs)
unfolding lists? ends neighbours
ends-high n zero e j bs t l = absurd (omega arith)
ends-high n (suc k) e j [] t l = clash t refl
ends-high n (suc k) e zero (zero ∷ bs) t l = omega arith
ends-high n (suc k) e (suc j) (zero ∷ bs) t l = ends-high n k e j bs t (omega arith)
ends-high n (suc k) e j (suc b ∷ bs) t l = omega (arith, ends-high n (suc k) (suc e) j bs (both (leb (suc b) n) _ t).1 l)

-- none ends before it begins
ends-rise : (n k s e j : ℕ) (bs : List ℕ) → lists? n k bs ≡ true → s ≤ e → j < k → get_or (s ∷ ends e bs) j 0 ≤ get_or (ends e bs) j 0
unfolding lists? ends
ends-rise n zero s e j bs t b l = absurd (omega arith)
ends-rise n (suc k) s e j [] t b l = clash t refl
ends-rise n (suc k) s e zero (zero ∷ bs) t b l = b
ends-rise n (suc k) s e (suc j) (zero ∷ bs) t b l = ends-rise n k e e j bs t (omega arith) (omega arith)
ends-rise n (suc k) s e j (suc c ∷ bs) t b l = ends-rise n (suc k) s (suc e) j bs (both (leb (suc c) n) _ t).1 (omega arith) l

-- every neighbour is a vertex
nbrs-low : (n k d : ℕ) (bs : List ℕ) → lists? n k bs ≡ true → d < length (neighbours bs) → get_or (neighbours bs) d 0 < n
unfolding lists? neighbours
nbrs-low n zero d [] t l = absurd (omega arith)
nbrs-low n zero d (b ∷ bs) t l = clash t refl
nbrs-low n (suc k) d [] t l = clash t refl
nbrs-low n (suc k) d (zero ∷ bs) t l = nbrs-low n k d bs t l
nbrs-low n (suc k) zero (suc b ∷ bs) t l = leb-true (suc b) n (both (leb (suc b) n) _ t).0
nbrs-low n (suc k) (suc d) (suc b ∷ bs) t l = nbrs-low n (suc k) d bs (both (leb (suc b) n) _ t).1 (omega arith)

module _ (file : List ℕ) (ok : formed? file ≡ true) where
  off_low : (v : ℕ) → v ≤ n_of file → get_or (0 ∷ ends 0 (body file)) v 0 ≤ length (neighbours (body file))
  off_low zero l = omega arith
  off_low (suc v) l = omega (arith, ends-high (n_of file) (n_of file) 0 v (body file) (all_lists file ok) (omega arith))

  -- the file's net
  pub net_kept : length (neighbours (body file)) ≤ 1536 → Kept (net_of file)
  unfolding net_of
  net_kept few =
      record {
        listed = listed file ok;
        some = four file ok;
        byte = byte file ok;
        few = few;
        offs = off_low;
        rising = λ v vl. rw (add-one v) (ends-rise (n_of file) (n_of file) 0 0 v (body file) (all_lists file ok) (omega arith) vl);
        nbrs = λ d dl. nbrs-low (n_of file) (n_of file) d (body file) (all_lists file ok) dl;
      }

  net_is :
      (off own nbr : List ℕ) → Holds (0 ∷ ends 0 (body file)) off → Holds (owners 0 (body file)) own → Holds (neighbours (body file)) nbr →
      flat_of (n_of file) (length (neighbours (body file))) off own nbr ≡ net_of file
  unfolding net_of
  net_is off own nbr o w b = λ i. record {
    n = n_of file;
    D = length (neighbours (body file));
    off = fun_ext {f = λ v. get_or off v 0} {g = λ v. get_or (0 ∷ ends 0 (body file)) v 0} o i;
    own = fun_ext {f = λ d. get_or own d 0} {g = λ d. get_or (owners 0 (body file)) d 0} w i;
    nbr = fun_ext {f = λ d. get_or nbr d 0} {g = λ d. get_or (neighbours (body file)) d 0} b i;
  }

  -- arrays made of its lists hold it
  pub holds_net :
      {lists : List ℕ} {D : ℕ} (off own nbr : List ℕ) → lists ≡ body file → D ≡ length (neighbours lists) →
      Holds (0 ∷ ends 0 lists) off → Holds (owners 0 lists) own → Holds (neighbours lists) nbr → flat_of (n_of file) D off own nbr ≡ net_of file
  holds_net {lists} off own nbr e q o w b =
      ap (λ d. flat_of (n_of file) d off own nbr) (q ∙ ap (λ l. length (neighbours l)) e) ∙
      net_is off own nbr (subst (λ l. Holds (0 ∷ ends 0 l) off) e o) (subst (λ l. Holds (owners 0 l) own) e w) (subst (λ l. Holds (neighbours l) nbr) e b)

-- ---- the place of u in v's list

-- the highest x with p x, or none
seek_at : (p : ℕ → Bool) (z n x : ℕ) → x < n → p x ≡ true → ((y : ℕ) → x < y → y < n → p y ≡ false) → seek p z n ≡ x
unfolding seek
seek_at p z zero x l e h = absurd (omega arith)
seek_at p z (suc n) x l e h =
    elim (ℕ_discrete x n) [
      | yes q ↦ rw (ap p (sym q) ∙ e) (sym q)
      | no ne ↦ rw (h n (omega (arith, ne)) (omega arith)) (seek_at p z n x (omega (arith, ne)) e (λ y a b. h y a (omega arith)))
    ]

seek_no : (p : ℕ → Bool) (z n : ℕ) → ((y : ℕ) → y < n → p y ≡ false) → seek p z n ≡ z
unfolding seek
seek_no p z zero h = refl
seek_no p z (suc n) h = rw (h n (omega arith)) (seek_no p z n (λ y l. h y (omega arith)))

module _ (f : Flat) (l : Listed f) (v u : ℕ) (vn : v < f.n) where
  abbrev names : ℕ → Bool
  names d = eqb (f.own d) v && eqb (f.nbr d) u

  -- a place that doesn't stand in v's list, or names another
  names-not : (d : ℕ) → d < f.D → (f.off v ≤ d → d < f.off (v + 1) → f.nbr d ≢ u) → names d ≡ false
  names-not d dl h =
      elim (ℕ_discrete (f.own d) v) [
        | no ne ↦ rw (ne_eqb (f.own d) v ne)
        | yes e ↦
            let a : f.off v ≤ d = omega (arith, l.from d dl, ap f.off e) in
            let b : d < f.off (v + 1) = omega (arith, l.upto d dl, ap (λ v. f.off (v + 1)) e) in
            rw (eq-eqb (f.own d) v e, ne_eqb (f.nbr d) u (h a b))
      ]

  -- the last place of v's list that names u
  pub place_found :
      (d : ℕ) → f.off v ≤ d → d < f.off (v + 1) → f.nbr d ≡ u → ((y : ℕ) → d < y → y < f.off (v + 1) → f.nbr y ≢ u) →
      Some d ≡ found_place f v u
  unfolding place
  place_found d a b e h =
      let w = l.within v d vn a b in
      let q : place f v u ≡ d = seek_at names f.D f.D d w.0 (rw (eq-eqb (f.own d) v w.1, eq-eqb (f.nbr d) u e)) (λ y dy yl. names-not y yl (λ _ c. h y dy c)) in
      rw (q, lt-ltb d f.D w.0)

  -- none names it
  pub place-none : ((d : ℕ) → f.off v ≤ d → d < f.off (v + 1) → f.nbr d ≢ u) → None ≡ found_place f v u
  unfolding place
  place-none h =
      let q : place f v u ≡ f.D = seek_no names f.D f.D (λ y yl. names-not y yl (h y)) in
      rw (q, le-ltb f.D f.D (omega arith))

-- what it says of that place
pub found_some : (f : Flat) (v u : ℕ) {d : ℕ} → found_place f v u ≡ Some d → (place f v u ≡ d) × (d < f.D)
found_some f v u e = let s = cond_some _ _ _ e in (s.1, omega (arith, ltb-true _ _ s.0, s.1))

pub found_here : (f : Flat) (v u : ℕ) → place f v u < f.D → found_place f v u ≡ Some (place f v u)
found_here f v u l = rw (lt-ltb (place f v u) f.D l)

pub found_none : (f : Flat) (v u : ℕ) → found_place f v u ≡ None → f.D ≤ place f v u
found_none f v u e =
    elim (dec_lt (place f v u) f.D) [
      | yes l ↦ absurd (none-some _ (sym e ∙ found_here f v u l))
      | no l ↦ omega (arith, l)
    ]
