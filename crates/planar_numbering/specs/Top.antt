-- Point n, which is numbered first: its neighbours are the first boundary.
use Rattle.std.specs.Prelude.{ℕ, suc, ◌+◌, ◌-◌, ◌<◌, ◌≤◌, ◌≡◌, List, [], ◌∷◌, ◌++◌, take, drop, set}
use Rattle.std.proofs.Common.{subst, sym, ◌∙◌, append-nil, arith, length-set, drop_of_length-le}
use Rattle.std.proofs.Math.Path.{ap}
use Rattle.std.proofs.Math.ListN.{length}
use Rattle.std.proofs.Math.Seq.{take-length}
use Rattle.planar_rules.specs.PlanarCode.{Flat, after, back, place, run, top_point, top, second, first}
use Rattle.planar_sphere.specs.Arc.{turn_in}
use Rattle.planar_sphere.specs.Flat.{Listed, after_both, Valid}
use Rattle.planar_sphere.proofs.Check.{net_of_lem}
use Rattle.planar_order.specs.Numbering.{Going, total}
use Rattle.planar_order.proofs.Numbering.{goes_first, fits, z_in, start_is, E-gathers, hit, no_hit, p_in}
use Rattle.planar_order.specs.Model.{Distinct}
use Rattle.planar_order.specs.Step.{apart}
use Rattle.planar_reading.specs.Arrays.{Kept}
use Rattle.planar_numbering.specs.Gathering.{Gatherable, Gathered}
use Rattle.planar_numbering.specs.Points.{points_in, points_from, points_more, none_left, Fitting, fitting_more, fitting_none}

-- what is known of the net, and the sizes of the arrays
pub record Begin (f : Flat) (ver ln ent : List ℕ) : Type 0 where
  pub kept : Kept f
  pub valid : Valid f
  pub own0 : f.own 0 ≡ 0
  pub ver_size : length ver ≡ 256
  pub ln_size : length ln ≡ 256
  pub ent_size : length ent ≡ 768

-- the same net with other arrays of these sizes
pub same_net :
    {f : Flat} {ver ln ent ver' ln' ent' : List ℕ} → Begin f ver ln ent →
    length ver' ≡ 256 → length ln' ≡ 256 → length ent' ≡ 768 → Begin f ver' ln' ent'
same_net r v l e = record { kept = r.kept; valid = r.valid; own0 = r.own0; ver_size = v; ln_size = l; ent_size = e }

-- the points with index above k are numbered, their entries stand in ent from s on, and b is the boundary
pub record Ready (f : Flat) (b : List ℕ) (k : ℕ) (ver ln ent : List ℕ) (s : ℕ) : Type 0 where
  pub arrays : Begin f ver ln ent
  pub k_some : 1 ≤ k
  pub k_in : suc k < f.n
  pub going : Going f b (points_from f.n ver ln ent s (suc k))
  pub room : s + total (points_from f.n ver ln ent s (suc k)) ≡ 768
  pub fitting : Fitting ln (suc k) (f.n - suc k) (drop s ent)

-- point n is numbered, and its entries are the boundary
pub record TopNumbered (f : Flat) (b ver ln ent : List ℕ) (s : ℕ) : Type 0 where
  pub ready : Ready f b (f.n - 2) ver ln ent s
  pub boundary : b ≡ (top_point f).entries
  pub later_is : points_from f.n ver ln ent s (suc (f.n - 2)) ≡ top_point f ∷ []

module _ {f : Flat} {ver ln ent : List ℕ} (r : Begin f ver ln ent) where
  abbrev E : List ℕ
  E = (top_point f).entries

  abbrev l : Listed f
  l = r.kept.listed

  E-going : Going f E (top_point f ∷ [])
  E-going = goes_first f l r.valid r.own0

  -- how many places from its first entry's to its last entry's
  abbrev p : ℕ
  p = f.off (top f + 1) - f.off (top f) - 1

  E-length : length E ≡ p + 1
  E-length = (E-gathers f l r.valid r.own0).0

  E-small : length E + 1 ≤ f.n
  E-small = fits f l r.valid r.own0 E (top_point f ∷ []) E-going

  after_in_lem : after f 0 < f.D
  after_in_lem = (after_both l 0 (omega (arith, r.valid.lines, r.valid.four))).0

  -- its entries are different
  pub E-distinct : Distinct E
  E-distinct = apart f l r.valid E (top_point f ∷ []) E-going.is

  -- e is the place that the code finds
  module _ {e : ℕ} (e-is : e ≡ after f 0) where
    top_is : f.nbr e ≡ top f
    top_is = ap f.nbr e-is

    -- it is a place, and names the vertex that the rules name
    pub e_in : e < f.D
    e_in = rw e-is after_in_lem

    pub top_in : f.nbr e < f.n
    top_in = r.kept.nbrs e e_in

    start : place f (f.nbr e) (second f) ≡ after f (back f (after f 0))
    start = ap (λ v. place f v (second f)) top_is ∙ start_is f l r.valid r.own0

    -- the walk round it comes to vertex 1, and has room
    pub top-gatherable : Gatherable f first (place f (f.nbr e) (second f)) 768
    top-gatherable =
        rw start
        record {
          p = p;
          hit = hit f l r.valid r.own0;
          no_hit = no_hit f l r.valid r.own0;
          in_net = λ j. turn_in (net_of_lem l r.valid) j _ (after_both l _ (z_in f l r.valid r.own0)).0;
          p_in = p_in f l r.valid r.own0;
          room = omega (arith, E-length, E-small, r.kept.byte);
          few = r.kept.few;
          top = omega arith;
        }

    module _ {s : ℕ} {ent' : List ℕ} (w : Gathered (run f (f.nbr e) first (second f)) 768 ent ent' s) where
      run_is : run f (f.nbr e) first (second f) ≡ E
      run_is = ap (λ v. run f v first (second f)) top_is

      len_is : 768 - s ≡ length E
      len_is = omega (arith, w.from, ap length run_is)

      -- its entries have room, and there are fewer than 256
      pub top-low : s ≤ 768
      top-low = omega (arith, w.from)

      pub top_byte : 768 - s < 256
      top_byte = omega (arith, len_is, E-small, r.kept.byte)

      pub ent_is : drop s ent' ≡ E
      ent_is =
          w.now ∙ ap (λ x. x ++ drop 768 ent) run_is ∙
          ap (λ x. E ++ x) (drop_of_length-le ent {i = 768} (omega (arith, r.ent_size))) ∙ append-nil E

      -- they are the first boundary
      pub top_entries : take (768 - s) (drop s ent') ≡ E
      top_entries = ap (take (768 - s)) ent_is ∙ ap (λ k. take k E) len_is ∙ take-length E

      pub row_asks : (length (take (768 - s) (drop s ent')) ≤ 255) × Distinct (take (768 - s) (drop s ent'))
      row_asks = (omega (arith, ap length top_entries, E-small, r.kept.byte), subst Distinct (sym top_entries) E-distinct)

      -- vertex and number of entries at the last index number it, with its entries as the boundary
      pub top-numbered :
          {k : ℕ} {b' : List ℕ} → k ≡ f.n → b' ≡ E →
          TopNumbered f b' (set ver (k - 1) (f.nbr e)) (set ln (k - 1) (768 - s)) ent' s
      unfolding total
      top-numbered {k} {b'} ek boundary =
          record {
            ready =
                record {
                  arrays = same_net r (length-set ver (k - 1) _ ∙ r.ver_size) (length-set ln (k - 1) _ ∙ r.ln_size) (w.same ∙ r.ent_size);
                  k_some = omega (arith, r.valid.four);
                  k_in = omega (arith, r.valid.four);
                  going = rw (boundary, numbered) E-going;
                  room = rw numbered (omega (arith, len_is, top-low));
                  fitting = fitting;
                };
            boundary = boundary;
            later_is = numbered;
          }
        where
          numbered : points_from f.n (set ver (k - 1) (f.nbr e)) (set ln (k - 1) (768 - s)) ent' s (suc (f.n - 2)) ≡ top_point f ∷ []
          numbered =
              let index : suc (f.n - 2) ≡ k - 1 = omega (arith, r.valid.four) in
              let count : f.n - suc (f.n - 2) ≡ 1 = omega (arith, r.valid.four) in
              rw (count, index, ent_is, len_is)
              (ap (points_in (set ver (k - 1) (f.nbr e)) (set ln (k - 1) (length E)) (k - 1) 1) (sym (append-nil E)) ∙
              points_more ver ln (k - 1) 0 (f.nbr e) E [] (omega (arith, r.ver_size, r.kept.byte)) (omega (arith, r.ln_size, r.kept.byte)) ∙
              none_left ver ln (suc (k - 1)) _ ∙ ap (λ v. record { vertex = v; entries = E } ∷ []) top_is)

          fitting : Fitting (set ln (k - 1) (768 - s)) (suc (f.n - 2)) (f.n - suc (f.n - 2)) (drop s ent')
          fitting =
              let index : suc (f.n - 2) ≡ k - 1 = omega (arith, r.valid.four) in
              let count : f.n - suc (f.n - 2) ≡ 1 = omega (arith, r.valid.four) in
              rw (count, index, ent_is, len_is)
              (subst (Fitting (set ln (k - 1) (length E)) (k - 1) 1) (append-nil E)
              (fitting_more ln (k - 1) 0 E [] (omega (arith, r.ln_size, r.kept.byte)) (fitting_none ln (suc (k - 1)) [])))
