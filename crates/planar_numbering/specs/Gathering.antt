-- The entries of a point: the neighbours round its vertex, gathered into an array from some place down.
use Rattle.std.specs.Prelude.{ℕ, suc, ◌+◌, ◌-◌, ◌<◌, ◌≤◌, ◌≡◌, refl, ◌≢◌, List, [], ◌∷◌, ◌++◌, set}
use Rattle.std.proofs.Math.Path.{ap, sym}
use Rattle.std.proofs.Common.{◌∙◌, arith, take-append-drop, drop_at, eq-eqb, ne_eqb}
use Rattle.std.proofs.Math.ListN.{length, take, drop, length-set, length-drop}
use Rattle.std.proofs.lemmas.List.{set_split}
use Rattle.std.proofs.Math.Seq.{drop-set-lt, length-take-le, drop-drop}
use Rattle.planar_rules.specs.PlanarCode.{Flat, after, gather}
use Rattle.planar_sphere.specs.Map.{turn}
use Rattle.planar_sphere.specs.Arc.{turn-zero, turn_suc}
use Rattle.planar_sphere.specs.Program.{net-map}

-- from place d0 on, clockwise, the list comes to left, p places on; s entries have room, and no array is too short
pub record Gatherable (f : Flat) (left d0 s : ℕ) : Type 0 where
  pub p : ℕ
  pub hit : f.nbr (turn (net-map f) p d0) ≡ left
  pub no_hit : (j : ℕ) → j < p → f.nbr (turn (net-map f) j d0) ≢ left
  pub in_net : (j : ℕ) → turn (net-map f) j d0 < f.D
  pub p_in : p < f.D
  pub room : p < s
  pub few : f.D ≤ 1536
  pub top : s ≤ 768

-- those from d0 up to d, d left out, stand in new from e up to s
pub record Gathering (f : Flat) (left d0 s : ℕ) (old new : List ℕ) (d e : ℕ) : Type 0 where
  pub can : Gatherable f left d0 s
  pub low : e ≤ s
  pub steps : s ≤ e + can.p
  pub at : d ≡ turn (net-map f) (s - e) d0
  pub same : length new ≡ length old
  pub rest : drop s new ≡ drop s old
  pub so_far : gather f left f.D d0 [] ≡ gather f left (f.D - (s - e)) d (take (s - e) (drop e new))

-- all of them stand in new from e on, and behind them what stood in old from s on
pub record Gathered (entries : List ℕ) (s : ℕ) (old new : List ℕ) (e : ℕ) : Type 0 where
  pub now : drop e new ≡ entries ++ drop s old
  pub from : e + length entries ≡ s
  pub same : length new ≡ length old

-- what is set stands in front of what stood behind it
pub drop-set : (l : List ℕ) (k v : ℕ) → k < length l → drop k (set l k v) ≡ v ∷ drop (suc k) l
drop-set l k v kl = ap (drop k) (set_split l k v kl) ∙ drop_at (take k l) (v ∷ drop (suc k) l) k (length-take-le k l (omega arith))

-- nothing is gathered yet
pub gather-begin : {f : Flat} {left d0 s : ℕ} {ent : List ℕ} → Gatherable f left d0 s → Gathering f left d0 s ent ent d0 s
gather-begin {f} {left} {d0} {s} w =
    let e : s - s ≡ 0 = omega arith in
    record {
      can = w;
      low = omega arith;
      steps = omega arith;
      at = rw e (sym (turn-zero (net-map f) d0));
      same = refl;
      rest = refl;
      so_far = rw e (let q : f.D ≡ f.D - 0 = omega arith in ap (λ k. gather f left k d0 []) q);
    }

module _ {f : Flat} {left d0 s : ℕ} {old new : List ℕ} {d e : ℕ} (x : Gathering f left d0 s old new d e) where
  -- there is a place for one more, and a vertex to name
  pub e_some : 0 < e
  e_some = omega (arith, x.steps, x.can.room)

  pub e_in : e ≤ 768
  e_in = omega (arith, x.low, x.can.top)

  pub d_in : d < 1536
  d_in = omega (arith, x.at, x.can.in_net (s - e), x.can.few)

  abbrev j : ℕ
  j = s - e

  abbrev one : List ℕ
  one = set new (e - 1) (f.nbr d)

  one_more : s - (e - 1) ≡ suc j
  one_more = omega (arith, e_some, x.low)

  fuel : f.D - j ≡ suc (f.D - suc j)
  fuel = omega (arith, x.steps, x.can.p_in)

  module _ (size : length old ≡ 768) where
    put : drop (e - 1) one ≡ f.nbr d ∷ drop e new
    put =
        let q : suc (e - 1) ≡ e = omega (arith, e_some) in
        drop-set new (e - 1) (f.nbr d) (omega (arith, e_some, e_in, x.same)) ∙ ap (λ i. f.nbr d ∷ drop i new) q

    -- another vertex is put in front
    pub gather_on : f.nbr d ≢ left → Gathering f left d0 s old one (after f d) (e - 1)
    unfolding gather
    gather_on ne =
        let more : j ≢ x.can.p = λ q. ne (ap f.nbr (x.at ∙ ap (λ i. turn (net-map f) i d0) q) ∙ x.can.hit) in
        record {
          can = x.can;
          low = omega (arith, x.low);
          steps = omega (arith, x.steps, x.low, more);
          at = ap (after f) x.at ∙ sym (turn_suc (net-map f) j d0) ∙ ap (λ i. turn (net-map f) i d0) (sym one_more);
          same = length-set new (e - 1) (f.nbr d) ∙ x.same;
          rest = drop-set-lt s new (e - 1) (f.nbr d) (omega (arith, x.low, e_some)) ∙ x.rest;
          so_far =
              x.so_far ∙ (rw (fuel, ne_eqb (f.nbr d) left ne) refl) ∙
              ap (gather f left (f.D - suc j) (after f d)) (sym (ap (λ i. take i (drop (e - 1) one)) one_more ∙ ap (take (suc j)) put)) ∙
              ap (λ i. gather f left (f.D - i) (after f d) (take (s - (e - 1)) (drop (e - 1) one))) (sym one_more);
        }

    -- left is put in front: these are all
    pub gather-end : f.nbr d ≡ left → Gathered (gather f left f.D d0 []) s old one (e - 1)
    unfolding gather
    gather-end q =
        let all : gather f left f.D d0 [] ≡ f.nbr d ∷ take j (drop e new) = x.so_far ∙ (rw (fuel, eq-eqb (f.nbr d) left q) refl) in
        let behind : drop j (drop e new) ≡ drop s old =
        drop-drop j e new ∙ ap (λ i. drop i new) (let i : e + j ≡ s = omega (arith, x.low) in i) ∙ x.rest in
        let count = length-take-le j (drop e new) (omega (arith, length-drop e new, x.same, x.low, x.can.top)) in
        record {
          now =
              put ∙ ap (λ l. f.nbr d ∷ l) (sym (take-append-drop j (drop e new)) ∙ ap (λ l. take j (drop e new) ++ l) behind) ∙
              ap (λ l. l ++ drop s old) (sym all);
          from = omega (arith, ap length all, e_some, x.low, count);
          same = length-set new (e - 1) (f.nbr d) ∙ x.same;
        }
