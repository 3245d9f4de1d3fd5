-- The numbering goes through: from point n down to point 3 there is always a vertex to take.
use Rattle.std.specs.Prelude.{ℕ, zero, suc, ◌+◌, ◌-◌, ◌<◌, ◌≤◌, ◌≡◌, ◌≢◌, false, List, [], ◌∷◌, ◌++◌}
use Rattle.std.proofs.Math.Path.{refl, ap, sym}
use Rattle.std.proofs.Common.{◌∙◌, arith}
use Rattle.std.proofs.Math.Decide.{dec_lt}
use Rattle.std.proofs.Math.ListN.{length, get_or}
use Rattle.rules.specs.Basics.{index_of}
use Rattle.planar_rules.specs.PlanarCode.{Flat, after, back, place, run, next, Point, point_at, comes_off, without, first, second, top, top_point}
use Rattle.planar_sphere.specs.Count.{put, count-put, count_none, count_same}
use Rattle.planar_sphere.specs.Map.{Map, Net, turn}
use Rattle.planar_sphere.specs.Arc.{turn-zero, turn_suc, turn_in, turn-org}
use Rattle.planar_sphere.specs.Flat.{Listed, once, before, Valid}
use Rattle.planar_sphere.proofs.Check.{net_of_lem, back_own, place-hit}
use Rattle.planar_sphere.proofs.Order.{sound, line_12, size}
use Rattle.planar_sphere.specs.Program.{State, Is, Free, net-map}
use Rattle.planar_sphere.proofs.Program.{begins}
use Rattle.planar_order.specs.Seqs.{gathers, new_length}
use Rattle.planar_order.specs.Model.{Over, end, link, by_ends}
use Rattle.planar_order.proofs.Model.{over}
use Rattle.planar_order.specs.Step.{among, state_of, in_net, not_yet, is_line, each_line, is_open, free-yes, its_arc, p_some, E-length, E-left, E-right, is_next, one_more}
use Rattle.planar_order.specs.Numbering.{Lines, none, more, total, Going}

module _ (f : Flat) (l : Listed f) (v : Valid f) (own0 : f.own 0 ≡ 0) where
  abbrev g : Map
  g = net-map f

  n : Net g
  n = net_of_lem l v

  some : 0 < f.D
  some = omega (arith, v.lines, v.four)

  -- ---- point n

  e0 : after f 0 < f.D
  e0 = n.σ_in 0 some

  abbrev z : ℕ
  z = back f (after f 0)

  pub z_in : z < f.D
  z_in = n.α_in _ e0

  z_own : f.own z ≡ top f
  z_own = back_own v _ e0

  z_nbr : f.nbr z ≡ f.own 0
  z_nbr = sym (back_own v z z_in) ∙ ap f.own (n.αα _ e0) ∙ n.org_σ 0 some

  abbrev deg : ℕ
  deg = f.off (top f + 1) - f.off (top f)

  abbrev s0 : State
  s0 = record { gone = put (top f) (λ y. false); m = deg; w = λ x. f.nbr (turn g (deg - x) z) }

  is0 : Is f s0
  is0 =
      begins f l v s0 z
      (record {
        z_in = z_in;
        z_own = z_own;
        z_nbr = z_nbr;
        gone' = λ x. refl;
        m' = refl;
        w' = λ x j j0 e. let q : deg - x ≡ j = omega arith in ap (λ k. f.nbr (turn g k z)) q;
      })

  pub two : 2 ≤ deg
  two = omega (arith, (sound n 0 some is0.shelled).two, is0.m)

  -- the place after is point 2's
  z_next : f.nbr (after f z) ≡ second f
  unfolding turn
  z_next =
      let x : ℕ = deg - 1 in
      let xl : x < is0.h.m = omega (arith, two, is0.m) in
      let q : deg - x ≡ 1 = omega (arith, two) in
      sym (ap (λ k. f.nbr (turn g k z)) q) ∙ is0.w x xl ∙ ap f.own (line_12 n 0 some is0.shelled x (omega (arith, two, is0.m))) ∙ back_own v 0 some

  abbrev E : List ℕ
  E = (top_point f).entries

  abbrev p : ℕ
  p = deg - 1

  pub start_is : place f (top f) (second f) ≡ after f z
  start_is =
      let a = n.σ_in z z_in in
      let o = n.org_σ z z_in ∙ z_own in
      let w = place-hit f (top f) (second f) (after f z) a o z_next in
      v.twice _ _ w.0 a (w.1 ∙ sym o) (w.2 ∙ sym z_next)

  last_is : turn g p (after f z) ≡ z
  unfolding turn
  last_is =
      let e : deg ≡ suc p = omega (arith, two) in
      let d : f.off (f.own z + 1) - f.off (f.own z) ≡ suc p = ap (λ v. f.off (v + 1) - f.off v) z_own ∙ e in
      ap (λ k. turn g k z) (sym d) ∙ once l (back f) z z_in

  pub hit : f.nbr (turn g p (after f z)) ≡ first
  hit = ap f.nbr last_is ∙ z_nbr ∙ own0

  pub no_hit : (j : ℕ) → j < p → f.nbr (turn g j (after f z)) ≢ first
  unfolding turn
  no_hit j jp e =
      let d : f.off (f.own z + 1) - f.off (f.own z) ≡ deg = ap (λ v. f.off (v + 1) - f.off v) z_own in
      before l (back f) z (suc j) z_in (omega arith) (omega arith)
      (v.twice _ z (turn_in n (suc j) z z_in) z_in (turn-org n (suc j) z z_in) (e ∙ sym (z_nbr ∙ own0)))

  pub p_in : p < f.D
  p_in =
      omega (arith, two, (l.within (top f) (f.off (top f + 1) - 1) (rw z_own at (l.own_in z z_in)) (omega (arith, two)) (omega (arith, two))).0)

  pub E-gathers : (length E ≡ p + 1) × ((j x : ℕ) → x + j ≡ p → get_or E x 0 ≡ f.nbr (turn g j (after f z)))
  unfolding run
  E-gathers =
      let w = gathers f (back f) first f.D p (after f z) [] p_in hit no_hit in
      rw start_is (w.0 ∙ (let e : p + 1 + 0 ≡ p + 1 = omega arith in e), w.1)

  -- within one round
  once_round : (q : ℕ) → (r : ℕ) × (r ≤ p) × (turn g r (after f z) ≡ turn g q (after f z))
  once_round zero = (0, omega arith, refl)
  once_round (suc q) =
      let w = once_round q in
      elim (dec_lt w.0 p) [
        | yes c ↦ (suc w.0, c, turn_suc g w.0 (after f z) ∙ ap (after f) w.2 ∙ sym (turn_suc g q (after f z)))
        | no c ↦
            let e : w.0 ≡ p = omega (arith, w.1, c) in
            (0, omega arith, turn-zero g (after f z) ∙ ap (after f) (sym last_is ∙ ap (λ k. turn g k (after f z)) (sym e) ∙ w.2) ∙ sym (turn_suc g q (after f z)))
      ]

  opens : Is f (state_of E (top_point f ∷ []))
  unfolding among put turn
  opens =
      begins f l v (state_of E (top_point f ∷ [])) z
      (record {
        z_in = z_in;
        z_own = z_own;
        z_nbr = z_nbr;
        gone' = λ x. refl;
        m' = omega (arith, E-gathers.0, two);
        w' = λ x j j0 e.
            let k : ℕ = j - 1 in
            let q : suc k ≡ j = omega arith in
            E-gathers.1 k x (omega (arith, E-gathers.0)) ∙ ap (λ i. f.nbr (turn g i z)) q;
      })

  top_over : Over (top f) E E (first ∷ top f ∷ second f ∷ [])
  unfolding turn
  top_over =
      let w = by_ends E p E-gathers.0 (omega (arith, two)) in
      let a : get_or E 0 0 ≡ first = E-gathers.1 p 0 (omega arith) ∙ hit in
      let c : get_or E p 0 ≡ second f = E-gathers.1 0 p (omega arith) ∙ z_next in
      let e : E ≡ first ∷ (w.0 ++ (second f ∷ [])) = w.1 ∙ ap (λ x. x ∷ (w.0 ++ (get_or E p 0 ∷ []))) a ∙ ap (λ x. first ∷ (w.0 ++ (x ∷ []))) c in
      record { before = []; left = first; inner = w.0; right = second f; after = []; old_is = e; run_is = e; new_is = refl }

  top-lines : Lines f (top_point f) []
  top-lines =
      record {
        is_line = λ x xl.
            let j : ℕ = p - x in
            let a = n.σ_in z z_in in
            (turn g j (after f z), turn_in n j _ a, turn-org n j _ a ∙ n.org_σ z z_in ∙ z_own, sym (E-gathers.1 j x (omega (arith, E-gathers.0))));
        each_line = λ d dl o _.
            let a = n.σ_in z z_in in
            let q = n.round (after f z) d a dl (n.org_σ z z_in ∙ z_own ∙ sym o) in
            let r = once_round q.0 in
            (p - r.0, omega (arith, E-gathers.0), E-gathers.1 r.0 (p - r.0) (omega (arith, r.1)) ∙ ap f.nbr (r.2 ∙ q.1));
      }

  pub goes_first : Going f E (top_point f ∷ [])
  unfolding among put total
  goes_first =
      record {
        is = opens;
        chain = link top_over end;
        fresh = more (rw z_own at (l.own_in z z_in)) refl none;
        lines = more top-lines none;
        counted =
            count-put (top f) (λ y. false) f.n (rw z_own at (l.own_in z z_in)) refl ∙
            ap (λ k. k + 1) (count_none (λ y. false) f.n (λ x _. refl));
        total_is = omega arith;
      }

  -- ---- counting down

  goes_at :
      (b : List ℕ) (later : List Point) → Going f b later → (t : ℕ) → 0 < t → t + 1 < length b → Free f (state_of b later) t →
      Going f (without f b t) (point_at f b t ∷ later)
  unfolding without point_at total
  goes_at b later w t t0 tm fr =
      let i = w.is in
      let a : ℕ = t - 1 in
      let e1 : suc a ≡ t = omega arith in
      let e2 : suc (suc a) ≡ t + 1 = omega arith in
      let e3 : suc (suc (suc a)) ≡ t + 2 = omega arith in
      record {
        is = is_next f l v b later i t t0 tm fr;
        chain =
            link (rw (e3, e1) at (over b (point_at f b t).entries a (its_arc f l v b later i t t0 tm fr).0 (omega arith)
            (E-length f l v b later i t t0 tm fr) (p_some f l v b later i t t0 tm fr) (E-left f l v b later i t t0 tm fr)
            (E-right f l v b later i t t0 tm fr ∙ ap (λ k. get_or b k 0) (sym e2)))) w.chain;
        fresh = more (in_net f l v b later i t (omega arith)) (not_yet f l v b later i t (omega arith)) w.fresh;
        lines = more (record { is_line = is_line f l v b later i t t0 tm fr; each_line = each_line f l v b later i t t0 tm fr }) w.lines;
        counted = one_more f l v b later i t t0 tm fr ∙ ap (λ k. k + 1) w.counted ∙ (let e : length later + 1 ≡ suc (length later) = omega arith in e);
        total_is = omega (arith, w.total_is, E-length f l v b later i t t0 tm fr, new_length b (point_at f b t).entries a (t + 2) (omega arith) (omega arith));
      }

  pub goes_on : (b : List ℕ) (later : List Point) → Going f b later → length later + 3 ≤ f.n → Going f (without f b (index_of (next f b) b)) (comes_off f b ∷ later)
  goes_on b later w left =
      let o = is_open f l v b later w.is (omega (arith, w.counted)) in
      goes_at b later w (index_of (next f b) b) o.0 o.1 (free-yes f b later (index_of (next f b) b) o.2)

  -- the boundary and the numbered vertices are no more than n
  pub fits : (b : List ℕ) (later : List Point) → Going f b later → length b + length later ≤ f.n
  fits b later w =
      omega (arith, w.counted, w.is.m, size n 0 some w.is.shelled, count_same (λ x. among x later) w.is.h.gone f.n (λ x _. w.is.gone x))
