-- The next point: the vertex that comes off, its entries, and the boundary without it.
use Rattle.std.specs.Prelude.{ℕ, suc, ◌+◌, ◌-◌, ◌<◌, ◌≤◌, ◌≡◌, refl, List, ◌∷◌, ◌++◌, Option, Some, get_or, take, drop, set, IsSome}
use Rattle.std.proofs.Math.Path.{ap}
use Rattle.std.proofs.Common.{subst, sym, ◌∙◌, take_at, lt-ltb, arith}
use Rattle.std.proofs.Math.ListN.{length, length-set}
use Rattle.rules.specs.Basics.{index_of}
use Rattle.rules.specs.Indices.{index_at}
use Rattle.planar_rules.specs.PlanarCode.{Flat, place, run, next, Point, point_at, comes_off, without, number}
use Rattle.planar_sphere.specs.Count.{count}
use Rattle.planar_sphere.specs.Arc.{turn_in}
use Rattle.planar_sphere.specs.Flat.{Listed, Valid}
use Rattle.planar_sphere.proofs.Check.{net_of_lem}
use Rattle.planar_sphere.specs.Program.{Is, Free}
use Rattle.planar_order.specs.Seqs.{new_length}
use Rattle.planar_order.specs.Model.{Distinct}
use Rattle.planar_order.specs.Step.{among, state_of, apart, in_net, is_open, free-yes, its_arc, placed, hit, no_hit, p_in, p_some, E-length}
use Rattle.planar_order.specs.Numbering.{Going, total}
use Rattle.planar_order.proofs.Numbering.{goes_on, fits}
use Rattle.planar_choosing.specs.Choosing.{chosen}
use Rattle.planar_numbering.specs.Gathering.{Gatherable, Gathered}
use Rattle.planar_numbering.specs.Points.{points_from, points-length, points_more, Fitting, fitting_more}
use Rattle.planar_numbering.specs.Top.{Ready, same_net}

-- index k has its point, with its entries before those that stood in ent from s on, and b' is the boundary without it
pub record NextNumbered (f : Flat) (b : List ℕ) (k : ℕ) (ver ln ent : List ℕ) (s : ℕ) (ver' ln' ent' : List ℕ) (s' : ℕ) (b' : List ℕ) : Type 0 where
  pub start : s' + length (comes_off f b).entries ≡ s
  pub ver_size : length ver' ≡ 256
  pub ln_size : length ln' ≡ 256
  pub ent_size : length ent' ≡ 768
  pub boundary : b' ≡ without f b (index_of (next f b) b)
  pub later_is : points_from f.n ver' ln' ent' s' k ≡ comes_off f b ∷ points_from f.n ver ln ent s (suc k)
  pub fitting : Fitting ln' k (f.n - k) (drop s' ent')

module _ {f : Flat} {B : List ℕ} {k : ℕ} {ver ln ent : List ℕ} {s : ℕ} (r : Ready f B k ver ln ent s) (k2 : 2 ≤ k) where
  -- the points that have their numbers, and what is known of them
  abbrev later : List Point
  later = points_from f.n ver ln ent s (suc k)

  abbrev l : Listed f
  l = r.arrays.kept.listed

  abbrev valid : Valid f
  valid = r.arrays.valid

  abbrev own0 : f.own 0 ≡ 0
  own0 = r.arrays.own0

  abbrev is : Is f (state_of B later)
  is = r.going.is

  later-length : length later ≡ f.n - suc k
  later-length = points-length ver ln (suc k) (f.n - suc k) (drop s ent)

  distinct : Distinct B
  distinct = apart f l valid B later is

  -- ---- the rules' vertex stands at t: it is free, and no end of the boundary

  abbrev t : ℕ
  t = index_of (next f B) B

  opened : (0 < t) × (t + 1 < length B) × Free f (state_of B later) t
  opened =
      let more : count (λ x. among x later) f.n + 3 ≤ f.n = omega (arith, r.going.counted, later-length, k2, r.k_in) in
      let o = is_open f l valid B later is more in
      (o.0, o.1, free-yes f B later t o.2)

  t_some : 0 < t
  t_some = opened.0

  t_end : t + 1 < length B
  t_end = opened.1

  free : Free f (state_of B later) t
  free = opened.2

  -- ---- its entries

  abbrev E : List ℕ
  E = (point_at f B t).entries

  E-some : 2 ≤ length E
  E-some = omega (arith, E-length f l valid B later is t t_some t_end free, p_some f l valid B later is t t_some t_end free)

  next_going : Going f (without f B t) (comes_off f B ∷ later)
  next_going = goes_on f l valid own0 B later r.going (omega (arith, later-length, k2, r.k_in))

  next_small : length (without f B t) + suc (length later) ≤ f.n
  next_small = fits f l valid own0 (without f B t) (comes_off f B ∷ later) next_going

  -- there is room for them, and for the new boundary
  E-room : length E ≤ s
  unfolding total
  E-room = omega (arith, r.room, next_going.total_is, next_small, later-length, r.k_in, k2, r.arrays.kept.byte)

  pub next_room : length B + length E ≤ 258
  unfolding without
  next_room =
      omega (arith, new_length B E (t - 1) (t + 2) (omega arith) (omega (arith, t_end)), t_some, next_small, r.arrays.kept.byte)

  B-gatherable : Gatherable f (get_or B (t - 1) 0) (place f (get_or B t 0) (get_or B (t + 1) 0)) s
  B-gatherable =
      record {
        p = (its_arc f l valid B later is t t_some t_end free).0;
        hit = hit f l valid B later is t t_some t_end free;
        no_hit = no_hit f l valid B later is t t_some t_end free;
        in_net = λ j. turn_in (net_of_lem l valid) j _ (placed f l valid B later is t t_some t_end free).0;
        p_in = p_in f l valid B later is t t_some t_end free;
        room = omega (arith, E-room, E-length f l valid B later is t t_some t_end free);
        few = r.arrays.kept.few;
        top = omega (arith, r.room);
      }

  pub next_in : next f B < f.n
  next_in = rw (sym (index_at (next f B) B (omega (arith, t_end)))) (in_net f l valid B later is t (omega (arith, t_end)))

  -- `choose` finds where it stands
  chosen_t : chosen f B ≡ Some t
  chosen_t = rw (lt-ltb (next f B) f.n next_in)

  pub some_chosen : {o : Option ℕ} → o ≡ chosen f B → IsSome o
  some_chosen e = subst IsSome (sym (e ∙ chosen_t)) refl

  pub chosen_is : {o : Option ℕ} {i : ℕ} → o ≡ chosen f B → o ≡ Some i → i ≡ t
  chosen_is {o} {i} e h = let q : Some i ≡ Some t = sym h ∙ e ∙ chosen_t in cc

  -- the new boundary has different vertices
  next_distinct : Distinct (without f B t)
  next_distinct = apart f l valid (without f B t) (comes_off f B ∷ later) next_going.is

  -- ---- what the code finds: the boundary, where the vertex stands on it, and one vertex on each side of it

  module _ {vs : List ℕ} {i : ℕ} (eb : vs ≡ B) (ei : i ≡ t) where
    pub i_low : 1 ≤ i
    i_low = omega (arith, ei, t_some)

    pub i_high : i + 1 < length vs
    i_high = omega (arith, ei, ap length eb, t_end)

    v_is : get_or vs i 0 ≡ get_or B t 0
    v_is = rw (eb, ei)

    pub v_in : get_or vs i 0 < f.n
    v_in = rw v_is (in_net f l valid B later is t (omega (arith, t_end)))

    -- what `gather_entries` asks
    pub gatherable : Gatherable f (get_or vs (i - 1) 0) (place f (get_or vs i 0) (get_or vs (i + 1) 0)) s
    gatherable = rw (eb, ei) B-gatherable

    module _ {e : ℕ} {ent' : List ℕ} (w : Gathered (run f (get_or vs i 0) (get_or vs (i - 1) 0) (get_or vs (i + 1) 0)) s ent ent' e) where
      run_is : run f (get_or vs i 0) (get_or vs (i - 1) 0) (get_or vs (i + 1) 0) ≡ E
      unfolding point_at
      run_is = rw (eb, ei)

      len_is : s - e ≡ length E
      len_is = omega (arith, w.from, ap length run_is)

      -- its entries have room, and there are fewer than 256
      pub e_low : e ≤ s
      e_low = omega (arith, w.from)

      pub s_in : s ≤ 768
      s_in = omega (arith, r.room)

      pub len_byte : s - e < 256
      len_byte = omega (arith, len_is, next_room, t_end, t_some)

      ent_is : drop e ent' ≡ E ++ drop s ent
      ent_is = w.now ∙ ap (λ x. x ++ drop s ent) run_is

      entries : take (s - e) (drop e ent') ≡ E
      entries = ap (take (s - e)) ent_is ∙ take_at E (drop s ent) (s - e) (sym len_is)

      -- what `without` asks and gives: they and what stands beside the three are the new boundary
      pub put_within : (i - 1 + 3 ≤ length vs) × (length vs + length (take (s - e) (drop e ent')) ≤ 258)
      put_within = (omega (arith, i_low, i_high), omega (arith, ap length entries, ap length eb, next_room))

      pub put_is : take (i - 1) vs ++ (take (s - e) (drop e ent') ++ drop (i - 1 + 3) vs) ≡ without f B t
      unfolding without
      put_is =
          let upto : i - 1 + 3 ≡ t + 2 = omega (arith, ei, t_some) in
          rw (upto, entries, eb, ei)

      pub put_distinct : Distinct (take (i - 1) vs ++ (take (s - e) (drop e ent') ++ drop (i - 1 + 3) vs))
      put_distinct = subst Distinct (sym put_is) next_distinct

      -- vertex, number of entries and entries put where they belong number the point
      pub next_numbered :
          {b' : List ℕ} → b' ≡ take (i - 1) vs ++ (take (s - e) (drop e ent') ++ drop (i - 1 + 3) vs) →
          NextNumbered f B k ver ln ent s (set ver k (get_or vs i 0)) (set ln k (s - e)) ent' e b'
      unfolding point_at
      next_numbered {b'} h =
          record {
            start = omega (arith, e_low, len_is);
            ver_size = length-set ver k _ ∙ r.arrays.ver_size;
            ln_size = length-set ln k (s - e) ∙ r.arrays.ln_size;
            ent_size = w.same ∙ r.arrays.ent_size;
            boundary = h ∙ put_is;
            later_is = numbered;
            fitting = fitting;
          }
        where
          numbered : points_from f.n (set ver k (get_or vs i 0)) (set ln k (s - e)) ent' e k ≡ comes_off f B ∷ later
          numbered =
              let count : f.n - k ≡ suc (f.n - suc k) = omega (arith, r.k_in) in
              let a = r.arrays in
              rw (count, ent_is, len_is)
              (points_more ver ln k (f.n - suc k) (get_or vs i 0) E (drop s ent) (omega (arith, a.ver_size, r.k_in, a.kept.byte)) (omega (arith, a.ln_size, r.k_in, a.kept.byte)) ∙
              ap (λ x. record { vertex = x; entries = E } ∷ later) v_is)

          fitting : Fitting (set ln k (s - e)) k (f.n - k) (drop e ent')
          fitting =
              let count : f.n - k ≡ suc (f.n - suc k) = omega (arith, r.k_in) in
              rw (count, ent_is, len_is)
              (fitting_more ln k (f.n - suc k) E (drop s ent) (omega (arith, r.arrays.ln_size, r.k_in, r.arrays.kept.byte)) r.fitting)

  -- ---- and the next after it

  module _ {ver' ln' ent' b' : List ℕ} {s' : ℕ} (z : NextNumbered f B k ver ln ent s ver' ln' ent' s' b') where
    index : suc (k - 1) ≡ k
    index = omega arith

    -- the arrays are ready for it
    pub ready-again : Ready f b' (k - 1) ver' ln' ent' s'
    unfolding total
    ready-again =
        record {
          arrays = same_net r.arrays z.ver_size z.ln_size z.ent_size;
          k_some = omega arith;
          k_in = omega (arith, r.k_in);
          going = rw (index, z.boundary, z.later_is) next_going;
          room = rw (index, z.later_is) (omega (arith, r.room, z.start));
          fitting = rw index z.fitting;
        }

    -- the rules count on with it
    pub number-again : number f (k - 1) B later ≡ number f (k - 1 - 1) b' (points_from f.n ver' ln' ent' s' (suc (k - 1)))
    unfolding number
    number-again = let less : k - 1 ≡ suc (k - 1 - 1) = omega arith in ap (λ x. number f x B later) less ∙ rw (index, z.boundary, z.later_is)
