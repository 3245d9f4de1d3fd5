-- One step of the numbering: the rules' boundary is a shell's, the lowest free vertex is there, and without it the boundary is a shell's again.
use Rattle.std.specs.Prelude.{ℕ, ◌+◌, ◌-◌, ◌<◌, ◌≤◌, ◌≡◌, refl, ◌≢◌, Bool, true, false, not, ◌&&◌, ◌||◌, List, [], ◌∷◌, length, eqb, ltb, if◌then◌else◌}
use Rattle.std.proofs.Math.Path.{ap}
use Rattle.std.proofs.Common.{sym, ◌∙◌, inl, inr, arith, eq-eqb, eqb-true, ltb-true, lt-ltb}
use Rattle.std.proofs.Math.Bool.{or-true}
use Rattle.std.proofs.Math.Decide.{ℕ_discrete, dec_lt, dec_le}
use Rattle.std.proofs.Math.ListN.{get_or}
use Rattle.rules.specs.Basics.{index_of}
use Rattle.rules.specs.Bools.{both, either}
use Rattle.planar_rules.specs.PlanarCode.{Flat, all, back, place, run, free?, open?, next, Point, point_at, without}
use Rattle.planar_sphere.specs.Count.{count, put}
use Rattle.planar_sphere.specs.Map.{Map, Net, turn, end}
use Rattle.planar_sphere.specs.Shell.{Shell, Rim}
use Rattle.planar_sphere.specs.Arc.{Arc, arc, some-step, on_arc, turn_in, turn-org}
use Rattle.planar_sphere.specs.Flat.{Listed, round, Valid}
use Rattle.planar_sphere.proofs.Check.{net_of_lem, back_own, place-hit, true_and, or_not, not_or, all_true, true_all}
use Rattle.planar_sphere.proofs.Order.{sound}
use Rattle.planar_sphere.specs.Program.{State, Is, Free, Goes, net-map}
use Rattle.planar_sphere.proofs.Program.{turned-nbr, pick, goes, fewer}
use Rattle.planar_order.specs.Model.{index_is as stood}
use Rattle.planar_order.specs.Seqs.{lowest-hit, new_length, new_low, new_run, new_high, gathers}

-- the vertex has a number already
unfoldable pub among : ℕ → List Point → Bool
among x [] = false
among x (p ∷ ps) = if eqb x p.vertex then true else among x ps

-- what the rules keep, as the prover's state
abbrev pub state_of : List ℕ → List Point → State
state_of b later = record { gone = λ x. among x later; m = length b; w = λ x. get_or b x 0 }

abbrev meets? : Flat → List ℕ → ℕ → ℕ → ℕ → Bool
meets? f b t d l = eqb (f.own d) (get_or b t 0) && eqb (f.nbr d) (get_or b l 0)

abbrev beside? : ℕ → ℕ → Bool
beside? t l = eqb l (t + 1) || eqb (l + 1) t

pub free-yes : (f : Flat) (b : List ℕ) (later : List Point) (t : ℕ) → free? f b t ≡ true → Free f (state_of b later) t
unfolding free?
free-yes f b later t h d l dl ll p q =
    let z = all_true (λ l. not (meets? f b t d l) || beside? t l) (length b)
    (all_true (λ d. all (λ l. not (meets? f b t d l) || beside? t l) (length b)) f.D h d dl) l ll in
    let y = or_not (meets? f b t d l) (beside? t l) z (true_and (eqb (f.own d) (get_or b t 0)) _ (eq-eqb _ _ p) (eq-eqb _ _ q)) in
    elim (either (eqb l (t + 1)) _ y) [ inl e ↦ inl (eqb-true _ _ e) | inr e ↦ inr (eqb-true _ _ e) ]

pub yes-free : (f : Flat) (b : List ℕ) (later : List Point) (t : ℕ) → Free f (state_of b later) t → free? f b t ≡ true
unfolding free?
yes-free f b later t h =
    true_all _ f.D (λ d dl. true_all _ (length b) (λ l ll. not_or (meets? f b t d l) (beside? t l) (λ y.
    let w = both (eqb (f.own d) (get_or b t 0)) _ y in
    elim (h d l dl ll (eqb-true _ _ w.0) (eqb-true _ _ w.1)) [
      | inl e ↦ rw (eq-eqb _ _ e)
      | inr e ↦ rw (eq-eqb _ _ e) (or-true (eqb l (t + 1)))
    ])))

module _ (f : Flat) (l : Listed f) (v : Valid f) where
  abbrev g : Map
  g = net-map f

  n : Net g
  n = net_of_lem l v

  some : 0 < f.D
  some = omega (arith, v.lines, v.four)

  module _ (b : List ℕ) (later : List Point) (i : Is f (state_of b later)) where
    abbrev h : Shell
    h = i.h

    rim : Rim g h
    rim = sound n 0 some i.shelled

    pub apart : (x y : ℕ) → x < length b → y < length b → get_or b x 0 ≡ get_or b y 0 → x ≡ y
    apart x y xl yl e =
        let xl' : x < h.m = omega (arith, i.m) in
        let yl' : y < h.m = omega (arith, i.m) in
        rim.apart x y xl' yl' (sym (i.w x xl') ∙ e ∙ i.w y yl')

    pub in_net : (x : ℕ) → x < length b → get_or b x 0 < f.n
    in_net x xl = let xl' : x < h.m = omega (arith, i.m) in rw (i.w x xl') (l.own_in _ (rim.b_in x xl'))

    pub not_yet : (x : ℕ) → x < length b → among (get_or b x 0) later ≡ false
    not_yet x xl = let xl' : x < h.m = omega (arith, i.m) in i.gone _ ∙ ap h.gone (i.w x xl') ∙ rim.there x xl'

    index_is : (t : ℕ) → t < length b → index_of (get_or b t 0) b ≡ t
    index_is t tl = stood b apart t tl

    -- where the next vertex stands
    abbrev t : ℕ
    t = index_of (next f b) b

    module _ (more : count (λ x. among x later) f.n + 3 ≤ f.n) where
      -- it is open, and it is the lowest
      pub found : (open? f b (next f b) ≡ true) × ((z : ℕ) → z < next f b → open? f b z ≡ false)
      unfolding next open?
      found =
          let c = pick f l v (state_of b later) i more in
          let e = index_is c.0 (omega (arith, c.2)) in
          let w =
          lowest-hit (open? f b) f.n 0 (get_or b c.0 0) (omega arith) (omega (arith, in_net c.0 (omega (arith, c.2))))
          (rw e (true_and (ltb 0 c.0) _ (lt-ltb _ _ c.1) (true_and (ltb (c.0 + 1) (length b)) _ (lt-ltb _ _ c.2) (yes-free f b later c.0 c.3)))) in
          (w.1, λ z zl. w.2 z (omega arith) zl)

      pub is_open : (0 < t) × (t + 1 < length b) × (free? f b t ≡ true)
      unfolding open?
      is_open =
          let w = both (ltb 0 t) _ found.0 in
          let w' = both (ltb (t + 1) (length b)) _ w.1 in
          (ltb-true _ _ w.0, ltb-true _ _ w'.0, w'.1)

    -- a vertex that can come off, at t
    module _ (t : ℕ) (t0 : 0 < t) (tm : t + 1 < length b) (fr : Free f (state_of b later) t) where
      abbrev a : ℕ
      a = t - 1

      abbrev E : List ℕ
      E = (point_at f b t).entries

      tm' : t + 1 < h.m
      tm' = omega (arith, i.m)

      at : a + 1 ≡ t
      at = omega arith

      al : h.b a < f.D
      al = rim.b_in a (omega (arith, tm'))

      tl : h.b t < f.D
      tl = rim.b_in t (omega (arith, tm'))

      own_t : f.own (h.b t) ≡ get_or b t 0
      own_t = sym (i.w t (omega (arith, tm')))

      nbr_t : f.nbr (h.b t) ≡ get_or b (t + 1) 0
      nbr_t = sym (back_own v _ tl) ∙ rim.chain t (t + 1) refl tm' ∙ sym (i.w (t + 1) tm')

      -- where the walk begins: the place of the vertex on its right
      abbrev d0 : ℕ
      d0 = place f (get_or b t 0) (get_or b (t + 1) 0)

      pub placed : (d0 < f.D) × (f.own d0 ≡ get_or b t 0) × (f.nbr d0 ≡ get_or b (t + 1) 0)
      placed = place-hit f (get_or b t 0) (get_or b (t + 1) 0) (h.b t) tl own_t nbr_t

      is_d0 : d0 ≡ h.b t
      is_d0 = v.twice d0 (h.b t) placed.0 tl (placed.1 ∙ sym own_t) (placed.2 ∙ sym nbr_t)

      pub its_arc : (p : ℕ) × Arc g h a t p
      its_arc = arc n rim a t at tm'

      abbrev p : ℕ
      p = its_arc.0

      before_end : end g (g.α (h.b a)) ≡ get_or b a 0
      before_end = ap g.org (n.αα _ al) ∙ sym (i.w a (omega (arith, tm')))

      same_own : f.own (h.b t) ≡ f.own (g.α (h.b a))
      same_own = sym (rim.chain a t (sym at) (omega (arith, tm')))

      pub hit : f.nbr (turn g p d0) ≡ get_or b a 0
      hit = sym (turned-nbr f l v p (h.b t) d0 tl is_d0) ∙ ap (end g) its_arc.1.at_end ∙ before_end

      pub no_hit : (k : ℕ) → k < p → f.nbr (turn g k d0) ≢ get_or b a 0
      no_hit k kp e =
          its_arc.1.first k kp
          (n.simple _ _ (turn_in n k _ tl) (n.α_in _ al) (turn-org n k _ tl ∙ same_own) (turned-nbr f l v k (h.b t) d0 tl is_d0 ∙ e ∙ sym before_end))

      pub p_in : p < f.D
      p_in =
          let w = round l (back f) (h.b t) (g.α (h.b a)) tl (n.α_in _ al) same_own in
          elim (dec_le p w.0) [ yes c ↦ omega (arith, w.2) | no c ↦ absurd (its_arc.1.first w.0 (omega (arith, c)) w.1) ]

      pub p_some : 0 < p
      p_some = some-step n rim a t at tm' p its_arc.1

      pub E-length : length E ≡ p + 1
      unfolding point_at run
      E-length = (gathers f (back f) (get_or b a 0) f.D p d0 [] p_in hit no_hit).0 ∙ (let e : p + 1 + 0 ≡ p + 1 = omega arith in e)

      pub E-at : (j x : ℕ) → x + j ≡ p → get_or E x 0 ≡ f.nbr (turn g j d0)
      unfolding point_at run
      E-at = (gathers f (back f) (get_or b a 0) f.D p d0 [] p_in hit no_hit).1

      pub E-left : get_or E 0 0 ≡ get_or b a 0
      E-left = E-at p 0 (omega arith) ∙ hit

      pub E-right : get_or E p 0 ≡ get_or b (t + 1) 0
      unfolding turn
      E-right = E-at 0 p (omega arith) ∙ placed.2

      -- the entries are its neighbours that have no number yet
      pub is_line : (x : ℕ) → x < length E → (d : ℕ) × (d < f.D) × (f.own d ≡ get_or b t 0) × (f.nbr d ≡ get_or E x 0)
      is_line x xl =
          let j : ℕ = p - x in
          (turn g j d0, turn_in n j _ placed.0, turn-org n j _ placed.0 ∙ placed.1, sym (E-at j x (omega (arith, E-length))))

      pub each_line : (d : ℕ) → d < f.D → f.own d ≡ get_or b t 0 → among (f.nbr d) later ≡ false → (x : ℕ) × (x < length E) × (get_or E x 0 ≡ f.nbr d)
      each_line d dl o u =
          let w = on_arc n rim a t at tm' p its_arc.1 d dl (o ∙ sym own_t) (sym (i.gone (end g d)) ∙ ap (λ x. among x later) (back_own v d dl) ∙ u) in
          (p - w.0, omega (arith, E-length), E-at w.0 (p - w.0) (omega (arith, w.1)) ∙ ap (λ x. f.nbr (turn g w.0 x)) is_d0 ∙ ap f.nbr (sym w.2))

      at2 : a ≤ t + 2
      at2 = omega arith

      tb : t + 2 ≤ length b
      tb = omega arith

      its_goes : Goes f (state_of b later) (state_of (without f b t) (point_at f b t ∷ later)) t d0 p
      unfolding without among put point_at
      its_goes =
          record {
            d0_in = placed.0;
            d0-own = placed.1;
            d0-nbr = placed.2;
            hit = hit;
            not_yet = no_hit;
            gone' = λ x. refl;
            m' = omega (arith, new_length b E a (t + 2) at2 tb, E-length);
            low = λ x xt. elim (dec_lt x a) [
              | yes c ↦ new_low b E a (t + 2) at2 tb x c
              | no c ↦
                  let e : x ≡ a + 0 = omega (arith, c) in
                  let e' : a ≡ x = omega (arith, c) in
                  ap (λ k. get_or (without f b t) k 0) e ∙ new_run b E a (t + 2) at2 tb 0 (omega (arith, E-length)) ∙ E-left ∙ ap (λ k. get_or b k 0) e'
            ];
            run = λ x j jp e.
                let q : x ≡ a + (p - j) = omega arith in
                ap (λ k. get_or (without f b t) k 0) q ∙ new_run b E a (t + 2) at2 tb (p - j) (omega (arith, E-length)) ∙ E-at j (p - j) (omega arith);
            high = λ x y ty e. elim (ℕ_discrete y (t + 1)) [
              | yes q ↦
                  let z : x ≡ a + p = omega arith in
                  ap (λ k. get_or (without f b t) k 0) z ∙ new_run b E a (t + 2) at2 tb p (omega (arith, E-length)) ∙ E-right ∙ ap (λ k. get_or b k 0) (sym q)
              | no q ↦
                  let k : ℕ = y - (t + 2) in
                  let z : x ≡ a + (length E + k) = omega (arith, q, E-length) in
                  let z' : t + 2 + k ≡ y = omega (arith, q) in
                  ap (λ k. get_or (without f b t) k 0) z ∙ new_high b E a (t + 2) at2 tb k ∙ ap (λ k. get_or b k 0) z'
            ];
          }

      pub is_next : Is f (state_of (without f b t) (point_at f b t ∷ later))
      is_next = goes f l v (state_of b later) (state_of (without f b t) (point_at f b t ∷ later)) i t t0 tm fr d0 p its_goes

      pub one_more : count (λ x. among x (point_at f b t ∷ later)) f.n ≡ count (λ x. among x later) f.n + 1
      one_more = fewer f l v (state_of b later) (state_of (without f b t) (point_at f b t ∷ later)) i t t0 tm fr d0 p its_goes
