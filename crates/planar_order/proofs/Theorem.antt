-- THE THEOREM: a file that passes the tests yields an order, and the order is one that the drawing rules take.
use Rattle.std.specs.Prelude.{ℕ, zero, suc, ◌+◌, ◌-◌, ◌*◌, ◌<◌, ◌≤◌, ◌≡◌, refl, ◌≢◌, Bool, true, false, List, [], ◌∷◌, map, length, get_or, eqb, if◌then◌else◌}
use Rattle.std.proofs.Common.{ap, subst, sym, ◌∙◌, inl, inr, arith, length-append, eq-eqb, eqb-true}
use Rattle.std.proofs.lemmas.List.{length-map}
use Rattle.rules.specs.Basics.{index_of}
use Rattle.rules.specs.Indices.{index_at, index_le}
use Rattle.rules.specs.Entries.{word_of}
use Rattle.rules.specs.Records.{written, point_entries, end_shape, entries_mark}
use Rattle.rules.proofs.Lengths.{length-bytes}
use Rattle.planar_rules.specs.PlanarCode.{Flat, net_of, formed?, taken?, Point, comes_off, number, first, second, top, top_point, points, vertices, point_of, plain, entry_words, records, order_file, vertex_list}
use Rattle.planar_sphere.specs.Count.{bool, clash, count, count-max, put, put_else, put-case, count-put, count_same}
use Rattle.planar_sphere.specs.Map.{Net}
use Rattle.planar_sphere.specs.Flat.{Listed, bound, Valid}
use Rattle.planar_sphere.proofs.Check.{good, net_of_lem, back_own, taken_yes}
use Rattle.planar_sphere.proofs.Order.{sound, point_1, line_12, size}
use Rattle.planar_sphere.specs.Program.{net-map}
use Rattle.planar_order.specs.File.{four, listed}
use Rattle.planar_order.specs.Model.{Stands, Distinct, index_is}
use Rattle.planar_order.proofs.Model.{numbered}
use Rattle.planar_order.specs.Step.{among, apart, in_net, not_yet}
use Rattle.planar_order.specs.Numbering.{Fresh, more, total, Going}
use Rattle.planar_order.proofs.Numbering.{goes_first, goes_on}
use Rattle.planar_order.specs.Theorem.{entries_of, Ordered}

-- ---- numbered vertices as a list

among_at : (ps : List Point) (i : ℕ) → i < length ps → among (get_or (vertices ps) i 0) ps ≡ true
unfolding among
among_at [] i l = absurd (omega arith)
among_at (p ∷ ps) zero l = rw (eq-eqb p.vertex p.vertex refl)
among_at (p ∷ ps) (suc i) l = go (eqb (get_or (vertices ps) i 0) p.vertex) (among_at ps i (omega arith))
  where
    go : (c : Bool) → among (get_or (vertices ps) i 0) ps ≡ true → (if c then true else among (get_or (vertices ps) i 0) ps) ≡ true
    go true t = refl
    go false t = t

pub among_where : (x : ℕ) (ps : List Point) → among x ps ≡ true → (i : ℕ) × (i < length ps) × (get_or (vertices ps) i 0 ≡ x)
unfolding among
among_where x [] t = clash t refl
among_where x (p ∷ ps) t = go (eqb x p.vertex) refl (among_where x ps) t
  where
    go :
        (c : Bool) → eqb x p.vertex ≡ c → (among x ps ≡ true → (i : ℕ) × (i < length ps) × (get_or (vertices ps) i 0 ≡ x)) →
        (if c then true else among x ps) ≡ true → (i : ℕ) × (i < suc (length ps)) × (get_or (vertices (p ∷ ps)) i 0 ≡ x)
    go true e ih t = (0, omega arith, sym (eqb-true _ _ e))
    go false e ih t = let w = ih t in (suc w.0, omega (arith, w.1), w.2)

fresh-distinct : {n : ℕ} (ps : List Point) → Fresh n ps → Distinct (vertices ps)
fresh-distinct [] w x y xl yl e = absurd (omega arith)
fresh-distinct (p ∷ ps) (more b a w) zero zero xl yl e = refl
fresh-distinct (p ∷ ps) (more b a w) zero (suc y) xl yl e =
    clash (among_at ps y (omega (arith, length-map ps (λ p. p.vertex)))) (ap (λ v. among v ps) (sym e) ∙ a)
fresh-distinct (p ∷ ps) (more b a w) (suc x) zero xl yl e =
    clash (among_at ps x (omega (arith, length-map ps (λ p. p.vertex)))) (ap (λ v. among v ps) e ∙ a)
fresh-distinct (p ∷ ps) (more b a w) (suc x) (suc y) xl yl e = ap suc (fresh-distinct ps w x y (omega arith) (omega arith) e)

fresh_in : {n : ℕ} (ps : List Point) → Fresh n ps → (i : ℕ) → i < length ps → get_or (vertices ps) i 0 < n
fresh_in [] w i l = absurd (omega arith)
fresh_in (p ∷ ps) (more b a w) zero l = b
fresh_in (p ∷ ps) (more b a w) (suc i) l = fresh_in ps w i (omega arith)

distinct_cons : (v : ℕ) (vs : List ℕ) → Distinct vs → ((i : ℕ) → i < length vs → get_or vs i 0 ≢ v) → Distinct (v ∷ vs)
distinct_cons v vs d ne zero zero xl yl e = refl
distinct_cons v vs d ne zero (suc y) xl yl e = absurd (ne y (omega arith) (sym e))
distinct_cons v vs d ne (suc x) zero xl yl e = absurd (ne x (omega arith) e)
distinct_cons v vs d ne (suc x) (suc y) xl yl e = ap suc (d x y (omega arith) (omega arith) e)

pair : (b : List ℕ) (x y : ℕ) → length b ≡ 2 → get_or b 0 0 ≡ x → get_or b 1 0 ≡ y → b ≡ x ∷ y ∷ []
pair [] x y e p q = absurd (omega arith)
pair (a ∷ []) x y e p q = absurd (omega arith)
pair (a ∷ c ∷ []) x y e p q = rw (p, q)
pair (a ∷ c ∷ d ∷ b) x y e p q = absurd (omega arith)

-- those numbered keep their place from the end
keeps : (f : Flat) (k : ℕ) (b : List ℕ) (later : List Point) (i : ℕ) → get_or (vertices (number f k b later)) (k + i) 0 ≡ get_or (vertices later) i 0
unfolding number
keeps f zero b later i = let e : 0 + i ≡ i = omega arith in rw e
keeps f (suc k) b later i = let e : suc k + i ≡ k + suc i = omega arith in rw e (keeps f k _ (comes_off f b ∷ later) (suc i))

off_0 : (bs : List ℕ) → (net_of bs).off 0 ≤ 0
unfolding net_of
off_0 bs = omega arith

module _ (f : Flat) (l : Listed f) (v : Valid f) (own0 : f.own 0 ≡ 0) where
  n : Net (net-map f)
  n = net_of_lem l v

  some : 0 < f.D
  some = omega (arith, v.lines, v.four)

  through : (k : ℕ) (b : List ℕ) (later : List Point) → Going f b later → length later + k + 2 ≡ f.n → (b' : List ℕ) × Going f b' (number f k b later) × (length (number f k b later) + 2 ≡ f.n)
  unfolding number
  through zero b later w e = (b, w, omega arith)
  through (suc k) b later w e = through k _ _ (goes_on f l v own0 b later w (omega arith)) (omega arith)

  abbrev rest : List Point
  rest = number f (f.n - 3) (top_point f).entries (top_point f ∷ [])

  done : (b : List ℕ) × Going f b rest × (length rest + 2 ≡ f.n)
  done = through (f.n - 3) _ _ (goes_first f l v own0) (omega (arith, v.four))

  abbrev b : List ℕ
  b = done.0

  abbrev w : Going f b rest
  w = done.1

  two : length b ≡ 2
  two = omega (arith, w.counted, done.2, w.is.m, size n 0 some w.is.shelled, count_same (λ x. among x rest) w.is.h.gone f.n (λ x _. w.is.gone x), (sound n 0 some w.is.shelled).two)

  at_0 : get_or b 0 0 ≡ first
  at_0 = w.is.w 0 (omega (arith, two, w.is.m)) ∙ point_1 n 0 some w.is.shelled ∙ own0

  at_1 : get_or b 1 0 ≡ second f
  at_1 = w.is.w 1 (omega (arith, two, w.is.m)) ∙ ap f.own (line_12 n 0 some w.is.shelled 1 (omega (arith, two, w.is.m))) ∙ back_own v 0 some

  b_is : b ≡ first ∷ second f ∷ []
  b_is = pair b first (second f) two at_0 at_1

  abbrev vs : List ℕ
  vs = first ∷ second f ∷ vertices rest

  vs-length : length vs ≡ f.n
  vs-length = omega (arith, length-map rest (λ p. p.vertex), done.2)

  new_0 : among first rest ≡ false
  new_0 = ap (λ x. among x rest) (sym at_0) ∙ not_yet f l v b rest w.is 0 (omega (arith, two))

  new_1 : among (second f) rest ≡ false
  new_1 = ap (λ x. among x rest) (sym at_1) ∙ not_yet f l v b rest w.is 1 (omega (arith, two))

  first_second : second f ≢ first
  first_second e = absurd (omega (arith, apart f l v b rest w.is 0 1 (omega (arith, two)) (omega (arith, two)) (at_0 ∙ sym e ∙ sym at_1)))

  not_in : (x i : ℕ) → among x rest ≡ false → i < length (vertices rest) → get_or (vertices rest) i 0 ≢ x
  not_in x i a il e = clash (among_at rest i (omega (arith, length-map rest (λ p. p.vertex)))) (ap (λ x. among x rest) e ∙ a)

  vs-distinct : Distinct vs
  vs-distinct =
      distinct_cons first (second f ∷ vertices rest)
      (distinct_cons (second f) (vertices rest) (fresh-distinct rest w.fresh) (λ i il. not_in (second f) i new_1 il))
      rest_not_first
    where
      rest_not_first : (i : ℕ) → i < suc (length (vertices rest)) → get_or (second f ∷ vertices rest) i 0 ≢ first
      rest_not_first zero il e = first_second e
      rest_not_first (suc i) il e = not_in first i new_0 (omega arith) e

  second_in : second f < f.n
  second_in = rw at_1 at (in_net f l v b rest w.is 1 (omega (arith, two)))

  vs_in : (i : ℕ) → i < f.n → get_or vs i 0 < f.n
  vs_in zero il = omega arith
  vs_in (suc zero) il = second_in
  vs_in (suc (suc i)) il = fresh_in rest w.fresh i (omega (arith, done.2))

  -- all n vertices are there
  abbrev in_vs : ℕ → Bool
  in_vs = put first (put (second f) (λ x. among x rest))

  all_in : count in_vs f.n ≡ f.n
  all_in =
      omega (
        arith,
        count-put first (put (second f) (λ x. among x rest)) f.n (omega (arith, v.four)) (put_else (second f) (λ x. among x rest) first (λ e. first_second (sym e)) ∙ new_0),
        count-put (second f) (λ x. among x rest) f.n second_in new_1,
        w.counted,
        done.2,
      )

  vs_where : (x : ℕ) → x < f.n → (i : ℕ) × (i < length vs) × (get_or vs i 0 ≡ x)
  vs_where x xl =
      elim (bool (in_vs x)) [
        | inr no-x ↦ absurd (omega (arith, all_in, count-put x in_vs f.n xl no-x, count-max (put x in_vs) f.n))
        | inl is_x ↦ elim (put-case first _ x is_x) [
          | inl e ↦ (0, omega arith, sym e)
          | inr t ↦ elim (put-case (second f) _ x t) [
            | inl e ↦ (1, omega arith, sym e)
            | inr u ↦ let q = among_where x rest u in (suc (suc q.0), omega (arith, q.1, length-map rest (λ p. p.vertex)), q.2)
          ]
        ]
      ]

  vs-every : (x : ℕ) → x < f.n → (index_of x vs < f.n) × (get_or vs (index_of x vs) 0 ≡ x)
  vs-every x xl =
      let q = vs_where x xl in
      let m : index_of x vs ≤ q.0 = subst (λ z. index_of z vs ≤ q.0) q.2 (index_le vs q.0 q.1) in
      (omega (arith, q.1, vs-length), index_at x vs (omega (arith, q.1)))

  number_of : (i : ℕ) → i < f.n → point_of vs (get_or vs i 0) ≡ suc i
  number_of i il = ap suc (index_is vs vs-distinct i (omega (arith, vs-length)))

  top_is : point_of vs (top f) ≡ f.n
  top_is =
      let k : ℕ = f.n - 3 in
      let e : get_or vs (suc (suc (k + 0))) 0 ≡ top f = keeps f k (top_point f).entries (top_point f ∷ []) 0 in
      ap (point_of vs) (sym e) ∙ number_of (suc (suc (k + 0))) (omega (arith, v.four)) ∙ (let z : suc (suc (suc (k + 0))) ≡ f.n = omega (arith, v.four) in z)

  all_stands : Stands 2 (1 ∷ 2 ∷ []) (entries_of vs rest) (1 ∷ f.n ∷ 2 ∷ [])
  all_stands =
      let one : point_of vs first ≡ 1 = number_of 0 (omega (arith, v.four)) in
      let two : point_of vs (second f) ≡ 2 = number_of 1 (omega (arith, v.four)) in
      as_list (map (point_of vs) b) (map (point_of vs) (first ∷ top f ∷ second f ∷ []))
      (ap (map (point_of vs)) b_is ∙ ap (λ x. x ∷ point_of vs (second f) ∷ []) one ∙ ap (λ x. 1 ∷ x ∷ []) two)
      (ap (λ x. x ∷ point_of vs (top f) ∷ point_of vs (second f) ∷ []) one ∙ ap (λ x. 1 ∷ x ∷ point_of vs (second f) ∷ []) top_is ∙ ap (λ x. 1 ∷ f.n ∷ x ∷ []) two)
      (numbered (point_of vs) 2 w.chain (λ i il. number_of (suc (suc i)) (omega (arith, done.2)) ∙ (let z : suc (suc (suc i)) ≡ suc (2 + i) = omega arith in z)))
    where
      as_list : (c d : List ℕ) → c ≡ 1 ∷ 2 ∷ [] → d ≡ 1 ∷ f.n ∷ 2 ∷ [] → Stands 2 c (entries_of vs rest) d → Stands 2 (1 ∷ 2 ∷ []) (entries_of vs rest) (1 ∷ f.n ∷ 2 ∷ [])
      as_list c d p q s = rw q at (rw p at s)

  pub ordered : Ordered f
  unfolding points
  ordered =
      record {
        rest = rest;
        points_are = refl;
        count_is = vs-length;
        are_vertices = vs_in;
        once = vs-distinct;
        every = vs-every;
        stands = all_stands;
        entries-total = omega (arith, w.total_is, two, done.2);
        lines = w.lines;
      }

-- ---- the order file's size

records-length : (vs : List ℕ) (ps : List Point) → length (records vs ps) ≡ 4 * length ps + 2 * total ps
unfolding records total
records-length vs [] = refl
records-length vs (p ∷ ps) =
    let ws : List ℕ = entry_words vs p.entries in
    omega (
      arith,
      records-length vs ps,
      length-append (written point_entries ws) (records vs ps),
      length-bytes (entries_mark ∷ length ws ∷ ws),
      length-map p.entries (λ v. word_of (plain (point_of vs v))),
    )

pub order-length : (f : Flat) → Ordered f → length (order_file f.n (points f)) + 6 ≡ 10 * f.n
unfolding order_file total
order-length f o =
    omega (
      arith,
      length-append (records (vertices (points f)) (points f)) (written end_shape []),
      records-length (vertices (points f)) (points f),
      ap total o.points_are,
      ap (λ ps. length ps) o.points_are,
      o.count_is,
      length-map (points f) (λ p. p.vertex),
      o.entries-total,
    )

pub list_length : (f : Flat) → Ordered f → length (vertex_list (points f)) ≡ f.n
list_length f o = length-map (vertices (points f)) suc ∙ o.count_is

-- ---- the theorem for a file

-- a file that passes the tests: its net is one to be taken, and its first place stands in the list of vertex 0
module _ (bs : List ℕ) (ok : formed? bs ≡ true) (t : taken? (net_of bs) ≡ true) where
  pub valid : Valid (net_of bs)
  valid = taken_yes (net_of bs) (four bs ok) t

  pub own_first : (net_of bs).own 0 ≡ 0
  own_first =
      let l = listed bs ok in
      let v = valid in
      (l.within 0 0 (omega (arith, v.four)) (off_0 bs) (omega (arith, off_0 bs, bound l (good v) 0 (omega (arith, v.four))))).1

pub always : (bs : List ℕ) → formed? bs ≡ true → taken? (net_of bs) ≡ true → Ordered (net_of bs)
always bs ok t = ordered (net_of bs) (listed bs ok) (valid bs ok t) (own_first bs ok t)
