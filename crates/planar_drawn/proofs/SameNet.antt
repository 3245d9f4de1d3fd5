-- THE NET IS THE SAME: the points of a drawing are the vertices of the file's net, and its lines join the points whose vertices are neighbours there.
use Rattle.std.specs.Prelude.{ℕ, suc, pred, ◌<◌, ◌≡◌, refl, List, [], ◌∷◌, map, length, get_or}
use Rattle.std.proofs.Common.{ap, sym, subst, ◌∙◌, inl, inr, arith}
use Rattle.std.proofs.Math.Decide.{dec_lt}
use Rattle.std.proofs.lemmas.List.{length-map}
use Rattle.std.proofs.Math.ListN.{get_or-map}
use Rattle.rules.specs.declared.Style.{Style}
use Rattle.rules.specs.declared.Entry.{Entry}
use Rattle.rules.specs.Indices.{index_at}
use Rattle.rules.specs.Points.{Drawing, line_at}
use Rattle.rules.specs.Adding.{points_of}
use Rattle.promise.specs.Promise.{IsLine}
use Rattle.exchange.specs.Entries.{entries_at, listed}
use Rattle.exchange.specs.DrawingRead.{standing}
use Rattle.planar_rules.specs.PlanarCode.{Flat, Point, first, second, points, vertices, point_of}
use Rattle.planar_sphere.specs.Flat.{Valid}
use Rattle.planar_order.specs.Model.{Distinct, index_is}
use Rattle.planar_order.specs.Theorem.{Ordered, entries_of}
use Rattle.planar_drawn.specs.Growing.{plains, points-plain}
use Rattle.planar_drawn.specs.Read.{DrawnOf}
use Rattle.planar_drawn.specs.Members.{Has, has_map, map_has, line-entry, entry-line}
use Rattle.planar_drawn.specs.Named.{Neighbour, Named, no_point, named}
use Rattle.planar_drawn.specs.SameNet.{Joined, IsPoint, vertex_of, SameNet}

-- joined is joined the other way round
turned : {d : Drawing} {p q : ℕ} → Joined d p q → Joined d q p
turned j = record { line = j.line; is_line = j.is_line; ends = elim j.ends [ inl e ↦ inr e | inr e ↦ inl e ] }

module _ (τ : Style) (f : Flat) (v : Valid f) (own0 : f.own 0 ≡ 0) (o : Ordered f) (g : DrawnOf τ f) where
  abbrev vs : List ℕ
  vs = vertices (points f)

  abbrev d : Drawing
  d = g.drawing

  -- neighbours are neighbours the other way round: every line stands in both lists
  other : {u w : ℕ} → Neighbour f u w → Neighbour f w u
  other n = let e = v.both n.place n.inside in record { place = e.0; inside = e.1; own = e.2 ∙ n.nbr; nbr = e.3 ∙ n.own }

  -- point 2 is a neighbour of point 1
  first_line_lem : Neighbour f (second f) first
  first_line_lem = other (record { place = 0; inside = omega (arith, v.lines, v.four); own = own0; nbr = refl })

  -- all points are named
  all_named : (i : ℕ) → i < f.n → Named f (points f) i
  all_named i b =
      let e = o.points_are in
      let once : Distinct (vertices (record { vertex = first; entries = [] } ∷ record { vertex = second f; entries = first ∷ [] } ∷ o.rest)) =
      subst (λ (ps : List Point). Distinct (vertices ps)) e o.once
      in
      subst (λ (ps : List Point). Named f ps i) (sym e)
      (named f (second f) o.rest o.lines once first_line_lem i (omega (arith, o.count_is, length-map (points f) (λ p. p.vertex), ap (λ (ps : List Point). length ps) e)))

  -- the drawing has as many points as the net has vertices
  all_points : d.k ≡ f.n
  all_points = g.whole.full ∙ (listed g.built).is_n

  -- the entries of a point of the drawing, from those of the net's point
  entries_of_lem : (p : ℕ) → 0 < p → points_of (entries_at p d.lines) ≡ map (point_of vs) (get_or (points f) (pred p) no_point).entries
  entries_of_lem p low =
      ap points_of
      ((listed g.built).entries p low ∙
      ap (λ (ess : List (List Entry)). get_or ess (pred p) []) g.entries ∙
      get_or-map plains (entries_of vs (points f)) (pred p) []) ∙
      points-plain (get_or (entries_of vs (points f)) (pred p) []) ∙
      get_or-map (λ (p : Point). map (point_of vs) p.entries) (points f) (pred p) no_point

  -- a line's ends are neighbours
  line-named : (p q e : ℕ) → IsPoint d p → IsPoint d q → IsLine d e → (line_at d e).later ≡ p → (line_at d e).earlier ≡ q → Neighbour f (vertex_of f p) (vertex_of f q)
  line-named p q e pp pq el later earlier =
      let h : Has (map (point_of vs) (get_or (points f) (pred p) no_point).entries) q = subst (λ (l : List ℕ). Has l q) (entries_of_lem p pp.0) (rw earlier at (line-entry p _ d.lines e el later)) in
      let x = map_has (point_of vs) (get_or (points f) (pred p) no_point).entries h in
      let u : vertex_of f q ≡ x.0 = ap (λ (i : ℕ). get_or vs (pred i) 0) (sym x.2) ∙ index_at x.0 vs (omega (arith, x.2, pq.1, all_points, o.count_is)) in
      rw u ((all_named (pred p) (omega (arith, pp, all_points))).is_line x.0 x.1)

  -- a neighbour before p is joined to it
  named-line : (p q : ℕ) → IsPoint d p → 0 < q → q < p → Neighbour f (vertex_of f p) (vertex_of f q) → Joined d p q
  named-line p q pp low qp n =
      let h = has_map (point_of vs) ((all_named (pred p) (omega (arith, pp, all_points))).each_line (pred q) (omega arith) n) in
      let u : point_of vs (vertex_of f q) ≡ q = ap suc (index_is vs o.once (pred q) (omega (arith, pp.1, all_points, o.count_is))) ∙ (let z : suc (pred q) ≡ q = omega arith in z) in
      let l = entry-line p q _ d.lines (subst (λ (l : List ℕ). Has l q) (sym (entries_of_lem p pp.0)) (rw u at h)) in
      record { line = l.line; is_line = l.inside; ends = inl (l.later, l.earlier) }

  pub same_net : SameNet f d
  same_net =
      record {
        size = all_points;
        vertex = λ p pp. o.are_vertices (pred p) (omega (arith, pp, all_points));
        once = λ p q pp pq e. omega (arith, pp.0, pq.0, o.once (pred p) (pred q) (omega (arith, pp, all_points, o.count_is)) (omega (arith, pq, all_points, o.count_is)) e);
        every-vertex = λ u ul. let e = o.every u ul in (point_of vs u, (omega arith, omega (arith, e.0, all_points)), e.1);
        joined = λ p q pp pq j. elim j.ends [
          | inl e ↦ line-named p q j.line pp pq j.is_line e.0 e.1
          | inr e ↦ other (line-named q p j.line pq pp j.is_line e.0 e.1)
        ];
        neighbours = λ p q pp pq n. elim (dec_lt q p) [
          | yes b ↦ named-line p q pp pq.0 b n
          | no b ↦ elim (dec_lt p q) [
            | yes c ↦ turned (named-line q p pq pp.0 c (other n))
            | no c ↦
                let e : p ≡ q = omega (arith, b, c) in
                absurd (v.self n.place n.inside (n.nbr ∙ sym (ap (vertex_of f) e) ∙ sym n.own))
          ]
        ];
        as_many =
            let r = g.whole.reached in
            let t = standing r.built r.low r.high in
            omega (arith, t.sound.core.corners.count, t.ranged.closed g.whole.full, v.lines, all_points);
      }
