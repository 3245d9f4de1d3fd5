-- The net of a file by its points: the entries of a point are its neighbours among the points before it.
use Rattle.std.specs.Prelude.{ℕ, zero, suc, ◌+◌, ◌<◌, ◌≡◌, refl, Bool, true, false, List, [], ◌∷◌, length, get_or, drop}
use Rattle.std.proofs.Common.{ap, sym, ◌∙◌, arith, length-drop, get_or-drop}
use Rattle.std.proofs.lemmas.List.{length-map}
use Rattle.std.proofs.Math.ListN.{get_or-map}
use Rattle.planar_rules.specs.PlanarCode.{Flat, Point, first, vertices}
use Rattle.planar_order.specs.Step.{among}
use Rattle.planar_order.specs.Numbering.{AllLines, Lines, none, more}
use Rattle.planar_order.specs.Model.{Distinct}
use Rattle.planar_order.proofs.Theorem.{among_where}
use Rattle.planar_drawn.specs.Members.{Has}

-- Vertex v is a neighbour of u: some place of u's list names it.
pub record Neighbour (f : Flat) (u v : ℕ) : Type 0 where
  pub place : ℕ
  pub inside : place < f.D
  pub own : f.own place ≡ u
  pub nbr : f.nbr place ≡ v

-- what `get_or` gives where there is no point
abbrev pub no_point : Point
no_point = record { vertex = 0; entries = [] }

-- the vertex of a point in a list
pub vertex_at : (ps : List Point) (i : ℕ) → get_or (vertices ps) i 0 ≡ (get_or ps i no_point).vertex
vertex_at ps i = get_or-map (λ (p : Point). p.vertex) ps i no_point

-- point i of the list, from 0: its entries are neighbours, and every neighbour before it is an entry
pub record Named (f : Flat) (ps : List Point) (i : ℕ) : Type 0 where
  pub is_line : (v : ℕ) → Has (get_or ps i no_point).entries v → Neighbour f (get_or (vertices ps) i 0) v
  pub each_line : (j : ℕ) → j < i → Neighbour f (get_or (vertices ps) i 0) (get_or (vertices ps) j 0) → Has (get_or ps i no_point).entries (get_or (vertices ps) j 0)

-- the lines of point i, where those behind it have a later number
lines_at_lem : {f : Flat} {ps : List Point} → AllLines f ps → (i : ℕ) → i < length ps → Lines f (get_or ps i no_point) (drop (suc i) ps)
lines_at_lem none i b = absurd (omega arith)
lines_at_lem (more l ls) zero b = l
lines_at_lem (more l ls) (suc i) b = lines_at_lem ls i (omega arith)

module _ (f : Flat) (s : ℕ) (rest : List Point) (lines : AllLines f rest) (once : Distinct (first ∷ s ∷ vertices rest)) (two : Neighbour f s first) where
  -- points 1, 2, and those after them
  abbrev ps : List Point
  ps = record { vertex = first; entries = [] } ∷ record { vertex = s; entries = first ∷ [] } ∷ rest

  -- none of the points up to i stands behind it
  not_later : (i j : ℕ) → j < suc (suc (suc i)) → i < length rest → among (get_or (vertices ps) j 0) (drop (suc i) rest) ≡ false
  not_later i j ji b = go (among (get_or (vertices ps) j 0) (drop (suc i) rest)) refl
    where
      go : (t : Bool) → among (get_or (vertices ps) j 0) (drop (suc i) rest) ≡ t → t ≡ false
      go false e = refl
      go true e =
          let a = among_where (get_or (vertices ps) j 0) (drop (suc i) rest) e in
          let t : ℕ = a.0 in
          let v : get_or (vertices rest) (suc i + t) 0 ≡ get_or (vertices ps) j 0 =
          vertex_at rest (suc i + t) ∙ ap (λ (p : Point). p.vertex) (sym (get_or-drop (suc i) rest t no_point)) ∙ sym (vertex_at (drop (suc i) rest) t) ∙ a.2
          in
          let size = length-map rest (λ p. p.vertex) in
          absurd (omega (arith, a.1, length-drop (suc i) rest, once (suc (suc (suc i + t))) j (omega (arith, a.1, length-drop (suc i) rest, size)) (omega (arith, size)) v))

  -- each point is named so
  pub named : (i : ℕ) → i < length ps → Named f ps i
  named zero b = record { is_line = λ v h. absurd (omega (arith, h.inside)); each_line = λ j ji n. absurd (omega arith) }
  named (suc zero) b =
      record {
        is_line = λ v h. only h.at h.inside h.is;
        each_line = λ j ji n. let z : j ≡ 0 = omega arith in rw z (record { at = 0; inside = omega arith; is = refl });
      }
    where
      only : {v : ℕ} (x : ℕ) → x < 1 → get_or (first ∷ []) x 0 ≡ v → Neighbour f s v
      only zero x e = rw (sym e) two
      only (suc x) b e = absurd (omega arith)
  named (suc (suc i)) b =
      let l = lines_at_lem lines i (omega arith) in
      let v = vertex_at rest i in
      record {
        is_line = λ u h. let n = l.is_line h.at h.inside in record { place = n.0; inside = n.1; own = n.2 ∙ sym v; nbr = n.3 ∙ h.is };
        each_line = λ j ji n.
            let x = l.each_line n.place n.inside (n.own ∙ v) (ap (λ (u : ℕ). among u (drop (suc i) rest)) n.nbr ∙ not_later i j (omega arith) (omega arith)) in
            record { at = x.0; inside = x.1; is = x.2 ∙ n.nbr };
      }
