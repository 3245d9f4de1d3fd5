-- The drawing of an imported net: its order file is read, in both styles, and the drawing is whole.
use Rattle.std.specs.Prelude.{ℕ, suc, ◌+◌, ◌≤◌, ◌≡◌, refl, List, [], ◌∷◌, map, length, get_or}
use Rattle.std.proofs.Common.{ap, sym, subst, ◌∙◌, arith}
use Rattle.std.proofs.lemmas.List.{length-map}
use Rattle.rules.specs.declared.Style.{Style}
use Rattle.rules.specs.Refusals.{good}
use Rattle.rules.specs.OrderFile.{read_order, write_order}
use Rattle.exchange.specs.Entries.{listed, whole_so}
use Rattle.exchange.specs.OrderWrite.{order_bytes, write_built, order-written}
use Rattle.planar_rules.specs.PlanarCode.{Flat, Point, first, points, vertices, point_of, order_file}
use Rattle.planar_order.specs.Model.{index_is}
use Rattle.planar_order.specs.Theorem.{Ordered, entries_of}
use Rattle.planar_drawn.specs.Growing.{plains}
use Rattle.planar_drawn.proofs.Growing.{drawn}
use Rattle.planar_drawn.specs.Written.{order-plain}
use Rattle.planar_drawn.specs.Read.{all_entries, DrawnOf}

-- there is one for every net whose points stand as the rules of numbering say
module _ (τ : Style) (f : Flat) (low : 3 ≤ f.n) (high : f.n ≤ 1024) (o : Ordered f) where
  abbrev vs : List ℕ
  vs = vertices (points f)

  -- vertex 0 is point 1
  first_is : point_of vs first ≡ 1
  first_is =
      let at_0 : get_or vs 0 0 ≡ first = ap (λ (ps : List Point). get_or (vertices ps) 0 0) o.points_are in
      ap (point_of vs) (sym at_0) ∙ ap suc (index_is vs o.once 0 (omega (arith, o.count_is)))

  -- points 3 to n
  count : 2 + length (entries_of vs o.rest) ≡ f.n
  count =
      omega (
        arith,
        o.count_is,
        length-map (points f) (λ p. p.vertex),
        ap (λ (ps : List Point). length ps) o.points_are,
        length-map o.rest (λ p. map (point_of vs) p.entries),
      )

  -- the entries of points 1 and 2, and those of the others
  entries_are : all_entries f ≡ [] ∷ (1 ∷ []) ∷ entries_of vs o.rest
  entries_are = ap (entries_of vs) o.points_are ∙ ap (λ (p : ℕ). [] ∷ (p ∷ []) ∷ entries_of vs o.rest) first_is

  pub drawn_of : DrawnOf τ f
  drawn_of =
      let g = drawn τ f.n low high o.stands count refl in
      let all : all_entries f ≡ [] ∷ (1 ∷ []) ∷ (1 ∷ 2 ∷ []) ∷ g.rest = entries_are ∙ ap (λ (ess : List (List ℕ)). [] ∷ (1 ∷ []) ∷ ess) g.are in
      record {
        drawing = g.drawing;
        rest = map plains g.rest;
        built = g.built;
        entries = ap (map plains) (sym all);
        whole = whole_so (low, high) (omega arith, omega arith) g.built (omega (arith, count, ap (λ (ess : List (List ℕ)). length ess) g.are, length-map g.rest plains));
      }

-- its order file is the one that the import writes
pub order_of_lem : (τ : Style) (f : Flat) (g : DrawnOf τ f) → read_order τ (order_file f.n (points f)) ≡ good g.drawing
order_of_lem τ f g =
    let file : write_order g.drawing ≡ order_file f.n (points f) =
    write_built g.built g.whole.full ∙ ap (order_bytes f.n 1) g.entries ∙ sym (order-plain f.n (points f))
    in
    subst (λ (bs : List ℕ). read_order τ bs ≡ good g.drawing) file (subst (λ (σ : Style). read_order σ (write_order g.drawing) ≡ good g.drawing) (listed g.built).is_style (order-written g.drawing g.whole))
