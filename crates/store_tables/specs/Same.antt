-- The arrays are all of a table.
use Rattle.std.specs.Prelude.{ℕ, ◌≡◌, List, length, get_or, map}
use Rattle.std.proofs.Common.{sym, ap, ◌∙◌, ext_get_or}
use Rattle.std.proofs.Math.ListN.{get_or-map}
use Rattle.std.proofs.lemmas.List.{length-map}
use Rattle.store_links.specs.Arrays.{Arrays}
use Rattle.store_tables.specs.declared.Point.{Point}
use Rattle.store_tables.specs.declared.Table.{Table}
use Rattle.store_tables.specs.Tables.{arrays_in, no_point}

module _ (ps qs : List Point) where
  -- Points with the same column agree on that number.
  agree : (f : Point → ℕ) → map f ps ≡ map f qs → (i : ℕ) → f (get_or ps i no_point) ≡ f (get_or qs i no_point)
  agree f e i = sym (get_or-map f ps i no_point) ∙ ap (λ (l : List ℕ). get_or l i (f no_point)) e ∙ get_or-map f qs i no_point

-- Tables with the same arrays are the same.
pub table_same : (t t' : Table) → arrays_in t ≡ arrays_in t' → t ≡ t'
table_same t t' e =
    let long : length t.points ≡ length t'.points = sym (length-map t.points (λ (p : Point). p.next)) ∙ ap (λ (a : Arrays). length a.next) e ∙ length-map t'.points (λ (p : Point). p.next) in
    let at = agree t.points t'.points in
    let points : t.points ≡ t'.points = ext_get_or no_point t.points t'.points long (λ i il j.
    record {
      next = at (λ (p : Point). p.next) (ap (λ (a : Arrays). a.next) e) i j;
      gap = at (λ (p : Point). p.gap) (ap (λ (a : Arrays). a.gap) e) i j;
      owner = at (λ (p : Point). p.owner) (ap (λ (a : Arrays). a.owner) e) i j;
      y = at (λ (p : Point). p.y) (ap (λ (a : Arrays). a.ys) e) i j;
      dl = at (λ (p : Point). p.dl) (ap (λ (a : Arrays). a.dls) e) i j;
      dr = at (λ (p : Point). p.dr) (ap (λ (a : Arrays). a.drs) e) i j;
      h = at (λ (p : Point). p.h) (ap (λ (a : Arrays). a.hs) e) i j;
    }) in
    λ j. record { points = points j; lines = (e j).lines }
