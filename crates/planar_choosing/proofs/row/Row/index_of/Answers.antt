-- `planar_choosing::Row::index_of` meets its contract: 0 tells that v stands nowhere.
use Rattle.std.specs.Option.{SomeIff}
use Rattle.std.proofs.Common.{ℕ, ◌-◌, ◌<◌, ◌≤◌, ◌≡◌, Option, Some, None, get_or, sym, ◌∙◌, arith, ap}
use Rattle.planar_choosing.specs.Rows.{found_index, row_none, row_some}
use Rattle.planar_choosing.proofs.row.Row.index_of.Goals as goal

-- what is one below q, if anything
below : {x : Option ℕ} (o : Option ℕ) (q : ℕ) → SomeIff o (1 ≤ q) (q - 1) → (q ≡ 0 → x ≡ None) → (0 < q → x ≡ Some (q - 1)) → o ≡ x
below None q h a b = sym (a (omega (arith, h)))
below (Some y) q h a b = ap (λ i. Some i) h.1 ∙ sym (b h.0)

pub returns-clause-index : goal.returns-clause-index
returns-clause-index c =
    let r = c.self.inside in
    let i = c.self.invariant in
    let e = c.from-2.ensures ∙ ap (λ v. get_or r.stands v 0) c.from.ensures in
    let all = below _ c.from-2.result c.checked_sub.ensures
    (λ q. row_none r.vertices r.stands r.count (omega (arith, i)) i.2 c.args.v (omega (arith, e)))
    (λ q. row_some r.vertices r.stands r.count (omega (arith, i)) i.2 c.args.v (omega (arith, e)) ∙ ap (λ k. Some (k - 1)) (sym e)) in
    all ∙ ap (λ b. found_index b c.args.v) c.self.view_is
