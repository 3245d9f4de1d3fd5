-- `look_cut` meets its contract: the first cut line of the arrays that ends at p is one of the drawing's.
use Rattle.std.proofs.Common.{sym, ◌∙◌}
use Rattle.store_looking.specs.Cuts.{finds}
use Rattle.store_looking.proofs.look_cut.Goals as goal

pub returns : goal.returns
returns c = λ q h. finds h c.args.p (sym c.is_point.ensures ∙ c.if-not-is_point.false) c.first_cut.result c.first_cut.ensures
