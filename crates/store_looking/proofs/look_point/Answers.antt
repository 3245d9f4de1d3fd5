-- `look_point` meets its contract: the settled x and the heights are the drawing's.
use Rattle.std.proofs.Common.{sym, ◌∙◌, sub-one}
use Rattle.store_looking.specs.Places.{point_seen_lem}
use Rattle.store_looking.proofs.look_point.Goals as goal

pub returns : goal.returns
returns c = λ q h. rw (c.point.ensures, sub-one) (rw sub-one at (point_seen_lem h c.requires.1 c.args.p (sym c.is_point.ensures ∙ c.if-not-is_point.false)))
