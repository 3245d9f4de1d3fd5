-- `planar_numbering::row_of` meets its contract: the vertices are copied to the start of an array.
use Rattle.std.proofs.Common.{refl, ◌∙◌, length}
use Rattle.planar_numbering.specs.Boundary.{begins_apart, first_long, put_first}
use Rattle.planar_numbering.proofs.row_of.Goals as goal

pub new-requires : goal.new-requires
new-requires c =
    let e = c.copy_from_slice.ensures.after in
    (c.requires.0, begins_apart c.args.list.now _ (length c.args.list.now) c.requires.1 (first_long c.copy_from_slice.new.self _ (length c.args.list.now) e refl) (put_first c.copy_from_slice.new.self _ (length c.args.list.now) e refl))

pub returns : goal.returns
returns c = c.new.ensures ∙ put_first c.copy_from_slice.new.self _ (length c.args.list.now) c.copy_from_slice.ensures.after refl
