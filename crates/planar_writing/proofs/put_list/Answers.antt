-- `planar_writing::put_list` meets its contract: after i turns the first i vertices stand in the buffer.
use Rattle.std.proofs.Common.{◌∙◌, arith, length-set}
use Rattle.planar_writing.proofs.Turns.{listing_more}
use Rattle.planar_writing.proofs.put_list.Goals as goal

pub loop-i-preserved : goal.loop-i-preserved
loop-i-preserved c =
    let l = c.loop-i in
    (length-set l.out l.i _ ∙ l.invariant.0, listing_more _ l.out c.args.vertices.now l.i (omega arith) l.invariant.1)
