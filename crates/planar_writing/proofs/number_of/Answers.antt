-- `planar_writing::number_of` meets its contract: the index, or the length where there is none, is the rules' index_of.
use Rattle.std.specs.Prelude.{unwrap_or}
use Rattle.std.proofs.Common.{◌∙◌, ap, arith}
use Rattle.planar_choosing.specs.Rows.{found_index, index_or}
use Rattle.planar_writing.proofs.number_of.Goals as goal

pub returns : goal.returns
returns c =
    let b = c.args.by_point.now in
    let e = c.unwrap_or.ensures ∙ ap (λ o. unwrap_or o c.len.result) c.index_of.ensures.index ∙ ap (unwrap_or (found_index b c.args.v)) c.len.ensures.count ∙ index_or b c.args.v in
    omega (arith, e)
