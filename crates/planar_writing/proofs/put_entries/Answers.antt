-- `planar_writing::put_entries` meets its contract: behind the numbers before this one stands this one.
use Rattle.std.proofs.Common.{◌∷◌, [], take, arith}
use Rattle.std.proofs.lemmas.List.{map_more, length-map, length-take-le}
use Rattle.pages.specs.Pages.{words_both, pasted}
use Rattle.planar_rules.specs.PlanarCode.{point_of}
use Rattle.planar_writing.specs.Words.{numbers_of}
use Rattle.planar_writing.proofs.put_entries.Goals as goal

pub word-requires : goal.word-requires
word-requires c =
    let es = c.args.entries.now in
    let b = c.args.by_point.now in
    let i = c.loop-v.v-index in
    omega (arith, c.requires, c.loop-v.invariant.size, (pasted (numbers_of b (take i es)) c.loop-v.invariant).behind, length-map (take i es) (λ v. point_of b v), length-take-le i es (omega arith))

pub loop-v-preserved : goal.loop-v-preserved
loop-v-preserved c =
    let es = c.args.entries.now in
    let b = c.args.by_point.now in
    rw (map_more (λ v. point_of b v) es c.loop-v.v-index 0 (omega arith))
    (words_both (numbers_of b (take c.loop-v.v-index es)) (_ ∷ []) c.loop-v.invariant (rw c.number_of.ensures at c.word.ensures))
