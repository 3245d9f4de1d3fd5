-- `planar_judging::join` meets its contract: the two labels are one already, or all of v's are given u's.
use Rattle.std.proofs.Common.{ℕ, ap, sym, ◌∙◌, get_or}
use Rattle.planar_judging.specs.Laws.{merged_same, merged_all}
use Rattle.planar_judging.proofs.join.Goals as goal

pub returns-then-a-b : goal.returns-then-a-b
returns-then-a-b c =
    let at : ℕ → ℕ = λ i. get_or c.args.labels.now i 0 in
    merged_all (ap at c.from.ensures) (ap at c.from-2.ensures) c.relabel.ensures

pub returns-else-a-b : goal.returns-else-a-b
returns-else-a-b c =
    let at : ℕ → ℕ = λ i. get_or c.args.labels.now i 0 in
    merged_same (ap at (sym c.from.ensures) ∙ c.if-a-b.false ∙ ap at c.from-2.ensures)
