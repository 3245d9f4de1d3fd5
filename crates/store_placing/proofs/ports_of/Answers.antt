-- Where no port changes, all reach.
use Rattle.std.proofs.Common.{Some, ◌+◌, ◌≡◌, true, sym, ap, ◌∙◌, arith}
use Rattle.store_links.specs.Placing.{all_reach_from, inner_count}
use Rattle.store_placing.specs.Ports.{no_change}
use Rattle.store_tables.specs.Tables.{arrays_in}
use Rattle.store_placing.proofs.ports_of.Goals as goal

pub returns-then-from-last : goal.returns-then-from-last
returns-then-from-last c =
    let f = c.change_at-from in
    let a = c.args in
    let last : f.result ≡ 1 + inner_count a.e.now = omega (arith, c.if-from-last.true) in
    let all : all_reach_from a.p (arrays_in a.table.now).gap (arrays_in a.table.now).ys a.e.now 1 (inner_count a.e.now) ≡ true =
    no_change a.p (arrays_in a.table.now).gap (arrays_in a.table.now).ys a.e.now 1 (inner_count a.e.now) (sym f.ensures ∙ last) in
    rw all (ap Some f.ensures)
