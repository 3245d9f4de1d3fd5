-- `planar_numbering::number_top` meets its contract: the place after place 0 names the vertex, and its entries are the boundary.
use Rattle.std.proofs.Common.{◌∙◌, arith}
use Rattle.planar_numbering.specs.Top.{e_in, top_in, top-gatherable, top_byte, top_entries, row_asks, top-numbered}
use Rattle.planar_numbering.proofs.number_top.Goals as goal

pub neighbour-v-requires : goal.neighbour-v-requires
neighbour-v-requires c = omega (arith, e_in c.requires c.after.ensures, c.requires.kept.few)

pub gather_entries-s-requires : goal.gather_entries-s-requires
gather_entries-s-requires c =
    let p = c.requires in
    rw (c.neighbour-v.ensures, c.neighbour-right.ensures) (top_in p c.after.ensures, top-gatherable p c.after.ensures, p.ent_size)

pub overflow_cast-points : goal.overflow_cast-points
overflow_cast-points c = omega (arith, top_byte c.requires c.after.ensures (rw (c.neighbour-v.ensures, c.neighbour-right.ensures) at c.gather_entries-s.ensures))

pub row_of-requires : goal.row_of-requires
row_of-requires c = row_asks c.requires c.after.ensures (rw (c.neighbour-v.ensures, c.neighbour-right.ensures) at c.gather_entries-s.ensures)

pub returns : goal.returns
returns c =
    let p = c.requires in
    let e = c.after.ensures in
    let w = rw (c.neighbour-v.ensures, c.neighbour-right.ensures) at c.gather_entries-s.ensures in
    rw c.neighbour-v.ensures (top-numbered p e w (c.from-k.ensures ∙ c.n.ensures) (c.row_of.ensures ∙ top_entries p e w))
