-- `planar_numbering::number_next` meets its contract: the vertex is the rules' next, its entries are gathered, and the boundary is put anew.
use Rattle.std.proofs.Common.{arith}
use Rattle.planar_numbering.specs.Next.{some_chosen, chosen_is, i_low, i_high, v_in, gatherable, len_byte, put_within, put_distinct, next_numbered}
use Rattle.planar_numbering.proofs.number_next.Goals as goal

pub unwrap-t-requires : goal.unwrap-t-requires
unwrap-t-requires c = some_chosen c.requires.0 c.requires.1 c.choose.ensures

pub bounds-vertices-t : goal.bounds-vertices-t
bounds-vertices-t c =
    let r = c.requires.0 in
    let k = c.requires.1 in
    let b = c.as_slice-vertices.ensures in
    let i = chosen_is r k c.choose.ensures c.unwrap-t.ensures in
    omega (arith, i_high r k b i)

pub overflow_sub-left : goal.overflow_sub-left
overflow_sub-left c =
    let r = c.requires.0 in
    let k = c.requires.1 in
    let b = c.as_slice-vertices.ensures in
    let i = chosen_is r k c.choose.ensures c.unwrap-t.ensures in
    i_low r k b i

pub bounds-vertices-t-2 : goal.bounds-vertices-t-2
bounds-vertices-t-2 c =
    let r = c.requires.0 in
    let k = c.requires.1 in
    let b = c.as_slice-vertices.ensures in
    let i = chosen_is r k c.choose.ensures c.unwrap-t.ensures in
    omega (arith, i_high r k b i)

pub overflow_add-right : goal.overflow_add-right
overflow_add-right c =
    let r = c.requires.0 in
    let k = c.requires.1 in
    let b = c.as_slice-vertices.ensures in
    let i = chosen_is r k c.choose.ensures c.unwrap-t.ensures in
    omega (arith, i_high r k b i)

pub bounds-vertices-t-3 : goal.bounds-vertices-t-3
bounds-vertices-t-3 c =
    let r = c.requires.0 in
    let k = c.requires.1 in
    let b = c.as_slice-vertices.ensures in
    let i = chosen_is r k c.choose.ensures c.unwrap-t.ensures in
    i_high r k b i

pub gather_entries-e-requires : goal.gather_entries-e-requires
gather_entries-e-requires c =
    let r = c.requires.0 in
    let k = c.requires.1 in
    let b = c.as_slice-vertices.ensures in
    let i = chosen_is r k c.choose.ensures c.unwrap-t.ensures in
    (v_in r k b i, gatherable r k b i, r.arrays.ent_size)

pub overflow_cast-points : goal.overflow_cast-points
overflow_cast-points c =
    let r = c.requires.0 in
    let k = c.requires.1 in
    let b = c.as_slice-vertices.ensures in
    let i = chosen_is r k c.choose.ensures c.unwrap-t.ensures in
    let w = c.gather_entries-e.ensures in
    omega (arith, len_byte r k b i w)

pub overflow_sub-t : goal.overflow_sub-t
overflow_sub-t c =
    let r = c.requires.0 in
    let k = c.requires.1 in
    let b = c.as_slice-vertices.ensures in
    let i = chosen_is r k c.choose.ensures c.unwrap-t.ensures in
    i_low r k b i

pub without-requires-clause-within : goal.without-requires-clause-within
without-requires-clause-within c =
    let r = c.requires.0 in
    let k = c.requires.1 in
    let b = c.as_slice-vertices.ensures in
    let i = chosen_is r k c.choose.ensures c.unwrap-t.ensures in
    let w = c.gather_entries-e.ensures in
    put_within r k b i w

pub without-requires-clause-different : goal.without-requires-clause-different
without-requires-clause-different c =
    let r = c.requires.0 in
    let k = c.requires.1 in
    let b = c.as_slice-vertices.ensures in
    let i = chosen_is r k c.choose.ensures c.unwrap-t.ensures in
    let w = c.gather_entries-e.ensures in
    put_distinct r k b i w

pub returns : goal.returns
returns c =
    let r = c.requires.0 in
    let k = c.requires.1 in
    let b = c.as_slice-vertices.ensures in
    let i = chosen_is r k c.choose.ensures c.unwrap-t.ensures in
    let w = c.gather_entries-e.ensures in
    next_numbered r k b i w c.without.ensures
