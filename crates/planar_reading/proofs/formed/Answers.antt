-- `planar_reading::formed` meets its contract: the first test of 14 that fails decides.
use Rattle.std.proofs.Common.{sym, ◌∙◌, arith}
use Rattle.std.proofs.lemmas.List.{take_rest}
use Rattle.planar_rules.specs.PlanarCode.{opening}
use Rattle.planar_reading.specs.Laws.{begins_is, formed-short, formed_not, formed_small, formed-lists}
use Rattle.planar_reading.proofs.formed.Goals as goal

pub returns-then-file-lt-AT_LISTS : goal.returns-then-file-lt-AT_LISTS
returns-then-file-lt-AT_LISTS c = sym (formed-short c.args.file.now c.if-file-lt-AT_LISTS.true)

pub returns-then-not-starts_with : goal.returns-then-not-starts_with
returns-then-not-starts_with c =
    let bs = c.args.file.now in
    sym (formed_not bs (sym (begins_is opening bs) ∙ sym c.starts_with.ensures.value ∙ c.if-not-starts_with.true))

pub returns-then-n-lt-FEWEST_VERTICES : goal.returns-then-n-lt-FEWEST_VERTICES
returns-then-n-lt-FEWEST_VERTICES c =
    let bs = c.args.file.now in
    sym (formed_small bs (sym (begins_is opening bs) ∙ sym c.starts_with.ensures.value ∙ c.if-not-starts_with.false) c.if-n-lt-FEWEST_VERTICES.true)

pub returns : goal.returns
returns c =
    let bs = c.args.file.now in
    let opens = sym (begins_is opening bs) ∙ sym c.starts_with.ensures.value ∙ c.if-not-starts_with.false in
    c.well_listed.ensures ∙ rw (take_rest bs 16) (sym (formed-lists bs opens (omega arith) (omega (arith, c.type_inv.file 15))))
