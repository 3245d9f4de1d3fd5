-- `read_groups::entry_at` meets its contract.
use Rattle.std.specs.Prelude.{ℕ, ◌+◌, ◌-◌}
use Rattle.std.proofs.Common.{ap, ◌∙◌}
use Rattle.words.specs.Bytes.{word_at}
use Rattle.read_groups.proofs.Forms.{no_form, in_form}
use Rattle.read_groups.proofs.entry_at.Goals as goal

pub returns-then-point-ge-POINT_LIMIT : goal.returns-then-point-ge-POINT_LIMIT
returns-then-point-ge-POINT_LIMIT c = no_form _ c.args.line.now.file.now c.args.line.now.at c.requires _ c.word_at-point.ensures c.if-point-ge-POINT_LIMIT.true

pub returns : goal.returns
returns c =
    let l = c.args.line.now in
    let at = ap (λ (n : ℕ). word_at l.file.now (l.at + (n - 2))) c.line_size-last.ensures.value in
    c.join.ensures ∙ in_form c.args.style l.file.now l.at c.requires _ c.word_at-point.ensures c.if-point-ge-POINT_LIMIT.false _ _ (c.word_at.ensures ∙ at) c.kind_from-kind.ensures
