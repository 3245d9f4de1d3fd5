-- `compare_last`: behind the end record nothing is left.
use Rattle.std.proofs.Common.{ap, sym, ◌∙◌, length, drop, rules}
use Rattle.rules.specs.Refusals.{answer}
use Rattle.rules.specs.DrawingFile.{compare_bytes}
use Rattle.read_comparing.specs.Parts.{last_passed}
use Rattle.write_drawings.proofs.Compared.{all_there}
use Rattle.write_drawings.proofs.compare_last.Goals as goal

pub returns : goal.returns
returns c =
    c.compare_end.ensures ∙ last_passed c.args.file.now _ c.args.at (sym c.compare_part.ensures ∙ c.in_ok-end.was) ∙
    ap (λ b. answer (compare_bytes c.args.at (drop c.args.at c.args.file.now) b)) (all_there c.new.ensures.at (ap length c.new.ensures.bytes) c.put_end.ensures (search rules))
