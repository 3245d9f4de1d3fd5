-- `look_line` meets its contract: the line read from the arrays is the drawing's, and bends where the rules say, or nowhere.
use Rattle.store_looking.specs.Lines.{line-bends, line_seen_lem, straight_seen}
use Rattle.store_looking.proofs.look_line.Goals as goal

pub bend_of-requires : goal.bend_of-requires
bend_of-requires c = line-bends c.requires.0.holds c.requires.1 c.args.e c.if-d-e.false

pub returns-in_default : goal.returns-in_default
returns-in_default c =
    λ q h. straight_seen h c.requires.1 c.args.e c.if-d-e.false c.in_default.is

pub returns : goal.returns
returns c =
    λ q h. rw c.bend_of.ensures (line_seen_lem h c.requires.1 c.args.e c.if-d-e.false c.in-OneBend.is)
