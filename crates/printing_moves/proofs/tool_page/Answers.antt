-- `printing_moves::tool_page` meets its contract: the moves listed are those of the file read, and the buffers have room for them.
use Rattle.std.proofs.Common.{arith}
use Rattle.rules.specs.OrderFile.{read_order}
use Rattle.tool.specs.Checking.{whole_tool}
use Rattle.panel_asked.specs.Read.{came-read, drew-read}
use Rattle.printing_listed.proofs.Counts.{order_roomy}
use Rattle.printing_moves.specs.Paging.{moves_in, within, shown}
use Rattle.printing_moves.proofs.tool_page.Goals as goal

pub moves_from-listed-requires : goal.moves_from-listed-requires
moves_from-listed-requires c = came-read _ _ _ c.read_order-drawn.ensures

pub finish-requires : goal.finish-requires
finish-requires c =
    let order = c.args.order.now in
    let lists = c.moves_from-listed.ensures (read_order c.args.style order) (drew-read _ _ _ c.read_order-drawn.ensures) in (
      within c.requires.kinds-long c.requires.numbers-long (moves_in c.args.style order c.args.t) (order_roomy c.args.style order (whole_tool c.args.t)) lists,
      omega (arith, c.requires.page_long),
      omega (arith, c.requires.page_long, c.requires.kinds-long),
    )

pub returns : goal.returns
returns c =
    let order = c.args.order.now in
    let lists = c.moves_from-listed.ensures (read_order c.args.style order) (drew-read _ _ _ c.read_order-drawn.ensures) in
    c.finish.ensures (moves_in c.args.style order c.args.t) (shown c.requires.kinds-long c.requires.numbers-long (moves_in c.args.style order c.args.t) (order_roomy c.args.style order (whole_tool c.args.t)) lists)
