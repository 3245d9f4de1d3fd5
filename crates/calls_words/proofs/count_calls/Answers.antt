-- `calls_words::count_calls` meets its contract: the calls found so far and those from `at` on are all the calls.
use Rattle.std.proofs.Common.{◌<◌, length, ap, arith}
use Rattle.calls_words.specs.Rests.{no_calls, end_low, end-high, rest-calls}
use Rattle.calls_words.proofs.count_calls.Goals as goal

pub loop-at-preserved : goal.loop-at-preserved
loop-at-preserved c =
    let ws = c.args.calls.now in
    let at = c.loop-at.at in
    let h : at < length ws = omega arith in
    rw c.end_of-at.ensures (end-high ws at h, omega (arith, end_low ws at h), omega (arith, ap length (rest-calls ws at h)))

pub returns : goal.returns
returns c =
    let ws = c.args.calls.now in
    omega (arith, ap length (no_calls ws c.loop-at.at (omega arith)))
