use Rattle.std.proofs.Common.{arith}
use Rattle.sal.proofs.Texts.{none_is_short, still_short}
use Rattle.sal.proofs.modules.are_short.Goals as goal

pub returns-then-bytes-room : goal.returns-then-bytes-room
returns-then-bytes-room c = none_is_short c.args.texts.now c.loop-text.text-index _ c.loop-text.room c.loop-text-test.true c.loop-text.invariant c.if-bytes-room.true

pub loop-text-preserved : goal.loop-text-preserved
loop-text-preserved c =
    let fits = c.if-bytes-room.false in
    still_short c.args.texts.now c.loop-text.text-index _ c.loop-text.room c.loop-text-test.true c.loop-text.invariant (omega (arith, fits))
