use Rattle.std.proofs.Common.{◌≤◌, ◌<◌, length, arith}
use Rattle.sal_lint.proofs.Counting.{place_of-within}
use Rattle.sal_lint.proofs.places.counted.Goals as goal

pub after-place-requires-clause-line : goal.after-place-requires-clause-line
after-place-requires-clause-line c =
    let within = place_of-within c.args.text.now c.loop-i.i (omega (arith, c.requires.within, c.loop-i-test.true)) in
    grind (arith, within.0)

pub after-place-requires-clause-column : goal.after-place-requires-clause-column
after-place-requires-clause-column c =
    let within = place_of-within c.args.text.now c.loop-i.i (omega (arith, c.requires.within, c.loop-i-test.true)) in
    grind (arith, within.1)
