-- The walk is at its end.
use Rattle.std.proofs.Common.{◌+◌, ◌≤◌, None, length, min, refl, sym, ◌∙◌, arith}
use Rattle.sal_retell.specs.Light.{failing_on}
use Rattle.sal_retell.proofs.Ends.{failing_none}
use Rattle.sal_retell.proofs.Walks.{both_all}
use Rattle.sal_retell.proofs.queries.failing.Goals as goal

pub returns : goal.returns
returns c =
    let sent = c.args.sent.now in
    let done = c.args.done.now in
    let i = c.loop-i.i in
    let chain = c.args.chain in
    let end : min (length sent) (length done) ≤ i = omega (arith, c.loop-i-test.false, c.min-i-end.ensures) in
    sym (both_all (failing_on (i + 1) chain) None (λ ys. refl) (failing_none (i + 1) chain) sent done i end) ∙ c.loop-i.invariant
