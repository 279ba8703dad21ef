use Rattle.std.proofs.Common.{◌<◌, length, arith}
use Rattle.std.proofs.lemmas.Grind.{common_steps}
use Rattle.sal_grouping.proofs.IndexLists.{pick-at}
use Rattle.sal_grouping.proofs.index.pick.Goals as goal

pub returns-in_ok-push-clause-each : goal.returns-in_ok-push-clause-each
returns-in_ok-push-clause-each c =
    let within : c.in-Some.b < length c.args.all.now.items = grind (arith, common_steps) in
    let at = pick-at c.args.all.now.items c.in-Some.b c.in-Some-value.k c.index_mut.result.now c.push.new.self within c.index_mut.ensures.value c.in_ok-push.ensures.items in
    rw (c.in-Some.is, c.in-Some-value.is) at
