use Rattle.std.proofs.Common.{◌≡◌, rules}
use Rattle.sal_listen.proofs.Given.{untouched-part}
use Rattle.sal_listen.proofs.batches.add_part.Goals as goal

pub returns-then-stamp : goal.returns-then-stamp
returns-then-stamp c =
    let same : c.args.commit.now.before.now.stamp ≡ c.args.commit.now.after.now.stamp = search rules in
    untouched-part c.args.listened.now.own c.args.commit.now.before.now c.args.commit.now.after.now c.args.listened.now.path.now c.args.number c.args.into.now.items c.node-before.ensures.whole c.requires.agree same
