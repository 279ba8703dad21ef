-- The changed nodes of the newest trees have the fresh stamp, which is greater than theirs.
use Rattle.std.proofs.Common.{◌+◌}
use Rattle.sal_commit.specs.Stamps.{first_receipt}
use Rattle.sal_commit.proofs.Following.{can-follow}
use Rattle.sal_commit.proofs.phases.pre.Goals as goal

pub returns-clause-follows : goal.returns-clause-follows
returns-clause-follows c =
    let d = c.args.ready.domain.now in
    let sub = c.args.ready.sub.now in
    can-follow d.commits.items (first_receipt d.commits.items + sub.receipt) c.in_ok-fresh.fresh sub.changes c.in_ok-trees.trees c.requires.given.kept.opened d.following
    (record { own = c.in_ok-fresh.ensures.stamp; later = c.requires.later })
    c.in_ok-trees.ensures.follows c.in_ok-commit.commit c.in_ok-commit.ensures.trees c.in_ok-commit.ensures.receipt c.in_ok-commit.ensures.ops
