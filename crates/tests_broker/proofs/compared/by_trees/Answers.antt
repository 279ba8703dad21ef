-- Neighbours agree.
use Rattle.tests_broker.proofs.compared.by_trees.Goals as goal

pub changes-requires : goal.changes-requires
changes-requires c = (c.requires.agreed c.args.number c.commit_at-before.result.now c.commit_at-after.result.now c.requires.number c.commit_at-before.ensures c.commit_at-after.ensures).0
