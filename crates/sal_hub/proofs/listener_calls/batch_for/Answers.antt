-- Neighbouring commits of the domain agree.
use Rattle.std.proofs.Common.{List, sym, subst}
use Rattle.sal_tree.specs.declared.commit.Commit.{Commit}
use Rattle.sal_delta.specs.Agreed.{AreAgreed}
use Rattle.sal_commit.proofs.Following.{AreAgreed-following}
use Rattle.sal_hub.proofs.listener_calls.batch_for.Goals as goal

pub batch-requires-clause-agreed : goal.batch-requires-clause-agreed
batch-requires-clause-agreed c = subst (λ (commits : List Commit). AreAgreed commits) (sym c.deref-2.ensures.value) (AreAgreed-following c.args.domain.now.commits.items c.args.domain.now.following)
