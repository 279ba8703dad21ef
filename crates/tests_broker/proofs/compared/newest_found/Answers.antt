-- Neighbouring commits of the domain agree.
use Rattle.std.proofs.Common.{List, sym, subst}
use Rattle.sal_tree.specs.declared.commit.Commit.{Commit}
use Rattle.sal_delta.specs.Agreed.{AreAgreed}
use Rattle.sal_commit.proofs.Following.{AreAgreed-following}
use Rattle.tests_broker.proofs.compared.newest_found.Goals as goal

pub found_twice-requires-clause-agreed : goal.found_twice-requires-clause-agreed
found_twice-requires-clause-agreed c = subst (λ (commits : List Commit). AreAgreed commits) (sym c.deref.ensures.value) (AreAgreed-following c.args.domain.now.commits.items c.args.domain.now.following)
