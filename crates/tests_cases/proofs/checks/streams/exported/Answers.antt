-- The commits of a domain agree by their stamps.
use Rattle.std.proofs.Common.{List, sym, subst}
use Rattle.sal_tree.specs.declared.commit.Commit.{Commit}
use Rattle.sal_delta.specs.Agreed.{AreAgreed}
use Rattle.sal_commit.proofs.Following.{AreAgreed-following}
use Rattle.tests_cases.proofs.checks.streams.exported.Goals as goal

pub export-requires : goal.export-requires
export-requires c =
    subst (λ (commits : List Commit). AreAgreed commits) (sym c.deref.ensures.value) (AreAgreed-following c.args.domain.now.commits.items c.args.domain.now.following)
