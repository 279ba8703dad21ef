-- The commits of a domain agree by their stamps.
use Rattle.std.proofs.Common.{List, sym, subst}
use Rattle.sal_tree.specs.declared.commit.Commit.{Commit}
use Rattle.sal_delta.specs.Agreed.{AreAgreed}
use Rattle.sal_graft.specs.Kept.{AreKept}
use Rattle.sal_commit.proofs.Following.{AreAgreed-following}
use Rattle.sal_resume.proofs.frames.domain_frames.Goals as goal

pub export_on-requires-clause-agreed : goal.export_on-requires-clause-agreed
export_on-requires-clause-agreed c = subst (λ (commits : List Commit). AreAgreed commits) (sym c.deref.ensures.value) (AreAgreed-following c.args.domain.now.commits.items c.args.domain.now.following)

pub export_on-requires-clause-kept : goal.export_on-requires-clause-kept
export_on-requires-clause-kept c = subst (λ (commits : List Commit). AreKept commits) (sym c.deref.ensures.value) c.requires
