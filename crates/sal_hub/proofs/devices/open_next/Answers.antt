-- One more domain is after the others.
use Rattle.std.proofs.Common.{sym, subst}
use Rattle.std.proofs.lemmas.List.Elements.{All-push}
use Rattle.sal_graft.specs.Kept.{AreKept}
use Rattle.sal_commit.specs.declared.domain.Domain.{Domain}
use Rattle.sal_hub.specs.PipelineView.{AllKept}
use Rattle.sal_hub.proofs.devices.open_next.Goals as goal

pub returns-clause-kept : goal.returns-clause-kept
returns-clause-kept c all = subst AllKept (sym c.in_ok-add.ensures) (All-push (λ (x : Domain). AreKept x.commits.items) c.args.domains.now.items c.in_ok-domain.domain all c.in_ok-domain.ensures.kept)
