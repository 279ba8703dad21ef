-- The listeners are those of the log.
use Rattle.std.proofs.Common.{ap, sym, ◌∙◌, subst}
use Rattle.sal_history.specs.declared.call.Call.TheVariants.{Take}
use Rattle.sal_hub.specs.HubHistory.{HubHistory}
use Rattle.sal_hub.specs.Tokens.{IsListener}
use Rattle.sal_hub.specs.Waiting.{would_give}
use Rattle.sal_hub.proofs.hub.Hub.has_commits.Goals as goal

pub has_commits-requires-clause-kept : goal.has_commits-requires-clause-kept
has_commits-requires-clause-kept c = c.self.invariant.kept

pub has_commits-requires-clause-listeners : goal.has_commits-requires-clause-listeners
has_commits-requires-clause-listeners c = c.self.invariant.listeners

pub has_commits-requires-clause-token : goal.has_commits-requires-clause-token
has_commits-requires-clause-token c = subst (λ (known : HubHistory). IsListener known c.args.id) (sym c.self.view_is) c.requires.token

pub returns : goal.returns
returns c = c.has_commits.ensures ∙ ap (λ (known : HubHistory). would_give known c.args.client (Take c.args.id.number)) c.self.view_is
