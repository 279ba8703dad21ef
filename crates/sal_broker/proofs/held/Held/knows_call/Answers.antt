use Rattle.sal_broker.proofs.held.Held.knows_call.Goals as goal

pub returns : goal.returns
returns c = c.keeps_tokens.ensures.called _ c.requires
