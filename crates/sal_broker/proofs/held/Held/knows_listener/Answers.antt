use Rattle.sal_broker.proofs.held.Held.knows_listener.Goals as goal

pub returns : goal.returns
returns c = c.keeps_tokens.ensures.listener _ c.requires
