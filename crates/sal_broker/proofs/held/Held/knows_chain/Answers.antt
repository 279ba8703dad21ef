use Rattle.sal_broker.proofs.held.Held.knows_chain.Goals as goal

pub returns : goal.returns
returns c = c.keeps_tokens.ensures.opened _ c.requires
