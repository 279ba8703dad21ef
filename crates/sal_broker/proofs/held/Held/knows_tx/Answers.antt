use Rattle.sal_broker.proofs.held.Held.knows_tx.Goals as goal

pub returns : goal.returns
returns c = c.keeps_tokens.ensures.begun _ _ _ c.requires
