use Rattle.sal_broker.proofs.held.Held.knows_receipt.Goals as goal

pub returns : goal.returns
returns c = c.keeps_tokens.ensures.given _ c.requires
