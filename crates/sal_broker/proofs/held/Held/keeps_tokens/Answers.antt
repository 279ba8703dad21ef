-- The log that was found begins with what the seat has seen.
use Rattle.std.proofs.Common.{subst}
use Rattle.sal_broker.specs.Seats.{Holding, known}
use Rattle.sal_broker.specs.Tokens.{TokensStay}
use Rattle.sal_broker.proofs.held.Held.keeps_tokens.Goals as goal

pub returns : goal.returns
returns c =
    let inner = c.self.inside.inner in
    subst (λ (h : Holding). TokensStay (known h.view) h.found) c.self.view_is (c.tokens_stay.ensures (known inner.view) inner.found c.self.invariant.1)
