-- The outcomes are those of the log.
use Rattle.std.proofs.Common.{◌≡◌, length, ap, ◌∙◌, nat_le, nat_lt}
use Rattle.std.specs.Prelude.{◌&&◌}
use Rattle.sal_history.specs.History.{history, outcomes}
use Rattle.sal_hub.proofs.Waiting.{decided_is}
use Rattle.sal_hub.proofs.hub.Hub.is_decided.Goals as goal

pub returns : goal.returns
returns c =
    let known = c.args.self.now in
    let count : length c.outcomes.result.now ≡ length (outcomes (history known.world known.log)) = ap length c.outcomes.ensures in
    c.is_counted.ensures
    ∙ (λ i. nat_lt 0 (c.number.ensures i) && nat_le (c.number.ensures i) (count i))
    ∙ decided_is (outcomes (history known.world known.log)) c.args.receipt.number
