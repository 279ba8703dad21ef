-- The log that was found last begins with all that the seat had seen, too.
use Rattle.std.proofs.Common.{◌≡◌, List, Option, Some, [], sym, subst}
use Rattle.std.specs.Prelude.{unwrap_or}
use mathlib.Core.List.{IsPrefix}
use Rattle.sal_history.specs.World.{Domain}
use Rattle.sal_history.specs.declared.call.Entry.{Entry}
use Rattle.sal_hub.specs.HubHistory.{HubHistory}
use Rattle.sal_broker.specs.Seats.{Holding, SeatView, known}
use Rattle.sal_broker.specs.Tokens.{TokensStay, with_log}
use Rattle.sal_broker.proofs.sal.Sal.enter_after.Goals as goal

stay : ((hub : HubHistory) (log : List Entry) → IsPrefix hub.log log → TokensStay hub (with_log hub log)) → (v : SeatView) (found : HubHistory) → v.ground ≡ Some found.world → IsPrefix v.seen found.log → TokensStay (known v) found
stay law v found world seen = subst (λ (o : Option (List Domain)). TokensStay (known v) (record { world = unwrap_or o []; log = found.log })) world (law (known v) found.log seen)

pub returns-then-has_mark-clause-tokens : goal.returns-then-has_mark-clause-tokens
returns-then-has_mark-clause-tokens g c =
    let v = c.args.seat.view in
    subst (λ (h : Holding). TokensStay (known v) h.found) (sym c.has_mark.ensures.same) (stay c.tokens_stay.ensures v c.loop.held.found c.loop.invariant.world c.loop.invariant.seen)

pub returns-clause-tokens : goal.returns-clause-tokens
returns-clause-tokens g c = stay c.tokens_stay.ensures c.args.seat.view c.loop.held.found c.loop.invariant.world c.loop.invariant.seen
