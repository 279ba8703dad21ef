-- The hub's log and the client after a shared call.
use Rattle.std.specs.Prelude.{Result, Ok, Err}
use Rattle.sal_hub.specs.HubHistory.{HubHistory}
use Rattle.sal_script.specs.declared.reply.StepReply.{StepReply}
use Rattle.sal_client.specs.declared.client.ClientState.{ClientState}
use Rattle.sal_client.specs.declared.wish.RunFault.{RunFault}
use Rattle.sal_client.specs.declared.wish.Wish.{Wish}
use Rattle.sal_client.specs.Clients.{IsSound, Same, client_of}
use Rattle.sal_client.specs.Wishes.{GrowsBy, MakesFor, Stops}

-- the call of the wish was made: the log has its entry, the client its results; the reply is not yet among the replies
pub record IsMadeBy (wish : Wish) (known : HubHistory) (old : ClientState) (known' : HubHistory) (new : ClientState) (r : StepReply) : Type 0 where
  pub answers : MakesFor wish old.number known (client_of old) known' (client_of new) r
  pub grows : GrowsBy old.number known known'
  pub sound : IsSound known' new
  pub same : Same old new

-- or the client stops at it
abbrev pub Leaves : Wish → HubHistory → ClientState → HubHistory → ClientState → Result StepReply RunFault → Type 0
Leaves wish known old known' new (Ok r) = IsMadeBy wish known old known' new r
Leaves wish known old known' new (Err why) = Stops old.number known known' why
