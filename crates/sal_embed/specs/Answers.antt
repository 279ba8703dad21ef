-- The result of one step of a client after a log, by the definitions of a played script.
use Rattle.std.specs.Prelude.{◌≡◌, ◌⊎◌, ◌≤◌, ℕ, List, [], ◌∷◌, length}
use Rattle.sal_history.specs.declared.call.Call.{Call}
use Rattle.sal_script.specs.Moves.{Move}
use Rattle.sal_script.specs.Play.{Client, local, meet, replied}
use Rattle.sal_script.specs.Tables.{Versions}
use Rattle.sal_script.specs.declared.fault.ScriptFault.{ScriptFault}
use Rattle.sal_script.specs.declared.fault.ScriptFault.TheVariants as script
use Rattle.sal_script.specs.declared.reply.StepReply.{StepReply}
use Rattle.sal_hub.specs.Answers.{limit}
use Rattle.sal_hub.specs.HubHistory.{HubHistory}
use Rattle.sal_client.specs.declared.client.ClientState.{ClientState}
use Rattle.sal_client.specs.declared.wish.RunFault.{RunFault}
use Rattle.sal_client.specs.declared.wish.RunFault.TheVariants.{HistoryFull, NoMemory}
use Rattle.sal_client.specs.declared.run.ClientRun.{ClientRun}
use Rattle.sal_client.specs.Clients.{Calls, IsSound, client_of}
use Rattle.sal_client.specs.Wishes.{GrowsAtMost}
use Rattle.sal_embed.specs.declared.fault.StepFault.{StepFault}
use Rattle.sal_embed.specs.declared.fault.StepFault.TheVariants as fault

-- The step is local, and the log is unchanged; or the client makes the step's shared call, which is one more entry.
-- The reply is not yet among its replies.
abbrev pub Answers : List Versions → ℕ → Move → StepReply → HubHistory → Client → HubHistory → Client → Type 0
Answers tables c step r known old known' next =
    ((meet tables known.world known.log old step ≡ local r next) × (known' ≡ known))
    ⊎ ((call : Call) × Calls tables r c known old step known' next call)

-- the step was answered, and the reply is the last of the client's replies
abbrev pub IsAnswered : List Versions → Move → HubHistory → ClientState → HubHistory → ClientState → Type 0
IsAnswered tables step known old known' new =
    (r : StepReply) × (next : Client) × Answers tables old.number step r known (client_of old) known' next × (client_of new ≡ replied r next)

-- the client is unchanged, in the definitions' form
pub record IsAsBefore (known : HubHistory) (old new : ClientState) : Type 0 where
  pub client : client_of new ≡ client_of old
  pub number : new.number ≡ old.number
  pub sound : IsSound known new

-- A step has no reply: the log is full, and hub and client are unchanged; or memory ran out, and then the log may have the call's
-- entry.
abbrev pub Stops : HubHistory → ClientState → HubHistory → ClientState → RunFault → Type 0
Stops known old known' new HistoryFull = (limit ≤ length known.log) × (known' ≡ known) × IsAsBefore known old new
Stops known old known' new NoMemory = GrowsAtMost old.number known known'

-- A call was not made: the log is full, and nothing has changed; or memory ran out.
abbrev pub Refuses : HubHistory → ClientRun → HubHistory → ClientRun → RunFault → Type 0
Refuses known old known' new HistoryFull = (limit ≤ length known.log) × (known' ≡ known) × (new ≡ old)
Refuses known old known' new NoMemory = GrowsAtMost old.client.number known known'

-- why bytes are no step
abbrev pub fault_of : ScriptFault → StepFault
fault_of (script.BadScript place) = fault.BadStep
fault_of script.NoMemory = fault.NoMemory
