-- What a call that fetches would give its client, if it was made now.
use Rattle.std.specs.Prelude.{ℕ, Bool, true, false, length, nat_lt}
use Rattle.sal_history.specs.declared.call.Call.{Call}
use Rattle.sal_history.specs.declared.reply.Reply.{Reply}
use Rattle.sal_history.specs.declared.reply.Reply.TheVariants.{Batch, Notes, Output, Request}
use Rattle.sal_history.specs.History.{reply}
use Rattle.sal_hub.specs.HubHistory.{HubHistory, entry_of}

-- The reply hands something over: a request, the rows of an answer, some notifications, or the changes of a batch that reaches a later
-- commit than the one before. Those commits may have changed nothing at the listener's path.
abbrev pub gives : Reply → Bool
gives (Request request) = true
gives (Output rpc rows) = true
gives (Notes list) = nat_lt 0 (length list)
gives (Batch domain batch) = nat_lt batch.from batch.to
gives reply = false

-- the reply to the client's call, if it was made now
abbrev pub would_give : HubHistory → ℕ → Call → Bool
would_give known client call = gives (reply known.world known.log (entry_of known client call))
