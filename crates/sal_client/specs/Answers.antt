-- The hub's replies, as replies to steps.
use Rattle.std.specs.Prelude.{◌≡◌, Result, Ok, Err}
use Rattle.sal_rows.specs.declared.outcome.CallFault.{CallFault}
use Rattle.sal_rows.specs.declared.outcome.CallFault.TheVariants.{HistoryFull, NoMemory}
use Rattle.sal_history.specs.declared.reply.Reply.{Reply}
use Rattle.sal_history.specs.declared.reply.Reply.TheVariants.{Refused}
use Rattle.sal_script.specs.declared.reply.StepReply.{StepReply}
use Rattle.sal_script.specs.declared.reply.StepReply.TheVariants.{Called}
use Rattle.sal_client.specs.declared.wish.RunFault.{RunFault}
use Rattle.sal_client.specs.Wishes.{IsStop}

-- the result as a reply, or the fault
abbrev pub said : {X : Type 0} → (X → Reply) → Result X CallFault → Result Reply CallFault
said good (Ok x) = Ok (good x)
said good (Err fault) = Err fault

-- the step has this reply: a fault is a reply too, unless it stops the client
abbrev pub IsAnswer : Result Reply CallFault → Result StepReply RunFault → Type 0
IsAnswer (Ok reply) (Ok r) = r ≡ Called reply
IsAnswer (Ok reply) (Err stop) = ⊥
IsAnswer (Err fault) (Ok r) = (r ≡ Called (Refused fault)) × (fault ≡ HistoryFull → ⊥) × (fault ≡ NoMemory → ⊥)
IsAnswer (Err fault) (Err stop) = IsStop fault stop
