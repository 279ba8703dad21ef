-- The arguments that are read for a step, or why they are refused.
use Rattle.std.specs.Prelude.{◌≡◌, Result, Ok, Err}
use Rattle.sal_types.specs.declared.memory.NoMemory.{NoMemory as Wanting}
use Rattle.sal_script.specs.declared.reply.StepRefusal.{StepRefusal}
use Rattle.sal_script.specs.declared.reply.StepReply.{StepReply}
use Rattle.sal_script.specs.declared.reply.StepReply.TheVariants as reply
use Rattle.sal_client.specs.declared.fault.StepFault.{StepFault}
use Rattle.sal_client.specs.declared.fault.StepFault.TheVariants.{Refused, NoMemory}

-- the definitions refuse it so; `NoMemory` has no condition
abbrev pub Refuses : {X : Type 0} → StepFault → Result X StepRefusal → Type 0
Refuses (Refused refusal) read = read ≡ Err refusal
Refuses NoMemory read = Unit {0}

-- it is what the definitions read, or their refusal
abbrev pub Reads : {X : Type 0} → Result X StepFault → Result X StepRefusal → Type 0
Reads (Ok x) read = read ≡ Ok x
Reads (Err fault) read = Refuses fault read

-- the reply to a step that is refused; there is none if memory ran out
abbrev pub IsRefusal : StepFault → Result StepReply Wanting → Type 0
IsRefusal (Refused refusal) (Ok r) = r ≡ reply.Refused refusal
IsRefusal (Refused refusal) (Err wanting) = ⊥
IsRefusal NoMemory (Ok r) = ⊥
IsRefusal NoMemory (Err wanting) = Unit {0}
