-- Replies that no script has: the greatest number, a conflict at the root, nodes that the schema does not have, a domain that does not
-- exist, and faults that no script has.
use Rattle.std.specs.Prelude.{List, [], ◌∷◌}
use Rattle.sal_types.specs.declared.value.Store.TheVariants.{Config, Oper}
use Rattle.sal_rows.specs.declared.outcome.CallFault.TheVariants as call_fault
use Rattle.sal_rows.specs.declared.outcome.ClashKind.TheVariants.{Deleted}
use Rattle.sal_rows.specs.declared.outcome.Outcome.TheVariants.{Conflict, Done, Invalid}
use Rattle.sal_rows.specs.declared.outcome.Rule.TheVariants.{TwoCases}
use Rattle.sal_rules.specs.declared.fault.TxFault.TheVariants as tx_fault
use Rattle.sal_json.specs.declared.fault.ScalarFault.TheVariants as scalar_fault
use Rattle.sal_pathtext.specs.declared.fault.PathTextFault.TheVariants as path_fault
use Rattle.sal_data.specs.declared.fault.DataFault.TheVariants as data_fault
use Rattle.sal_history.specs.declared.reply.Reply.TheVariants as reply
use Rattle.sal_script.specs.declared.reply.StepReply.{StepReply}
use Rattle.sal_script.specs.declared.reply.StepReply.TheVariants.{Called, Read, Refused}
use Rattle.sal_script.specs.declared.reply.StepRefusal.TheVariants.{BadData, BadPath, Write}

abbrev pub outcomes : List StepReply
outcomes =
    Called (reply.Settled 0 (Done 18446744073709551615))
    ∷ Called (reply.Settled 0 (Conflict Oper [] Deleted 6))
    ∷ Called (reply.Settled 0 (Invalid Config [] (TwoCases 99)))
    ∷ Called (reply.Output 99 [])
    ∷ []

abbrev pub faults : List StepReply
faults =
    Called (reply.Refused call_fault.HistoryFull)
    ∷ Called (reply.Refused call_fault.NoMemory)
    ∷ Called (reply.Refused call_fault.TxSpent)
    ∷ Called (reply.Refused (call_fault.ProviderTaken 99))
    ∷ []

abbrev pub refusals : List StepReply
refusals =
    Read 9 [] []
    ∷ Refused (BadPath path_fault.NoMemory)
    ∷ Refused (BadData 0 data_fault.NoMemory)
    ∷ Refused (BadData 0 (data_fault.BadScalar [] scalar_fault.NoMemory))
    ∷ Refused (Write 0 tx_fault.NoMemory)
    ∷ []

abbrev pub notes : List StepReply
notes = Called (reply.Notes (record { note = 99; rows = [] } ∷ [])) ∷ []
