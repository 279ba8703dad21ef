-- The operation of a write's texts and values, or why there is none.
use Rattle.std.specs.Prelude.{ℕ, List, Result, Ok, Err}
use Rattle.serde_json.specs.View.{view}
use Rattle.sal_types.specs.declared.value.Store.{Store}
use Rattle.sal_types.specs.declared.value.Step.{Step}
use Rattle.sal_rows.specs.declared.op.Act.{Act}
use Rattle.sal_rows.specs.declared.op.Op.{Op}
use Rattle.sal_schema.specs.declared.table.SchemaTable.{SchemaTable}
use Rattle.sal_pathtext.specs.declared.fault.PathTextFault.{PathTextFault}
use Rattle.sal_data.specs.declared.fault.DataFault.{DataFault}
use Rattle.sal_script.specs.declared.reply.StepRefusal.{StepRefusal}
use Rattle.sal_script.specs.declared.reply.StepRefusal.TheVariants.{BadPath, BadData}
use Rattle.sal_script.specs.Moves as asked
use Rattle.sal_script.specs.Moves.{Move}
use Rattle.sal_script.specs.Play.{DataAct, putting, merging, deleting, act_of, op_of}
use Rattle.sal_client.specs.declared.operations.JsonAct.{JsonAct}
use Rattle.sal_client.specs.declared.operations.JsonAct.TheVariants.{Put, Merge, Delete}

-- the act of a write, with the JSON data of its value
abbrev pub data_act_of : JsonAct → DataAct
data_act_of (Put value) = putting (view value.now)
data_act_of (Merge value) = merging (view value.now)
data_act_of Delete = deleting

-- the step of this write
abbrev pub write_move : ℕ → Store → List ℕ → DataAct → Move
write_move slot store text (putting value) = asked.Put slot store text value
write_move slot store text (merging value) = asked.Merge slot store text value
write_move slot store text deleting = asked.Delete slot store text

-- the data that was read of a value for a domain
abbrev pub good_data : {X : Type 0} → ℕ → Result X DataFault → Result X StepRefusal
good_data domain (Ok x) = Ok x
good_data domain (Err fault) = Err (BadData domain fault)

-- the operation at a path of the domain, where its act was read so
abbrev pub op_at : ℕ → Store → List Step → Result Act DataFault → Result Op StepRefusal
op_at domain store path (Ok act) = Ok (op_of store path act)
op_at domain store path (Err fault) = Err (BadData domain fault)

-- the operation, where its path was read so
abbrev pub op_by : SchemaTable → ℕ → Store → DataAct → Result (List Step) PathTextFault → Result Op StepRefusal
op_by table domain store data_act (Ok path) = op_at domain store path (act_of table path data_act)
op_by table domain store data_act (Err fault) = Err (BadPath fault)
