-- The paths that a transaction with checked reads read are known to its operations until it is submitted.
use Rattle.std.specs.Prelude.{◌≡◌, ℕ, true, List, ◌++◌, Some, Ok}
use Rattle.sal_types.specs.declared.value.Store.{Store}
use Rattle.sal_types.specs.declared.value.Step.{Step}
use Rattle.sal_types.specs.declared.row.Row.{Row}
use Rattle.sal_rows.specs.declared.op.Op.{Op}
use Rattle.sal_rows.specs.declared.outcome.Mode.TheVariants.{Checked}
use Rattle.sal_rows.specs.Reads.{is_known, recorded}
use Rattle.sal_schema.specs.declared.table.SchemaTable.{SchemaTable}
use Rattle.sal_pathtext.specs.Read.{read_path}
use Rattle.sal_rules.specs.declared.fault.TxFault.TheVariants.{ParentMissing}
use Rattle.sal_rules.specs.Refusals.{refusal}
use Rattle.sal_history.specs.declared.call.Entry.{Entry}
use Rattle.sal_history.specs.World.{Domain}
use Rattle.sal_script.specs.declared.reply.StepReply.{StepReply}
use Rattle.sal_script.specs.declared.reply.StepReply.TheVariants.{Refused}
use Rattle.sal_script.specs.declared.reply.StepRefusal.TheVariants.{Write}
use Rattle.sal_script.specs.Moves.{Move}
use Rattle.sal_script.specs.Play.{Client, Meeting, Open, local, look, meet, seen_by, with_ops, write_op}
use Rattle.sal_script.specs.Tables.{Versions}

-- The client did this local step. The transaction in the slot has read the path, which is then known to its operations.
pub record Answers (slot : ℕ) (store : Store) (path : List Step) (tx : Open) (client : Client) (r : StepReply) (met : Meeting) : Type 0 where
  pub answered : met ≡ local r (with_ops slot (recorded Checked store path tx.ops) tx client)
  pub known : is_known (recorded Checked store path tx.ops) store path ≡ true

-- The reply to a read of a path is from the rows that the transaction sees. The path is then known.
abbrev pub LooksAreKnown : Type 0
LooksAreKnown =
    (table : SchemaTable) (world : List Domain) (log : List Entry) (f : Open → List Step → List Row → StepReply) (slot : ℕ) (store : Store) (text : List ℕ) (path : List Step) (client : Client) (tx : Open)
    → tx.mode ≡ Checked → read_path table text ≡ Ok path
    → Answers slot store path tx client (f tx path (seen_by world log tx store)) (look table world log f slot store text client (Some tx))

-- So is a parent for which a write was refused.
abbrev pub MissedParentsAreKnown : Type 0
MissedParentsAreKnown =
    (table : SchemaTable) (world : List Domain) (log : List Entry) (slot : ℕ) (op : Op) (parent : List Step) (client : Client) (tx : Open)
    → tx.mode ≡ Checked → refusal table (seen_by world log tx op.store) op ≡ Some (ParentMissing parent)
    → Answers slot op.store parent tx client (Refused (Write tx.domain (ParentMissing parent))) (write_op table world log slot op tx client)

-- A known path stays known in longer lists.
abbrev pub KnownStays : Type 0
KnownStays = (ops more : List Op) (store : Store) (path : List Step) → is_known ops store path ≡ true → is_known (ops ++ more) store path ≡ true

-- a transaction like this one, with further operations
pub record Grows (tx new : Open) : Type 0 where
  pub more : List Op
  pub same : new ≡ record tx { ops = tx.ops ++ more }

-- For each local step of a client: each of its transactions stays, and gets at most further operations. So it is submitted with all
-- its reads.
abbrev pub TransactionsGrow : Type 0
TransactionsGrow =
    (tables : List Versions) (world : List Domain) (log : List Entry) (client next : Client) (step : Move) (r : StepReply)
    → meet tables world log client step ≡ local r next
    → (slot : ℕ) (tx : Open) → client.transactions slot ≡ Some tx → (new : Open) × (next.transactions slot ≡ Some new) × Grows tx new
