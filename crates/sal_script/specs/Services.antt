-- The shared calls of the steps on services, or why the client makes none. RPCs, notifications and mounts are the
-- controller's own, so names, paths and values are read by the schema of domain 0. The first refusal is returned: of the slot, the
-- name, the path, then of the value.
use Rattle.std.specs.Prelude.{ℕ, List, Option, Some, None, Result, Ok, Err}
use Rattle.serde_json.specs.Data.{Data}
use Rattle.sal_types.specs.declared.value.Step.{Step}
use Rattle.sal_types.specs.declared.row.Row.{Row}
use Rattle.sal_types.specs.Reading.{◌>>=◌}
use Rattle.sal_schema.specs.declared.table.SchemaTable.{SchemaTable}
use Rattle.sal_pathtext.specs.declared.fault.PathTextFault.{PathTextFault}
use Rattle.sal_pathtext.specs.Read.{read_path}
use Rattle.sal_data.specs.declared.fault.DataFault.{DataFault}
use Rattle.sal_data.specs.Read.{read_data}
use Rattle.sal_history.specs.declared.call.Call.{Call}
use Rattle.sal_history.specs.declared.call.Call.TheVariants as made
use Rattle.sal_script.specs.declared.reply.StepRefusal.{StepRefusal}
use Rattle.sal_script.specs.declared.reply.StepRefusal.TheVariants.{EmptySlot, UnknownName, BadPath, BadData}
use Rattle.sal_script.specs.Messages.{input_of, message_at, note_called, output_of, rpc_called}

-- a request that the client took: its id, and the RPC
pub record Invocation : Type 0 where
  pub id : ℕ
  pub rpc : ℕ

-- a value, or why there is none
abbrev pub OrRefusal : Type 0 → Type 0
OrRefusal A = Result A StepRefusal

-- the value of the slot
abbrev pub in_slot : {A : Type 0} → Option A → OrRefusal A
in_slot None = Err EmptySlot
in_slot (Some x) = Ok x

-- the node of a name
abbrev pub if_known : Option ℕ → OrRefusal ℕ
if_known None = Err UnknownName
if_known (Some n) = Ok n

abbrev pub path_or : Result (List Step) PathTextFault → OrRefusal (List Step)
path_or (Err fault) = Err (BadPath fault)
path_or (Ok path) = Ok path

abbrev pub rows_or : Result (List Row) DataFault → OrRefusal (List Row)
rows_or (Err fault) = Err (BadData 0 fault)
rows_or (Ok rows) = Ok rows

module _ (table : SchemaTable) where
  -- the path that a text denotes
  abbrev pub path_of : List ℕ → OrRefusal (List Step)
  path_of text = path_or (read_path table text)

  -- the context of an RPC, if it is given
  abbrev pub context_of : Option (List ℕ) → OrRefusal (Option (List Step))
  context_of None = Ok None
  context_of (Some text) = path_of text >>= (λ path. Ok (Some path))

  -- the rows that a value denotes below an input, output or notification
  abbrev pub rows_of : ℕ → Data → OrRefusal (List Row)
  rows_of n value = rows_or (read_data table (message_at n) value)

  -- ---- RPCs

  abbrev pub provide : List ℕ → Option (List ℕ) → OrRefusal Call
  provide name context = if_known (rpc_called table name) >>= (λ rpc. context_of context >>= (λ at. Ok (made.Provide rpc at)))

  abbrev pub withdraw : List ℕ → Option (List ℕ) → OrRefusal Call
  withdraw name context = if_known (rpc_called table name) >>= (λ rpc. context_of context >>= (λ at. Ok (made.Withdraw rpc at)))

  abbrev pub invoke : List ℕ → Option (List ℕ) → Data → OrRefusal Call
  invoke name context value =
      if_known (rpc_called table name)
      >>= (λ rpc. context_of context
      >>= (λ at. rows_of (input_of table rpc) value
      >>= (λ input. Ok (made.Invoke rpc at input))))

  abbrev pub answer : Option Invocation → Data → OrRefusal Call
  answer request value = in_slot request >>= (λ r. rows_of (output_of table r.rpc) value >>= (λ output. Ok (made.Answer r.id output)))

  -- ---- notifications

  abbrev pub subscribe : List ℕ → OrRefusal Call
  subscribe name = if_known (note_called table name) >>= (λ note. Ok (made.Subscribe note))

  abbrev pub offer : List ℕ → Data → OrRefusal Call
  offer name value = if_known (note_called table name) >>= (λ note. rows_of note value >>= (λ rows. Ok (made.Offer note rows)))

  -- ---- mounts

  abbrev pub mount : ℕ → List ℕ → OrRefusal Call
  mount device text = path_of text >>= (λ path. Ok (made.Mount path device))

  abbrev pub mount_at : List ℕ → OrRefusal Call
  mount_at text = path_of text >>= (λ path. Ok (made.MountAt path))

-- the answer to the request of this id, which the client made
abbrev pub collect : Option ℕ → OrRefusal Call
collect id = in_slot id >>= (λ n. Ok (made.Collect n))
