-- The words of a report that are the same for all domains, and those by the table of one.
use Rattle.std.specs.Prelude.{ℕ, Bool, true, false, List, [], ◌∷◌, ◌++◌, Option, None, Some, codes, decimal}
use Rattle.sal_types.specs.declared.value.Store.{Store}
use Rattle.sal_types.specs.declared.value.Store.TheVariants.{Config, Oper}
use Rattle.sal_types.specs.declared.value.Step.{Step}
use Rattle.sal_types.specs.declared.row.Row.{Row}
use Rattle.sal_rows.specs.declared.outcome.ClashKind.{ClashKind}
use Rattle.sal_rows.specs.declared.outcome.ClashKind.TheVariants.{Changed, Created, Deleted}
use Rattle.sal_rows.specs.declared.outcome.Outcome.{Outcome}
use Rattle.sal_rows.specs.declared.outcome.Outcome.TheVariants.{Done, Conflict, Invalid, ChainFailed as FailedBy, Unmounted}
use Rattle.sal_rows.specs.declared.outcome.Rule.{Rule}
use Rattle.sal_rows.specs.declared.outcome.Rule.TheVariants.{Mandatory, MinElements, MaxElements, Unique, TwoCases}
use Rattle.sal_rows.specs.declared.outcome.CallFault.{CallFault}
use Rattle.sal_rows.specs.declared.outcome.CallFault.TheVariants.{HistoryFull, PipelineFull, NoDomain, NoListener, TooManyListeners, NoProvider, ProviderTaken, NoCall, NoteRejected, MountTaken, DeviceUsed, PreviousOpen, ChainFailed, ChainClosed, NoMemory, TxSpent, WrongVersion, UpgradeBreach}
use Rattle.sal_rpc.specs.declared.call.Request.{Request}
use Rattle.json.specs.Print.{quoted}
use Rattle.serde_json.specs.Written.{compact_text}
use Rattle.sal_schema.specs.declared.table.SchemaTable.{SchemaTable}
use Rattle.sal_json.specs.declared.fault.ScalarFault.{ScalarFault}
use Rattle.sal_json.specs.declared.fault.ScalarFault.TheVariants as scalar_fault
use Rattle.sal_pathtext.specs.declared.fault.PathTextFault.{PathTextFault}
use Rattle.sal_pathtext.specs.declared.fault.PathTextFault.TheVariants as path_fault
use Rattle.sal_pathtext.specs.Written.{written}
use Rattle.sal_data.specs.declared.fault.DataFault.{DataFault}
use Rattle.sal_data.specs.declared.fault.DataFault.TheVariants as data_fault
use Rattle.sal_data.specs.Written.{write_data}
use Rattle.sal_rules.specs.declared.fault.TxFault.{TxFault}
use Rattle.sal_rules.specs.declared.fault.TxFault.TheVariants as tx_fault
use Rattle.sal_script.specs.MessageData.{message_data, node_text}
use Rattle.sal_script.specs.Messages.{input_of, output_of}

-- a space and a number
abbrev pub number : ℕ → List ℕ
number n = 32 ∷ decimal n

abbrev pub store_text : Store → List ℕ
store_text Config = codes "config"
store_text Oper = codes "operational"

abbrev pub kind_text : ClashKind → List ℕ
kind_text Changed = codes "changed"
kind_text Created = codes "created"
kind_text Deleted = codes "deleted"

abbrev pub on_text : Option ℕ → List ℕ
on_text None = []
on_text (Some receipt) = codes " on" ++ number receipt

abbrev pub mount_text : Option ℕ → List ℕ
mount_text None = codes "none"
mount_text (Some domain) = codes "mount" ++ number domain

abbrev pub truth_text : Bool → List ℕ
truth_text true = codes "true"
truth_text false = codes "false"

-- ---- faults of texts and of data

abbrev pub scalar_text : ScalarFault → List ℕ
scalar_text scalar_fault.WrongKind = codes "wrong-kind"
scalar_text scalar_fault.OutOfRange = codes "out-of-range"
scalar_text scalar_fault.BadLength = codes "bad-length"
scalar_text scalar_fault.NoMatch = codes "no-match"
scalar_text scalar_fault.UnknownName = codes "unknown-name"
scalar_text scalar_fault.NoMemory = codes "no-memory"

abbrev pub path_fault_text : PathTextFault → List ℕ
path_fault_text (path_fault.BadText at) = codes "bad-text" ++ number at
path_fault_text (path_fault.UnknownNode at) = codes "unknown-node" ++ number at
path_fault_text (path_fault.BadPredicate at) = codes "bad-predicate" ++ number at
path_fault_text path_fault.TooDeep = codes "too-deep"
path_fault_text path_fault.NoMemory = codes "no-memory"

module _ (table : SchemaTable) where
  -- a space and the text of a path, as a JSON text
  abbrev pub path_text : List Step → List ℕ
  path_text path = 32 ∷ quoted (written table path)

  abbrev pub data_fault_text : DataFault → List ℕ
  data_fault_text (data_fault.UnknownMember path name) = codes "unknown-member" ++ (path_text path ++ (32 ∷ quoted name))
  data_fault_text (data_fault.NeedsModule path name) = codes "needs-module" ++ (path_text path ++ (32 ∷ quoted name))
  data_fault_text (data_fault.WrongShape path) = codes "wrong-shape" ++ path_text path
  data_fault_text (data_fault.MissingKey path) = codes "missing-key" ++ path_text path
  data_fault_text (data_fault.KeyDiffers path) = codes "key-differs" ++ path_text path
  data_fault_text (data_fault.DoubleEntry path) = codes "double-entry" ++ path_text path
  data_fault_text (data_fault.BadScalar path fault) = codes "bad-scalar" ++ (path_text path ++ (32 ∷ scalar_text fault))
  data_fault_text (data_fault.TooDeep path) = codes "too-deep" ++ path_text path
  data_fault_text data_fault.NoMemory = codes "no-memory"

  -- why a transaction refused a write, or a read
  abbrev pub tx_fault_text : TxFault → List ℕ
  tx_fault_text tx_fault.WriteOnly = codes "write-only"
  tx_fault_text (tx_fault.NotConfig path) = codes "not-config" ++ path_text path
  tx_fault_text (tx_fault.KeyLeaf path) = codes "key-leaf" ++ path_text path
  tx_fault_text (tx_fault.ParentMissing path) = codes "parent-missing" ++ path_text path
  tx_fault_text tx_fault.RootPath = codes "root-path"
  tx_fault_text tx_fault.NoMemory = codes "no-memory"

  -- ---- structural rules

  abbrev pub rule_text : Rule → List ℕ
  rule_text (Mandatory n) = codes "mandatory " ++ node_text table n
  rule_text (MinElements n) = codes "min-elements " ++ node_text table n
  rule_text (MaxElements n) = codes "max-elements " ++ node_text table n
  rule_text (Unique n) = codes "unique " ++ node_text table n
  rule_text (TwoCases n) = codes "two-cases " ++ node_text table n

  -- where a rule is broken, and which
  abbrev pub breach_text : List Step → Rule → List ℕ
  breach_text path rule = path_text path ++ (32 ∷ rule_text rule)

  -- ---- calls

  -- why a shared call was refused
  abbrev pub fault_text : CallFault → List ℕ
  fault_text HistoryFull = codes "history-full"
  fault_text PipelineFull = codes "pipeline-full"
  fault_text (NoDomain id) = codes "no-domain" ++ number id
  fault_text (NoListener id) = codes "no-listener" ++ number id
  fault_text TooManyListeners = codes "too-many-listeners"
  fault_text (NoProvider rpc) = codes "no-provider " ++ node_text table rpc
  fault_text (ProviderTaken rpc) = codes "provider-taken " ++ node_text table rpc
  fault_text (NoCall id) = codes "no-call" ++ number id
  fault_text (NoteRejected subscriber) = codes "note-rejected" ++ number subscriber
  fault_text (MountTaken id) = codes "mount-taken" ++ number id
  fault_text (DeviceUsed id) = codes "device-used" ++ number id
  fault_text PreviousOpen = codes "previous-open"
  fault_text (ChainFailed receipt) = codes "chain-failed" ++ number receipt
  fault_text ChainClosed = codes "chain-closed"
  fault_text NoMemory = codes "no-memory"
  fault_text TxSpent = codes "tx-spent"
  fault_text (WrongVersion have) = codes "wrong-version" ++ number have
  fault_text (UpgradeBreach store path rule) = codes "upgrade-breach " ++ (store_text store ++ breach_text path rule)

  -- a space, and the path of a context, or a dash if there is none
  abbrev pub context_text : Option (List Step) → List ℕ
  context_text None = codes " -"
  context_text (Some path) = path_text path

  -- a request with its input
  abbrev pub request_text : Request → List ℕ
  request_text r =
      codes "request" ++ (number r.id ++ (32 ∷ (node_text table r.rpc ++ (context_text r.context ++ (32 ∷ compact_text (message_data table (input_of table r.rpc) r.input))))))

  -- and its output
  abbrev pub output_text : ℕ → List Row → List ℕ
  output_text rpc rows = codes "output " ++ compact_text (message_data table (output_of table rpc) rows)

  abbrev pub outcome_text : Outcome → List ℕ
  outcome_text (Done commit) = codes "done" ++ number commit
  outcome_text (Conflict store path kind commit) =
      codes "conflict " ++ (store_text store ++ (path_text path ++ (32 ∷ (kind_text kind ++ number commit))))
  outcome_text (Invalid store path rule) = codes "invalid " ++ (store_text store ++ breach_text path rule)
  outcome_text (FailedBy receipt) = codes "chain-failed" ++ number receipt
  outcome_text (Unmounted domain) = codes "unmounted" ++ number domain

  -- ---- rows

  -- a space, and the rows at a path as JSON; without a row ` absent`, but at the root an empty object
  abbrev pub listened_text : List Step → List Row → List ℕ
  listened_text (step ∷ path) [] = codes " absent"
  listened_text path rows = 32 ∷ compact_text (write_data table path rows)

  -- the rows at a path as JSON; without a row `absent`, but at the root an empty object
  abbrev pub rows_text : List Step → List Row → List ℕ
  rows_text (step ∷ path) [] = codes "absent"
  rows_text path rows = codes "data " ++ compact_text (write_data table path rows)

  -- a space, and the rows of a tree as JSON
  abbrev pub tree_text : List Row → List ℕ
  tree_text rows = 32 ∷ compact_text (write_data table [] rows)
