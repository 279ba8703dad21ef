-- The view of a transaction, and the invariant of its operations.
use Rattle.std.specs.Prelude.{◌≡◌, ◌≢◌, ◌⊎◌, ℕ, ◌+◌, ◌*◌, ◌-◌, ◌<◌, ◌^◌, Bool, true, false, List, [], ◌∷◌, ◌++◌, Option, None, Some, Result, MatchResult}
use Rattle.sal_types.specs.declared.value.Store.{Store}
use Rattle.sal_types.specs.declared.value.Store.TheVariants.{Config, Oper}
use Rattle.sal_types.specs.declared.value.Step.{Step}
use Rattle.sal_rows.specs.declared.op.Op.{Op}
use Rattle.sal_rows.specs.declared.outcome.Mode.{Mode}
use Rattle.sal_rows.specs.declared.outcome.Mode.TheVariants.{Ro, Wo, Rw, Checked}
use Rattle.sal_types.specs.Tree.{under}
use Rattle.sal_rows.specs.Apply.{apply_ops, is_read, rows_of_act}
use Rattle.sal_rows.specs.Reads.{recorded}
use Rattle.sal_rows.specs.Touch.{touches}
use Rattle.sal_node.specs.Tree.{Tree}
use Rattle.sal_tree.specs.Follows.{Follows, exactly}
use Rattle.sal_tree.specs.Rows.{rows_of}
pub use Rattle.sal_tree.specs.Stores.{rows_in, tree_in}
use Rattle.sal_tree.specs.declared.commit.Pair.{Pair}
use Rattle.sal_schema.specs.declared.table.SchemaTable.{SchemaTable}
use Rattle.sal_rules.specs.Writes.{IsForSchema}
use Rattle.sal_tx.specs.declared.writing.Writing.{Writing}
use Rattle.sal_rules.specs.declared.fault.TxFault.{TxFault}
use Rattle.sal_rules.specs.declared.fault.TxFault.TheVariants.{WriteOnly, NotConfig, KeyLeaf, ParentMissing, RootPath, NoMemory}
use Rattle.sal_rules.specs.Refusals.{refusal}

-- the stamp of a transaction that began at an index of the log
abbrev pub stamp_of : ℕ → ℕ
stamp_of place = 2 * place + 2

-- One tree is another one after the operations of a store: by its rows, and by stamps that say what was touched.
pub record IsAfter (stamp : ℕ) (store : Store) (ops : List Op) (base view : Tree) : Type 0 where
  pub rows : rows_of view ≡ apply_ops (rows_of base) store ops
  pub stamps : Follows (exactly stamp) (touches (rows_of base) store ops) base view

-- Each operation but a read is one for the schema and is not refused over the trees after those before it. A read may be of any path.
abbrev pub AreLawful : SchemaTable → Pair → List Op → List Op → Type 0
AreLawful table base earlier [] = Unit {0}
AreLawful table base earlier (op ∷ ops) =
    (is_read op.act ≡ false → IsForSchema table op × (refusal table (apply_ops (rows_in base op.store) op.store earlier) op ≡ None))
    × AreLawful table base (earlier ++ op ∷ []) ops

-- The rows of each operation are at or below its path.
abbrev pub LieBelow : List Op → Type 0
LieBelow [] = Unit {0}
LieBelow (op ∷ ops) = (under (rows_of_act op.act) op.path ≡ rows_of_act op.act) × LieBelow ops

-- its operations are lawful
pub record IsRight (w : Writing) : Type 0 where
  pub writes : w.mode ≢ Ro
  pub low : w.begun.place < 2 ^ 63 - 1
  pub lawful : AreLawful w.begun.schema.value w.base [] w.changes

-- ---- the view

-- The trees are a base after operations: by rows, and by stamps that say what was touched.
pub record IsSeen (stamp : ℕ) (ops : List Op) (base view : Pair) : Type 0 where
  pub config : IsAfter stamp Config ops base.config view.config
  pub oper : IsAfter stamp Oper ops base.oper view.oper

-- a transaction's view is its base after its operations
abbrev pub IsView : Writing → Pair → Type 0
IsView w view = IsSeen (stamp_of w.begun.place) w.changes w.base view

-- by rows alone
abbrev pub Shows : Pair → List Op → Pair → Type 0
Shows base ops view = (s : Store) → rows_in view s ≡ apply_ops (rows_in base s) s ops

-- both trees, with another one of a store
abbrev pub with_tree : Pair → Store → Tree → Pair
with_tree pair Config tree = record { config = tree; oper = pair.oper }
with_tree pair Oper tree = record { config = pair.config; oper = tree }

-- ---- reads

-- whether a transaction of the mode records its reads
abbrev pub records_reads : Mode → Bool
records_reads Ro = false
records_reads Wo = false
records_reads Rw = false
records_reads Checked = true

-- the transaction after a read of the path
abbrev pub after_read : Store → List Step → Writing → Writing
after_read s p w = record w { changes = recorded w.mode s p w.changes }

-- The transaction after a refused write to the store: a missing parent is read.
abbrev pub after_refusal : TxFault → Store → Writing → Writing
after_refusal (ParentMissing path) s w = after_read s path w
after_refusal WriteOnly s w = w
after_refusal (NotConfig path) s w = w
after_refusal (KeyLeaf path) s w = w
after_refusal RootPath s w = w
after_refusal NoMemory s w = w

-- ---- one write

-- why a write is refused, over the transaction's view
abbrev pub refused : Writing → Op → Option TxFault
refused w op = refusal w.begun.schema.value (apply_ops (rows_in w.base op.store) op.store w.changes) op

-- a tree of the store after one more operation that is not refused
pub record IsNext (w : Writing) (view : Pair) (op : Op) (tree : Tree) : Type 0 where
  pub allowed : refused w op ≡ None
  pub seen : IsSeen (stamp_of w.begun.place) (w.changes ++ op ∷ []) w.base (with_tree view op.store tree)

-- one more operation
abbrev pub HasOneMore : Writing → Op → Writing → Type 0
HasOneMore w op v =
    (v.changes ≡ w.changes ++ op ∷ []) × (v.begun ≡ w.begun) × (v.mode ≡ w.mode) × (v.base ≡ w.base) × IsRight v

-- A write that is done has added its operation. Any other was refused for its first cause, or memory ran out.
abbrev pub IsOutcome : Writing → Op → Writing → Result (Unit {0}) TxFault → Type 0
IsOutcome w op v answer =
    MatchResult answer (λ done. (refused w op ≡ None) × HasOneMore w op v)
    (λ e. (e ≡ NoMemory) ⊎ (refused w op ≡ Some e))
