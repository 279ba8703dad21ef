-- Laws of checked reads.
use Rattle.std.specs.Prelude.{◌≡◌, ℕ, true, ◌-◌, List, [], ◌++◌, Some, slice_get}
use Rattle.sal_types.specs.declared.value.Store.{Store}
use Rattle.sal_types.specs.declared.value.Step.{Step}
use Rattle.sal_types.specs.declared.row.Row.{Row}
use Rattle.sal_types.specs.Tree.{under}
use Rattle.sal_rows.specs.declared.op.Op.{Op}
use Rattle.sal_rows.specs.declared.outcome.Mode.TheVariants.{Checked}
use Rattle.sal_rows.specs.declared.outcome.Outcome.TheVariants.{Done}
use Rattle.sal_rows.specs.Apply.{apply_ops}
use Rattle.sal_rows.specs.Reads.{is_known, recorded}
use Rattle.sal_history.specs.declared.call.Entry.{Entry}
use Rattle.sal_history.specs.History.{history, outcomes, sents, trees_at}
use Rattle.sal_history.specs.Submissions.{Sent}
use Rattle.sal_history.specs.Versions.{tables_now}
use Rattle.sal_history.specs.World.{Domain}
use Rattle.sal_history_laws.specs.Lawful.{AreLawful}
use Rattle.sal_history_laws.specs.Logs.{AreSentLawful, AreSound}
use Rattle.sal_history_laws.specs.Serial.{IsOfBegun, IsSerialisable, ReadsAlike}

-- Each log is serialisable, for any modes of its transactions: for the reads that they recorded.
abbrev pub LogsAreSerialisable : Type 0
LogsAreSerialisable = (world : List Domain) (log : List Entry) → IsSerialisable world (history world log)

-- By receipts: the recorded reads of a done transaction have the same results over the trees just before its commit.
abbrev pub ReadsStand : Type 0
ReadsStand =
    (world : List Domain) (log : List Entry) (i : ℕ) (t : Sent) (commit : ℕ)
    → slice_get (sents (history world log)) i ≡ Some t → slice_get (outcomes (history world log)) i ≡ Some (Done commit) → IsOfBegun (history world log) t
    → ReadsAlike (λ s. trees_at world (history world log) t.base.domain s (commit - 1)) t

-- So does each single read of a transaction in mode `Checked`, after these operations and before more.
abbrev pub EachReadStands : Type 0
EachReadStands =
    (world : List Domain) (log : List Entry) (i : ℕ) (t : Sent) (commit : ℕ) (s : Store) (path : List Step) (ops more : List Op)
    → slice_get (sents (history world log)) i ≡ Some t → slice_get (outcomes (history world log)) i ≡ Some (Done commit) → IsOfBegun (history world log) t
    → t.ops ≡ recorded Checked s path ops ++ more
    → under (apply_ops (t.base.trees s) s ops) path ≡ under (apply_ops (trees_at world (history world log) t.base.domain s (commit - 1)) s ops) path

-- In mode `Checked` a path is known once it was read, and recording a read changes nothing that the transaction sees.
abbrev pub RecordedReadsAreKnown : Type 0
RecordedReadsAreKnown =
    (tree : List Row) (t s : Store) (path : List Step) (ops : List Op)
    → (is_known (recorded Checked s path ops) s path ≡ true) × (apply_ops tree t (recorded Checked s path ops) ≡ apply_ops tree t ops)

-- The same for writes. If the openings are closed and the submissions of the log lawful, as in each hub's log: each write of a
-- transaction that was accepted over its base would be accepted over the trees just before its commit.
abbrev pub AcceptedWritesStand : Type 0
AcceptedWritesStand =
    (world : List Domain) (log : List Entry) (i : ℕ) (t : Sent) (commit : ℕ) → AreSound world → AreSentLawful world (history world log)
    → slice_get (sents (history world log)) i ≡ Some t → slice_get (outcomes (history world log)) i ≡ Some (Done commit)
    → AreLawful (tables_now world (history world log) t.base.domain) (λ s. trees_at world (history world log) t.base.domain s (commit - 1)) [] t.ops
