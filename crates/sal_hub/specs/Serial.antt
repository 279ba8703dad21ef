-- The reads and writes of the done transactions of a log, if they are applied one after another in the order of their commits.
use Rattle.std.specs.Prelude.{◌≡◌, ◌-◌, ◌++◌, ℕ, List, [], Some, slice_get}
use Rattle.sal_types.specs.declared.row.Row.{Row}
use Rattle.sal_types.specs.declared.value.Step.{Step}
use Rattle.sal_types.specs.declared.value.Store.{Store}
use Rattle.sal_types.specs.Tree.{under}
use Rattle.sal_rows.specs.declared.op.Op.{Op}
use Rattle.sal_rows.specs.declared.outcome.Mode.TheVariants.{Checked}
use Rattle.sal_rows.specs.declared.outcome.Outcome.TheVariants.{Done}
use Rattle.sal_rows.specs.Apply.{apply_ops}
use Rattle.sal_rows.specs.Reads.{recorded}
use Rattle.sal_history.specs.History.{Answered, outcomes, sents, trees_at}
use Rattle.sal_history.specs.Submissions.{Sent, done}
use Rattle.sal_history.specs.Versions.{tables_now}
use Rattle.sal_history.specs.World.{Domain, opening_of}
use Rattle.sal_history_laws.specs.Lawful.{AreLawful}
use Rattle.sal_history_laws.specs.Serial.{AreSerial, IsSerialisable, ReadsAlike}

-- the submission with this index was done, as this commit of its domain
abbrev pub IsDone : List Answered → ℕ → Sent → ℕ → Type 0
IsDone answered i t commit = (slice_get (sents answered) i ≡ Some t) × (slice_get (outcomes answered) i ≡ Some (Done commit))

-- the trees of its domain just before that commit
abbrev pub just_before : List Domain → List Answered → Sent → ℕ → Store → List Row
just_before world answered t commit s = trees_at world answered t.base.domain s (commit - 1)

pub record AreSerialised (world : List Domain) (answered : List Answered) : Type 0 where
  -- they give the trees of the log
  pub log : IsSerialisable world answered
  -- each reads what it read in the log, for the reads that are among its operations
  pub reads : (domain : ℕ) → AreSerial (λ t. Unit {0}) (opening_of world domain) (done domain (sents answered) (outcomes answered))
  -- so its reads have the same results just before its commit
  pub receipt : (i : ℕ) (t : Sent) (commit : ℕ) → IsDone answered i t commit → ReadsAlike (just_before world answered t commit) t
  -- in mode `Checked` each single read is among its operations: one after the operations `ops`, and before `more`
  pub read : (i : ℕ) (t : Sent) (commit : ℕ) (s : Store) (path : List Step) (ops more : List Op) → IsDone answered i t commit → t.ops ≡ recorded Checked s path ops ++ more
      → under (apply_ops (t.base.trees s) s ops) path ≡ under (apply_ops (just_before world answered t commit s) s ops) path
  -- and each of its writes would have been accepted just before its commit
  pub writes : (i : ℕ) (t : Sent) (commit : ℕ) → IsDone answered i t commit → AreLawful (tables_now world answered t.base.domain) (just_before world answered t commit) [] t.ops
