-- Serialisable logs: the transactions, applied one after another, read what they read in the log and give the same trees.
use Rattle.std.specs.Prelude.{◌≡◌, ℕ, true, ◌-◌, ◌<◌, ◌≤◌, List, [], ◌∷◌, length, take, None, Some, slice_get}
use Rattle.std.specs.List.{fold}
use Rattle.sal_types.specs.declared.value.Store.{Store}
use Rattle.sal_types.specs.declared.value.Step.{Step}
use Rattle.sal_types.specs.declared.row.Row.{Row}
use Rattle.sal_types.specs.Tree.{under}
use Rattle.sal_rows.specs.declared.op.Op.{Op}
use Rattle.sal_rows.specs.declared.outcome.Outcome.TheVariants.{Done}
use Rattle.sal_rows.specs.Apply.{apply_ops}
use Rattle.sal_rows.specs.Reads.{is_known}
use Rattle.sal_history.specs.declared.reply.Reply.TheVariants.{Begun}
use Rattle.sal_history.specs.Answered.{Answered}
use Rattle.sal_history.specs.History.{began_at, commits, outcomes, sents, trees_at}
use Rattle.sal_history.specs.Submissions.{Base, Sent, done}
use Rattle.sal_history.specs.World.{Domain, opening_of}

-- ---- the reads of a transaction

-- A read of the path by a transaction over these trees, after the first n of its operations: the rows at and below the path.
abbrev pub rows_read : (Store → List Row) → List Op → ℕ → Store → List Step → List Row
rows_read trees ops n s path = under (apply_ops (trees s) s (take n ops)) path

-- Over these trees the transaction reads what it read over its base: at each index of its operations, each path that is
-- known there (`is_known`), that is, at or below a path that it read, put or deleted before. A transaction in mode
-- `Checked` has each of its reads among its operations, so each path that it reads is known.
abbrev pub ReadsAlike : (Store → List Row) → Sent → Type 0
ReadsAlike trees t = (n : ℕ) (s : Store) (path : List Step) → is_known (take n t.ops) s path ≡ true → rows_read trees t.ops n s path ≡ rows_read t.base.trees t.ops n s path

-- ---- one after another

-- the trees after a transaction that is applied to these
abbrev pub played : (Store → List Row) → Sent → Store → List Row
played trees t s = apply_ops (trees s) s t.ops

-- Transactions are applied one after another, the first to these trees, and each other one to those after the one before. Each of
-- them with `Holds` reads what it read in the log.
abbrev pub AreSerial : (Sent → Type 0) → (Store → List Row) → List Sent → Type 0
AreSerial Holds trees [] = Unit {0}
AreSerial Holds trees (t ∷ ts) = (Holds t → ReadsAlike trees t) × AreSerial Holds (played trees t) ts

-- ---- a log

-- The submission is of a transaction that an entry began. No caller submits another one.
abbrev pub IsOfBegun : List Answered → Sent → Type 0
IsOfBegun answered t = (place : ℕ) × (began_at answered place ≡ Some t.base)

-- The order is that of the commits of a domain; a transaction is of one domain.
pub record IsSerialisable (world : List Domain) (answered : List Answered) : Type 0 where
  -- the done transactions, applied in that order from the opening trees on, read what they read in the log
  pub reads : (domain : ℕ) → AreSerial (IsOfBegun answered) (opening_of world domain) (done domain (sents answered) (outcomes answered))
  -- and give the trees of the log: at each commit those after the transactions up to it
  pub trees : (domain k : ℕ) (s : Store) → trees_at world answered domain s k ≡ fold played (opening_of world domain) (take k (done domain (sents answered) (outcomes answered))) s
  -- each receipt that was done is in the order, at the number of its commit
  pub order : (i : ℕ) (t : Sent) (commit : ℕ) → slice_get (sents answered) i ≡ Some t → slice_get (outcomes answered) i ≡ Some (Done commit)
      → (0 < commit) × (slice_get (done t.base.domain (sents answered) (outcomes answered)) (commit - 1) ≡ Some t)
  -- A transaction that follows no pending submission sees the trees at its base commit. So one that only reads (mode `Ro`)
  -- has its place in the order directly after that commit. One that follows a pending submission of its chain has none in general.
  pub snapshots : (place : ℕ) (a : Answered) (b : Base) (commit : ℕ) → slice_get answered place ≡ Some a → a.began ≡ Some b → a.reply ≡ Begun commit None
      → (b.commit ≤ length (commits answered b.domain)) × ((s : Store) → b.trees s ≡ trees_at world answered b.domain s b.commit)
