-- Snapshot isolation: what each transaction reads, and which transactions are concurrent.
use Rattle.std.specs.Prelude.{◌≡◌, ◌⊎◌, ◌<◌, ◌≤◌, ℕ, false, List, drop, length, take, Some, slice_get}
use Rattle.std.specs.List.{filter, fold}
use Rattle.sal_types.specs.declared.value.Store.{Store}
use Rattle.sal_types.specs.declared.value.Step.{Step}
use Rattle.sal_types.specs.Tree.{has}
use Rattle.sal_rows.specs.declared.outcome.Outcome.TheVariants.{Done}
use Rattle.sal_rows.specs.Commits.{touches_at}
use Rattle.sal_rows.specs.Spans.{is_of_chain, is_own}
use Rattle.sal_history.specs.Answered.{Answered}
use Rattle.sal_history.specs.History.{commits, outcomes, sents, trees_at}
use Rattle.sal_history.specs.Submissions.{Base, Sent, done_chains, done_ops, is_in}
use Rattle.sal_history.specs.World.{Domain, opening_of}
use Rattle.sal_history_laws.specs.Serial.{played}

-- ---- what a transaction reads

-- A chain's submissions after the first n receipts, in their order; there are none without a chain.
abbrev pub own_after : Base → ℕ → List Sent → List Sent
own_after b n before = filter (is_in b.chain) (drop n before)

-- The trees that a transaction sees before its own writes, if it began after these submissions: for some number n of receipts that were
-- decided, the trees at the last commit among these, and on top of them the submissions of its own chain after these receipts. So each other
-- transaction is in them whole or not at all.
pub record ReadsOneCommit (world : List Domain) (answered : List Answered) (before : List Sent) (b : Base) : Type 0 where
  pub receipts : ℕ
  pub decided : receipts ≤ length (outcomes answered)
  pub commit : b.commit ≡ length (done_ops b.domain (sents answered) (take receipts (outcomes answered)))
  pub trees : (s : Store) → b.trees s ≡ fold played (λ u. trees_at world answered b.domain u b.commit) (own_after b receipts before) s

-- ---- concurrent transactions

-- receipt i is of this submission, and was done as the commit
abbrev pub IsDoneAs : List Answered → ℕ → Sent → ℕ → Type 0
IsDoneAs answered i t commit = (slice_get (sents answered) i ≡ Some t) × (slice_get (outcomes answered) i ≡ Some (Done commit))

-- Two done transactions of a domain are concurrent, t the later one: t did not see the other one, whose commit k came after the base commit of
-- t, and is none of its chain.
pub record AreConcurrent (t : Sent) (commit : ℕ) (u : Sent) (k : ℕ) : Type 0 where
  pub domain : u.base.domain ≡ t.base.domain
  pub after : t.base.commit < k
  pub before : k < commit
  pub foreign : is_of_chain t.base.chain u.base.chain ≡ false

-- The commits after the first number, up to the second, are all ones that t did not see: they came after its base commit and before its own, and
-- none is of its chain.
pub record AreUnseen (answered : List Answered) (t : Sent) (commit from to : ℕ) : Type 0 where
  pub after : t.base.commit ≤ from
  pub before : to < commit
  pub foreign : (m : ℕ) → from < m → m ≤ to → is_own t.base.chain (done_chains t.base.domain (sents answered) (outcomes answered)) m ≡ false

-- What commit k made at or below the path was deleted again: nothing was there before such commits, one of which is k, and nothing after them.
pub record IsGoneAgain (world : List Domain) (answered : List Answered) (t : Sent) (commit k : ℕ) (s : Store) (path : List Step) : Type 0 where
  pub from : ℕ
  pub to : ℕ
  pub unseen : AreUnseen answered t commit from to
  pub past : from < k
  pub upto : k ≤ to
  pub absent : has (trees_at world answered t.base.domain s from) path ≡ false
  pub again : has (trees_at world answered t.base.domain s to) path ≡ false

-- Commit k left no change at or below the path: it touched nothing there, or what it made there was deleted again.
abbrev pub LeftNoChange : List Domain → List Answered → Sent → ℕ → ℕ → Store → List Step → Type 0
LeftNoChange world answered t commit k s path =
    (touches_at (opening_of world t.base.domain) (commits answered t.base.domain) s path k ≡ false) ⊎ IsGoneAgain world answered t commit k s path
