-- Laws of the chains of a log: what a submission saw of its chain is what the chain's commits wrote, none conflicts with a
-- commit of its own chain, and commits have the order of receipts.
use Rattle.std.specs.Prelude.{◌≡◌, ℕ, false, ◌<◌, List, length, take, Some, None, slice_get}
use Rattle.sal_types.specs.declared.value.Store.{Store}
use Rattle.sal_types.specs.declared.value.Step.{Step}
use Rattle.sal_rows.specs.declared.outcome.ClashKind.{ClashKind}
use Rattle.sal_rows.specs.declared.outcome.Outcome.TheVariants.{Conflict, Done}
use Rattle.sal_rows.specs.Spans.{is_of_chain}
use Rattle.sal_history.specs.World.{Domain}
use Rattle.sal_history.specs.declared.call.Entry.{Entry}
use Rattle.sal_history.specs.Submissions.{Sent, failing}
use Rattle.sal_history.specs.History.{history, outcomes, sents}
use Rattle.sal_history.specs.Laws.{IsBase}

-- A receipt of a chain that had not failed when it was decided: its base trees are those at its base commit with the later
-- commits of the chain applied, also if it began before they were commits.
abbrev pub OwnCommitsAreOnTop : Type 0
OwnCommitsAreOnTop =
    (world : List Domain) (log : List Entry) (i : ℕ) (s : Sent) (chain : ℕ)
    → slice_get (sents (history world log)) i ≡ Some s → i < length (outcomes (history world log))
    → s.base.chain ≡ Some chain → failing (Some chain) (sents (history world log)) (take i (outcomes (history world log))) ≡ None
    → IsBase world (sents (history world log)) (take i (outcomes (history world log))) s.base

-- Receipt i is submission s, and was decided as a conflict with a commit; receipt j is submission t of the same domain, and
-- was done as that commit: then t is not of the chain of s.
abbrev pub NoConflictInAChain : Type 0
NoConflictInAChain =
    (world : List Domain) (log : List Entry) (i j : ℕ) (s t : Sent) (store : Store) (path : List Step) (kind : ClashKind) (commit : ℕ)
    → slice_get (sents (history world log)) i ≡ Some s → slice_get (outcomes (history world log)) i ≡ Some (Conflict store path kind commit)
    → slice_get (sents (history world log)) j ≡ Some t → slice_get (outcomes (history world log)) j ≡ Some (Done commit)
    → t.base.domain ≡ s.base.domain
    → is_of_chain s.base.chain t.base.chain ≡ false

-- Two receipts of one domain that were done are commits in the order of the receipts, in one chain or not.
abbrev pub CommitsStandInOrder : Type 0
CommitsStandInOrder =
    (world : List Domain) (log : List Entry) (i j : ℕ) (s t : Sent) (a b : ℕ)
    → i < j
    → slice_get (sents (history world log)) i ≡ Some s → slice_get (outcomes (history world log)) i ≡ Some (Done a)
    → slice_get (sents (history world log)) j ≡ Some t → slice_get (outcomes (history world log)) j ≡ Some (Done b)
    → s.base.domain ≡ t.base.domain
    → a < b
