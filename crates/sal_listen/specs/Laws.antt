-- Laws of the batches of a listener. `trees` are the trees of its store at the commits, by their numbers.
use Rattle.std.specs.Prelude.{◌≡◌, ℕ, ◌≤◌, Bool, List}
use Rattle.sal_types.specs.declared.value.Step.{Step}
use Rattle.sal_types.specs.declared.row.Row.{Row}
use Rattle.sal_types.specs.Tree.{under, IsAscending}
use Rattle.sal_rows.specs.declared.batch.Batch.{Batch}
use Rattle.sal_rows.specs.Batches.{batch, opened}
use Rattle.sal_listen.specs.Following.{AreBatches, end_of, parts_in, with_batches}

-- The batches of a listener, applied to the rows of its opening, give the rows under its path at the commit of the last batch.
abbrev pub BatchesCarryTheOpening : Type 0
BatchesCarryTheOpening =
    (own : Bool) (trees : ℕ → List Row) (p : List Step) (k : ℕ) (bs : List Batch) → ((j : ℕ) → IsAscending (trees j)) → AreBatches own trees p k bs
    → with_batches (opened trees p k).rows bs ≡ under (trees (end_of k bs)) p

-- The batches of a listener have the parts of the one batch over all their commits: they neither overlap nor have gaps.
abbrev pub BatchesLeaveNothingOut : Type 0
BatchesLeaveNothingOut = (own : Bool) (trees : ℕ → List Row) (p : List Step) (k : ℕ) (bs : List Batch) → AreBatches own trees p k bs → parts_in bs ≡ (batch own trees p k (end_of k bs)).lists

-- A batch does not change when later commits are added: it uses no tree after its end.
abbrev pub BatchesStay : Type 0
BatchesStay = (own : Bool) (trees more : ℕ → List Row) (p : List Step) (from to : ℕ) → ((k : ℕ) → k ≤ to → trees k ≡ more k) → batch own trees p from to ≡ batch own more p from to
