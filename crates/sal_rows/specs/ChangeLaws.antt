-- Laws of changes and batches.
use Rattle.std.specs.Prelude.{◌≡◌, ℕ, ◌≤◌, Bool, List, ◌++◌, None, if◌then◌else◌}
use Rattle.sal_types.specs.declared.value.Step.{Step}
use Rattle.sal_types.specs.declared.row.Row.{Row}
use Rattle.sal_types.specs.Prefix.{is_prefix}
use Rattle.sal_types.specs.Tree.{cell, under, IsAscending}
use Rattle.sal_rows.specs.declared.batch.Batch.{Batch}
use Rattle.sal_rows.specs.Changes.{changes_under, change_at, differing}
use Rattle.sal_rows.specs.Batches.{batch, HasChangesOf}
use Rattle.sal_rows.specs.Patch.{with_changes, with_parts}

-- The changes name exactly the paths under p at which the cells differ.
abbrev pub ChangesAreWhereCellsDiffer : Type 0
ChangesAreWhereCellsDiffer =
    (before after : List Row) (p r : List Step) → IsAscending after
    → change_at (changes_under before after p) r ≡ (if is_prefix p r then differing (cell before r) (cell after r) else None)

-- The changes, applied to the rows before, give the rows after.
abbrev pub ChangesGiveTheRowsAfter : Type 0
ChangesGiveTheRowsAfter = (before after : List Row) (p : List Step) → IsAscending before → IsAscending after → with_changes (under before p) (changes_under before after p) ≡ under after p

-- A batch, applied to the rows at its start, gives those at its end.
abbrev pub BatchesGiveTheRowsAfter : Type 0
BatchesGiveTheRowsAfter = (trees : ℕ → List Row) (p : List Step) (b : Batch) → ((k : ℕ) → IsAscending (trees k)) → HasChangesOf trees p b → with_parts (under (trees b.from) p) b.lists ≡ under (trees b.to) p

-- The parts of two consecutive batches are those of the batch over both.
abbrev pub BatchesFollowOneAnother : Type 0
BatchesFollowOneAnother =
    (own : Bool) (trees : ℕ → List Row) (p : List Step) (from middle to : ℕ) → from ≤ middle → middle ≤ to
    → (batch own trees p from middle).lists ++ (batch own trees p middle to).lists ≡ (batch own trees p from to).lists
