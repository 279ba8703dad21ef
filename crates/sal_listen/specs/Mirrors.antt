-- A copy of the rows under a path that follows the commits by their batches.
use Rattle.std.specs.Prelude.{◌≡◌, ℕ, List}
use Rattle.sal_types.specs.declared.value.Step.{Step}
use Rattle.sal_types.specs.declared.row.Row.{Row}
use Rattle.sal_types.specs.Tree.{under, IsAscending}
use Rattle.sal_rows.specs.declared.batch.Batch.{Batch}
use Rattle.sal_rows.specs.Batches.{HasChangesOf}

-- For every list of committed trees and every path: if the batch has their changes under the path, and the rows before are those under the
-- path at the commit at which it begins, the rows after are those at the commit at which it ends.
abbrev pub CarriesOn : Batch → List Row → List Row → Type 0
CarriesOn b before after = (trees : ℕ → List Row) (p : List Step) → ((k : ℕ) → IsAscending (trees k)) → HasChangesOf trees p b → before ≡ under (trees b.from) p → after ≡ under (trees b.to) p
