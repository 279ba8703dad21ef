-- The rules of a patched tree, checked near its patches.
use Rattle.std.specs.Prelude.{◌≡◌, Bool, true, false, not, ◌&&◌, ◌||◌, List, Option, Some, None, is_some}
use Rattle.std.specs.List.{list_all, list_any}
use Rattle.sal_types.specs.declared.value.Cell.{Cell}
use Rattle.sal_types.specs.declared.value.Step.{Step}
use Rattle.sal_types.specs.declared.row.Row.{Row}
use Rattle.sal_types.specs.Tree.{cell, has, IsAscending}
use Rattle.sal_rows.specs.declared.rows.patch.Patch.{Patch}
use Rattle.sal_rows.specs.Patch.{patched}
use Rattle.sal_schema.specs.declared.table.SchemaTable.{SchemaTable}
use Rattle.sal_schema.specs.Fitting.{cell_fits, prefixes, is_whole_at, is_in_message, is_closed, is_of_state}
use Rattle.sal_schema.specs.Paths.{fits_path}

-- the patch's path fits, and its cell fits the node there
abbrev pub cell_or_none_fits : SchemaTable → List Step → Option Cell → Bool
cell_or_none_fits table path None = true
cell_or_none_fits table path (Some c) = cell_fits table path c

abbrev pub patch_fits : SchemaTable → Patch → Bool
patch_fits table p = fits_path table p.path && cell_or_none_fits table p.path p.cell

abbrev pub patches_fit : SchemaTable → List Patch → Bool
patches_fit table ps = list_all (patch_fits table) ps

-- ---- closed trees

-- an entry or presence container at the path is whole, if there is a row at it or below it
abbrev pub is_whole_if_there : SchemaTable → List Row → List Step → Bool
is_whole_if_there table rows path = not (has rows path) || is_whole_at table rows path

-- the same for the path and all its prefixes
abbrev pub is_whole_to : SchemaTable → List Row → List Step → Bool
is_whole_to table rows path = list_all (is_whole_if_there table rows) (prefixes path)

-- the same for a patch, and there is no row at it in an RPC or a notification
abbrev pub is_near : SchemaTable → List Row → Patch → Bool
is_near table rows p = not (is_in_message table p.path && has rows p.path) && is_whole_to table rows p.path

abbrev pub are_near : SchemaTable → List Row → List Patch → Bool
are_near table rows ps = list_all (is_near table rows) ps

-- The rows after the patches are closed exactly if all paths near these are whole.
abbrev pub NearIsClosed : Type 0
NearIsClosed =
    (table : SchemaTable) (before : List Row) (ps : List Patch) → IsAscending before → is_closed table before ≡ true → patches_fit table ps ≡ true
    → is_closed table (patched before ps) ≡ are_near table (patched before ps) ps

-- ---- state data

-- some row is one of a state node
abbrev pub has_state : SchemaTable → List Row → Bool
has_state table rows = list_any (λ row. is_of_state table row.path) rows

-- there is a row of a state node where the patch set a cell
abbrev pub leaves_state : SchemaTable → List Row → Patch → Bool
leaves_state table rows p = is_of_state table p.path && is_some (cell rows p.path)

abbrev pub leave_state : SchemaTable → List Row → List Patch → Bool
leave_state table rows ps = list_any (leaves_state table rows) ps

-- The rows after the patches have state data exactly if a patch set some.
abbrev pub StateIsNear : Type 0
StateIsNear = (table : SchemaTable) (before : List Row) (ps : List Patch) → has_state table before ≡ false → has_state table (patched before ps) ≡ leave_state table (patched before ps) ps
