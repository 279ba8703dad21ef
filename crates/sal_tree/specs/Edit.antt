-- The trees that edits make, node by node. Contracts above this crate use rows and stamps instead.
use Rattle.std.specs.Prelude.{ℕ, List, [], ◌∷◌, Option, Some, None, unwrap_or, if◌then◌else◌}
use Rattle.std.specs.List.{fold}
use Rattle.sal_types.specs.declared.value.Step.{Step}
use Rattle.sal_types.specs.declared.value.Cell.{Cell}
use Rattle.sal_types.specs.declared.row.Row.{Row}
use Rattle.sal_types.specs.Tree.{under}
use Rattle.sal_types.specs.declared.value.Store.{Store}
use Rattle.sal_rows.specs.declared.op.Act.{Act}
use Rattle.sal_rows.specs.declared.op.Act.TheVariants.{Put, Merge, Delete, Read}
use Rattle.sal_rows.specs.declared.op.Op.{Op}
use Rattle.sal_rows.specs.Apply.{same_store}
use Rattle.sal_node.specs.Tree.{Tree, Forest, bare}
use Rattle.sal_tree.specs.Grow.{at, grow, blank, present}

abbrev pub kids_at : Option Tree → Forest
kids_at None = bare
kids_at (Some t) = t.kids

abbrev pub root_of : ℕ → Option Tree → Tree
root_of s o = unwrap_or o (blank s)

-- the node with this cell and with the children of the old node
abbrev pub celled : ℕ → Option Tree → Cell → Option Tree
celled s o c = Some (record { stamp = s; cell = Some c; kids = kids_at o })

abbrev pub with_row : ℕ → Tree → Row → Tree
with_row s t row = root_of s (grow s (Some t) row.path (celled s (at (Some t) row.path) row.cell))

abbrev pub without : ℕ → Tree → List Step → Tree
without s t p = if present (at (Some t) p) then root_of s (grow s (Some t) p None) else t

abbrev pub with_rows : ℕ → Tree → List Row → Tree
with_rows s t rows = fold (with_row s) t rows

abbrev pub put_rows : ℕ → Tree → List Step → List Row → Tree
put_rows s t p rows = with_rows s (without s t p) (under rows p)

abbrev pub edit_by : ℕ → Tree → List Step → Act → Tree
edit_by s t p (Put rows) = put_rows s t p rows
edit_by s t p (Merge rows) = with_rows s t rows
edit_by s t p Delete = without s t p
edit_by s t p Read = t

abbrev pub edit : ℕ → Store → Tree → Op → Tree
edit s store t op = if same_store op.store store then edit_by s t op.path op.act else t

-- the tree after the operations of the store
abbrev pub edits : ℕ → Store → Tree → List Op → Tree
edits s store t [] = t
edits s store t (op ∷ ops) = edits s store (edit s store t op) ops
