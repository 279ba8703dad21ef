-- A walk down a tree, for the search for a missing parent.
use Rattle.std.specs.Prelude.{ℕ, ◌+◌, not, ◌&&◌, List, [], ◌∷◌, Option, None, Some, option_map, if◌then◌else◌}
use Rattle.sal_types.specs.declared.value.Step.{Step}
use Rattle.sal_node.specs.Tree.{Tree}
use Rattle.sal_tree.specs.Grow.{kid, present}
use Rattle.sal_schema.specs.declared.table.SchemaTable.{SchemaTable}
use Rattle.sal_schema.specs.Fitting.{has_mark, is_root}

-- the number of steps to the first entry or presence container that is absent, before the last step
abbrev pub missing_depth : SchemaTable → Option Tree → List Step → Option ℕ
missing_depth table tree [] = None
missing_depth table tree (step ∷ path) =
    if is_root path then None
    else if has_mark table (Some step) && not (present (kid tree step)) then Some 1
    else option_map (λ d. d + 1) (missing_depth table (kid tree step) path)
