-- Why a write is refused.
use Rattle.std.specs.Prelude.{Bool, not, ◌&&◌, List, [], ◌∷◌, map, find, Option, None, Some, option_map, if◌then◌else◌}
use Rattle.sal_types.specs.declared.value.Store.{Store}
use Rattle.sal_types.specs.declared.value.Store.TheVariants.{Config, Oper}
use Rattle.sal_types.specs.declared.value.Step.{Step}
use Rattle.sal_types.specs.declared.row.Row.{Row}
use Rattle.sal_types.specs.Tree.{has}
use Rattle.sal_rows.specs.declared.op.Op.{Op}
use Rattle.sal_rows.specs.Apply.{rows_of_act}
use Rattle.sal_rows.specs.Clash.{needs_parents}
use Rattle.sal_schema.specs.declared.table.SchemaTable.{SchemaTable}
use Rattle.sal_schema.specs.Fitting.{has_mark, is_root, is_key_leaf, is_of_state}
use Rattle.sal_schema.specs.Paths.{last_step}
use Rattle.sal_rules.specs.declared.fault.TxFault.{TxFault}
use Rattle.sal_rules.specs.declared.fault.TxFault.TheVariants.{NotConfig, KeyLeaf, ParentMissing, RootPath}

-- ---- parents

-- the paths above a path, from the outermost down, without the root
abbrev pub above : List Step → List (List Step)
above [] = []
above (step ∷ []) = []
above (step ∷ next ∷ path) = (step ∷ []) ∷ map (λ q. step ∷ q) (above (next ∷ path))

-- the outermost list entry or presence container above the path that the tree does not have
abbrev pub missing_parent : SchemaTable → List Row → List Step → Option (List Step)
missing_parent table tree path = find (λ q. has_mark table (last_step q) && not (has tree q)) (above path)

abbrev pub missing_of : SchemaTable → List Row → Op → Option (List Step)
missing_of table tree op = if needs_parents op.act then missing_parent table tree op.path else None

-- ---- state data

-- the path, if it is of a state node, or else that of the first row of one
abbrev pub first_state : SchemaTable → List Step → List Row → Option (List Step)
first_state table path rows =
    if is_of_state table path then Some path else option_map (λ (row : Row). row.path) (find (λ (row : Row). is_of_state table row.path) rows)

abbrev pub not_config : SchemaTable → Store → List Step → List Row → Option (List Step)
not_config table Config path rows = first_state table path rows
not_config table Oper path rows = None

-- ---- all causes, in their order

abbrev pub or_else : Option TxFault → Option TxFault → Option TxFault
or_else None other = other
or_else (Some fault) other = Some fault

abbrev pub when : Bool → TxFault → Option TxFault
when b fault = if b then Some fault else None

-- The root, a key leaf, state data in the configuration, a parent that is missing in the tree: the first of them is returned.
abbrev pub refusal : SchemaTable → List Row → Op → Option TxFault
refusal table tree op =
    or_else (when (is_root op.path) RootPath)
    (or_else (when (is_key_leaf table op.path) (KeyLeaf op.path))
    (or_else (option_map NotConfig (not_config table op.store op.path (rows_of_act op.act)))
    (option_map ParentMissing (missing_of table tree op))))
