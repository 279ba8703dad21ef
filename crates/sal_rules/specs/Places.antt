-- The places of a tree, and the schema node of each.
use Rattle.std.specs.Prelude.{false, List, [], ◌∷◌, Some, None}
use Rattle.std.specs.List.{fold, flat_map}
use Rattle.sal_types.specs.declared.value.Step.{Step}
use Rattle.sal_types.specs.declared.value.Step.TheVariants.{Node}
use Rattle.sal_types.specs.declared.row.Row.{Row}
use Rattle.sal_schema.specs.declared.table.SchemaTable.{SchemaTable}
use Rattle.sal_schema.specs.Kinds.{has_entries}
use Rattle.sal_schema.specs.Fitting.{prefixes}
use Rattle.sal_schema.specs.Table.{is_kind}
use Rattle.sal_rules.specs.declared.spot.Spot.{Spot}

-- The root, and each path that has a row at it or below it. One may be listed more than once.
abbrev pub places : List Row → List (List Step)
places rows = [] ∷ flat_map (λ (row : Row). prefixes row.path) rows

abbrev pub root_spot : Spot
root_spot = record { node = None; wants_entry = false }

-- after a step to a list or leaf-list an entry must follow; the node of an entry is that of its list
abbrev pub after_step : SchemaTable → Spot → Step → Spot
after_step table spot (Node n) = record { node = Some n; wants_entry = is_kind has_entries table n }
after_step table spot step = record { node = spot.node; wants_entry = false }

-- the node of the place
abbrev pub spot_of : SchemaTable → List Step → Spot
spot_of table place = fold (after_step table) root_spot place
