-- The names of members, and the nodes that they name (RFC 7951 section 4).
use Rattle.std.specs.Prelude.{ℕ, Bool, true, not, ◌&&◌, List, Option, Some, None, is_some, option_and_then, Result, Ok, Err, if◌then◌else◌}
use Rattle.std.specs.List.{list_any, before_first, after_first}
use Rattle.std.specs.Option.{option_map_or}
use Rattle.sal_types.specs.declared.value.Step.{Step}
use Rattle.sal_schema.specs.declared.table.SchemaTable.{SchemaTable}
use Rattle.sal_schema.specs.Table.{is_same, module_of, name_of}
use Rattle.sal_schema.specs.Names.{child_of}
use Rattle.sal_schema.specs.Lookups.{own_module, full_name}
use Rattle.sal_json.specs.Named.{is_colon}
use Rattle.sal_data.specs.declared.fault.DataFault.{DataFault}
use Rattle.sal_data.specs.declared.fault.DataFault.TheVariants.{UnknownMember, NeedsModule}

-- A name is written with its module at the top, and if its module differs from that of its parent.
abbrev pub is_qualified : SchemaTable → Option ℕ → ℕ → Bool
is_qualified table None n = true
is_qualified table (Some p) n = not (is_same (module_of table n) (module_of table p))

-- the name of the member for this node, below a parent or in the top object
abbrev pub member_name : SchemaTable → Option ℕ → ℕ → List ℕ
member_name table parent n = if is_qualified table parent n then full_name table n else name_of table n

-- ---- the node of a member

abbrev pub has_module : List ℕ → Bool
has_module name = list_any is_colon name

-- the node, if its name must be written with the module
abbrev pub if_qualified : SchemaTable → Option ℕ → ℕ → Option ℕ
if_qualified table parent n = if is_qualified table parent n then Some n else None

-- the child of the name after the first colon, in the module of the name before it
abbrev pub qualified_child : SchemaTable → Option ℕ → List ℕ → Option ℕ
qualified_child table parent name = option_and_then (if_qualified table parent) (child_of table parent (before_first is_colon name) (after_first is_colon name))

-- the child of the parent's own module
abbrev pub plain_child : SchemaTable → Option ℕ → List ℕ → Option ℕ
plain_child table None name = None
plain_child table (Some p) name = child_of table (Some p) (own_module table p) name

-- the child whose name in the right form this is
abbrev pub child_called : SchemaTable → Option ℕ → List ℕ → Option ℕ
child_called table parent name = if has_module name then qualified_child table parent name else plain_child table parent name

-- ---- names that are none

-- a module has a child of this name there
abbrev pub is_of_some_module : SchemaTable → Option ℕ → List ℕ → Bool
is_of_some_module table None name = true
is_of_some_module table (Some p) name = list_any (λ m. is_some (child_of table (Some p) m name)) table.modules

-- A name without a module requires one in the top object, and if it is that of a child of another module.
abbrev pub name_fault : SchemaTable → Option ℕ → List Step → List ℕ → DataFault
name_fault table parent path name = if not (has_module name) && is_of_some_module table parent name then NeedsModule path name else UnknownMember path name

-- the node that a member of the object at the path denotes
abbrev pub member_node : SchemaTable → Option ℕ → List Step → List ℕ → Result ℕ DataFault
member_node table parent path name = option_map_or (λ n. Ok n) (child_called table parent name) (Err (name_fault table parent path name))
