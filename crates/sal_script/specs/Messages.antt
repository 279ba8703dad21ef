-- RPCs and notifications by their names in a script, and the place of their data (RFC 7950 sections 7.14 and 7.16).
use Rattle.std.specs.Prelude.{ℕ, List, [], ◌∷◌, Option, Some, None, if◌then◌else◌, slice_get, unwrap_or}
use Rattle.std.specs.List.{before_first, after_first}
use Rattle.sal_types.specs.declared.value.Step.{Step}
use Rattle.sal_types.specs.declared.value.Step.TheVariants.{Node}
use Rattle.sal_schema.specs.declared.table.SchemaTable.{SchemaTable}
use Rattle.sal_schema.specs.Names.{rpc_of, notification_of}
use Rattle.sal_schema.specs.Table.{children_of}
use Rattle.sal_json.specs.Named.{is_colon}
use Rattle.sal_data.specs.Members.{has_module}

-- the RPC of the name after the first colon, in the module of the name before it
abbrev pub rpc_called : SchemaTable → List ℕ → Option ℕ
rpc_called table name = if has_module name then rpc_of table (before_first is_colon name) (after_first is_colon name) else None

-- and the notification
abbrev pub note_called : SchemaTable → List ℕ → Option ℕ
note_called table name = if has_module name then notification_of table (before_first is_colon name) (after_first is_colon name) else None

-- An RPC that was built from text has two children: its input and then its output.
abbrev pub input_of : SchemaTable → ℕ → ℕ
input_of table rpc = unwrap_or (slice_get (children_of table (Some rpc)) 0) rpc

abbrev pub output_of : SchemaTable → ℕ → ℕ
output_of table rpc = unwrap_or (slice_get (children_of table (Some rpc)) 1) rpc

-- the path above the data of this input, output or notification
abbrev pub message_at : ℕ → List Step
message_at n = Node n ∷ []
