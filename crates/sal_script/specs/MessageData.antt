-- Inputs, outputs and notifications as JSON data. RPCs and notifications are numbers of nodes.
use Rattle.std.specs.Prelude.{ℕ, List, [], ◌∷◌, ◌++◌, map}
use Rattle.std.specs.Option.{option_map_or}
use Rattle.serde_json.specs.Data.{Data, string}
use Rattle.sal_types.specs.declared.row.Row.{Row}
use Rattle.sal_schema.specs.declared.table.SchemaTable.{SchemaTable}
use Rattle.sal_schema.specs.Table.{module_name, module_of, name_of}
use Rattle.sal_note.specs.declared.call.Note.{Note}
use Rattle.sal_data.specs.Written.{write_data}
use Rattle.sal_script.specs.BatchData.{list_data}
use Rattle.sal_script.specs.Messages.{message_at}

module _ (table : SchemaTable) where
  -- the name of a node with that of its module, both empty if the schema has no node of that number
  abbrev pub node_text : ℕ → List ℕ
  node_text n = option_map_or (module_name table) (module_of table n) [] ++ (58 ∷ name_of table n)

  -- the rows below an input, an output or a notification
  abbrev pub message_data : ℕ → List Row → Data
  message_data n rows = write_data table (message_at n) rows

  -- a notification: its name, and its data
  abbrev pub note_data : Note → Data
  note_data note = list_data (string (node_text note.note) ∷ message_data note.note note.rows ∷ [])

  abbrev pub notes_data : List Note → Data
  notes_data notes = list_data (map note_data notes)
