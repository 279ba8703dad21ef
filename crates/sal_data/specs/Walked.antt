-- The parts of a reading that the walk goes through one by one.
use Rattle.std.specs.Prelude.{◌≡◌, ℕ, List, Option, Result, Ok}
use Rattle.std.specs.List.{list_any}
use Rattle.serde_json.specs.Data.{Data}
use Rattle.sal_types.specs.declared.value.Step.{Step}
use Rattle.sal_types.specs.declared.value.Step.TheVariants.{Node}
use Rattle.sal_types.specs.Reading.{◌>>=◌}
use Rattle.sal_schema.specs.declared.table.SchemaTable.{SchemaTable}
use Rattle.sal_data.specs.declared.fault.DataFault.{DataFault}
use Rattle.sal_data.specs.Members.{member_node}
use Rattle.sal_data.specs.Read.{Reading, longer, same_step, one_more, node_rows}

-- the same steps are among both
abbrev pub HaveSame : List Step → List Step → Type 0
HaveSame seen others = (step : Step) → list_any (same_step step) seen ≡ list_any (same_step step) others

-- the path of an entry, which is none of those that were seen
abbrev pub new_entry : List Step → List Step → Step → Result (List Step) DataFault
new_entry seen path step = longer path step >>= λ below. (one_more seen step below >>= λ now. Ok below)

-- one member of the object at the path
abbrev pub member_rows : SchemaTable → Option ℕ → List Step → List ℕ → Data → Reading
member_rows table parent path name json = member_node table parent path name >>= λ n. (longer path (Node n) >>= λ below. node_rows table n below json)
