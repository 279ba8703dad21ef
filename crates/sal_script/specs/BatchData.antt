-- A listener's batch as JSON data: an array with a part for each commit, `[commit,kind,changes]`, of which each change is
-- `[path,before,after]`.
use Rattle.std.specs.Prelude.{ℕ, List, [], ◌∷◌, map, Option, None, Some, codes}
use Rattle.serde_json.specs.Data.{Data, null, number, string, array, object, no_members, unsigned}
use Rattle.serde_json.specs.View.{items_of}
use Rattle.sal_types.specs.declared.value.Value.{Value}
use Rattle.sal_types.specs.declared.value.Cell.{Cell}
use Rattle.sal_types.specs.declared.value.Cell.TheVariants.{Mark, Leaf}
use Rattle.sal_types.specs.declared.value.Step.{Step}
use Rattle.sal_types.specs.declared.value.Step.TheVariants.{Node}
use Rattle.sal_schema.specs.declared.table.SchemaTable.{SchemaTable}
use Rattle.sal_schema.specs.Paths.{last_step}
use Rattle.sal_rows.specs.declared.batch.Batch.{Batch}
use Rattle.sal_rows.specs.declared.batch.Part.{Part}
use Rattle.sal_rows.specs.declared.change.Change.{Change}
use Rattle.sal_rows.specs.declared.change.CandidateKind.{CandidateKind}
use Rattle.sal_rows.specs.declared.change.CandidateKind.TheVariants.{Unmodified, Write, Delete, SubtreeModified, Appeared, Disappeared}
use Rattle.sal_pathtext.specs.Written.{written}
use Rattle.sal_data.specs.Written.{scalar_json}

-- the words of `ModificationType` of MD-SAL
abbrev pub candidate_text : CandidateKind → List ℕ
candidate_text Unmodified = codes "UNMODIFIED"
candidate_text Write = codes "WRITE"
candidate_text Delete = codes "DELETE"
candidate_text SubtreeModified = codes "SUBTREE_MODIFIED"
candidate_text Appeared = codes "APPEARED"
candidate_text Disappeared = codes "DISAPPEARED"

-- an array of these
abbrev pub list_data : List Data → Data
list_data ds = array (items_of ds)

module _ (table : SchemaTable) where
  -- the value of a leaf at the end of a path; only leafs have values
  abbrev pub leaf_data : Option Step → Value → Data
  leaf_data (Some (Node n)) value = scalar_json table n value
  leaf_data step value = null

  -- a cell at a path: an empty object for a mark, and null if there is none
  abbrev pub cell_data : List Step → Option Cell → Data
  cell_data path None = null
  cell_data path (Some Mark) = object no_members
  cell_data path (Some (Leaf value)) = leaf_data (last_step path) value

  abbrev pub change_data : Change → Data
  change_data c = list_data (string (written table c.path) ∷ cell_data c.path c.before ∷ cell_data c.path c.after ∷ [])

  abbrev pub part_data : Part → Data
  part_data p = list_data (number (unsigned p.commit) ∷ string (candidate_text p.kind) ∷ list_data (map change_data p.list) ∷ [])

  abbrev pub batch_data : Batch → Data
  batch_data b = list_data (map part_data b.lists)
