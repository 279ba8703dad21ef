-- Worked examples of a load: the entry that a put of it names, and its rows.
use Rattle.std.specs.Prelude.{ℕ, List, [], ◌∷◌, ◌++◌, None, Some, codes}
use Rattle.sal_types.specs.declared.value.Cell.TheVariants.{Mark, Leaf}
use Rattle.sal_types.specs.declared.value.Step.{Step}
use Rattle.sal_types.specs.declared.value.Step.TheVariants.{Node, Key}
use Rattle.sal_types.specs.declared.row.Row.{Row}
use Rattle.sal_schema.specs.declared.table.SchemaTable.{SchemaTable}
use Rattle.sal_schema.specs.Examples.{leaf, list, whole}
pub use Rattle.sal_schema.specs.Examples.{number}

-- the table of the module of a load: the list, its key, and the leaf with the number
abbrev pub table : SchemaTable
table = record {
  nodes = list None 0 (codes "cell") (1 ∷ []) ∷ leaf (Some 0) 0 (codes "k") 0 ∷ leaf (Some 0) 0 (codes "v") 1 ∷ [];
  types = whole 32 0 4294967295 ∷ whole 32 0 4294967295 ∷ [];
  modules = codes "load" ∷ [];
  identities = [];
}

-- the entry with this key
abbrev pub entry : ℕ → List Step
entry key = Node 0 ∷ Key (number key ∷ []) ∷ []

-- its rows: its mark, its key, and its number
abbrev pub rows : ℕ → ℕ → List Row
rows key value =
    record { path = entry key; cell = Mark }
    ∷ record { path = entry key ++ Node 1 ∷ []; cell = Leaf (number key) }
    ∷ record { path = entry key ++ Node 2 ∷ []; cell = Leaf (number value) }
    ∷ []
