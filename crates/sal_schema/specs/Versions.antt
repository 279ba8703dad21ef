-- Versions of a schema: the table of an earlier one is a prefix of that of a later one.
use Rattle.std.specs.Prelude.{◌≡◌, List, ◌++◌, take, drop, length, IsTrue}
use Rattle.sal_types.specs.declared.value.Step.{Step}
use Rattle.sal_types.specs.declared.row.Row.{Row}
use Rattle.sal_schema.specs.declared.table.SchemaTable.{SchemaTable}
use Rattle.sal_schema.specs.Fitting.{fits}
use Rattle.sal_schema.specs.Paths.{fits_path}
use Rattle.sal_schema.specs.Valid.{IsTable}

-- The front is a prefix of the list. So a look-up at a number of the front has the same result in both.
abbrev pub BeginsWith : {X : Type 0} → List X → List X → Type 0
BeginsWith xs front = take (length front) xs ≡ front

-- The newer table extends the older one: nodes, types, modules and identities of the older table keep their numbers and their
-- properties. New children follow the old ones, and a name may be found that the older table lacks.
pub record Extends (newer older : SchemaTable) : Type 0 where
  pub nodes : BeginsWith newer.nodes older.nodes
  pub types : BeginsWith newer.types older.types
  pub modules : BeginsWith newer.modules older.modules
  pub identities : BeginsWith newer.identities older.identities

-- ---- laws

abbrev pub ExtendsItself : Type 0
ExtendsItself = (table : SchemaTable) → Extends table table

abbrev pub ExtendsOn : Type 0
ExtendsOn = (newest newer older : SchemaTable) → Extends newest newer → Extends newer older → Extends newest older

-- A version with the counts of the older one is the older one.
abbrev pub CountsTell : Type 0
CountsTell = (newer older : SchemaTable) → Extends newer older → length newer.nodes ≡ length older.nodes → length newer.types ≡ length older.types
    → length newer.modules ≡ length older.modules → length newer.identities ≡ length older.identities → newer ≡ older

-- A path that fits a version fits each later one.
abbrev pub PathsStay : Type 0
PathsStay = (newer older : SchemaTable) (path : List Step) → IsTable older → Extends newer older → IsTrue (fits_path older path) → IsTrue (fits_path newer path)

-- Rows at a path that fit a version fit each later one.
abbrev pub RowsStay : Type 0
RowsStay = (newer older : SchemaTable) (path : List Step) (rows : List Row) → IsTable older → Extends newer older → IsTrue (fits older path rows) → IsTrue (fits newer path rows)

-- ---- the table of a later version

-- the older list, then the rest of the whole list
abbrev pub on : {X : Type 0} → List X → List X → List X
on front whole = front ++ drop (length front) whole

-- The lines of the older table, then those of the whole table with new numbers, in each of the four lists.
abbrev pub table_on : SchemaTable → SchemaTable → SchemaTable
table_on older whole = record {
  nodes = on older.nodes whole.nodes;
  types = on older.types whole.types;
  modules = on older.modules whole.modules;
  identities = on older.identities whole.identities;
}

-- Such a table extends the older one.
abbrev pub OnExtends : Type 0
OnExtends = (older whole : SchemaTable) → Extends (table_on older whole) older
