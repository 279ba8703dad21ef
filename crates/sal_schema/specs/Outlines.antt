-- The identifying properties of a node or an identity: its parent, its kind and its name.
use Rattle.std.specs.Prelude.{ℕ, ◌≤◌, List, map, length, Option}
use Rattle.sal_schema.specs.declared.kind.Kind.{Kind}
use Rattle.sal_schema.specs.declared.table.NodeInfo.{NodeInfo}
use Rattle.sal_schema.specs.declared.table.IdentityInfo.{IdentityInfo}
use Rattle.sal_schema.specs.declared.table.SchemaTable.{SchemaTable}
use Rattle.sal_schema.specs.Valid.{IsTable}
use Rattle.sal_schema.specs.Versions.{BeginsWith, table_on}

pub record Outline : Type 0 where
  pub parent : Option ℕ
  pub kind : Kind
  pub «module» : ℕ
  pub name : List ℕ

abbrev pub outline : NodeInfo → Outline
outline node = record { parent = node.parent; kind = node.kind; «module» = node.module; name = node.name }

abbrev pub outlines : SchemaTable → List Outline
outlines table = map outline table.nodes

pub record Label : Type 0 where
  pub «module» : ℕ
  pub name : List ℕ

abbrev pub label : IdentityInfo → Label
label identity = record { «module» = identity.module; name = identity.name }

abbrev pub labels : SchemaTable → List Label
labels table = map label table.identities

-- At the numbers of the older table the whole one has the same modules, and nodes and identities of the same outline and label; their
-- other properties may differ.
pub record IsPartOf (older whole : SchemaTable) : Type 0 where
  pub nodes : BeginsWith (outlines whole) (outlines older)
  pub types : length older.types ≤ length whole.types
  pub modules : BeginsWith whole.modules older.modules
  pub identities : BeginsWith (labels whole) (labels older)

-- An older table, extended by the new lines of a whole table that it is part of, is the table of a schema.
abbrev pub OnIsTable : Type 0
OnIsTable = (older whole : SchemaTable) → IsTable older → IsTable whole → IsPartOf older whole → IsTable (table_on older whole)
