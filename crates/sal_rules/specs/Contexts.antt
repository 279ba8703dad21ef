-- Which nodes of a schema are required, and where (RFC 7950 sections 7.6.5, 7.7.5 and 7.9.4).
use Rattle.std.specs.Prelude.{ℕ, zero, suc, Bool, false, not, List, [], ◌∷◌, length, Option, Some, None, if◌then◌else◌}
use Rattle.sal_types.specs.declared.value.Step.{Step}
use Rattle.sal_types.specs.declared.value.Step.TheVariants.{Node}
use Rattle.sal_schema.specs.declared.kind.Kind.{Kind}
use Rattle.sal_schema.specs.declared.kind.Kind.TheVariants.{Container}
use Rattle.sal_schema.specs.declared.table.SchemaTable.{SchemaTable}
use Rattle.sal_schema.specs.Kinds.{is_data, is_list}
use Rattle.sal_schema.specs.Table.{is_kind, parent_of, closest, data_node}

-- a container that is present exactly if it has data
abbrev pub is_plain : Kind → Bool
is_plain (Container presence) = not presence
is_plain kind = false

-- The context of a node: its closest ancestor in the schema tree that is not a non-presence container. None if all
-- are such.
abbrev pub context : SchemaTable → ℕ → Option ℕ
context table n = closest (λ kind. not (is_plain kind)) table (length table.nodes) (parent_of table n)

-- the data node that the context is, or the data parent of the nodes of a case; none at the root
abbrev pub stand : SchemaTable → ℕ → Option ℕ
stand table n = data_node table (context table n)

-- steps through the non-presence containers from this node up, before some others; at most this many nodes
unfoldable pub through_plain : SchemaTable → ℕ → Option ℕ → List Step → List Step
through_plain table zero here way = way
through_plain table (suc steps) None way = way
through_plain table (suc steps) (Some m) way = if is_kind is_plain table m then through_plain table steps (parent_of table m) (Node m ∷ way) else way

-- the steps from its context down to the data parent of a node
abbrev pub way : SchemaTable → ℕ → List Step
way table n = through_plain table (length table.nodes) (parent_of table n) []

-- steps from the closest list down to this node, before some others; choices and cases have none
unfoldable pub from_list : SchemaTable → ℕ → Option ℕ → List Step → List Step
from_list table zero here way = way
from_list table (suc steps) None way = way
from_list table (suc steps) (Some m) way = if is_kind is_list table m then way else from_list table steps (parent_of table m) (if is_kind is_data table m then Node m ∷ way else way)

-- the steps from an entry of a list to a leaf below it with no list between
abbrev pub way_in_entry : SchemaTable → ℕ → List Step
way_in_entry table leaf = from_list table (length table.nodes) (Some leaf) []
