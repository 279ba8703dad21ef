-- Children under the names of their members, in a map by name.
use Rattle.std.specs.Prelude.{◌≡◌, ℕ, List, [], ◌∷◌, String, Option, string_bytes}
use Rattle.std.specs.Borrow.{Bor}
use Rattle.std.specs.declared.alloc.Global.{Global}
use Rattle.serde_json.specs.Data.{Data, null, Members, no_members, member}
use Rattle.sal_types.specs.declared.value.Step.{Step}
use Rattle.sal_types.specs.declared.value.Step.TheVariants.{Node}
use Rattle.sal_schema.specs.declared.table.SchemaTable.{SchemaTable}
use Rattle.sal_data.specs.Members.{member_name}
use Rattle.sal_node.specs.Tree.{Tree}
use Rattle.sal_node.specs.declared.node.Child.{Child}
use Rattle.sal_tree_text.specs.Trees.{Teller}

abbrev pub Entry : Type 0
Entry = String Global × Bor Child

-- the value of a child that denotes a node
abbrev pub child_value : Teller → Step → Tree → Data
child_value f (Node n) tree = f n tree
child_value f step tree = null

-- the members of a map
abbrev pub members_named : Teller → List Entry → Members
members_named f [] = no_members
members_named f (e ∷ es) = member (string_bytes e.0) (child_value f e.1.now.step e.1.now.node.value) (members_named f es)

-- each child of a map denotes a node, under the name of its member
abbrev pub AreNamed : SchemaTable → Option ℕ → List Entry → Type 0
AreNamed table parent [] = Unit {0}
AreNamed table parent (e ∷ es) = ((n : ℕ) × (e.1.now.step ≡ Node n) × (string_bytes e.0 ≡ member_name table parent n)) × AreNamed table parent es
