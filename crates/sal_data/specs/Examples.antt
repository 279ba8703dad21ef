-- Tables, JSON values and rows for the examples.
use Rattle.std.specs.Prelude.{ℕ, zero, suc, ◌+◌, false, true, List as Row, [], ◌∷◌, ◌++◌, Some, None, Result, Err, codes}
use Prim.Native.String.{String}
use Rattle.serde_json.specs.Data.{Data, number, string, array, object, unsigned, no_items, item, no_members, member}
use Rattle.sal_types.specs.declared.value.Atom.{Atom}
use Rattle.sal_types.specs.declared.value.Atom.TheVariants.{Text, Unsigned}
use Rattle.sal_types.specs.declared.value.Value.{Value}
use Rattle.sal_types.specs.declared.value.Cell.{Cell}
use Rattle.sal_types.specs.declared.value.Cell.TheVariants.{Mark, Leaf}
use Rattle.sal_types.specs.declared.value.Step.{Step}
use Rattle.sal_types.specs.declared.value.Step.TheVariants.{Node, Key, Item}
use Rattle.sal_types.specs.declared.row.Row.{Row as TreeRow}
use Rattle.sal_restrict.specs.declared.yang_type.YangType.{YangType, roll-YangType}
use Rattle.sal_restrict.specs.declared.yang_type.YangType.TheOpen.{YangType-F}
use Rattle.sal_schema.specs.declared.kind.Kind.TheVariants.{Container, LeafList}
use Rattle.sal_schema.specs.declared.table.NodeInfo.{NodeInfo}
use Rattle.sal_schema.specs.declared.table.SchemaTable.{SchemaTable}
use Rattle.sal_schema.specs.Examples.{info, node, leaf, list, whole, text}
use Rattle.sal_data.specs.declared.fault.DataFault.{DataFault}
use Rattle.sal_data.specs.Read.{read_data}
use Rattle.sal_data.specs.Written.{write_data}

-- ---- a rack with slots, to which another module adds their site, with tags, a lamp, and a size that is a number or a text

abbrev pub nodes : Row NodeInfo
nodes =
    node None (Container false) 0 (codes "rack")
    ∷ list (Some 0) 0 (codes "slot") (2 ∷ 3 ∷ [])
    ∷ leaf (Some 1) 0 (codes "id") 0
    ∷ leaf (Some 1) 0 (codes "side") 1
    ∷ info (Some 0) LeafList 0 (codes "tag") (Some true) (Some 1) []
    ∷ node (Some 0) (Container true) 0 (codes "lamp")
    ∷ leaf (Some 0) 0 (codes "size") 2
    ∷ leaf (Some 1) 1 (codes "site") 1
    ∷ []

abbrev pub number_or_text : YangType
number_or_text = roll-YangType (YangType-F.Union (whole 8 0 255 ∷ text 0 100 ∷ []))

abbrev pub table : SchemaTable
table = record { nodes = nodes; types = whole 8 0 255 ∷ text 0 100 ∷ number_or_text ∷ []; modules = codes "inv" ∷ codes "geo" ∷ []; identities = [] }

-- ---- JSON values

abbrev pub words : String → Data
words t = string (codes t)

abbrev pub whole_number : ℕ → Data
whole_number n = number (unsigned n)

abbrev pub nothing : Data
nothing = object no_members

-- an object with one member
abbrev pub only : String → Data → Data
only name json = object (member (codes name) json no_members)

abbrev pub one : Data → Data
one json = array (item json no_items)

abbrev pub two : Data → Data → Data
two a b = array (item a (item b no_items))

-- the rack with one member
abbrev pub rack : String → Data → Data
rack name json = only "inv:rack" (only name json)

-- a slot without a site
abbrev pub slot : ℕ → String → Data
slot id side = object (member (codes "id") (whole_number id) (member (codes "side") (words side) no_members))

-- an entry without a key, and with a member that is none
abbrev pub slot_of_a_door : Data
slot_of_a_door = object (member (codes "door") (words "x") (member (codes "id") (whole_number 1) no_members))

-- a rack with a lamp and a size that are none
abbrev pub two_faults : Data
two_faults = only "inv:rack" (object (member (codes "lamp") (words "on") (member (codes "size") nothing no_members)))

abbrev pub slot_without_module : Data
slot_without_module = object (member (codes "id") (whole_number 1) (member (codes "side") (words "l") (member (codes "site") (words "x") no_members)))

abbrev pub slot_with_site : Data
slot_with_site = object (member (codes "geo:site") (words "x") (member (codes "id") (whole_number 1) (member (codes "side") (words "l") no_members)))

abbrev pub tree_with : Data → Data
tree_with tags =
    only "inv:rack" (object
    (member (codes "lamp") nothing
    (member (codes "size") (words "4")
    (member (codes "slot") (one slot_with_site)
    (member (codes "tag") tags no_members)))))

abbrev pub tree : Data
tree = tree_with (two (words "a") (words "b"))

-- ---- rows

abbrev pub value : ℕ → Atom → Value
value k atom = record { member = k; atom = atom }

abbrev pub text_value : String → Value
text_value t = value 0 (Text (codes t))

abbrev pub row : Row Step → Cell → TreeRow
row path cell = record { path = path; cell = cell }

abbrev pub slots : Row Step
slots = Node 0 ∷ Node 1 ∷ []

abbrev pub tags : Row Step
tags = Node 0 ∷ Node 4 ∷ []

abbrev pub at_slot : ℕ → String → Row Step
at_slot id side = slots ++ Key (value 0 (Unsigned id) ∷ text_value side ∷ []) ∷ []

abbrev pub at_tag : String → Row Step
at_tag t = tags ++ Item (text_value t) ∷ []

abbrev pub slot_rows : Row TreeRow
slot_rows =
    row (at_slot 1 "l") Mark
    ∷ row (at_slot 1 "l" ++ Node 2 ∷ []) (Leaf (value 0 (Unsigned 1)))
    ∷ row (at_slot 1 "l" ++ Node 3 ∷ []) (Leaf (text_value "l"))
    ∷ row (at_slot 1 "l" ++ Node 7 ∷ []) (Leaf (text_value "x"))
    ∷ []

abbrev pub tree_rows : Row TreeRow
tree_rows =
    slot_rows
    ++ row (at_tag "a") Mark
    ∷ row (at_tag "b") Mark
    ∷ row (Node 0 ∷ Node 5 ∷ []) Mark
    ∷ row (Node 0 ∷ Node 6 ∷ []) (Leaf (value 1 (Text (codes "4"))))
    ∷ []

-- a size that is a number
abbrev pub number_rows : Row TreeRow
number_rows = row (Node 0 ∷ Node 6 ∷ []) (Leaf (value 0 (Unsigned 4))) ∷ []

-- ---- readings and writings

abbrev pub reads_at : Row Step → Data → Result (Row TreeRow) DataFault
reads_at path json = read_data table path json

abbrev pub reads : Data → Result (Row TreeRow) DataFault
reads json = reads_at [] json

abbrev pub fails : DataFault → Result (Row TreeRow) DataFault
fails fault = Err fault

abbrev pub writes_at : Row Step → Row TreeRow → Data
writes_at path rows = write_data table path rows

abbrev pub writes : Row TreeRow → Data
writes rows = writes_at [] rows

-- ---- containers in one another, one more than a path has steps

abbrev pub chain : ℕ → ℕ → Row NodeInfo
chain zero n = []
chain (suc more) n = node (Some n) (Container false) 0 (codes "c") ∷ chain more (n + 1)

abbrev pub deep_table : SchemaTable
deep_table = record { nodes = node None (Container false) 0 (codes "c") ∷ chain 32 0; types = []; modules = codes "deep" ∷ []; identities = [] }

-- the path of the first nodes
abbrev pub down : ℕ → ℕ → Row Step
down zero n = []
down (suc more) n = Node n ∷ down more (n + 1)

abbrev pub reads_deep : Data → Result (Row TreeRow) DataFault
reads_deep json = read_data deep_table (down 32 0) json
