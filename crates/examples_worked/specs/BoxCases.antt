-- A box with a leaf of each type and nodes of each kind: its table, its tree as JSON, and its rows.
use Rattle.std.specs.Prelude.{ℕ, pos, negsuc, false, true, List as Row, [], ◌∷◌, ◌++◌, Some, None, codes}
use Prim.Native.String.{String}
use Rattle.serde_json.specs.Data.{Data, array, boolean, item, member, negative, no_items, no_members, null, number, object, string, unsigned}
use Rattle.sal_types.specs.declared.value.Atom.{Atom}
use Rattle.sal_types.specs.declared.value.Atom.TheVariants.{Bin, Bits, Bool, Dec, Empty, Enum, Ident, Signed, Text, Unsigned}
use Rattle.sal_types.specs.declared.value.Cell.{Cell}
use Rattle.sal_types.specs.declared.value.Cell.TheVariants.{Leaf, Mark}
use Rattle.sal_types.specs.declared.value.Step.{Step}
use Rattle.sal_types.specs.declared.value.Step.TheVariants.{Item, Key, Node}
use Rattle.sal_types.specs.declared.row.Row.{Row as TreeRow}
use Rattle.sal_restrict.specs.declared.yang_type.YangType.{YangType, roll-YangType}
use Rattle.sal_restrict.specs.declared.yang_type.YangType.TheOpen.{YangType-F}
use Rattle.sal_schema.specs.declared.kind.Kind.TheVariants.{Case, Choice, Container, LeafList}
use Rattle.sal_schema.specs.declared.table.NodeInfo.{NodeInfo}
use Rattle.sal_schema.specs.declared.table.SchemaTable.{SchemaTable}
use Rattle.sal_schema.specs.Examples.{info, leaf, list, node}
use Rattle.sal_json.specs.Examples as json
use Rattle.sal_data.specs.Examples.{row, text_value, value, words}
use Rattle.examples_worked.specs.ValueCases.{int8, int16, int32, mask, short, state, uint16, uint32}

-- ---- the table

-- a leaf in the box, of the type of this number
abbrev pub in_box : String → ℕ → NodeInfo
in_box name ty = leaf (Some 0) 0 (codes name) ty

abbrev pub slot_nodes : Row NodeInfo
slot_nodes =
    list (Some 0) 0 (codes "slot") (21 ∷ 22 ∷ [])
    ∷ leaf (Some 20) 0 (codes "id") 4
    ∷ leaf (Some 20) 0 (codes "side") 9
    ∷ leaf (Some 20) 0 (codes "site") 9
    ∷ []

-- tags, a container in the box, and a choice
abbrev pub other_nodes : Row NodeInfo
other_nodes =
    info (Some 0) LeafList 0 (codes "tag") (Some true) (Some 9) []
    ∷ node (Some 0) (Container false) 0 (codes "area")
    ∷ leaf (Some 25) 0 (codes "name") 9
    ∷ leaf (Some 25) 0 (codes "owner") 9
    ∷ node (Some 0) Choice 0 (codes "how")
    ∷ node (Some 28) Case 0 (codes "wire")
    ∷ leaf (Some 29) 0 (codes "pair") 4
    ∷ []

abbrev pub nodes : Row NodeInfo
nodes =
    node None (Container false) 0 (codes "box")
    ∷ in_box "i8" 0 ∷ in_box "i16" 1 ∷ in_box "i32" 2 ∷ in_box "i64" 3
    ∷ in_box "u8" 4 ∷ in_box "u16" 5 ∷ in_box "u32" 6 ∷ in_box "u64" 7
    ∷ in_box "dec" 8 ∷ in_box "text" 9 ∷ in_box "flag" 10 ∷ in_box "state" 11 ∷ in_box "mask" 12
    ∷ in_box "bytes" 13 ∷ in_box "kind" 14 ∷ in_box "none" 15 ∷ in_box "first" 16 ∷ in_box "second" 17
    ∷ node (Some 0) (Container true) 0 (codes "lamp")
    ∷ (slot_nodes ++ other_nodes)

abbrev pub binary : YangType
binary = roll-YangType (YangType-F.Bin (json.part (pos 0) (pos 4)))

abbrev pub types : Row YangType
types =
    int8 ∷ int16 ∷ int32 ∷ json.int64
    ∷ json.uint8 ∷ uint16 ∷ uint32 ∷ json.uint64
    ∷ json.dec 18 ∷ short ∷ json.boolean ∷ state ∷ mask
    ∷ binary ∷ json.animal ∷ json.empty ∷ json.union json.uint8 short ∷ json.union short json.uint8
    ∷ []

abbrev pub table : SchemaTable
table = record {
  nodes = nodes;
  types = types;
  modules = codes "inv" ∷ [];
  identities = json.identity 0 "medium" [] ∷ json.identity 0 "fibre" (0 ∷ []) ∷ [];
}

-- ---- its tree as JSON, its members in their order

abbrev pub slots : Data
slots =
    array
    (item (object (member (codes "id") (number (unsigned 1)) (member (codes "side") (words "l") (member (codes "site") (words "x") no_members))))
    (item (object (member (codes "id") (number (unsigned 2)) (member (codes "side") (words "l") no_members)))
    no_items))

abbrev pub area : Data
area = object (member (codes "name") (words "n") (member (codes "owner") (words "o") no_members))

-- a letter of two bytes, a quote and a line's end
abbrev pub letters : Row ℕ
letters = 195 ∷ 169 ∷ 34 ∷ 10 ∷ []

abbrev pub tree : Data
tree =
    object (member (codes "inv:box") (object
    (member (codes "area") area
    (member (codes "bytes") (words "AP8Q")
    (member (codes "dec") (words "-0.000000000000000001")
    (member (codes "first") (number (unsigned 7))
    (member (codes "flag") (boolean true)
    (member (codes "i16") (number (negative (negsuc 32767)))
    (member (codes "i32") (number (negative (negsuc 2147483647)))
    (member (codes "i64") (words "-9223372036854775808")
    (member (codes "i8") (number (negative (negsuc 127)))
    (member (codes "kind") (words "fibre")
    (member (codes "lamp") (object no_members)
    (member (codes "mask") (words "c a")
    (member (codes "none") (array (item null no_items))
    (member (codes "pair") (number (unsigned 9))
    (member (codes "second") (number (unsigned 7))
    (member (codes "slot") slots
    (member (codes "state") (words "down")
    (member (codes "tag") (array (item (words "a") (item (words "b") no_items)))
    (member (codes "text") (string letters)
    (member (codes "u16") (number (unsigned 65535))
    (member (codes "u32") (number (unsigned 4294967295))
    (member (codes "u64") (words "18446744073709551615")
    (member (codes "u8") (number (unsigned 255)) no_members)))))))))))))))))))))))) no_members)

-- the same as a text, around a letter of two bytes
abbrev pub front : String
front = "{\"inv:box\":{\"i8\":-128,\"i16\":-32768,\"i32\":-2147483648,\"i64\":\"-9223372036854775808\",\n \"u8\":255,\"u16\":65535,\"u32\":4294967295,\"u64\":\"18446744073709551615\",\"dec\":\"-0.000000000000000001\",\"text\":\""

abbrev pub back : String
back = "\\\"\\n\",\"flag\":true,\"state\":\"down\",\n \"mask\":\"c a\",\"bytes\":\"AP8Q\",\"kind\":\"fibre\",\"none\":[null],\"first\":7,\"second\":7,\"lamp\":{},\n \"slot\":[{\"id\":1,\"side\":\"l\",\"site\":\"x\"},{\"id\":2,\"side\":\"l\"}],\"tag\":[\"a\",\"b\"],\"area\":{\"name\":\"n\",\"owner\":\"o\"},\"pair\":9}}"

-- texts in both unions
abbrev pub texts : Data
texts = object (member (codes "inv:box") (object (member (codes "first") (words "7") (member (codes "second") (words "7") no_members))) no_members)

-- ---- its rows, in the order of their paths

-- a leaf of this node in the box
abbrev pub holds : ℕ → Atom → TreeRow
holds n atom = row (Node 0 ∷ Node n ∷ []) (Leaf (value 0 atom))

-- the row at a step below this node of the box
abbrev pub below : ℕ → Step → Cell → TreeRow
below n step cell = row (Node 0 ∷ Node n ∷ step ∷ []) cell

abbrev pub entry : ℕ → Step
entry id = Key (value 0 (Unsigned id) ∷ text_value "l" ∷ [])

-- a leaf of a slot
abbrev pub of_slot : ℕ → ℕ → Atom → TreeRow
of_slot id n atom = row (Node 0 ∷ Node 20 ∷ entry id ∷ Node n ∷ []) (Leaf (value 0 atom))

abbrev pub number_rows : Row TreeRow
number_rows =
    holds 1 (Signed (negsuc 127))
    ∷ holds 2 (Signed (negsuc 32767))
    ∷ holds 3 (Signed (negsuc 2147483647))
    ∷ holds 4 (Signed (negsuc 9223372036854775807))
    ∷ holds 5 (Unsigned 255)
    ∷ holds 6 (Unsigned 65535)
    ∷ holds 7 (Unsigned 4294967295)
    ∷ holds 8 (Unsigned 18446744073709551615)
    ∷ holds 9 (Dec (negsuc 0) 18)
    ∷ []

abbrev pub leaf_rows : Row TreeRow
leaf_rows =
    holds 10 (Text letters)
    ∷ holds 11 (Bool true)
    ∷ holds 12 (Enum 5)
    ∷ holds 13 (Bits 9223372036854775809)
    ∷ holds 14 (Bin (0 ∷ 255 ∷ 16 ∷ []))
    ∷ holds 15 (Ident 1)
    ∷ holds 16 Empty
    ∷ holds 17 (Unsigned 7)
    ∷ row (Node 0 ∷ Node 18 ∷ []) (Leaf (value 1 (Unsigned 7)))
    ∷ []

abbrev pub entry_rows : Row TreeRow
entry_rows =
    row (Node 0 ∷ Node 19 ∷ []) Mark
    ∷ below 20 (entry 1) Mark
    ∷ of_slot 1 21 (Unsigned 1)
    ∷ of_slot 1 22 (Text (codes "l"))
    ∷ of_slot 1 23 (Text (codes "x"))
    ∷ below 20 (entry 2) Mark
    ∷ of_slot 2 21 (Unsigned 2)
    ∷ of_slot 2 22 (Text (codes "l"))
    ∷ below 24 (Item (text_value "a")) Mark
    ∷ below 24 (Item (text_value "b")) Mark
    ∷ below 25 (Node 26) (Leaf (text_value "n"))
    ∷ below 25 (Node 27) (Leaf (text_value "o"))
    ∷ holds 30 (Unsigned 9)
    ∷ []

abbrev pub rows : Row TreeRow
rows = number_rows ++ (leaf_rows ++ entry_rows)

abbrev pub text_rows : Row TreeRow
text_rows =
    row (Node 0 ∷ Node 17 ∷ []) (Leaf (value 1 (Text (codes "7"))))
    ∷ row (Node 0 ∷ Node 18 ∷ []) (Leaf (value 0 (Text (codes "7"))))
    ∷ []
