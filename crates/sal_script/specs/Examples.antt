-- Worked examples: the steps of clients, and whole reports.
use Rattle.std.specs.Prelude.{ℕ, zero, suc, ◌+◌, false, List, [], ◌∷◌, ◌++◌, None, Some, Result, Ok, Err, codes, decimal}
use Prim.Native.String.{String}
use Rattle.sal_types.specs.declared.value.Store.TheVariants.{Config}
use Rattle.sal_types.specs.declared.value.Atom.TheVariants.{Text}
use Rattle.sal_types.specs.declared.value.Cell.TheVariants.{Leaf}
use Rattle.sal_types.specs.declared.value.Step.TheVariants.{Node}
use Rattle.sal_types.specs.declared.row.Row.{Row}
use Rattle.serde_json.specs.Data.{Data, string, object, no_members, member}
use Rattle.sal_schema.specs.declared.kind.Kind.TheVariants.{Container}
use Rattle.sal_schema.specs.declared.table.NodeInfo.{NodeInfo}
use Rattle.sal_schema.specs.declared.table.SchemaTable.{SchemaTable}
use Rattle.sal_schema.specs.Examples.{node, leaf as leaf_node, text}
use Rattle.sal_history.specs.World.{Domain}
use Rattle.sal_history.specs.declared.call.Call.{Call}
use Rattle.sal_history.specs.declared.call.Call.TheVariants as called
use Rattle.sal_history.specs.declared.call.Entry.{Entry}
use Rattle.sal_history.specs.declared.reply.Reply.TheVariants.{Begun, Receipt, Accepted as Done}
use Rattle.sal_rows.specs.declared.clash.Rules.TheVariants.{One}
use Rattle.sal_rows.specs.declared.outcome.Mode.TheVariants.{Ro, Wo, Rw}
use Rattle.sal_script.specs.Moves.{Move, Begin, Put, Merge, Delete, Read, Exists, Submit, Cancel, Settle}
use Rattle.sal_script.specs.Script.{Parts}
use Rattle.sal_script.specs.declared.script.TheConstants.{PLAIN}
use Rattle.sal_script.specs.Play.{Played, play}
use Rattle.sal_script.specs.Report.{report}
use Rattle.sal_script.specs.declared.reply.StepReply.{StepReply}
use Rattle.sal_script.specs.declared.reply.StepReply.TheVariants.{Called, Accepted, Refused}
use Rattle.sal_script.specs.declared.reply.StepRefusal.TheVariants.{EmptySlot}
use Rattle.sal_script.specs.Orders as orders
use Rattle.sal_script.specs.Orders.{Exchange}

-- a container `box` with the leafs `a` and `b`, texts
abbrev pub leafs : ℕ → ℕ → List NodeInfo
leafs zero letter = []
leafs (suc more) letter = leaf_node (Some 0) 0 (letter ∷ []) 0 ∷ leafs more (letter + 1)

abbrev pub table : SchemaTable
table = record { nodes = node None (Container false) 0 (codes "box") ∷ leafs 2 97; types = text 0 100 ∷ []; modules = codes "plain" ∷ []; identities = [] }

-- a world of one domain with these rows in its configuration
abbrev pub world_of : List Row → List Domain
world_of rows = record { table = table; upgrades = []; opening = record { config = rows; oper = [] }; rules = One } ∷ []

-- a script over `plain` without openings
abbrev pub plain_script : List (List Move) → List ℕ → Parts
plain_script clients order = record { modules = PLAIN.now ∷ []; upgrades = []; config = object no_members; operational = object no_members; devices = []; clients = clients; order = order; rules = One; checked = false }

-- ---- steps

-- the texts of the paths of the leafs a and b
abbrev pub a : String
a = "/plain:box/a"

abbrev pub b : String
b = "/plain:box/b"

-- an object with one member, a text
abbrev pub with_text : String → String → Data
with_text name text = object (member (codes name) (string (codes text)) no_members)

abbrev pub begin : Move
begin = Begin 0 0 Rw

abbrev pub put : String → String → Move
put path text = Put 0 Config (codes path) (string (codes text))

abbrev pub merge : String → String → Move
merge path text = Merge 0 Config (codes path) (string (codes text))

abbrev pub delete : String → Move
delete path = Delete 0 Config (codes path)

abbrev pub read : ℕ → String → Move
read slot path = Read slot Config (codes path)

-- a client that begins, writes, submits and settles
abbrev pub commits : Move → List Move
commits write = begin ∷ write ∷ Submit 0 ∷ Settle 0 ∷ []

-- ---- reports

-- the report of a script in an order over these rows, or a text that names the index at which the order fails
abbrev pub text_over : List Row → Result Played ℕ → List ℕ
text_over rows (Ok played) = report (world_of rows) played
text_over rows (Err index) = codes "bad order at " ++ decimal index

abbrev pub run_over : List Row → List (List Move) → List ℕ → List ℕ
run_over rows clients order = text_over rows (play (world_of rows) clients order)

abbrev pub run : List (List Move) → List ℕ → List ℕ
run clients order = run_over [] clients order

-- the order in which both clients begin before the first one submits
abbrev pub crossed : List ℕ
crossed = 0 ∷ 1 ∷ 0 ∷ 0 ∷ 1 ∷ 1 ∷ []

-- a client that reads its own write, which its older snapshot and a later one see otherwise
abbrev pub own_writes : List Move
own_writes =
    Begin 0 0 Ro ∷ Begin 1 0 Rw ∷ Put 1 Config (codes a) (string (codes "x")) ∷ read 1 a ∷ read 0 a ∷ Submit 1 ∷ Settle 1 ∷ read 0 a ∷ Begin 0 0 Ro
    ∷ read 0 a ∷ []

abbrev pub own_writes_report : String
own_writes_report =
    "order 0 0 0 0 0\n0 0 begun 0\n0 1 begun 0\n0 2 ok\n0 3 data \"x\"\n0 4 absent\n0 5 receipt 1\n0 6 done 1\n0 7 absent\n0 8 begun 1\n0 9 data \"x\"\ntree 0 1 {\"plain:box\":{\"a\":\"x\"}} {}\n"

abbrev pub same_leaf_report : String
same_leaf_report =
    "order 0 1 0 0 1 1\n0 0 begun 0\n0 1 ok\n0 2 receipt 1\n0 3 done 1\n1 0 begun 0\n1 1 ok\n1 2 receipt 2\n1 3 conflict config \"/plain:box/a\" created 1\ntree 0 1 {\"plain:box\":{\"a\":\"x\"}} {}\n"

abbrev pub different_leafs_report : String
different_leafs_report =
    "order 0 1 0 0 1 1\n0 0 begun 0\n0 1 ok\n0 2 receipt 1\n0 3 done 1\n1 0 begun 0\n1 1 ok\n1 2 receipt 2\n1 3 done 2\ntree 0 2 {\"plain:box\":{\"a\":\"x\",\"b\":\"y\"}} {}\n"

-- a client that reads a tree with an opening value, and absent paths
abbrev pub looks : List Move
looks =
    Begin 0 0 Ro ∷ read 0 "/" ∷ Exists 0 Config (codes "/plain:box") ∷ Exists 0 Config (codes b) ∷ read 0 "/plain:box/i" ∷ read 0 "plain" ∷ []

abbrev pub looks_report : String
looks_report =
    "order 0\n0 0 begun 0\n0 1 data {\"plain:box\":{\"a\":\"o\"}}\n0 2 true\n0 3 false\n0 4 refused path unknown-node 11\n0 5 refused path bad-text 0\ntree 0 0 {\"plain:box\":{\"a\":\"o\"}} {}\n"

abbrev pub opened : List Row
opened = record { path = Node 0 ∷ Node 1 ∷ []; cell = Leaf (record { member = 0; atom = Text (codes "o") }) } ∷ []

-- a merge of a leaf that another client deleted meanwhile is done; a delete of one that it merged meanwhile is refused
abbrev pub merge_after_delete_report : String
merge_after_delete_report =
    "order 0 1 0 0 1 1\n0 0 begun 0\n0 1 ok\n0 2 receipt 1\n0 3 done 1\n1 0 begun 0\n1 1 ok\n1 2 receipt 2\n1 3 done 2\ntree 0 2 {\"plain:box\":{\"a\":\"y\"}} {}\n"

abbrev pub delete_after_merge_report : String
delete_after_merge_report =
    "order 0 1 0 0 1 1\n0 0 begun 0\n0 1 ok\n0 2 receipt 1\n0 3 done 1\n1 0 begun 0\n1 1 ok\n1 2 receipt 2\n1 3 conflict config \"/plain:box/a\" changed 1\ntree 0 1 {\"plain:box\":{\"a\":\"x\"}} {}\n"

-- a client that cancels its transaction, after which its slot is empty
abbrev pub cancels : List Move
cancels = begin ∷ put a "x" ∷ Cancel 0 ∷ put a "y" ∷ Submit 0 ∷ Cancel 0 ∷ []

abbrev pub cancels_report : String
cancels_report =
    "order 0 0\n0 0 begun 0\n0 1 ok\n0 2 ok\n0 3 refused empty-slot\n0 4 refused empty-slot\n0 5 refused empty-slot\ntree 0 0 {} {}\n"

-- a transaction that only writes, and one that only reads
abbrev pub one_sided : List Move
one_sided =
    Begin 0 0 Wo ∷ read 0 a ∷ Exists 0 Config (codes a) ∷ put a "x" ∷ Submit 0 ∷ Settle 0 ∷ Begin 0 0 Ro ∷ delete a ∷ Submit 0 ∷ []

abbrev pub one_sided_report : String
one_sided_report =
    "order 0 0 0 0\n0 0 begun 0\n0 1 refused write-only\n0 2 refused write-only\n0 3 ok\n0 4 receipt 1\n0 5 done 1\n0 6 begun 1\n0 7 refused read-only\n0 8 refused read-only\ntree 0 1 {\"plain:box\":{\"a\":\"x\"}} {}\n"

-- refused writes: at the root, at a text that is no path, and of a value that is no data; a refused write changes nothing
abbrev pub refused_writes : List Move
refused_writes =
    begin ∷ delete "/" ∷ Put 0 Config (codes "/") (object no_members) ∷ merge "/plain:box/i" "x" ∷ Put 0 Config (codes a) (object no_members)
    ∷ Submit 0 ∷ Settle 0 ∷ []

abbrev pub refused_writes_report : String
refused_writes_report =
    "order 0 0 0\n0 0 begun 0\n0 1 refused root-path\n0 2 refused root-path\n0 3 refused path unknown-node 11\n0 4 refused data bad-scalar \"/plain:box/a\" wrong-kind\n0 5 receipt 1\n0 6 done 1\ntree 0 1 {\"plain:box\":{\"a\":\"o\"}} {}\n"

-- ---- shared calls

-- a client that submits twice: the second time the slot is empty, and it makes no call
abbrev pub submits_twice : List Move
submits_twice = begin ∷ put a "x" ∷ Submit 0 ∷ Submit 0 ∷ []

abbrev pub submits_twice_replies : List StepReply
submits_twice_replies = Called (Begun 0 None) ∷ Accepted ∷ Called (Receipt 1) ∷ Refused EmptySlot ∷ []

abbrev pub submits_twice_calls : List Exchange
submits_twice_calls = record { kind = Some (orders.begins 0 Rw); reply = Begun 0 None } ∷ record { kind = Some orders.submits; reply = Receipt 1 } ∷ []

-- two clients begin, and client 1 cancels its transaction
abbrev pub entry : ℕ → ℕ → Call → Entry
entry client number call = record { client = client; number = number; call = call }

abbrev pub two_begin : List Entry
two_begin = entry 0 0 (called.Begin 0 Rw) ∷ entry 1 0 (called.Begin 0 Ro) ∷ entry 1 1 (called.Cancel 1) ∷ []

abbrev pub cancelled_calls : List Exchange
cancelled_calls = record { kind = Some (orders.begins 0 Ro); reply = Begun 0 None } ∷ record { kind = Some orders.cancels; reply = Done } ∷ []
