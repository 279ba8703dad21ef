-- Worked examples of RPCs, notifications, mounts and devices: a schema with messages, the steps of clients, and their replies.
use Rattle.std.specs.Prelude.{ℕ, false, List, [], ◌∷◌, None, Some, Result, Ok, Err, codes}
use Prim.Native.String.{String}
use Rattle.sal_types.specs.declared.value.Atom.TheVariants.{Unsigned}
use Rattle.sal_types.specs.declared.value.Cell.TheVariants.{Leaf as Held}
use Rattle.sal_types.specs.declared.value.Step.TheVariants.{Node}
use Rattle.sal_types.specs.declared.value.Store.TheVariants.{Config}
use Rattle.sal_types.specs.declared.row.Row.{Row}
use Rattle.serde_json.specs.Data.{Data, number, unsigned, object, no_members, member}
use Rattle.sal_rows.specs.declared.clash.Rules.TheVariants.{One}
use Rattle.sal_rows.specs.declared.outcome.Mode.TheVariants.{Rw}
use Rattle.sal_schema.specs.declared.kind.Kind.TheVariants.{Container, Leaf, Rpc, Input, Output, Notification}
use Rattle.sal_schema.specs.declared.table.SchemaTable.{SchemaTable}
use Rattle.sal_schema.specs.Examples.{info, node, whole}
use Rattle.sal_data.specs.declared.fault.DataFault.TheVariants.{BadScalar}
use Rattle.sal_json.specs.declared.fault.ScalarFault.TheVariants.{OutOfRange}
use Rattle.sal_pathtext.specs.declared.fault.PathTextFault.TheVariants.{UnknownNode}
use Rattle.sal_history.specs.World.{Domain}
use Rattle.sal_history.specs.declared.reply.Reply.TheVariants as said
use Rattle.sal_script.specs.declared.reply.StepReply.{StepReply}
use Rattle.sal_script.specs.declared.reply.StepReply.TheVariants.{Called, Accepted, Refused}
use Rattle.sal_script.specs.declared.reply.StepRefusal.TheVariants.{EmptySlot, NoDevice, UnknownName, BadPath, BadData}
use Rattle.sal_script.specs.Examples.{put, table}
use Rattle.sal_script.specs.Moves.{Move, Begin, Listen, Provide, Withdraw, Invoke, NextCall, Answer, Collect, Subscribe, Offer, Mount}
use Rattle.sal_script.specs.Play.{Played, play}
use Rattle.sal_script.specs.Script.{DeviceParts}

-- The RPC `ping` (0) with its input (1), a number n (2), and its output (3), a number m (4); the notification `alarm` (5) with a level
-- (6); and a container `hall` (7), at which a device can be mounted.
abbrev pub messages : SchemaTable
messages = record {
  nodes = info None Rpc 0 (codes "ping") None None []
      ∷ info (Some 0) Input 0 (codes "input") None None []
      ∷ info (Some 1) Leaf 0 (codes "n") None (Some 0) []
      ∷ info (Some 0) Output 0 (codes "output") None None []
      ∷ info (Some 3) Leaf 0 (codes "m") None (Some 0) []
      ∷ info None Notification 0 (codes "alarm") None None []
      ∷ info (Some 5) Leaf 0 (codes "level") None (Some 0) []
      ∷ node None (Container false) 0 (codes "hall")
      ∷ [];
  types = whole 8 0 255 ∷ [];
  modules = codes "shop" ∷ [];
  identities = [];
}

abbrev pub bare : SchemaTable → Domain
bare t = record { table = t; upgrades = []; opening = record { config = []; oper = [] }; rules = One }

-- that schema alone, and with a device that has the module `plain`
abbrev pub alone : List Domain
alone = bare messages ∷ []

abbrev pub with_device : List Domain
with_device = bare messages ∷ bare table ∷ []

-- the replies to each client, none if the order is not legal
abbrev pub replies_of : Result Played ℕ → List (List StepReply)
replies_of (Ok played) = played.replies
replies_of (Err index) = []

abbrev pub answers : List Domain → List (List Move) → List ℕ → List (List StepReply)
answers world clients order = replies_of (play world clients order)

-- ---- values

-- an object with one number
abbrev pub with_number : String → ℕ → Data
with_number name n = object (member (codes name) (number (unsigned n)) no_members)

-- the one row that it denotes, at a leaf below a message
abbrev pub held : ℕ → ℕ → ℕ → List Row
held message leaf n = record { path = Node message ∷ Node leaf ∷ []; cell = Held (record { member = 0; atom = Unsigned n }) } ∷ []

abbrev pub ping : List ℕ
ping = codes "shop:ping"

-- ---- a request

abbrev pub serves : List Move
serves = Provide ping None ∷ NextCall 3 ∷ Answer 3 (with_number "m" 8) ∷ []

abbrev pub asks : List Move
asks = Invoke 9 ping None (with_number "n" 7) ∷ Collect 9 ∷ Collect 9 ∷ []

abbrev pub serves_replies : List StepReply
serves_replies = Called said.Accepted ∷ Called (said.Request (record { id = 1; rpc = 0; context = None; input = held 1 2 7 })) ∷ Called said.Accepted ∷ []

abbrev pub asks_replies : List StepReply
asks_replies = Called (said.CallMade 1) ∷ Called said.Nothing ∷ Called (said.Output 0 (held 3 4 8)) ∷ []

-- ---- steps that make no call

-- of an empty slot, of names without an RPC or a notification, of a path, of a value, and of a domain that the script does not have
abbrev pub refused_locally : List Move
refused_locally =
    Answer 0 (with_number "m" 8)
    ∷ Collect 0
    ∷ Provide (codes "ping") None
    ∷ Withdraw (codes "shop:alarm") None
    ∷ Invoke 0 (codes "shop:pong") (Some (codes "/shop:pong")) (with_number "n" 256)
    ∷ Invoke 0 ping (Some (codes "/shop:pong")) (with_number "n" 256)
    ∷ Invoke 0 ping (Some (codes "/shop:hall")) (with_number "n" 256)
    ∷ Subscribe ping
    ∷ Offer (codes "shop:alarm") (with_number "level" 256)
    ∷ Listen 0 1 Config (codes "/")
    ∷ []

abbrev pub too_large : ℕ → ℕ → StepReply
too_large message leaf = Refused (BadData 0 (BadScalar (Node message ∷ Node leaf ∷ []) OutOfRange))

abbrev pub refused_replies : List StepReply
refused_replies =
    Refused EmptySlot
    ∷ Refused EmptySlot
    ∷ Refused UnknownName
    ∷ Refused UnknownName
    ∷ Refused UnknownName
    ∷ Refused (BadPath (UnknownNode 1))
    ∷ too_large 1 2
    ∷ Refused UnknownName
    ∷ too_large 5 6
    ∷ Refused NoDevice
    ∷ []

-- ---- a device

-- a path is read by the schema of the transaction's domain, also by that of a device; one of domain 0 has no such node
abbrev pub at_device : List Move
at_device = Mount 1 (codes "/shop:hall") ∷ Begin 0 1 Rw ∷ put "/plain:box/a" "x" ∷ Begin 0 0 Rw ∷ put "/plain:box/a" "x" ∷ []

abbrev pub at_device_replies : List StepReply
at_device_replies = Called said.Accepted ∷ Called (said.Begun 0 None) ∷ Accepted ∷ Called (said.Begun 0 None) ∷ Refused (BadPath (UnknownNode 1)) ∷ []

-- a device of a script, with its modules only
abbrev pub device_of : List (List ℕ) → DeviceParts
device_of modules = record { modules = modules; config = object no_members; operational = object no_members }
