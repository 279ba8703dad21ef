-- Which types may go to another thread.
use denote.Param.Send.{IsSend, IsSync, sendable}
use Rattle.std.proofs.Crossing.{crosses}
use Rattle.std.proofs.MapsCrossing as maps
use Rattle.serde_json.specs.contracts.value.Value as Value
use Rattle.serde_json.proofs.value.Value.TheLaws.TheKnot as Value-knot
use Rattle.sal_types.proofs.seq.Seq.TheSendSync as Seq-here
use Rattle.sal_types.proofs.text.Str.TheSendSync as Str-here
use Rattle.sal_types.proofs.value.Cell.TheSendSync as Cell-here
use Rattle.sal_types.proofs.value.Step.TheSendSync as Step-here
use Rattle.sal_types.proofs.value.Store.TheSendSync as Store-here
use Rattle.sal_rows.proofs.clash.Rules.TheSendSync as Rules-here
use Rattle.sal_rows.proofs.outcome.Mode.TheSendSync as Mode-here
use Rattle.sal_script.specs.contracts.script.ScriptDevice as ScriptDevice
use Rattle.sal_script.specs.contracts.script.ScriptStep as ScriptStep
use Rattle.sal_script.specs.contracts.script.Script as Script
use Rattle.sal_client.specs.contracts.reader.Reader as Reader
use Rattle.sal_client.specs.contracts.readers.Readers as Readers
use Rattle.sal_node.specs.contracts.node.Node as Node
use Rattle.sal_node.proofs.node.Node.TheLaws.TheKnot as Node-knot
use Rattle.sal_tree.specs.contracts.root.Root as Root
use Rattle.sal_rowtree.specs.contracts.row_tree.RowTree as RowTree
use Rattle.sal_follow.proofs.fault.FollowFault.TheSendSync as FollowFault-here
use Rattle.sal_follow.specs.contracts.state.State as State
use Rattle.sal_follow.specs.contracts.follower.Follower as Follower
use Rattle.sal_prepare.specs.contracts.domains.Schemas as Schemas
use Rattle.sal_prepare.specs.contracts.resumed.Ground as Ground
use Rattle.sal_embed.specs.contracts.caller.Caller as Caller
use Rattle.sal_embed.specs.contracts.clients.Clients as Clients
use Rattle.sal_embed.specs.contracts.embedded.Embedded as Embedded
use Rattle.sal_cluster.specs.contracts.beside.Beside as Beside
use Rattle.sal_cluster.proofs.bases.Bases.TheSendSync as Bases-here
use Rattle.sal_cluster.specs.contracts.leader.Leader as Leader
use Rattle.sal_cluster.specs.contracts.standby.Standing as Standing
use Rattle.sal_cluster.specs.contracts.standby.StandBy as StandBy
use Rattle.sal_session.specs.contracts.role.Role as Role
use Rattle.sal_session.specs.contracts.session.Session as Session
use Rattle.sal_session.specs.contracts.text.Text as Text
use Rattle.sal_hub.proofs.Sendable.{Hub-send, Schema-send, Schema-sync}
use Rattle.sal_client.proofs.Sendable.{ClientRun-field_send, Patterns-send, Patterns-sync}

Reader-send : IsSend Reader.the_row
Reader-send = search (Schema-send, Schema-sync, Patterns-send, Patterns-sync, crosses, maps.crosses, sendable) depth 40 fits 20000

Readers-send : IsSend Readers.the_row
Readers-send = search (Reader-send, crosses, maps.crosses, sendable) depth 40 fits 20000

-- ---- a broker

Caller-field_send : IsSend (Caller.the_field).row
Caller-field_send = search (ClientRun-field_send, crosses, maps.crosses, sendable) depth 40 fits 20000

Clients-field_send : IsSend (Clients.the_field).row
Clients-field_send = search (Hub-send, Caller-field_send, crosses, maps.crosses, sendable) depth 40 fits 20000

Embedded-send : IsSend Embedded.the_row
Embedded-send = search (Clients-field_send, Schema-send, Schema-sync, Readers-send, crosses, maps.crosses, sendable) depth 40 fits 20000

Leader-field_send : IsSend (Leader.the_field).row
Leader-field_send = search (Embedded-send, Bases-here.the_field_send, crosses, maps.crosses, sendable) depth 40 fits 20000

-- ---- a stand-by

Node-send : IsSend Node.the_row
Node-send = search (Node-knot.crosses, Step-here.the_send, Step-here.the_sync, Cell-here.the_send, Cell-here.the_sync, crosses, maps.crosses, sendable) depth 40 fits 20000

Node-sync : IsSync Node.the_row
Node-sync = search (Node-knot.crosses, Step-here.the_send, Step-here.the_sync, Cell-here.the_send, Cell-here.the_sync, crosses, maps.crosses, sendable) depth 40 fits 20000

Root-send : IsSend Root.the_row
Root-send = search (Node-send, Node-sync, crosses, maps.crosses, sendable) depth 40 fits 20000

RowTree-send : IsSend RowTree.the_row
RowTree-send = search (Root-send, crosses, maps.crosses, sendable) depth 40 fits 20000

State-field_send : IsSend (State.the_field).row
State-field_send = search (FollowFault-here.the_send, RowTree-send, crosses, maps.crosses, sendable) depth 40 fits 20000

Follower-send : IsSend Follower.the_row
Follower-send = search (Schema-send, Schema-sync, Patterns-send, Patterns-sync, State-field_send, crosses, maps.crosses, sendable) depth 40 fits 20000

Beside-send : IsSend Beside.the_row
Beside-send = search (Follower-send, crosses, maps.crosses, sendable) depth 40 fits 20000

Value-field_send : IsSend (Value.the_field).row
Value-field_send = search (Value-knot.crosses, crosses, maps.crosses, sendable) depth 40 fits 20000

ScriptStep-field_send : IsSend (ScriptStep.the_field).row
ScriptStep-field_send = search (Mode-here.the_field_send, Store-here.the_field_send, Str-here.the_send, Value-field_send, crosses, maps.crosses, sendable) depth 40 fits 20000

ScriptDevice-field_send : IsSend (ScriptDevice.the_field).row
ScriptDevice-field_send = search (Seq-here.the_send, Str-here.the_send, Value-field_send, crosses, maps.crosses, sendable) depth 40 fits 20000

Script-field_send : IsSend (Script.the_field).row
Script-field_send =
    search (Seq-here.the_send, Str-here.the_send, Rules-here.the_field_send, Value-field_send, ScriptStep-field_send, ScriptDevice-field_send, crosses, maps.crosses, sendable) depth 40 fits 20000

Schemas-field_send : IsSend (Schemas.the_field).row
Schemas-field_send = search (Schema-send, Schema-sync, crosses, maps.crosses, sendable) depth 40 fits 20000

Ground-field_send : IsSend (Ground.the_field).row
Ground-field_send = search (Script-field_send, Schema-send, Schema-sync, Readers-send, Schemas-field_send, crosses, maps.crosses, sendable) depth 40 fits 20000

Standing-field_send : IsSend (Standing.the_field).row
Standing-field_send = search (Beside-send, Ground-field_send, crosses, maps.crosses, sendable) depth 40 fits 20000

StandBy-send : IsSend StandBy.the_row
StandBy-send = search (Standing-field_send, crosses, maps.crosses, sendable) depth 40 fits 20000

-- ---- a session

Role-field_send : IsSend (Role.the_field).row
Role-field_send = search (Leader-field_send, StandBy-send, crosses, maps.crosses, sendable) depth 40 fits 20000

Text-field_send : IsSend (Text.the_field).row
Text-field_send = search (Seq-here.the_send, Str-here.the_send, crosses, maps.crosses, sendable) depth 40 fits 20000

-- a session may go to another thread
pub Session-send : IsSend Session.the_row
Session-send = search (Role-field_send, Text-field_send, crosses, maps.crosses, sendable) depth 40 fits 20000
