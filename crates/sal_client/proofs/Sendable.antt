-- A client may go to another thread, and patterns may be shared with one.
use denote.Param.Send.{IsSend, IsSync, sendable}
use Rattle.std.proofs.Crossing.{crosses}
use Rattle.std.proofs.MapsCrossing as maps
use Rattle.sal_types.proofs.seq.Seq.TheSendSync as Seq-here
use Rattle.sal_types.proofs.path.Path.TheSendSync as Path-here
use Rattle.sal_types.proofs.value.Cell.TheSendSync as Cell-here
use Rattle.sal_types.proofs.value.Step.TheSendSync as Step-here
use Rattle.sal_types.proofs.value.Store.TheSendSync as Store-here
use Rattle.sal_node.specs.contracts.node.Node as Node
use Rattle.sal_node.proofs.node.Node.TheLaws.TheKnot as Node-knot
use Rattle.sal_tree.specs.contracts.root.Root as Root
use Rattle.sal_rowtree.specs.contracts.row_tree.RowTree as RowTree
use Rattle.sal_listen.specs.contracts.mirror.Mirror as Mirror
use Rattle.sal_hub.proofs.listener.ListenerId.TheSendSync as ListenerId-here
use Rattle.sal_hub.proofs.chain.Chain.TheSendSync as Chain-here
use Rattle.sal_hub.proofs.receipt.Receipt.TheSendSync as Receipt-here
use Rattle.sal_hub.proofs.call_id.CallId.TheSendSync as CallId-here
use Rattle.sal_script.proofs.reply.StepReply.TheSendSync as StepReply-here
use Rattle.sal_client.proofs.slots.Slot.TheSendSync as Slot-here
use Rattle.sal_client.proofs.rpcs.Invocation.TheSendSync as Invocation-here
use Rattle.regex_class.proofs.Class.TheSendSync as Class-here
use Rattle.regex_hir.proofs.look.Look.TheSendSync as Look-here
use Rattle.regex_dfa.proofs.dfa.Dfa.TheSendSync as Dfa-here
use Rattle.regex_literal.proofs.byte_set.ByteSet.TheSendSync as ByteSet-here
use Rattle.regex_literal.proofs.prefilter.Prefilter.TheSendSync as Prefilter-here
use Rattle.regex_literal.proofs.ladder.Ladder.TheSendSync as Ladder-here
use Rattle.regex_literal.proofs.caseless.Caseless.TheSendSync as Caseless-here
use Rattle.regex_extract.proofs.frames.Frame.TheSendSync as Frame-here
use Rattle.regex_meta.proofs.plan.Role.TheSendSync as Role-here
use Rattle.sal_client.specs.contracts.follower.Follower as Follower
use Rattle.sal_client.specs.contracts.client.ClientState as ClientState
use Rattle.sal_client.specs.contracts.run.ClientRun as ClientRun
use Rattle.regex_hir.specs.contracts.hir.Hir as Hir
use Rattle.regex_hir.proofs.hir.Hir.TheLaws.TheKnot as Hir-knot
use Rattle.regex_meta.specs.contracts.plan.Plan as Plan_of
use Rattle.regex_meta.specs.contracts.plan.Plans as Plans
use Rattle.regex_meta.specs.contracts.signs.Signs as Signs
use Rattle.regex_meta.specs.contracts.program.Program as Program
use Rattle.regex.specs.contracts.pattern.Pattern as RegexPattern
use Rattle.regex.specs.contracts.string.regex.Regex as Regex
use Rattle.sal_json.specs.contracts.whole.Begun as Begun
use Rattle.sal_json.specs.contracts.whole.Free as Free
use Rattle.sal_json.specs.contracts.whole.Kind as Kind
use Rattle.sal_json.specs.contracts.whole.Whole as Whole
use Rattle.sal_json.specs.contracts.patterns.Patterns as Patterns
use Rattle.sal_hub.proofs.Sendable.{Tx-send}

Node-send : IsSend Node.the_row
Node-send = search (Node-knot.crosses, Step-here.the_send, Step-here.the_sync, Cell-here.the_send, Cell-here.the_sync, crosses, maps.crosses, sendable) depth 40 fits 20000

Node-sync : IsSync Node.the_row
Node-sync = search (Node-knot.crosses, Step-here.the_send, Step-here.the_sync, Cell-here.the_send, Cell-here.the_sync, crosses, maps.crosses, sendable) depth 40 fits 20000

Root-send : IsSend Root.the_row
Root-send = search (Node-send, Node-sync, crosses, maps.crosses, sendable) depth 40 fits 20000

RowTree-send : IsSend RowTree.the_row
RowTree-send = search (Root-send, crosses, maps.crosses, sendable) depth 40 fits 20000

Mirror-field_send : IsSend (Mirror.the_field).row
Mirror-field_send = search (RowTree-send, crosses, maps.crosses, sendable) depth 40 fits 20000

Follower-send : IsSend Follower.the_row
Follower-send = search (ListenerId-here.the_field_send, Store-here.the_field_send, Path-here.the_send, Mirror-field_send, crosses, maps.crosses, sendable) depth 40 fits 20000

ClientState-field_send : IsSend (ClientState.the_field).row
ClientState-field_send = search (Slot-here.the_send, Tx-send, Receipt-here.the_send, Chain-here.the_send, Follower-send, CallId-here.the_send, Invocation-here.the_send, StepReply-here.the_send, crosses, maps.crosses, sendable) depth 40 fits 20000

pub ClientRun-field_send : IsSend (ClientRun.the_field).row
ClientRun-field_send = search (ClientState-field_send, crosses, maps.crosses, sendable) depth 40 fits 20000

Hir-sync : IsSync Hir.the_row
Hir-sync = search (Hir-knot.crosses, Class-here.the_field_sync, Look-here.the_field_sync, crosses, maps.crosses, sendable) depth 40 fits 20000

Hir-send : IsSend Hir.the_row
Hir-send = search (Hir-knot.crosses, Class-here.the_field_send, Look-here.the_field_send, crosses, maps.crosses, sendable) depth 40 fits 20000

Hir-field_sync : IsSync (Hir.the_field).row
Hir-field_sync = search (Hir-knot.crosses, Class-here.the_field_sync, Look-here.the_field_sync, crosses, maps.crosses, sendable) depth 40 fits 20000

Hir-field_send : IsSend (Hir.the_field).row
Hir-field_send = search (Hir-knot.crosses, Class-here.the_field_send, Look-here.the_field_send, crosses, maps.crosses, sendable) depth 40 fits 20000

Plan_of-sync : IsSync Plan_of.the_row
Plan_of-sync = search (Role-here.the_field_sync, Prefilter-here.the_sync, Frame-here.the_sync, Hir-sync, Ladder-here.the_field_sync, crosses, maps.crosses, sendable) depth 40 fits 20000

Plan_of-send : IsSend Plan_of.the_row
Plan_of-send = search (Role-here.the_field_send, Prefilter-here.the_send, Frame-here.the_send, Hir-send, Ladder-here.the_field_send, crosses, maps.crosses, sendable) depth 40 fits 20000

Plans-field_sync : IsSync (Plans.the_field).row
Plans-field_sync = search (Plan_of-sync, crosses, maps.crosses, sendable) depth 40 fits 20000

Plans-field_send : IsSend (Plans.the_field).row
Plans-field_send = search (Plan_of-send, crosses, maps.crosses, sendable) depth 40 fits 20000

Signs-sync : IsSync Signs.the_row
Signs-sync = search (Caseless-here.the_sync, Hir-sync, crosses, maps.crosses, sendable) depth 40 fits 20000

Signs-send : IsSend Signs.the_row
Signs-send = search (Caseless-here.the_send, Hir-send, crosses, maps.crosses, sendable) depth 40 fits 20000

Program-field_sync : IsSync (Program.the_field).row
Program-field_sync = search (Hir-field_sync, Dfa-here.the_field_sync, Plans-field_sync, Signs-sync, ByteSet-here.the_sync, crosses, maps.crosses, sendable) depth 40 fits 20000

Program-field_send : IsSend (Program.the_field).row
Program-field_send = search (Hir-field_send, Dfa-here.the_field_send, Plans-field_send, Signs-send, ByteSet-here.the_send, crosses, maps.crosses, sendable) depth 40 fits 20000

RegexPattern-field_sync : IsSync (RegexPattern.the_field).row
RegexPattern-field_sync = search (Program-field_sync, crosses, maps.crosses, sendable) depth 40 fits 20000

RegexPattern-field_send : IsSend (RegexPattern.the_field).row
RegexPattern-field_send = search (Program-field_send, crosses, maps.crosses, sendable) depth 40 fits 20000

Regex-field_sync : IsSync (Regex.the_field).row
Regex-field_sync = search (RegexPattern-field_sync, crosses, maps.crosses, sendable) depth 40 fits 20000

Regex-field_send : IsSend (Regex.the_field).row
Regex-field_send = search (RegexPattern-field_send, crosses, maps.crosses, sendable) depth 40 fits 20000

Begun-field_sync : IsSync (Begun.the_field).row
Begun-field_sync = search (Program-field_sync, crosses, maps.crosses, sendable) depth 40 fits 20000

Begun-field_send : IsSend (Begun.the_field).row
Begun-field_send = search (Program-field_send, crosses, maps.crosses, sendable) depth 40 fits 20000

Free-field_sync : IsSync (Free.the_field).row
Free-field_sync = search (Regex-field_sync, crosses, maps.crosses, sendable) depth 40 fits 20000

Free-field_send : IsSend (Free.the_field).row
Free-field_send = search (Regex-field_send, crosses, maps.crosses, sendable) depth 40 fits 20000

Kind-field_sync : IsSync (Kind.the_field).row
Kind-field_sync = search (Begun-field_sync, Free-field_sync, crosses, maps.crosses, sendable) depth 40 fits 20000

Kind-field_send : IsSend (Kind.the_field).row
Kind-field_send = search (Begun-field_send, Free-field_send, crosses, maps.crosses, sendable) depth 40 fits 20000

Whole-sync : IsSync Whole.the_row
Whole-sync = search (Kind-field_sync, crosses, maps.crosses, sendable) depth 40 fits 20000

Whole-send : IsSend Whole.the_row
Whole-send = search (Kind-field_send, crosses, maps.crosses, sendable) depth 40 fits 20000

pub Patterns-sync : IsSync Patterns.the_row
Patterns-sync = search (Seq-here.the_send, Seq-here.the_sync, Whole-send, Whole-sync, crosses, maps.crosses, sendable) depth 40 fits 20000

pub Patterns-send : IsSend Patterns.the_row
Patterns-send = search (Seq-here.the_send, Seq-here.the_sync, Whole-send, Whole-sync, crosses, maps.crosses, sendable) depth 40 fits 20000
