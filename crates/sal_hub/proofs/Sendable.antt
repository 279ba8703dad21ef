-- A hub may go to another thread, with all that it is made of.
use denote.Param.Send.{IsSend, IsSync, sendable}
use Rattle.std.proofs.Crossing.{crosses}
use Rattle.std.proofs.MapsCrossing as maps
use Rattle.sal_types.proofs.seq.Seq.TheSendSync as Seq-here
use Rattle.sal_types.proofs.text.Str.TheSendSync as Str-here
use Rattle.sal_types.proofs.value.Step.TheSendSync as Step-here
use Rattle.sal_types.proofs.value.Cell.TheSendSync as Cell-here
use Rattle.sal_restrict.proofs.ranges.Ranges.TheSendSync as Ranges-here
use Rattle.sal_restrict.proofs.yang_type.Pattern.TheSendSync as Pattern-here
use Rattle.sal_schema.proofs.names.Index.TheSendSync as Index-here
use Rattle.sal_schema.proofs.table.NodeInfo.TheSendSync as NodeInfo-here
use Rattle.sal_schema.proofs.table.IdentityInfo.TheSendSync as IdentityInfo-here
use Rattle.sal_rows.proofs.op.Op.TheSendSync as Op-here
use Rattle.sal_rows.proofs.outcome.Outcome.TheSendSync as Outcome-here
use Rattle.sal_rows.proofs.outcome.Mode.TheSendSync as Mode-here
use Rattle.sal_mod.proofs.changes.Mod.TheSendSync as Mod-here
use Rattle.sal_hub.proofs.journal.Journal.TheSendSync as Journal-here
use Rattle.sal_hub.proofs.chains.Chains.TheSendSync as Chains-here
use Rattle.sal_hub.proofs.marks.Marks.TheSendSync as Marks-here
use Rattle.sal_hub.proofs.listeners.Listeners.TheSendSync as Listeners-here
use Rattle.sal_hub.proofs.services.Services.TheSendSync as Services-here
use Rattle.sal_restrict.specs.contracts.yang_type.YangType as YangType
use Rattle.sal_restrict.proofs.yang_type.YangType.TheLaws.TheKnot as YangType-knot
use Rattle.sal_node.specs.contracts.node.Node as Node
use Rattle.sal_node.proofs.node.Node.TheLaws.TheKnot as Node-knot
use Rattle.sal_schema.specs.contracts.table.SchemaTable as SchemaTable
use Rattle.sal_schema.specs.contracts.schema.Schema as Schema
use Rattle.sal_check.specs.contracts.plan.Plan as Plan
use Rattle.sal_tree.specs.contracts.root.Root as Root
use Rattle.sal_tree.specs.contracts.commit.Pair as Pair
use Rattle.sal_tree.specs.contracts.commit.Commit as Commit
use Rattle.sal_tx.specs.contracts.begun.Begun as Begun
use Rattle.sal_tx.specs.contracts.tx.ReadTx as ReadTx
use Rattle.sal_tx.specs.contracts.writing.Writing as Writing
use Rattle.sal_tx.specs.contracts.tx.WriteTx as WriteTx
use Rattle.sal_tx.specs.contracts.tx.Tx as Tx
use Rattle.sal_tx.specs.contracts.tx.Submission as Submission
use Rattle.sal_commit.specs.contracts.domain.Domain as Domain
use Rattle.sal_hub.specs.contracts.pipeline.Pipeline as Pipeline
use Rattle.sal_hub.specs.contracts.hub.Hub as Hub

YangType-send : IsSend YangType.the_row
YangType-send = search (YangType-knot.crosses, Seq-here.the_send, Str-here.the_send, Ranges-here.the_send, Pattern-here.the_send, crosses, maps.crosses, sendable) depth 40 fits 20000

YangType-sync : IsSync YangType.the_row
YangType-sync = search (YangType-knot.crosses, Seq-here.the_sync, Str-here.the_sync, Ranges-here.the_sync, Pattern-here.the_sync, crosses, maps.crosses, sendable) depth 40 fits 20000

Node-send : IsSend Node.the_row
Node-send = search (Node-knot.crosses, Step-here.the_send, Step-here.the_sync, Cell-here.the_send, Cell-here.the_sync, crosses, maps.crosses, sendable) depth 40 fits 20000

Node-sync : IsSync Node.the_row
Node-sync = search (Node-knot.crosses, Step-here.the_send, Step-here.the_sync, Cell-here.the_send, Cell-here.the_sync, crosses, maps.crosses, sendable) depth 40 fits 20000

SchemaTable-field_send : IsSend (SchemaTable.the_field).row
SchemaTable-field_send = search (Seq-here.the_send, Str-here.the_send, NodeInfo-here.the_send, IdentityInfo-here.the_send, YangType-send, crosses, maps.crosses, sendable) depth 40 fits 20000

SchemaTable-field_sync : IsSync (SchemaTable.the_field).row
SchemaTable-field_sync = search (Seq-here.the_sync, Str-here.the_sync, NodeInfo-here.the_sync, IdentityInfo-here.the_sync, YangType-sync, crosses, maps.crosses, sendable) depth 40 fits 20000

pub Schema-send : IsSend Schema.the_row
Schema-send = search (SchemaTable-field_send, Index-here.the_send, crosses, maps.crosses, sendable) depth 40 fits 20000

pub Schema-sync : IsSync Schema.the_row
Schema-sync = search (SchemaTable-field_sync, Index-here.the_sync, crosses, maps.crosses, sendable) depth 40 fits 20000

Plan-field_send : IsSend (Plan.the_field).row
Plan-field_send = search (Schema-send, Schema-sync, crosses, maps.crosses, sendable) depth 40 fits 20000

Root-send : IsSend Root.the_row
Root-send = search (Node-send, Node-sync, crosses, maps.crosses, sendable) depth 40 fits 20000

Pair-field_send : IsSend (Pair.the_field).row
Pair-field_send = search (Root-send, crosses, maps.crosses, sendable) depth 40 fits 20000

Commit-send : IsSend Commit.the_row
Commit-send = search (Seq-here.the_send, Seq-here.the_sync, Op-here.the_send, Op-here.the_sync, Pair-field_send, crosses, maps.crosses, sendable) depth 40 fits 20000

Begun-field_send : IsSend (Begun.the_field).row
Begun-field_send = search (Schema-send, Schema-sync, crosses, maps.crosses, sendable) depth 40 fits 20000

ReadTx-field_send : IsSend (ReadTx.the_field).row
ReadTx-field_send = search (Begun-field_send, Pair-field_send, crosses, maps.crosses, sendable) depth 40 fits 20000

Writing-field_send : IsSend (Writing.the_field).row
Writing-field_send = search (Begun-field_send, Mode-here.the_field_send, Pair-field_send, Mod-here.the_send, crosses, maps.crosses, sendable) depth 40 fits 20000

WriteTx-send : IsSend WriteTx.the_row
WriteTx-send = search (Writing-field_send, Pair-field_send, crosses, maps.crosses, sendable) depth 40 fits 20000

pub Tx-send : IsSend Tx.the_row
Tx-send = search (ReadTx-field_send, WriteTx-send, crosses, maps.crosses, sendable) depth 40 fits 20000

Submission-send : IsSend Submission.the_row
Submission-send = search (Pair-field_send, Mod-here.the_send, crosses, maps.crosses, sendable) depth 40 fits 20000

Domain-send : IsSend Domain.the_row
Domain-send = search (Schema-send, Schema-sync, Commit-send, Plan-field_send, crosses, maps.crosses, sendable) depth 40 fits 20000

Pipeline-field_send : IsSend (Pipeline.the_field).row
Pipeline-field_send = search (Domain-send, Submission-send, Outcome-here.the_send, crosses, maps.crosses, sendable) depth 40 fits 20000

pub Hub-send : IsSend Hub.the_row
Hub-send = search (Pipeline-field_send, Journal-here.the_send, Chains-here.the_field_send, Marks-here.the_field_send, Listeners-here.the_field_send, Services-here.the_field_send, crosses, maps.crosses, sendable) depth 40 fits 20000
