-- Which types may go to another thread, and which may be shared with one.
use denote.Param.Send.{IsSend, IsSync, sendable}
use Rattle.std.proofs.Crossing.{crosses}
use Rattle.std.proofs.MapsCrossing as maps
use Rattle.sal_types.proofs.text.Str.TheSendSync as Str-here
use Rattle.sal_types.proofs.value.Store.TheSendSync as Store-here
use Rattle.sal_rows.proofs.outcome.Mode.TheSendSync as Mode-here
use Rattle.sal_client.proofs.wish.RunFault.TheSendSync as RunFault-here
use Rattle.serde_json.specs.contracts.value.Value as Value
use Rattle.serde_json.proofs.value.Value.TheLaws.TheKnot as Value-knot
use Rattle.sal_script.specs.contracts.script.ScriptStep as ScriptStep
use Rattle.sal_client.specs.contracts.reader.Reader as Reader
use Rattle.sal_client.specs.contracts.readers.Readers as Readers
use Rattle.sal_run.specs.contracts.clients.SeatedRun as SeatedRun
use Rattle.sal_hub.proofs.Sendable.{Schema-send, Schema-sync}
use Rattle.sal_broker.proofs.Sendable.{Seat-send}
use Rattle.sal_client.proofs.Sendable.{ClientRun-field_send, Patterns-sync}

Value-field_sync : IsSync (Value.the_field).row
Value-field_sync = search (Value-knot.crosses, crosses, maps.crosses, sendable) depth 40 fits 20000

pub ScriptStep-sync : IsSync ScriptStep.the_row
ScriptStep-sync = search (Mode-here.the_field_sync, Store-here.the_field_sync, Str-here.the_sync, Value-field_sync, crosses, maps.crosses, sendable) depth 40 fits 20000

Reader-sync : IsSync Reader.the_row
Reader-sync = search (Schema-send, Schema-sync, Patterns-sync, crosses, maps.crosses, sendable) depth 40 fits 20000

pub Readers-sync : IsSync Readers.the_row
Readers-sync = search (Reader-sync, crosses, maps.crosses, sendable) depth 40 fits 20000

pub SeatedRun-send : IsSend SeatedRun.the_row
SeatedRun-send = search (ClientRun-field_send, Seat-send, RunFault-here.the_send, crosses, sendable) depth 40 fits 20000
