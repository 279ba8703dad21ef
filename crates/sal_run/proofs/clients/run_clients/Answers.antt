-- Each client's data go to its thread, and its results come back.
use Rattle.std.proofs.Common.{get_or, subst}
use denote.Param.Send.{IsSync, given_sync, sendable}
use Rattle.std.proofs.Crossing.{crosses}
use Rattle.sal_types.proofs.seq.Seq.TheSendSync as Seq
use Rattle.sal_broker.specs.Seats.{inside}
use Rattle.sal_run.specs.declared.clients.SeatedRun.{SeatedRun}
use Rattle.sal_run.specs.Worked.{Worked}
use Rattle.sal_broker.proofs.Sendable.{Sal-sync}
use Rattle.sal_run.proofs.Sendable.{SeatedRun-send, Readers-sync, ScriptStep-sync}
use Rattle.sal_run.proofs.clients.run_clients.Goals as goal

pub for_each_mut-requires-send-T : goal.for_each_mut-requires-send-T
for_each_mut-requires-send-T g c κs within = search (SeatedRun-send, sendable) depth 40 fits 20000

pub for_each_mut-requires-sync-F : goal.for_each_mut-requires-sync-F
for_each_mut-requires-sync-F g c κs within =
    let handle : IsSync g.row.R = given_sync 0 g.row.R c.type_bounds.sync-R in
    let gate : IsSync g.row.G = given_sync 1 g.row.G c.type_bounds.sync-G in
    search (Sal-sync, Readers-sync, ScriptStep-sync, Seq.the_sync, crosses, sendable) depth 40 fits 20000

pub returns-clause-each : goal.returns-clause-each
returns-clause-each g c = λ i r within.
    let at = (c.for_each_mut.ensures i r within).1 in
    let tables = c.args.hall.now.readers.now in
    let lock = c.args.hall.now.sal.now in
    let programs = c.args.programs.now in
    subst (λ (f : SeatedRun). Worked tables lock programs (inside (get_or c.args.runs.now i r).seat) f) at.left
    (subst (λ (s : SeatedRun). Worked tables lock programs (inside s.seat) at.after_call.now) at.argument_is at.call)
