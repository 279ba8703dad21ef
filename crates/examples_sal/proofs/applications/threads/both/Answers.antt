use denote.Param.Send.{IsSync, given_sync, sendable}
use Rattle.std.proofs.Crossing.{crosses}
use Rattle.anyhow.proofs.error.Error.TheSendSync as Error
use Rattle.examples_sal.proofs.counter.leaf.Counter.TheSendSync as Counter
use Rattle.sal.proofs.Sendable.{Seat-send, Sal-sync}
use Rattle.examples_sal.proofs.applications.threads.both.Goals as goal

pub join-one-requires-send-F : goal.join-one-requires-send-F
join-one-requires-send-F g c κs within =
    let handle : IsSync g.row.R = given_sync 0 g.row.R c.type_bounds.sync-R in
    search (Seat-send, Sal-sync, Counter.the_sync, crosses, sendable) depth 40 fits 20000

pub join-one-requires-send-A : goal.join-one-requires-send-A
join-one-requires-send-A g c κs within = search (Seat-send, Error.the_send, crosses, sendable) depth 40 fits 20000
