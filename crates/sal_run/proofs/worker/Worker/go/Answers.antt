-- The client answers its local steps first.
use Rattle.std.proofs.Common.{Option, subst}
use Rattle.sal_client.specs.declared.wish.Wish.{Wish}
use Rattle.sal_client.specs.Runs.{Comes}
use Rattle.sal_broker.specs.Seats.{known}
use Rattle.sal_client.proofs.Soundness.{HasSchema-sound}
use Rattle.sal_run.proofs.Going.{at_last, stands_asking}
use Rattle.sal_run.proofs.Looking.{looked_same}
use Rattle.sal_run.proofs.worker.Worker.go.Goals as goal

pub next-requires-clause-schema : goal.next-requires-clause-schema
next-requires-clause-schema g c κs within =
    let was = c.requires.stands in
    HasSchema-sound c.args.self.now.readers.now (known c.args.seat.view) c.args.run.now.client was.sound.steady was.reads

pub call-requires-clause-stands : goal.call-requires-clause-stands
call-requires-clause-stands g c κs within =
    let tables = c.args.self.now.readers.now in
    let steps = c.args.self.now.steps.now in
    let v = c.args.seat.view in
    let mid = c.next.new.self in
    let last = c.tokens_last.ensures in
    let e = c.in-Ok-Some.ensures in
    let comes = subst (λ (o : Option Wish). Comes tables steps c.args.run.now o mid) c.in-Ok-Some.field-0-is e.comes in
    stands_asking (last.begun, last.given, last.opened, last.called) tables steps v.number (known v) v.own c.in-Ok-Some.wish c.args.run.now mid comes e.sound e.program e.number c.requires.stands

pub returns-in-Ok-None-clause-ended : goal.returns-in-Ok-None-clause-ended
returns-in-Ok-None-clause-ended g c ended =
    let tables = c.args.self.now.readers.now in
    let steps = c.args.self.now.steps.now in
    let v = c.args.seat.view in
    let mid = c.next.new.self in
    let last = c.tokens_last.ensures in
    let e = c.in-Ok-None.ensures in
    let comes = subst (λ (o : Option Wish). Comes tables steps c.args.run.now o mid) c.in-Ok-None.field-0-is e.comes in
    record {
      whole = c.requires.stands.whole;
      at = at_last (last.begun, last.given, last.opened, last.called) tables steps v.number (known v) v.own c.args.run.now mid comes e.sound e.number c.requires.stands;
    }

pub returns-in-Ok-None-clause-looks : goal.returns-in-Ok-None-clause-looks
returns-in-Ok-None-clause-looks g c = looked_same c.args.seat.view
