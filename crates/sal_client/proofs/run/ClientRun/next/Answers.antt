-- A step is answered by the client, or asks for a shared call.
use Rattle.std.proofs.Common.{refl, ap, ◌∙◌, subst, arith}
use Rattle.std.specs.Prelude.{None, Some}
use Rattle.sal_script.specs.Moves.{move_of}
use Rattle.sal_client.specs.Clients.{client_of}
use Rattle.sal_client.specs.Wishes.{Meets}
use Rattle.sal_client.proofs.Going.{asks_turn, local_turn}
use Rattle.sal_client.proofs.Values.{json_at}
use Rattle.sal_client.proofs.run.ClientRun.next.Goals as goal

pub meet-requires-clause-json : goal.meet-requires-clause-json
meet-requires-clause-json g c =
    json_at c.args.steps.now c.loop-i.i c.index-steps-i.result c.loop-i.invariant.program.json c.loop-i-test.true c.index-steps-i.is

pub loop-i-preserved : goal.loop-i-preserved
loop-i-preserved g c =
    let step = c.index-steps-i.result in
    let was = c.loop-i.invariant in
    let tables = c.args.readers.now in
    let met = c.in_ok-met.ensures in
    let local = subst (λ o. Meets tables c.loop-i.self.client (move_of step) o c.meet.new.self) c.in-None.is met.meets in
    record {
      at = refl;
      from = omega (arith, was.from);
      program = record { within = omega arith; short = was.program.short; json = was.program.json };
      schema = met.schema;
      sound = record { steady = λ known is. met.sound.steady known (was.sound.steady known is); sound = λ known is. met.sound.sound known (was.sound.sound known is) };
      number = met.number ∙ was.number;
      rest = λ known is of. was.rest known is of ∙ local_turn tables known (client_of c.loop-i.self.client) (client_of c.meet.new.self) c.args.steps.now c.loop-i.i step c.loop-i-test.true c.index-steps-i.is (local known (was.sound.steady known is) of);
    }

pub returns-in-Some-clause-comes : goal.returns-in-Some-clause-comes
returns-in-Some-clause-comes g c =
    let step = c.index-steps-i.result in
    let was = c.loop-i.invariant in
    let tables = c.args.readers.now in
    let met = c.in_ok-met.ensures in
    let asks = subst (λ o. Meets tables c.loop-i.self.client (move_of step) o c.meet.new.self) c.in-Some.is met.meets in (
      λ known is of. was.rest known is of ∙ asks_turn tables known (client_of c.loop-i.self.client) (client_of c.meet.new.self) c.args.steps.now c.loop-i.i step c.in-Some.wish c.loop-i-test.true c.index-steps-i.is asks.0 asks.3,
      asks.1,
      asks.2,
      omega (arith, was.from),
    )

pub returns-in-Some-clause-sound : goal.returns-in-Some-clause-sound
returns-in-Some-clause-sound g c =
    let was = c.loop-i.invariant.sound in
    let met = c.in_ok-met.ensures.sound in
    record { steady = λ known is. met.steady known (was.steady known is); sound = λ known is. met.sound known (was.sound known is) }

pub returns-in-Some-clause-number : goal.returns-in-Some-clause-number
returns-in-Some-clause-number g c = c.in_ok-met.ensures.number ∙ c.loop-i.invariant.number

pub returns-in-Some-clause-program : goal.returns-in-Some-clause-program
returns-in-Some-clause-program g c = record { within = omega arith; short = c.loop-i.invariant.program.short; json = c.loop-i.invariant.program.json }
