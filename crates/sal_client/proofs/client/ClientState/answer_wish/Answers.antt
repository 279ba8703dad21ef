-- The request in the slot, and then its output.
use Rattle.std.proofs.Common.{Err, Ok, sym}
use Rattle.serde_json.specs.View.{view}
use Rattle.sal_script.specs.Moves.{Answer}
use Rattle.sal_client.specs.Wishes.{Wants}
use Rattle.sal_client.proofs.Faults.{err_so}
use Rattle.sal_client.proofs.Wanted.{wants_answer}
use Rattle.sal_client.proofs.client.ClientState.answer_wish.Goals as goal

pub returns-in_err-answer : goal.returns-in_err-answer
returns-in_err-answer c =
    let e = c.in_err-answer.field-0.0 in
    let value = view c.args.value.now in
    err_so (Wants c.args.readers.now c.args.self.now (Answer c.args.slot value)) _ e c.from_residual.ensures.1
    (wants_answer c.args.readers.now c.args.self.now c.own.result.now c.own.ensures c.args.slot value c.in-Some.request.now (sym c.in-Some.ensures) (Err e) c.in_err-answer.ensures)

pub returns : goal.returns
returns c = wants_answer c.args.readers.now c.args.self.now c.own.result.now c.own.ensures c.args.slot (view c.args.value.now) c.in-Some.request.now (sym c.in-Some.ensures) (Ok c.in_ok-answer.answer) c.in_ok-answer.ensures
