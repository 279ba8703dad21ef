-- The service, and then its input.
use Rattle.serde_json.specs.View.{view}
use Rattle.sal_client.specs.Asked.{IsAskBy}
use Rattle.sal_client.proofs.Faults.{err_so}
use Rattle.sal_client.proofs.Wanted.{ask_by, ask_refuses}
use Rattle.sal_client.proofs.rpcs.ask_by.Goals as goal

pub returns-in_err-service : goal.returns-in_err-service
returns-in_err-service c =
    let table = c.args.reader.now in
    let value = view c.args.value.now in
    let e = c.in_err-service.field-0.0 in
    err_so (IsAskBy table c.args.name.now c.args.text.now value) _ e c.from_residual.ensures.1 (ask_refuses table c.args.name.now c.args.text.now value e c.in_err-service.ensures)

pub returns : goal.returns
returns c = ask_by c.args.reader.now c.args.name.now c.args.text.now (view c.args.value.now) c.in_ok-service.service c.ask_of.result c.in_ok-service.ensures c.ask_of.ensures
