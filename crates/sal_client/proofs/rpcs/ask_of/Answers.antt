-- The rows of the input were read, or why they were not.
use Rattle.std.proofs.Common.{ap, ◌∙◌, refl, sym, subst}
use Rattle.serde_json.specs.View.{view}
use Rattle.sal_script.specs.Messages.{input_of}
use Rattle.sal_script.specs.Services.{rows_of}
use Rattle.sal_client.specs.Asked.{IsAsk}
use Rattle.sal_client.specs.Faults.{Refuses}
use Rattle.sal_client.proofs.Faults.{err_so}
use Rattle.sal_client.proofs.rpcs.ask_of.Goals as goal

pub returns-in_err-input : goal.returns-in_err-input
returns-in_err-input c =
    let table = c.args.reader.now in
    let value = view c.args.value.now in
    let node = c.input_of-node.ensures ∙ ap (λ t. input_of t c.args.service.rpc) c.schema.ensures in
    let e = c.in_err-input.field-0.0 in
    err_so (IsAsk table c.args.service value) _ e c.from_residual.ensures.1 (subst (λ n. Refuses e (rows_of table n value)) node c.in_err-input.ensures)

pub returns : goal.returns
returns c =
    let table = c.args.reader.now in
    let value = view c.args.value.now in
    let node = c.input_of-node.ensures ∙ ap (λ t. input_of t c.args.service.rpc) c.schema.ensures in
    (refl, ap view c.of.ensures, ap (λ n. rows_of table n value) (sym node) ∙ c.in_ok-input.ensures)
