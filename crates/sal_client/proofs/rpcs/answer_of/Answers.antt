-- The rows of the output were read, or why they were not.
use Rattle.std.proofs.Common.{ap, ◌∙◌, refl, sym, subst}
use Rattle.serde_json.specs.View.{view}
use Rattle.sal_script.specs.Messages.{output_of}
use Rattle.sal_script.specs.Services.{rows_of}
use Rattle.sal_client.specs.Asked.{IsAnswerTo}
use Rattle.sal_client.specs.Faults.{Refuses}
use Rattle.sal_client.proofs.Faults.{err_so}
use Rattle.sal_client.proofs.rpcs.answer_of.Goals as goal

pub returns-in_err-output : goal.returns-in_err-output
returns-in_err-output c =
    let table = c.args.reader.now in
    let value = view c.args.value.now in
    let node = c.output_of-node.ensures ∙ ap (λ t. output_of t c.args.request.rpc) c.schema.ensures in
    let e = c.in_err-output.field-0.0 in
    err_so (IsAnswerTo table c.args.request value) _ e c.from_residual.ensures.1 (subst (λ n. Refuses e (rows_of table n value)) node c.in_err-output.ensures)

pub returns : goal.returns
returns c =
    let table = c.args.reader.now in
    let value = view c.args.value.now in
    let node = c.output_of-node.ensures ∙ ap (λ t. output_of t c.args.request.rpc) c.schema.ensures in
    (refl, ap view c.of.ensures, ap (λ n. rows_of table n value) (sym node) ∙ c.in_ok-output.ensures)
