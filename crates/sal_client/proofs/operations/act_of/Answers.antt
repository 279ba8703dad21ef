-- The rows that were read are those of the act.
use Rattle.std.proofs.Common.{Ok, ap, sym, ◌∙◌, subst}
use Rattle.serde_json.specs.View.{view}
use Rattle.sal_rows.specs.declared.op.Act.TheVariants as acts
use Rattle.sal_data.specs.Read.{read_data}
use Rattle.sal_script.specs.Play.{act_of}
use Rattle.sal_client.specs.declared.operations.JsonAct.{JsonAct}
use Rattle.sal_client.specs.Faults.{Reads, Refuses}
use Rattle.sal_client.specs.Operations.{data_act_of, good_data}
use Rattle.sal_client.proofs.Faults.{err_so}
use Rattle.sal_client.proofs.Reading.{act_ok, act_refuses}
use Rattle.sal_client.proofs.operations.act_of.Goals as goal

pub returns-in_err-rows-in-Put : goal.returns-in_err-rows-in-Put
returns-in_err-rows-in-Put c =
    let table = c.args.reader.now in
    let path = c.args.path.now in
    let e = c.in_err-rows-in-Put.field-0.0 in
    err_so (λ r. Reads r (good_data c.args.domain (act_of table path (data_act_of c.args.act)))) _ e c.from_residual.ensures.1
    (subst (λ (a : JsonAct). Refuses e (good_data c.args.domain (act_of table path (data_act_of a)))) (sym c.in-Put.is)
    (act_refuses e c.args.domain (read_data table path (view c.in-Put.value.now)) acts.Put c.in_err-rows-in-Put.ensures))

pub returns-in_err-rows-in-Merge : goal.returns-in_err-rows-in-Merge
returns-in_err-rows-in-Merge c =
    let table = c.args.reader.now in
    let path = c.args.path.now in
    let e = c.in_err-rows-in-Merge.field-0.0 in
    err_so (λ r. Reads r (good_data c.args.domain (act_of table path (data_act_of c.args.act)))) _ e c.from_residual-in_err-rows-in-Merge.ensures.1
    (subst (λ (a : JsonAct). Refuses e (good_data c.args.domain (act_of table path (data_act_of a)))) (sym c.in-Merge.is)
    (act_refuses e c.args.domain (read_data table path (view c.in-Merge.value.now)) acts.Merge c.in_err-rows-in-Merge.ensures))
