-- The path and the act that were read are those of the operation.
use Rattle.sal_pathtext.specs.Read.{read_path}
use Rattle.sal_client.specs.Faults.{Reads}
use Rattle.sal_client.specs.Operations.{data_act_of, op_by}
use Rattle.sal_client.proofs.Faults.{err_so}
use Rattle.sal_client.proofs.Reading.{op_reads, op_refuses, path_refuses}
use Rattle.sal_client.proofs.operations.op_of.Goals as goal

pub returns-in_err-path : goal.returns-in_err-path
returns-in_err-path c =
    let data_act = data_act_of c.args.act in
    let read = read_path c.args.reader.now c.args.place.text.now in
    err_so (λ r. Reads r (op_by c.args.reader.now c.args.domain c.args.place.store data_act read)) _ c.in_err-path.field-0.0 c.from_residual.ensures.1 (path_refuses c.args.reader.now c.args.domain c.args.place.store data_act c.in_err-path.field-0.0 read c.in_err-path.ensures)

pub returns-in_err-act : goal.returns-in_err-act
returns-in_err-act c =
    let data_act = data_act_of c.args.act in
    let read = read_path c.args.reader.now c.args.place.text.now in
    err_so (λ r. Reads r (op_by c.args.reader.now c.args.domain c.args.place.store data_act read)) _ c.in_err-act.field-0.0 c.from_residual-in_err-act.ensures.1 (op_refuses c.args.reader.now c.args.domain c.args.place.store data_act c.in_err-act.field-0.0 read c.in_ok-path.path c.in_ok-path.ensures c.in_err-act.ensures)

pub returns : goal.returns
returns c =
    op_reads c.args.reader.now c.args.domain c.args.place.store (data_act_of c.args.act) (read_path c.args.reader.now c.args.place.text.now) c.in_ok-path.path c.in_ok-act.act c.in_ok-path.ensures c.in_ok-act.ensures
