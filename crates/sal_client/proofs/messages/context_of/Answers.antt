-- The context that is given.
use Rattle.std.proofs.Common.{Some, Ok, sym, subst}
use Rattle.sal_script.specs.Services.{context_of, path_of}
use Rattle.sal_client.specs.Faults.{Reads, Refuses}
use Rattle.sal_client.proofs.Faults.{err_so, refuses_on}
use Rattle.sal_client.proofs.messages.context_of.Goals as goal

pub returns-in_err-path-in-Some : goal.returns-in_err-path-in-Some
returns-in_err-path-in-Some c =
    let table = c.args.reader.now in
    let e = c.in_err-path-in-Some.field-0.0 in
    err_so (λ r. Reads r (context_of table c.args.context.now)) _ e c.from_residual.ensures.1
    (subst (λ o. Refuses e (context_of table o)) (sym c.in-Some.is) (refuses_on e (path_of table c.in-Some.text) (λ path. Ok (Some path)) c.in_err-path-in-Some.ensures))
