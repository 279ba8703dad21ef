-- The RPC, and then its context.
use Rattle.std.proofs.Common.{◌≡◌, Ok, ap, sym, ◌∙◌, subst}
use Rattle.sal_script.specs.Messages.{rpc_called}
use Rattle.sal_script.specs.Services.{if_known}
use Rattle.sal_client.specs.Asked.{IsService}
use Rattle.sal_client.specs.Faults.{Refuses}
use Rattle.sal_client.proofs.Faults.{err_so}
use Rattle.sal_client.proofs.Wanted.{context_refuses, service_reads, service_refuses}
use Rattle.sal_client.proofs.messages.service_of.Goals as goal

pub returns-in_err-rpc : goal.returns-in_err-rpc
returns-in_err-rpc c =
    let table = c.args.reader.now in
    let name = c.args.name.now in
    let e = c.in_err-rpc.field-0.0 in
    err_so (IsService table name c.args.text.now) _ e c.from_residual.ensures.1 (service_refuses table name c.args.text.now e (subst (λ t. Refuses e (if_known (rpc_called t name))) c.schema.ensures c.in_err-rpc.ensures))

pub returns-in_err-context : goal.returns-in_err-context
returns-in_err-context c =
    let table = c.args.reader.now in
    let name = c.args.name.now in
    let rpc : if_known (rpc_called table name) ≡ Ok c.in_ok-rpc.rpc = ap (λ t. if_known (rpc_called t name)) (sym c.schema.ensures) ∙ c.in_ok-rpc.ensures in
    let e = c.in_err-context.field-0.0 in
    err_so (IsService table name c.args.text.now) _ e c.from_residual-in_err-context.ensures.1 (context_refuses table name c.args.text.now c.in_ok-rpc.rpc e rpc c.in_err-context.ensures)

pub returns : goal.returns
returns c =
    let table = c.args.reader.now in
    let name = c.args.name.now in
    let rpc : if_known (rpc_called table name) ≡ Ok c.in_ok-rpc.rpc = ap (λ t. if_known (rpc_called t name)) (sym c.schema.ensures) ∙ c.in_ok-rpc.ensures in
    (c.of.ensures, c.of-2.ensures, service_reads table name c.args.text.now c.in_ok-rpc.rpc c.in_ok-context.context rpc c.in_ok-context.ensures)
