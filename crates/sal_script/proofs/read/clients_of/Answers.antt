use Rattle.std.proofs.Common.{sym, ◌∙◌}
use Rattle.sal_script.specs.Moves.{clients_of}
use Rattle.sal_script.proofs.Each.{each_done}
use Rattle.sal_script.proofs.Readers.{client_at, clients_from-each, each_fault, reads_err}
use Rattle.sal_script.proofs.read.clients_of.Goals as goal

pub returns-in_err-steps : goal.returns-in_err-steps
returns-in_err-steps c =
    let l = c.loop-client in
    let e = c.in_err-steps.field-0.0 in
    let total = clients_from-each 0 c.args.programs.now in
    reads_err _ _ e _ c.from_residual.ensures.1
    (each_fault client_at (clients_of l.clients.items) l.client c.args.programs.now _ c.index-programs-client.result e c.loop-client-test.true c.index-programs-client.is c.in_err-steps.ensures (l.invariant ∙ sym total))

pub returns : goal.returns
returns c =
    let l = c.loop-client in
    clients_from-each 0 c.args.programs.now ∙ each_done client_at (clients_of l.clients.items) l.client c.args.programs.now _ c.loop-client-test.false l.invariant
