-- The path of a mount.
use Rattle.std.proofs.Common.{Ok, refl, subst}
use Rattle.sal_history.specs.declared.call.Call.TheVariants as made
use Rattle.sal_script.specs.Moves as asked
use Rattle.sal_script.specs.Tables.{last_in}
use Rattle.sal_script.specs.Services as services
use Rattle.sal_client.specs.Faults.{Refuses}
use Rattle.sal_client.specs.Wishes.{Wants}
use Rattle.sal_client.proofs.Faults.{err_so, refuses_on}
use Rattle.sal_client.proofs.Wanted.{refused_by}
use Rattle.sal_client.proofs.client.ClientState.mount_at_wish.Goals as goal

pub returns-in_err-path : goal.returns-in_err-path
returns-in_err-path c =
    let table = last_in c.args.readers.now 0 in
    let e = c.in_err-path.field-0.0 in
    err_so (Wants c.args.readers.now c.args.self.now (asked.MountAt c.args.text.now)) _ e c.from_residual.ensures.1
    (refused_by c.args.readers.now c.args.self.now (asked.MountAt c.args.text.now) (services.mount_at table c.args.text.now) e (λ known. refl) (refuses_on e (services.path_of table c.args.text.now) (λ path. Ok (made.MountAt path)) (subst (λ t. Refuses e (services.path_of t c.args.text.now)) c.own.ensures c.in_err-path.ensures)))
