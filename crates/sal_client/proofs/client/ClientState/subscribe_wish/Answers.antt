-- The notification of the name.
use Rattle.std.proofs.Common.{Ok, refl, ◌∙◌, subst}
use Rattle.sal_history.specs.declared.call.Call.TheVariants as made
use Rattle.sal_script.specs.Messages.{note_called}
use Rattle.sal_script.specs.Moves as asked
use Rattle.sal_script.specs.Tables.{last_in}
use Rattle.sal_script.specs.Services as services
use Rattle.sal_client.specs.Faults.{Refuses}
use Rattle.sal_client.specs.Wishes.{Wants}
use Rattle.sal_client.proofs.Faults.{err_so, refuses_on}
use Rattle.sal_client.proofs.Wanted.{refused_by}
use Rattle.sal_client.proofs.client.ClientState.subscribe_wish.Goals as goal

pub returns-in_err-note : goal.returns-in_err-note
returns-in_err-note c =
    let table = last_in c.args.readers.now 0 in
    let name = c.args.name.now in
    let e = c.in_err-note.field-0.0 in
    let refuses = subst (λ t. Refuses e (services.if_known (note_called t name))) (c.schema.ensures ∙ c.own.ensures) c.in_err-note.ensures in
    err_so (Wants c.args.readers.now c.args.self.now (asked.Subscribe name)) _ e c.from_residual.ensures.1
    (refused_by c.args.readers.now c.args.self.now (asked.Subscribe name) (services.subscribe table name) e (λ known. refl) (refuses_on e (services.if_known (note_called table name)) (λ note. Ok (made.Subscribe note)) refuses))
