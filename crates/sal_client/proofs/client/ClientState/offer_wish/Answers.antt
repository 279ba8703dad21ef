-- The notification of the name, and then its data.
use Rattle.std.proofs.Common.{◌≡◌, Ok, ap, refl, sym, ◌∙◌, subst}
use Rattle.serde_json.specs.View.{view}
use Rattle.sal_types.specs.Reading.{◌>>=◌}
use Rattle.sal_history.specs.declared.call.Call.TheVariants as made
use Rattle.sal_script.specs.Messages.{note_called}
use Rattle.sal_script.specs.Moves as asked
use Rattle.sal_script.specs.Tables.{last_in}
use Rattle.sal_script.specs.Services as services
use Rattle.sal_client.specs.Faults.{Refuses}
use Rattle.sal_client.specs.Wishes.{Wants}
use Rattle.sal_client.proofs.Faults.{err_so, refuses_behind, refuses_on}
use Rattle.sal_client.proofs.Wanted.{refused_by}
use Rattle.sal_client.proofs.client.ClientState.offer_wish.Goals as goal

pub returns-in_err-note : goal.returns-in_err-note
returns-in_err-note c =
    let table = last_in c.args.readers.now 0 in
    let name = c.args.name.now in
    let value = view c.args.value.now in
    let e = c.in_err-note.field-0.0 in
    let refuses = subst (λ t. Refuses e (services.if_known (note_called t name))) (c.schema.ensures ∙ c.own-reader.ensures) c.in_err-note.ensures in
    err_so (Wants c.args.readers.now c.args.self.now (asked.Offer name value)) _ e c.from_residual.ensures.1
    (refused_by c.args.readers.now c.args.self.now (asked.Offer name value) (services.offer table name value) e (λ known. refl)
    (refuses_on e (services.if_known (note_called table name)) (λ note. services.rows_of table note value >>= (λ rows. Ok (made.Offer note rows))) refuses))

pub returns-in_err-rows : goal.returns-in_err-rows
returns-in_err-rows c =
    let table = last_in c.args.readers.now 0 in
    let name = c.args.name.now in
    let value = view c.args.value.now in
    let note = c.in_ok-note.note in
    let e = c.in_err-rows.field-0.0 in
    let known_as : services.if_known (note_called table name) ≡ Ok note = ap (λ t. services.if_known (note_called t name)) (sym (c.schema.ensures ∙ c.own-reader.ensures)) ∙ c.in_ok-note.ensures in
    let refuses = subst (λ t. Refuses e (services.rows_of t note value)) c.own-reader.ensures c.in_err-rows.ensures in
    err_so (Wants c.args.readers.now c.args.self.now (asked.Offer name value)) _ e c.from_residual-in_err-rows.ensures.1
    (refused_by c.args.readers.now c.args.self.now (asked.Offer name value) (services.offer table name value) e (λ known. refl)
    (refuses_behind e (services.if_known (note_called table name)) note (λ n. services.rows_of table n value >>= (λ rows. Ok (made.Offer n rows))) known_as (refuses_on e (services.rows_of table note value) (λ rows. Ok (made.Offer note rows)) refuses)))
