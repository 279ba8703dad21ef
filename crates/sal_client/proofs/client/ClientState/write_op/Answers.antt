-- The transaction with the write, or as it was, is in its slot.
use Rattle.std.proofs.Common.{◌≡◌, Some, refl, ap, sym, ◌∙◌, subst}
use Rattle.std.specs.Prelude.{MatchResult}
use Rattle.std.specs.Option.{option_map}
use Rattle.std.proofs.lemmas.Option.{same_Some}
use Rattle.sal_tx.specs.declared.tx.Tx.TheVariants.{Write}
use Rattle.sal_schema.specs.declared.table.SchemaTable.{SchemaTable}
use Rattle.sal_rules.specs.Writes.{IsForSchema}
use Rattle.sal_script.specs.declared.reply.StepReply.TheVariants.{Accepted, Refused}
use Rattle.sal_script.specs.declared.reply.StepRefusal.TheVariants.{Write as WriteRefused}
use Rattle.sal_script.specs.Play.{Open, write_op}
use Rattle.sal_script.specs.Tables.{table_at}
use Rattle.sal_client.specs.Slots.{held}
use Rattle.sal_hub.specs.HubHistory.{HubHistory}
use Rattle.sal_client.specs.Clients.{IsOfSchema, IsOwn, IsSteady, client_of, open_of, opened}
use Rattle.sal_client.proofs.Places.{changed, each_filled, seen-filled}
use Rattle.sal_client.proofs.Soundness.{IsSound-filled, IsSteady-filled}
use Rattle.sal_client.proofs.Writing.{IsOwn-written, begun-written, of_schema-begun, written}
use Rattle.sal_client.proofs.client.ClientState.write_op.Goals as goal

pub returns : goal.returns
returns c =
    let old = c.args.self.now in
    let tables = c.args.readers.now in
    let taken = c.in-Some-Write.taken in
    let holds : held old.transactions c.args.slot ≡ Some (Write taken) = sym c.in-Some-Write.ensures.value ∙ ap Some c.in-Some-Write.field-0-is in
    let filled = changed (held old.transactions) (held c.take_slot.new.slots) (held c.fill_slot.new.slots) c.args.slot (Write c.write.new.self) c.take_slot.ensures.after c.in_ok-fill_slot-in-Some-Write.ensures in
    let reply = c.in_ok-reply-in-Some-Write.ensures in
    let found : opened old c.args.slot ≡ Some (open_of (Write taken)) = ap (option_map open_of) holds in
    let own : (known : HubHistory) → IsSteady known old → IsOwn known (Write c.write.new.self) =
    λ known is. IsOwn-written known taken (is.transactions c.args.slot (Write taken) holds) c.args.op c.write.new.self c.write.result c.write.ensures.outcome c.write.ensures.err in
    let same_begun = begun-written c.args.op taken c.write.new.self c.write.result c.write.ensures.outcome c.write.ensures.err in
    record {
      answers = λ known is of tx at.
          let same : tx ≡ open_of (Write taken) = same_Some tx (open_of (Write taken)) (sym at ∙ found) in
          ap (λ (t : Open). write_op (table_at tables t.version t.domain) known.world known.log c.args.slot c.args.op t (client_of old)) same
          ∙ written known tables taken (is.transactions c.args.slot (Write taken) holds) of c.args.slot c.args.op c.write.new.self c.write.result c.in_ok-reply-in-Some-Write.reply (client_of old) _ c.write.ensures.outcome c.write.ensures.err (subst (λ d. MatchResult c.write.result (λ _. c.in_ok-reply-in-Some-Write.reply ≡ Accepted) (λ fault. c.in_ok-reply-in-Some-Write.reply ≡ Refused (WriteRefused d fault))) c.domain-domain.ensures reply.reply) reply.memory found
          (seen-filled open_of (held old.transactions) (held c.fill_slot.new.slots) c.args.slot (Write c.write.new.self) filled);
      sound = record {
        steady = λ known is. IsSteady-filled known old _ c.args.slot (Write c.write.new.self) is (own known is) filled refl;
        sound = λ known is. IsSound-filled known old _ c.args.slot (Write c.write.new.self) is (own known is.steady) filled refl refl (refl, refl, refl);
      };
      schema = each_filled (IsOfSchema tables) (held old.transactions) (held c.fill_slot.new.slots) c.args.slot (Write c.write.new.self) filled (of_schema-begun tables taken c.write.new.self same_begun (c.requires.schema c.args.slot (Write taken) holds)) c.requires.schema;
      same = record { number = refl; replies = refl };
    }

pub write-requires : goal.write-requires
write-requires c =
    let old = c.args.self.now in
    let taken = c.in-Some-Write.taken in
    let holds : held old.transactions c.args.slot ≡ Some (Write taken) = sym c.in-Some-Write.ensures.value ∙ ap Some c.in-Some-Write.field-0-is in
    let found : opened old c.args.slot ≡ Some (open_of (Write taken)) = ap (option_map open_of) holds in
    subst (λ (t : SchemaTable). IsForSchema t c.args.op) (sym (c.requires.schema c.args.slot (Write taken) holds).schema) (c.requires.for_schema (open_of (Write taken)) found)
