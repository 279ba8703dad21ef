-- The operation that was read is written in the slot's transaction.
use Rattle.std.proofs.Common.{◌∙◌, ap, refl, sym, subst}
use Rattle.sal_schema.specs.Valid.{IsTable}
use Rattle.sal_pathtext.specs.Read.{read_path}
use Rattle.sal_script.specs.Tables.{table_at}
use Rattle.sal_client.specs.Clients.{domain_of, version_of}
use Rattle.sal_client.specs.Meeting.{IsAnswered}
use Rattle.sal_client.specs.Operations.{data_act_of, op_by, write_move}
use Rattle.sal_client.proofs.Faults.{if_ok, if_refused, refuses_is}
use Rattle.sal_client.proofs.Meeting.{only_answers}
use Rattle.sal_client.proofs.Places.{opened_within}
use Rattle.sal_client.proofs.Values.{op_for_schema}
use Rattle.sal_client.proofs.Written.{read_for, writes_badly, writes_nothing, writes_nowhere, writes_there}
use Rattle.sal_client.proofs.client.ClientState.write.Goals as goal

pub reader-reader-requires : goal.reader-reader-requires
reader-reader-requires c = opened_within c.args.readers.now c.args.self.now c.args.place.slot c.domain_in-domain.result c.domain_in-domain.ensures c.requires.schema

pub returns-in-Empty : goal.returns-in-Empty
returns-in-Empty c =
    let place = c.args.place in
    let data_act = data_act_of c.args.act in
    let tables = c.args.readers.now in
    let old = c.args.self.now in
    let step = write_move place.slot place.store place.text.now data_act in
    subst (λ r. IsAnswered tables old step r old) (sym c.refused.ensures) (only_answers tables old step _ c.requires.schema (writes_nowhere tables old place.slot place.store place.text.now data_act (sym c.standing.ensures ∙ c.in-Empty.is)))

pub returns-in-ReadOnly : goal.returns-in-ReadOnly
returns-in-ReadOnly c =
    let place = c.args.place in
    let data_act = data_act_of c.args.act in
    let tables = c.args.readers.now in
    let old = c.args.self.now in
    let step = write_move place.slot place.store place.text.now data_act in
    subst (λ r. IsAnswered tables old step r old) (sym c.refused-in-ReadOnly.ensures) (only_answers tables old step _ c.requires.schema (writes_nothing tables old place.slot place.store place.text.now data_act (sym c.standing.ensures ∙ c.in-ReadOnly.is)))

pub returns-in-Ok : goal.returns-in-Ok
returns-in-Ok c =
    let place = c.args.place in
    let data_act = data_act_of c.args.act in
    let tables = c.args.readers.now in
    let old = c.args.self.now in
    if_ok c.write_op.result _ _ (λ r. writes_there tables old place.slot place.store place.text.now data_act c.domain_in-domain.result c.version_in-version.result c.reader-reader.result.now
    (sym c.standing.ensures ∙ c.in-Writable.is) c.domain_in-domain.ensures c.version_in-version.ensures c.reader-reader.ensures _ c.in-Ok.ensures c.in-Ok.op r c.write_op.new.self refl) c.write_op.ensures

pub returns-in-Err : goal.returns-in-Err
returns-in-Err c =
    let place = c.args.place in
    let data_act = data_act_of c.args.act in
    let tables = c.args.readers.now in
    let old = c.args.self.now in
    let own = c.reader-reader.result.now in
    let step = write_move place.slot place.store place.text.now data_act in
    let read = op_by own c.domain_in-domain.result place.store data_act (read_path own place.text.now) in
    if_refused c.in-Err.fault c.refusal_reply.result (λ r. IsAnswered tables old step r old) c.refusal_reply.ensures
    (λ refusal is. only_answers tables old step _ c.requires.schema (writes_badly tables old place.slot place.store place.text.now data_act c.domain_in-domain.result c.version_in-version.result own
    (sym c.standing.ensures ∙ c.in-Writable.is) c.domain_in-domain.ensures c.version_in-version.ensures c.reader-reader.ensures read refl refusal (refuses_is c.in-Err.fault refusal read is c.in-Err.ensures)))

pub write_op-requires-clause-for_schema : goal.write_op-requires-clause-for_schema
write_op-requires-clause-for_schema c tx at =
    let place = c.args.place in
    let data_act = data_act_of c.args.act in
    let tables = c.args.readers.now in
    let made = read_for tables c.args.self.now place.slot place.store place.text.now data_act c.domain_in-domain.result c.version_in-version.result c.reader-reader.result.now
    (sym c.standing.ensures ∙ c.in-Writable.is) c.domain_in-domain.ensures c.version_in-version.ensures c.reader-reader.ensures _ c.in-Ok.ensures tx at in
    let table = c.reader-reader.ensures ∙ (λ i. table_at tables ((c.version_in-version.ensures ∙ ap version_of at) i) ((c.domain_in-domain.ensures ∙ ap domain_of at) i)) in
    let good : IsTable (table_at tables tx.version tx.domain) = subst IsTable (c.schema.ensures ∙ table) c.len-count.ensures.table in
    op_for_schema c.writes_are_for_schema.ensures (table_at tables tx.version tx.domain) good tx.domain place.store place.text.now data_act c.requires.json c.in-Ok.op made
