-- A path that is none, or what the transaction sees there.
use Rattle.std.proofs.Common.{◌∙◌, inl, refl}
use Rattle.sal_script.specs.Tables.{table_at}
use Rattle.sal_pathtext.specs.Read.{read_path}
use Rattle.sal_script.specs.Services.{path_or}
use Rattle.sal_client.specs.Looks.{IsLooked}
use Rattle.sal_client.proofs.Faults.{if_refused, refuses_is}
use Rattle.sal_client.proofs.Looking.{looked_there, looks_badly}
use Rattle.sal_client.proofs.looks.looked.Goals as goal

pub returns-in-Ok : goal.returns-in-Ok
returns-in-Ok c =
    let place = c.args.place in
    let tables = c.args.readers.now in
    let tx = c.args.tx.now in
    let by = c.reader-reader.ensures ∙ (λ i. table_at tables (c.version_of.ensures i) (c.domain_of.ensures i)) in
    looked_there tables place.slot place.store place.text.now c.args.look tx c.seen.new.tx c.reader-reader.result.now c.in-Ok.path by c.in-Ok.ensures c.seen.result c.seen.ensures.seen c.seen.ensures.after

pub returns-in-Err : goal.returns-in-Err
returns-in-Err c =
    let place = c.args.place in
    let tables = c.args.readers.now in
    let tx = c.args.tx.now in
    if_refused c.in-Err.fault c.refusal_reply.result (λ r. IsLooked tables place.slot place.store place.text.now c.args.look tx r tx) c.refusal_reply.ensures
    (λ refusal is. record {
      shown = λ k after at kept. looks_badly tables k place.slot place.store place.text.now c.args.look tx at c.reader-reader.result.now (c.reader-reader.ensures ∙ (λ i. table_at tables (c.version_of.ensures i) (c.domain_of.ensures i))) after refusal (refuses_is c.in-Err.fault refusal (path_or (read_path c.reader-reader.result.now place.text.now)) is c.in-Err.ensures) kept;
      looked = inl refl;
    })
