-- One schema more has a reader, or is the first one that has none.
use Rattle.std.proofs.Common.{◌∷◌, [], ◌+◌, ◌++◌, List, length, length-append, ap, sym, ◌∙◌, subst}
use Rattle.std.specs.Prelude.{IfErr}
use Rattle.std.specs.List.{list_any}
use Rattle.sal_schema.specs.declared.table.SchemaTable.{SchemaTable}
use Rattle.sal_client.specs.Malformed.{is_malformed, shared_tables, IsFirstMalformed, IsUnreadable}
use Rattle.sal_client.proofs.Faults.{err_so}
use Rattle.sal_client.proofs.Compiled.{first_malformed, next_table, none_more}
use Rattle.sal_client.proofs.readers.add_all.Goals as goal

pub loop-schema-preserved : goal.loop-schema-preserved
loop-schema-preserved c =
    let schema = c.schema-item.result in
    let was = c.loop-schema.invariant in
    let added = c.in_ok-add.ensures.added in
    record {
      long = ap length added ∙ length-append c.loop-schema.list.items (schema.value ∷ []) ∙ ap (λ n. n + 1) was.long;
      made = added ∙ ap (λ (tables : List SchemaTable). tables ++ schema.value ∷ []) was.made ∙ sym (next_table c.args.schemas.now c.loop-schema.schema-index schema c.loop-schema-test.true c.schema-item.is);
      formed = ap (list_any is_malformed) added ∙ none_more is_malformed c.loop-schema.list.items schema.value was.formed c.in_ok-add.ensures.formed;
    }

pub returns-in_err-add-clause-refused : goal.returns-in_err-add-clause-refused
returns-in_err-add-clause-refused c =
    let schema = c.schema-item.result in
    let was = c.loop-schema.invariant in
    let e = c.in_err-add.field-0.0 in
    err_so (λ r. IfErr r (IsFirstMalformed (shared_tables c.args.schemas.now))) _ e c.from_residual.ensures.1
    (first_malformed c.args.schemas.now c.loop-schema.schema-index schema e c.loop-schema-test.true c.schema-item.is (subst (λ n. IsUnreadable n schema.value e) was.long c.in_err-add.ensures.refused) (sym (ap (list_any is_malformed) was.made) ∙ was.formed))
