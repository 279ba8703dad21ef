-- A schema that is not built stops all.
use Rattle.std.proofs.Common.{rules, ◌≡◌, List, [], ap, ◌∙◌}
use Rattle.std.specs.declared.alloc.Global.{Global}
use Rattle.std.specs.declared.sync.Arc.{Arc}
use Rattle.sal_schema.specs.declared.table.SchemaTable.{SchemaTable}
use Rattle.sal_script.specs.Reading.{parts}
use Rattle.sal_prepare.specs.Each.{each_from}
use Rattle.sal_prepare.specs.Scripted.{domains_of, table_by, tables_in, given}
use Rattle.sal_prepare.proofs.Each.{before, before_none, comes_err, goes, stops}
use Rattle.sal_prepare.proofs.domains.device_schemas.Goals as goal

pub returns-in_err-add_schema-clause-tables : goal.returns-in_err-add_schema-clause-tables
returns-in_err-add_schema-clause-tables c =
    let l = c.loop-number in
    let domains = domains_of (parts c.args.script.now) in
    let total = each_from table_by 1 (parts c.args.script.now).devices in
    let e = c.in_err-add_schema.field-0.0 in
    comes_err _ total _ e c.from_residual.ensures.1
    (stops table_by domains (tables_in l.schemas.items) l.number (given c.domain_at.result) c.domain_at.ensures.domain total e c.in_err-add_schema.ensures.tables l.invariant.made)

pub loop-number-preserved : goal.loop-number-preserved
loop-number-preserved c =
    let l = c.loop-number in
    let domains = domains_of (parts c.args.script.now) in
    let total = each_from table_by 1 (parts c.args.script.now).devices in
    record {
      made = goes table_by domains (tables_in l.schemas.items) l.number (given c.domain_at.result) c.domain_at.ensures.domain total (tables_in c.add_schema.new.schemas.items) c.in_ok-add_schema.ensures.tables l.invariant.made;
      long = search rules;
    }

pub loop-number-init : goal.loop-number-init
loop-number-init c =
    let total = each_from table_by 1 (parts c.args.script.now).devices in
    record {
      made = ap (λ (xs : List (Arc SchemaTable Global)). before (tables_in xs) total) c.new-schemas.ensures.items ∙ before_none total;
      long = search rules;
    }
