-- If the names have no fault, the rest is the growth.
use Rattle.std.proofs.Common.{◌≡◌, ◌∙◌, List, None, ap, rules}
use Rattle.sal_module.specs.Faults.{least}
use Rattle.sal_grouping.specs.declared.rows.Row.{Row}
use Rattle.sal_grouping.specs.Rows.{rows_of}
use Rattle.sal_grouping.specs.Names.{name_faults}
use Rattle.sal_grouping.proofs.FirstGrown.{first-nodes}
use Rattle.sal_grouping.proofs.versions.grow_tables.Goals as goal

pub returns : goal.returns
returns c =
    let stmts = c.args.modules.now in
    let found : c.in_ok-found.field-0 ≡ least None (name_faults stmts (rows_of stmts)) = c.in_ok-found.ensures ∙ ap (λ (rs : List Row). least None (name_faults stmts rs)) c.requires.rows in
    let none : least None (name_faults stmts (rows_of stmts)) ≡ None = search rules in
    let here = first-nodes stmts none c.in_ok-plan.plan.rows.items c.in_ok-plan.plan.named.items c.in_ok-plan.ensures.planned.rows c.in_ok-plan.ensures.planned.named in
    rw (← here) c.grown_first.ensures
