use Rattle.std.proofs.Common.{None}
use Rattle.sal_grouping.specs.declared.rows.Row.{Row}
use Rattle.sal_grouping.specs.Names.{row_faults}
use Rattle.sal_grouping.proofs.Places.{least_more}
use Rattle.sal_grouping.proofs.names.names_fault.Goals as goal

pub loop-k-preserved : goal.loop-k-preserved
loop-k-preserved c =
    let stmts = c.args.modules.now in
    let rows = c.args.t.now.rows.items in
    let within = rw c.deref-row-items.ensures.value at c.loop-k-test.true in
    let is = rw c.deref-row-items.ensures.value at c.row-item.is in
    least_more (λ k (row : Row). row_faults stmts rows k row row.keyword) rows c.loop-k.k c.row-item.result None c.loop-k.best c.in_ok-best.best within is c.loop-k.invariant
    c.in_ok-best.ensures
