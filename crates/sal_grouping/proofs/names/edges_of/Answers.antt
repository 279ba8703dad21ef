use Rattle.std.proofs.Common.{◌≡◌, ◌∙◌, take, sym, ap, arith}
use Rattle.std.proofs.lemmas.Grind.{common_steps}
use Rattle.sal_grouping.specs.Indexes.{lists}
use Rattle.sal_grouping.proofs.IndexLists.{lists-length}
use Rattle.sal_grouping.proofs.Edges.{used_among, edges-all}
use Rattle.sal_grouping.proofs.names.edges_of.Goals as goal

pub returns-clause-count : goal.returns-clause-count
returns-clause-count c = sym (lists-length c.loop-row.edges.items) ∙ c.loop-row.invariant.count

pub returns-clause-each : goal.returns-clause-each
returns-clause-each c =
    let stmts = c.args.modules.now in
    let rows = c.args.rows.now in
    let whole : take c.loop-row.row-index rows ≡ rows = grind (arith, common_steps) in
    edges-all stmts rows (lists c.loop-row.edges.items) c.loop-row.invariant.count (λ g h. c.loop-row.invariant.each g h ∙ ap (used_among stmts rows g) whole)
