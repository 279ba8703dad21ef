use Rattle.std.proofs.Common.{List, ◌++◌, ap, ◌∙◌}
use Rattle.sal_tree.specs.Rows.{rows_of}
use Rattle.sal_tree.proofs.Cells.{ascending-rows_of}
use Rattle.sal_rows.specs.declared.change.Change.{Change}
use Rattle.sal_rows.specs.Changes.{change_at, changes_under}
use Rattle.sal_rows.proofs.Differing.{at-changes_under}
use Rattle.sal_delta.proofs.find.changes.Goals as goal

pub returns-clause-list : goal.returns-clause-list
returns-clause-list c =
    c.from_items.ensures ∙ c.in_ok-add_changes.ensures
    ∙ ap (λ (l : List Change). l ++ changes_under (rows_of c.args.before.now) (rows_of c.args.after.now) c.args.path.now) c.new-list.ensures.items

pub returns-clause-places : goal.returns-clause-places
returns-clause-places c r = ap (λ l. change_at l r) (returns-clause-list c) ∙ at-changes_under (rows_of c.args.before.now) (rows_of c.args.after.now) c.args.path.now r (ascending-rows_of c.args.after.now c.node-2.ensures.whole.ordered)
