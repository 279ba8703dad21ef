use Rattle.std.proofs.Common.{◌+◌, ◌≤◌, List, ◌++◌, ap, sym, ◌∙◌, subst, length}
use Rattle.sal_types.specs.declared.row.Row.{Row}
use Rattle.sal_types.specs.Prefix.{is_prefix}
use Rattle.sal_types.specs.Tree.{IsAscending}
use Rattle.sal_rows.proofs.Cells.{IsAscending-filter}
use Rattle.sal_node.specs.Tree.{Tree, height}
use Rattle.sal_node.specs.Shape.{tree_at}
use Rattle.sal_tree.specs.Rows.{rows_of, from_path}
use Rattle.sal_tree.proofs.Cells.{ascending-rows_of}
use Rattle.sal_tree.proofs.Heights.{low-node}
use Rattle.sal_tree.proofs.Wholes.{under-node, under-none}
use Rattle.sal_tree.proofs.root.Root.listed.Goals as goal

pub returns-in_default-clause-rows : goal.returns-in_default-clause-rows
returns-in_default-clause-rows c = c.new-list.ensures.items ∙ sym (under-none c.args.path.now c.args.self.now c.node.ensures.whole.ordered (sym c.get.ensures ∙ ap tree_at c.in_default.is))

pub list_rows-requires : goal.list_rows-requires
list_rows-requires c = subst (λ (t : Tree). height t.kids + length c.args.path.now ≤ 32) (sym c.deref.ensures)
    (low-node c.args.self.now c.args.path.now c.in-Some.node.now.value c.node.ensures.whole c.steps.ensures.short (sym c.get.ensures ∙ ap tree_at c.in-Some.is))

pub returns-clause-rows : goal.returns-clause-rows
returns-clause-rows c =
    c.in_ok-list_rows.ensures
    ∙ ap (λ (l : List Row). l ++ from_path c.args.path.now (rows_of c.deref.result.now)) c.new-list.ensures.items
    ∙ ap (λ (t : Tree). from_path c.args.path.now (rows_of t)) c.deref.ensures
    ∙ under-node c.args.path.now c.args.self.now c.in-Some.node.now.value c.node.ensures.whole.ordered (sym c.get.ensures ∙ ap tree_at c.in-Some.is)

pub returns-clause-order : goal.returns-clause-order
returns-clause-order c = subst IsAscending (sym (returns-clause-rows c)) (IsAscending-filter (is_prefix c.args.path.now) (rows_of c.args.self.now) (ascending-rows_of c.args.self.now c.node.ensures.whole.ordered))
