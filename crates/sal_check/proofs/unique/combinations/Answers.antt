use Rattle.std.proofs.Common.{◌≡◌, subst, ap, ◌∙◌}
use Rattle.sal_node.specs.Tree.{Tree, pairs}
use Rattle.sal_node.specs.Shape.{seen, tree_at}
use Rattle.sal_tree.specs.Grow.{IsSound}
use Rattle.sal_check.specs.Uniques.{all_cells_in, ways_in}
use Rattle.sal_check.proofs.Combined.{combinations-more, combinations-all}
use Rattle.sal_check.proofs.Counted.{grove-child}
use Rattle.sal_check.proofs.unique.combinations.Goals as goal

pub add_cells-requires : goal.add_cells-requires
add_cells-requires c =
    let same : seen c.deref-child-items.result.now ≡ pairs c.in-Some.list.now.value.kids = ap seen c.deref-child-items.ensures.value ∙ c.in_ok-children.ensures ∙ ap (λ (t : Tree). pairs t.kids) c.deref.ensures in
    grove-child c.in-Some.list.now.value.kids c.deref-child-items.result.now c.loop-child.child-index c.child-item.result (subst (λ o. IsSound (tree_at o)) c.in-Some.is c.requires) same c.loop-child-test.true c.child-item.is

pub loop-child-preserved : goal.loop-child-preserved
loop-child-preserved c = combinations-more (ways_in c.args.ways.now) c.deref-child-items.result.now c.loop-child.child-index c.child-item.result (all_cells_in c.loop-child.found.items) (all_cells_in c.add_cells.new.found.items) c.loop-child-test.true c.child-item.is c.loop-child.invariant c.in_ok-add_cells.ensures

pub returns : goal.returns
returns c =
    let same : seen c.deref-child-items.result.now ≡ pairs c.in-Some.list.now.value.kids = ap seen c.deref-child-items.ensures.value ∙ c.in_ok-children.ensures ∙ ap (λ (t : Tree). pairs t.kids) c.deref.ensures in
    combinations-all (ways_in c.args.ways.now) (tree_at c.args.list) c.in-Some.list.now.value c.deref-child-items.result.now c.loop-child.child-index (all_cells_in c.loop-child.found.items) (ap tree_at c.in-Some.is) same c.loop-child-test.false c.loop-child.invariant
