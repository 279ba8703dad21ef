use Rattle.std.proofs.Common.{◌≡◌, ◌+◌, refl, ap, ◌∙◌, arith}
use Rattle.sal_node.specs.Tree.{Tree, pairs}
use Rattle.sal_node.specs.Shape.{seen, tree_at}
use Rattle.sal_check.proofs.Counted.{count-more, count-all}
use Rattle.sal_check.proofs.entries.count.Goals as goal

pub loop-child-preserved : goal.loop-child-preserved
loop-child-preserved c = record {
  count = count-more c.deref-child-items.result.now c.loop-child.child-index c.child-item.result c.loop-child.count c.own-count.result (c.loop-child.count + c.own-count.result) c.loop-child-test.true c.child-item.is c.loop-child.invariant.count c.own-count.ensures.value refl;
  few = omega (arith, c.loop-child.invariant.few, c.own-count.ensures.few);
}

pub returns : goal.returns
returns c =
    let same : seen c.deref-child-items.result.now ≡ pairs c.in-Some.node.now.value.kids = ap seen c.deref-child-items.ensures.value ∙ c.in_ok-children.ensures ∙ ap (λ (t : Tree). pairs t.kids) c.deref.ensures in
    count-all (tree_at c.args.node) c.in-Some.node.now.value c.deref-child-items.result.now c.loop-child.child-index c.loop-child.count (ap tree_at c.in-Some.is) same c.loop-child-test.false c.loop-child.invariant.count
