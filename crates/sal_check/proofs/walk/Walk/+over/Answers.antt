use Rattle.std.proofs.Common.{◌≡◌, ap, ◌∙◌, arith}
use Rattle.std.specs.List.{fold}
use Rattle.sal_node.specs.Tree.{Tree, pairs}
use Rattle.sal_node.specs.Shape.{seen}
use Rattle.sal_tree.proofs.ByChildren.{lighter}
use Rattle.sal_rules.specs.Breaches.{keep}
use Rattle.sal_check.specs.Nodes.{found, steps_in}
use Rattle.sal_check.proofs.Counted.{grove-child}
use Rattle.sal_check.proofs.Founds.{found-more, found-all}
use Rattle.sal_check.proofs.walk.Walk.+over.Goals as goal

pub over-requires : goal.over-requires
over-requires t c =
    let node = c.args.place.now.node.now.value in
    let same : seen c.deref-child-items.result.now ≡ pairs node.kids = ap seen c.deref-child-items.ensures.value ∙ c.in_ok-children.ensures ∙ ap (λ (t : Tree). pairs t.kids) c.deref.ensures in
    let h = lighter node.kids c.deref-child-items.result.now c.loop-child.child-index c.child-item.result same c.loop-child-test.true c.child-item.is in
    let sound = grove-child node.kids c.deref-child-items.result.now c.loop-child.child-index c.child-item.result c.requires same c.loop-child-test.true c.child-item.is in
    (omega (arith, h, c.decreases), sound)

pub loop-child-preserved : goal.loop-child-preserved
loop-child-preserved t c =
    let walk = c.args.self.now in
    let place = c.args.place.now in
    let e = c.child-item.result.now in
    let below = ap steps_in c.deref-in-loop-child.ensures.value ∙ c.in_ok-below.ensures in
    found-more walk.schema.now walk.store (steps_in place.trail.now) place.spot c.deref-child-items.result.now c.loop-child.child-index c.child-item.result c.in_ok-least.least c.loop-child.least c.in_ok-least-2.least c.loop-child-test.true c.child-item.is c.loop-child.invariant
    (c.in_ok-least-2.ensures ∙ (λ k. fold keep c.loop-child.least (found walk.schema.now walk.store (below k) (c.after_step.ensures k) e.node.value)))

pub returns : goal.returns
returns t c =
    let walk = c.args.self.now in
    let place = c.args.place.now in
    let same : seen c.deref-child-items.result.now ≡ pairs place.node.now.value.kids = ap seen c.deref-child-items.ensures.value ∙ c.in_ok-children.ensures ∙ ap (λ (t : Tree). pairs t.kids) c.deref.ensures in
    found-all walk.schema.now walk.store (steps_in place.trail.now) place.spot place.node.now.value c.deref-child-items.result.now c.loop-child.child-index c.args.least c.in_ok-least.least c.loop-child.least same c.loop-child-test.false c.in_ok-least.ensures c.loop-child.invariant
