use Rattle.std.proofs.Common.{◌≡◌, ap, sym, ◌∙◌, arith}
use Rattle.std.specs.List.{fold}
use Rattle.sal_node.specs.Tree.{Tree, pairs}
use Rattle.sal_node.specs.Shape.{made_by, seen, tree_at}
use Rattle.sal_rules.specs.Breaches.{keep}
use Rattle.sal_check.specs.Near.{near}
use Rattle.sal_check.specs.Nodes.{steps_in}
use Rattle.sal_check.proofs.NearKids.{light-made, sound-made}
use Rattle.sal_check.proofs.NearFounds.{near-more, near-all}
use Rattle.sal_check.proofs.changed.Near.+over.Goals as goal

pub over-requires : goal.over-requires
over-requires t c =
    let stamps = c.args.self.now.stamps.now in
    let node = c.args.place.now.node.now.value in
    let same : seen c.deref-child-items.result.now ≡ made_by stamps (pairs node.kids) = ap seen c.deref-child-items.ensures.value ∙ c.in_ok-children.ensures ∙ ap (λ (t : Tree). made_by stamps (pairs t.kids)) c.deref.ensures in
    let h = light-made stamps node.kids c.deref-child-items.result.now c.loop-child.child-index c.child-item.result same c.loop-child-test.true c.child-item.is in
    let sound = sound-made stamps node.kids c.deref-child-items.result.now c.loop-child.child-index c.child-item.result c.requires.1 same c.loop-child-test.true c.child-item.is in
    (omega (arith, h, c.decreases), (c.child_of-old.ensures.sound, sound))

pub loop-child-preserved : goal.loop-child-preserved
loop-child-preserved t c =
    let stamps = c.args.self.now.stamps.now in
    let walk = c.args.self.now.walk in
    let place = c.args.place.now in
    let e = c.child-item.result.now in
    let o = tree_at c.args.before in
    let below = ap steps_in c.deref-in-loop-child.ensures.value ∙ c.in_ok-below.ensures in
    near-more stamps walk.schema.now walk.store (steps_in place.trail.now) place.spot o c.deref-child-items.result.now c.loop-child.child-index c.child-item.result c.in_ok-least.least c.loop-child.least c.in_ok-least-2.least c.loop-child-test.true c.child-item.is c.loop-child.invariant
    (c.in_ok-least-2.ensures ∙ (λ k. fold keep c.loop-child.least (near stamps walk.schema.now walk.store (below k) (c.after_step.ensures k) (c.child_of-old.ensures.kid k) e.node.value)))

pub returns : goal.returns
returns t c =
    let stamps = c.args.self.now.stamps.now in
    let walk = c.args.self.now.walk in
    let place = c.args.place.now in
    let same : seen c.deref-child-items.result.now ≡ made_by stamps (pairs place.node.now.value.kids) = ap seen c.deref-child-items.ensures.value ∙ c.in_ok-children.ensures ∙ ap (λ (t : Tree). made_by stamps (pairs t.kids)) c.deref.ensures in
    near-all stamps walk.schema.now walk.store (steps_in place.trail.now) place.spot (tree_at c.args.before) place.node.now.value c.deref-child-items.result.now c.loop-child.child-index c.args.least c.in_ok-least.least c.loop-child.least
    (sym c.is_new.ensures ∙ c.if-not-is_new.false) same c.loop-child-test.false c.in_ok-least.ensures c.loop-child.invariant
