use Rattle.std.proofs.Common.{◌≡◌, ◌++◌, ap, ◌∙◌, if◌then◌else◌, [], Some}
use Rattle.sal_node.specs.Tree.{Tree, pairs}
use Rattle.sal_node.specs.Shape.{made_by, seen, tree_at}
use Rattle.sal_check.specs.Near.{differs, leafs_of}
use Rattle.sal_check.specs.Uniques.{all_cells_in, combination, ways_in}
use Rattle.sal_check.proofs.NearKids.{sound-made}
use Rattle.sal_check.proofs.FreshCells.{pick, flat-more, picked-all}
use Rattle.sal_check.proofs.fresh.Earlier.fresh_cells.Goals as goal

pub add_fresh-requires : goal.add_fresh-requires
add_fresh-requires c =
    let same : seen c.deref-child-items.result.now ≡ made_by c.args.self.now.stamps.now (pairs c.args.list.now.value.kids) = ap seen c.deref-child-items.ensures.value ∙ c.in_ok-children.ensures ∙ ap (λ (t : Tree). made_by c.args.self.now.stamps.now (pairs t.kids)) c.deref.ensures in
    record { before = c.child_of.ensures.sound; sound = sound-made c.args.self.now.stamps.now c.args.list.now.value.kids c.deref-child-items.result.now c.loop-child.child-index c.child-item.result c.requires.sound same c.loop-child-test.true c.child-item.is }

pub loop-child-preserved : goal.loop-child-preserved
loop-child-preserved c =
    let ways = ways_in c.args.self.now.ways.now in
    let e = c.child-item.result.now in
    flat-more (pick ways (tree_at c.args.self.now.list)) c.deref-child-items.result.now c.loop-child.child-index c.child-item.result (all_cells_in c.loop-child.found.items) (all_cells_in c.add_fresh.new.found.items) c.loop-child-test.true c.child-item.is c.loop-child.invariant
    (c.in_ok-add_fresh.ensures ∙ (λ k. all_cells_in c.loop-child.found.items ++ (if differs (leafs_of ways (c.child_of.ensures.kid k)) (leafs_of ways (Some e.node.value)) then combination ways (e.step, e.node.value) else [])))

pub returns : goal.returns
returns c =
    let same : seen c.deref-child-items.result.now ≡ made_by c.args.self.now.stamps.now (pairs c.args.list.now.value.kids) = ap seen c.deref-child-items.ensures.value ∙ c.in_ok-children.ensures ∙ ap (λ (t : Tree). made_by c.args.self.now.stamps.now (pairs t.kids)) c.deref.ensures in
    picked-all c.args.self.now.stamps.now (ways_in c.args.self.now.ways.now) (tree_at c.args.self.now.list) c.deref-child-items.result.now (pairs c.args.list.now.value.kids) c.loop-child.child-index (all_cells_in c.loop-child.found.items) same c.loop-child-test.false c.loop-child.invariant
