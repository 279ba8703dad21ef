use Rattle.std.proofs.Common.{◌≡◌, ◌≤◌, ◌-◌, ◌++◌, arith, ap, ◌∙◌, length, length-append}
use Rattle.sal_types.specs.declared.value.Step.{Step}
use Rattle.sal_node.specs.Tree.{Tree, size_of, height}
use Rattle.sal_node.specs.Shape.{seen}
use Rattle.sal_tree.specs.Rows.{rows_of, from_path}
use Rattle.sal_tree.proofs.ByChildren.{lighter, lower-child, listed-child, listed-all}
use Rattle.sal_tree.proofs.listing.+list_rows.Goals as goal

pub longer-requires : goal.longer-requires
longer-requires t c =
    let same = ap seen c.deref-child-items.ensures.value ∙ c.in_ok-children.ensures in
    let low = lower-child (32 - length c.args.path.now) c.args.node.now.kids c.deref-child-items.result.now c.loop-child.child-index c.child-item.result (let q : height c.args.node.now.kids ≤ 32 - length c.args.path.now = omega (arith, c.requires) in q) same c.loop-child-test.true c.child-item.is in
    omega (arith, low)

pub list_rows-requires : goal.list_rows-requires
list_rows-requires t c =
    let same = ap seen c.deref-child-items.ensures.value ∙ c.in_ok-children.ensures in
    let h = lighter c.args.node.now.kids c.deref-child-items.result.now c.loop-child.child-index c.child-item.result same c.loop-child-test.true c.child-item.is in
    let low = lower-child (32 - length c.args.path.now) c.args.node.now.kids c.deref-child-items.result.now c.loop-child.child-index c.child-item.result (let q : height c.args.node.now.kids ≤ 32 - length c.args.path.now = omega (arith, c.requires) in q) same c.loop-child-test.true c.child-item.is in
    let e_height : height c.deref.result.now.kids ≡ height c.child-item.result.now.node.value.kids = ap (λ (t : Tree). height t.kids) c.deref.ensures in
    let e : size_of c.deref.result.now ≡ size_of c.child-item.result.now.node.value = ap size_of c.deref.ensures in
    (omega (arith, h, e, c.decreases), omega (arith, low, e_height, ap length c.in_ok-below.ensures, length-append {A = Step}))

pub loop-child-preserved : goal.loop-child-preserved
loop-child-preserved t c = listed-child c.deref-child-items.result.now c.loop-child.child-index c.child-item.result c.args.path.now c.in_ok-below.below c.list_cell.new.into.items c.loop-child.into.items c.list_rows.new.into.items c.loop-child-test.true c.child-item.is c.in_ok-below.ensures c.loop-child.invariant (c.in_ok-list_rows.ensures ∙ ap (λ (t : Tree). c.loop-child.into.items ++ from_path c.in_ok-below.below (rows_of t)) c.deref.ensures)

pub returns : goal.returns
returns t c = listed-all c.args.node.now c.deref-child-items.result.now c.loop-child.child-index c.args.path.now c.args.into.now.items c.list_cell.new.into.items c.loop-child.into.items (ap seen c.deref-child-items.ensures.value ∙ c.in_ok-children.ensures) c.loop-child-test.false c.in_ok-list_cell.ensures c.loop-child.invariant
