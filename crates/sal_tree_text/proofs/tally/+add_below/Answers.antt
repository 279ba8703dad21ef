use Rattle.std.proofs.Common.{◌≡◌, ◌+◌, take, ap, ◌∙◌, arith}
use Rattle.sal_node.specs.Tree.{Tree, size_of}
use Rattle.sal_node.specs.Shape.{seen}
use Rattle.sal_tree.proofs.ByChildren.{lighter}
use Rattle.sal_tree_text.specs.Tallied.{own_number, own_row, rows_under, sum_under}
use Rattle.sal_tree_text.proofs.Tallying.{all_rows, all_sum, rows-more, sum-more}
use Rattle.sal_tree_text.proofs.tally.+add_below.Goals as goal

pub add_below-requires : goal.add_below-requires
add_below-requires t c =
    let same = ap seen c.deref-child-items.ensures.value ∙ c.in_ok-children.ensures in
    let h = lighter c.args.node.now.kids c.deref-child-items.result.now c.loop-child.child-index c.child-item.result same c.loop-child-test.true c.child-item.is in
    let e : size_of c.deref-in-loop-child.result.now ≡ size_of c.child-item.result.now.node.value = ap size_of c.deref-in-loop-child.ensures in
    (omega (arith, h, e, c.decreases), tt)

pub loop-child-preserved : goal.loop-child-preserved
loop-child-preserved t c =
    let cs = c.deref-child-items.result.now in
    let i = c.loop-child.child-index in
    let more = rows-more cs i c.child-item.result c.loop-child-test.true c.child-item.is in
    let sums = sum-more cs i c.child-item.result c.loop-child-test.true c.child-item.is in
    let child = c.child-item.result.now in
    let own : own_row c.behind-child.inside.cell ≡ own_row child.node.value.cell = ap (λ (u : Tree). own_row u.cell) c.behind-child.view_is ∙ ap (λ (u : Tree). own_row u.cell) c.deref.ensures in
    let number : own_number child.step c.behind-child.inside.cell ≡ own_number child.step child.node.value.cell = ap (λ (u : Tree). own_number child.step u.cell) c.behind-child.view_is ∙ ap (λ (u : Tree). own_number child.step u.cell) c.deref.ensures in
    let kid : rows_under c.deref-in-loop-child.result.now.kids ≡ rows_under c.child-item.result.now.node.value.kids = ap (λ (u : Tree). rows_under u.kids) c.deref-in-loop-child.ensures in
    let sum : sum_under c.deref-in-loop-child.result.now.kids ≡ sum_under c.child-item.result.now.node.value.kids = ap (λ (u : Tree). sum_under u.kids) c.deref-in-loop-child.ensures in record {
      rows = omega (arith, own, more, kid, c.loop-child.invariant.rows, c.in_ok-add_cell.ensures.rows, c.in_ok-add_below.ensures.rows);
      sum = omega (arith, number, sums, sum, c.loop-child.invariant.sum, c.in_ok-add_cell.ensures.sum, c.in_ok-add_below.ensures.sum);
    }

pub returns : goal.returns
returns t c =
    let cs = c.deref-child-items.result.now in
    let i = c.loop-child.child-index in
    let same = ap seen c.deref-child-items.ensures.value ∙ c.in_ok-children.ensures in record {
      rows = c.loop-child.invariant.rows ∙ ap (λ n. c.args.tally.now.rows + n) (all_rows cs i c.args.node.now.kids c.loop-child-test.false same);
      sum = c.loop-child.invariant.sum ∙ ap (λ n. c.args.tally.now.sum + n) (all_sum cs i c.args.node.now.kids c.loop-child-test.false same);
    }
