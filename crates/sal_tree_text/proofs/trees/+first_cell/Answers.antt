use Rattle.std.proofs.Common.{◌≡◌, Option, None, ap, sym, ◌∙◌, arith}
use Rattle.std.specs.Option.{option_map}
use Rattle.std.specs.Borrow.{Bor}
use Rattle.sal_types.specs.declared.value.Cell.{Cell}
use Rattle.sal_node.specs.Tree.{Tree, size_of}
use Rattle.sal_node.specs.Shape.{seen}
use Rattle.sal_tree.proofs.ByChildren.{lighter}
use Rattle.sal_tree_text.specs.Trees.{first_cell}
use Rattle.sal_tree_text.proofs.TreeRows.{first_of_child}
use Rattle.sal_tree_text.proofs.TreeTexts.{if_ok}
use Rattle.sal_tree_text.proofs.trees.+first_cell.Goals as goal

pub first_cell-requires : goal.first_cell-requires
first_cell-requires t c =
    let same = ap seen c.as_slice.ensures.value ∙ c.in_ok-children-in-None.ensures in
    let h = lighter c.args.node.now.kids c.as_slice.result.now 0 c.child-item.result same c.in-len1-up.len_at_least c.child-item.is in
    let e : size_of c.deref.result.now ≡ size_of c.child-item.result.now.node.value = ap size_of c.deref.ensures in
    (omega (arith, h, e, c.decreases), tt)

pub returns-in-len1-up : goal.returns-in-len1-up
returns-in-len1-up t c =
    let same = ap seen c.as_slice.ensures.value ∙ c.in_ok-children-in-None.ensures in
    let none : c.args.node.now.cell ≡ None = sym (ap (λ (u : Tree). u.cell) c.node.view_is) ∙ c.in-None.is in
    let down = first_of_child c.args.node.now.cell c.args.node.now.kids c.as_slice.result.now c.child-item.result none same c.in-len1-up.len_at_least c.child-item.is in
    if_ok (λ (cell : Option (Bor Cell)). option_map (λ (k : Bor Cell). k.now) cell ≡ first_cell c.deref.result.now.cell c.deref.result.now.kids) (λ (cell : Option (Bor Cell)). option_map (λ (k : Bor Cell). k.now) cell ≡ first_cell c.args.node.now.cell c.args.node.now.kids) c.first_cell.result
    (λ cell e. e ∙ ap (λ (u : Tree). first_cell u.cell u.kids) c.deref.ensures ∙ sym down)
    c.first_cell.ensures
