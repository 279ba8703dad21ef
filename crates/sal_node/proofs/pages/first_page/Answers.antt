use Rattle.std.specs.declared.sync.Arc.{Arc}
use Rattle.std.specs.declared.alloc.Global.{Global}
use Rattle.std.proofs.Common.{◌≡◌, ◌≤◌, ap, arith, length, List, [], ◌++◌, ◌∙◌}
use Rattle.std.specs.Prelude.{Option, Some, None}
use Rattle.sal_types.specs.declared.value.Step.{Step}
use Rattle.sal_node.specs.Tree.{Tree, one_of}
use Rattle.sal_node.specs.declared.node.Child.{Child}
use Rattle.sal_node.specs.Shape.{row_of, tree_in}
use Rattle.sal_node.proofs.Rows.{row_of-length}
use Rattle.sal_node.proofs.pages.first_page.Goals as goal

one_few : (x : Step) (o : Option Tree) → length (one_of x o) ≤ 1
one_few x None = omega arith
one_few x (Some t) = omega arith

few : (x : Step) (o : Option Tree) (start new : List (Arc Child Global)) → start ≡ [] → row_of new ≡ row_of start ++ one_of x o → length new ≤ 64
few x o start new none is = let e : length (row_of new) ≡ length (one_of x o) = ap length is ∙ ap (λ (cs : List (Arc Child Global)). length (row_of cs ++ one_of x o)) none in omega (arith, row_of-length new, one_few x o)

pub add_page-requires-clause-few : goal.add_page-requires-clause-few
add_page-requires-clause-few c = omega (arith, c.page_of.ensures.count, few c.args.step.now (tree_in c.args.node) c.new-children.result.items _ c.new-children.ensures.items c.in_ok-push_child.ensures)
