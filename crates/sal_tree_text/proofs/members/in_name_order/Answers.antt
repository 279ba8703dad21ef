use Rattle.std.proofs.Common.{◌≡◌, true}
use Rattle.sal_node.specs.Shape.{seen}
use Rattle.sal_tree_text.specs.Trees.{do_names_rise}
use Rattle.sal_tree_text.proofs.NameOrder.{names_in_order}
use Rattle.sal_tree_text.proofs.members.in_name_order.Goals as goal

pub returns-then-do_names_rise : goal.returns-then-do_names_rise
returns-then-do_names_rise c = λ f.
    let e : do_names_rise c.args.schema.now (seen c.args.children.items) ≡ true = cc in
    names_in_order c.args.schema.now c.args.parent f (seen c.args.children.items) e
