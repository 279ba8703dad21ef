use Rattle.std.specs.declared.sync.Arc.{Arc}
use Rattle.std.specs.declared.alloc.Global.{Global}
use Rattle.std.proofs.Common.{List, ◌++◌, ap, ◌∙◌}
use Rattle.std.proofs.lemmas.List.{take_rest}
use Rattle.sal_node.specs.declared.node.Child.{Child}
use Rattle.sal_node.proofs.Steps.{changed-parts}
use Rattle.sal_node.specs.Shape.{tree_in, row_of}
use Rattle.sal_node.proofs.pages.changed.Goals as goal

pub returns : goal.returns
returns c = changed-parts c.args.step.now (tree_in c.args.node) c.args.children.now c.place-at.result c.past-next.result c.in_ok-list.list.items c.copy_children.new.into.items c.push_child.new.into.items _ c.place-at.ensures.value c.past-next.ensures.value c.in_ok-list.ensures.items c.in_ok-copy_children.ensures c.in_ok-push_child.ensures
    (c.in_ok-copy_children-2.ensures ∙ ap (λ (ds : List (Arc Child Global)). row_of c.push_child.new.into.items ++ row_of ds) (take_rest c.args.children.now c.past-next.result))
