use Rattle.sal_node.specs.declared.node.Child.{Child}
use Rattle.std.proofs.Common.{◌∷◌, [], ◌++◌, ap, ◌∙◌, sym}
use Rattle.sal_types.specs.declared.value.Step.{Step}
use Rattle.sal_node.specs.Tree.{one_of}
use Rattle.sal_node.proofs.Rows.{row_of-append}
use Rattle.sal_node.specs.Shape.{row_of, tree_in}
use Rattle.sal_node.proofs.pages.push_child.Goals as goal

pub returns-in_ok-push-in-Some : goal.returns-in_ok-push-in-Some
returns-in_ok-push-in-Some c = ap row_of c.in_ok-push-in-Some.ensures.items ∙ row_of-append c.args.into.now.items _
    ∙ ap (λ (d : Child). row_of c.args.into.now.items ++ ((d.step, d.node.value) ∷ [])) c.in_ok-child-in-Some.ensures.ok
    ∙ ap (λ (s : Step). row_of c.args.into.now.items ++ ((s, c.in-Some.node.value) ∷ [])) c.in_ok-step-in-Some.ensures
    ∙ sym (ap (λ o. row_of c.args.into.now.items ++ one_of c.args.step.now (tree_in o)) c.in-Some.is)
