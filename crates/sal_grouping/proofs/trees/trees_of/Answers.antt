use Rattle.std.proofs.Common.{◌∙◌, ◌<◌, List, length, sym, subst, ap, arith}
use Rattle.std.proofs.lemmas.Grind.{common_steps}
use Rattle.sal_grouping.specs.declared.node.Node.{Node}
use Rattle.sal_grouping.specs.Growth.{module_grown}
use Rattle.sal_grouping.proofs.FrameLists.{trees-none, trees-more, trees-past}
use Rattle.sal_grouping.proofs.trees.trees_of.Goals as goal

pub loop-m-init : goal.loop-m-init
loop-m-init c =
    let a = c.args in
    record { small = grind (arith, common_steps); grown = c.new-nodes.ensures.items ∙ sym (trees-none a.plan.now.rows.items a.plan.now.named.items 0 a.modules.now) }

pub loop-m-preserved : goal.loop-m-preserved
loop-m-preserved c =
    let a = c.args in
    let rows = a.plan.now.rows.items in
    let named = a.plan.now.named.items in
    record {
      small = c.in_ok-all.ensures.fits c.if-not-all.false;
      grown = c.in_ok-all.ensures.few c.if-not-all.false ∙ ap (λ f. module_grown a.modules.now rows named f c.loop-m.m) c.loop-m.invariant.grown ∙ sym (trees-more rows named 0 a.modules.now c.loop-m.m);
    }

pub returns-then-not-all : goal.returns-then-not-all
returns-then-not-all c =
    let a = c.args in
    let rows = a.plan.now.rows.items in
    let named = a.plan.now.named.items in
    let P : List Node → Type 0 = λ f. 65536 < length (module_grown a.modules.now rows named f c.loop-m.m) in
    let within : c.loop-m.m < length a.modules.now = grind (arith, common_steps) in
    trees-past rows named a.modules.now c.loop-m.m within (subst P c.loop-m.invariant.grown (c.in_ok-all.ensures.many c.if-not-all.true))
