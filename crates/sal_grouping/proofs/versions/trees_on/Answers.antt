use Rattle.std.proofs.Common.{◌≡◌, ◌∙◌, ◌+◌, ◌-◌, ◌<◌, List, length, sym, subst, ap, arith}
use Rattle.std.proofs.lemmas.Grind.{common_steps}
use Rattle.sal_grouping.specs.declared.node.Node.{Node}
use Rattle.sal_grouping.specs.Growth.{module_grown}
use Rattle.sal_grouping.specs.Versions.{trees_from}
use Rattle.sal_grouping.proofs.TreesFrom.{from-none, from-more, from-past}
use Rattle.sal_grouping.proofs.versions.trees_on.Goals as goal

pub loop-m-init : goal.loop-m-init
loop-m-init c =
    let a = c.args in
    let rows = a.plan.now.rows.items in
    let named = a.plan.now.named.items in
    let before = a.nodes.now.items in
    let none : a.old - a.old ≡ 0 = omega arith in
    record { small = c.requires.small; grown = sym (ap (λ n. trees_from n a.modules.now rows named a.old before) none ∙ from-none a.modules.now rows named a.old before) }

pub loop-m-preserved : goal.loop-m-preserved
loop-m-preserved c =
    let a = c.args in
    let rows = a.plan.now.rows.items in
    let named = a.plan.now.named.items in
    let before = a.nodes.now.items in
    let m = c.loop-m.m in
    let here : m ≡ a.old + (m - a.old) = grind (arith, common_steps) in
    let next : m + 1 - a.old ≡ m - a.old + 1 = grind (arith, common_steps) in
    record {
      small = c.in_ok-all.ensures.fits c.if-not-all.false;
      grown = c.in_ok-all.ensures.few c.if-not-all.false ∙ ap (λ f. module_grown a.modules.now rows named f m) c.loop-m.invariant.grown
          ∙ sym (from-more a.modules.now rows named a.old before (m - a.old) m here) ∙ ap (λ n. trees_from n a.modules.now rows named a.old before) (sym next);
    }

pub returns-then-not-all-clause-many : goal.returns-then-not-all-clause-many
returns-then-not-all-clause-many c t =
    let a = c.args in
    let rows = a.plan.now.rows.items in
    let named = a.plan.now.named.items in
    let before = a.nodes.now.items in
    let m = c.loop-m.m in
    let P : List Node → Type 0 = λ f. 65536 < length (module_grown a.modules.now rows named f m) in
    let here : m ≡ a.old + (m - a.old) = grind (arith, common_steps) in
    let within : m - a.old < length a.modules.now - a.old = grind (arith, common_steps) in
    from-past a.modules.now rows named a.old before (m - a.old) m (length a.modules.now - a.old) here within (subst P c.loop-m.invariant.grown (c.in_ok-all.ensures.many c.if-not-all.true))
