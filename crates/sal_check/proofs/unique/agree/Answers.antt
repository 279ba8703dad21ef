use Rattle.std.proofs.Common.{◌≡◌, Option, Some, sym, ap, subst, ◌∙◌}
use Rattle.std.specs.Prelude.{IfOk}
use Rattle.sal_node.specs.Tree.{Tree}
use Rattle.sal_tree.specs.Grow.{kids_in}
use Rattle.sal_check.specs.Nodes.{seen_in}
use Rattle.sal_rules.specs.Rules.{has_double, combinations}
use Rattle.sal_check.specs.Uniques.{all_cells_in, all_combinations, ways_in}
use Rattle.sal_check.proofs.Combined.{combinations-seen}
use Rattle.sal_check.proofs.unique.agree.Goals as goal

pub returns : goal.returns
returns c =
    let o : Option Tree = Some c.args.node.now.value in
    let table = c.args.walk.now.schema.now in
    let ways = ap ways_in c.deref.ensures.value ∙ c.in_ok-ways.ensures in
    let same : all_cells_in c.deref-2.result.now ≡ combinations table (seen_in o) c.args.number c.args.leafs.now =
    ap all_cells_in c.deref-2.ensures.value ∙ c.in_ok-found.ensures
    ∙ (λ k. all_combinations (ways k) (kids_in (c.child_of.ensures.kid k)))
    ∙ sym (combinations-seen table o c.args.number c.args.leafs.now c.requires) in
    subst (λ l. IfOk c.has_double.result (λ b. b ≡ has_double l)) same c.has_double.ensures
