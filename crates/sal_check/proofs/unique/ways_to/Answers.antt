use Rattle.std.proofs.Common.{rules, ◌≡◌, ◌++◌, ◌∷◌, [], get_or, sym, ap, ◌∙◌}
use Rattle.std.proofs.lemmas.List.{map_more}
use Rattle.sal_rules.specs.Contexts.{way_in_entry}
use Rattle.sal_check.specs.Uniques.{ways_in}
use Rattle.sal_check.proofs.Combined.{ways_in-push}
use Rattle.sal_check.proofs.unique.ways_to.Goals as goal

pub loop-leaf-preserved : goal.loop-leaf-preserved
loop-leaf-preserved c =
    let leafs = c.args.leafs.now in
    let i = c.loop-leaf.leaf-index in
    let f = way_in_entry c.args.schema.now in
    let one : c.in_ok-way_in_entry.field-0.items ≡ f (get_or leafs i 0) = search rules in
    ap ways_in c.in_ok-push.ensures.items ∙ ways_in-push c.loop-leaf.ways.items c.in_ok-way_in_entry.field-0
    ∙ (λ k. c.loop-leaf.invariant k ++ one k ∷ []) ∙ sym (map_more f leafs i 0 c.loop-leaf-test.true)
