use Rattle.std.proofs.Common.{rules, ◌≡◌, Option, Some, ap, sym, ◌∙◌}
use Rattle.sal_node.specs.Shape.{tree_at}
use Rattle.sal_node.specs.Tree.{Tree}
use Rattle.sal_tree.specs.Grow.{at}
use Rattle.sal_rules.specs.Contexts.{way}
use Rattle.sal_check.specs.Nodes.{seen_in}
use Rattle.sal_rules.specs.Seen.{further}
use Rattle.sal_check.proofs.SeenTrees.{further-seen}
use Rattle.sal_check.proofs.rules.is_missing.Goals as goal

pub returns : goal.returns
returns c =
    let o : Option Tree = Some c.args.place.now.node.now.value in
    let table = c.args.walk.now.schema.now in
    let deep : further (seen_in o) (way table c.args.number) ≡ seen_in (tree_at c.reached.result) =
    further-seen o (way table c.args.number) ∙ ap (λ w. seen_in (at o w)) (sym (c.deref-2.ensures.value ∙ c.in_ok-way.ensures)) ∙ ap seen_in (sym c.reached.ensures.node) in
    rw deep (search rules)
