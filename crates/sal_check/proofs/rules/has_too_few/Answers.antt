use Rattle.std.proofs.Common.{rules, ◌≡◌, Bool, Option, Some, ap, sym, ◌∙◌}
use Rattle.std.specs.Prelude.{◌&&◌, nat_lt}
use Rattle.sal_node.specs.Shape.{tree_at}
use Rattle.sal_node.specs.Tree.{Tree}
use Rattle.sal_schema.specs.Table.{is_same, min_elements}
use Rattle.sal_tree.specs.Grow.{at}
use Rattle.sal_rules.specs.Contexts.{stand, way}
use Rattle.sal_check.specs.Nodes.{seen_in}
use Rattle.sal_rules.specs.Rules.{has_minimum, is_demanded, count}
use Rattle.sal_rules.specs.Seen.{Seen, further}
use Rattle.sal_check.proofs.SeenTrees.{further-seen}
use Rattle.sal_check.proofs.rules.has_too_few.Goals as goal

pub returns : goal.returns
returns c =
    let o : Option Tree = Some c.args.place.now.node.now.value in
    let table = c.args.walk.now.schema.now in
    let n = c.args.number in
    let judged : Seen → Bool = λ see. has_minimum table n && (is_same (stand table n) c.args.place.now.spot.node && (is_demanded table (seen_in o) n && nat_lt (count see n) (min_elements table n))) in
    let deep : further (seen_in o) (way table n) ≡ seen_in (tree_at c.reached.result) =
    further-seen o (way table n) ∙ ap (λ w. seen_in (at o w)) (sym (c.deref-2.ensures.value ∙ c.in_ok-way.ensures)) ∙ ap seen_in (sym c.reached.ensures.node) in
    let here : nat_lt c.in_ok-entries.entries c.min_elements.result ≡ judged (seen_in (tree_at c.reached.result)) = search rules in
    here ∙ ap judged (sym deep)
