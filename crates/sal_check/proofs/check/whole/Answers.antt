use Rattle.std.proofs.Common.{◌≡◌, [], false, None, sym, ap, subst, ◌∙◌}
use Rattle.std.specs.Prelude.{IfOk}
use Rattle.std.specs.List.{fold, list_any}
use Rattle.sal_node.specs.Tree.{Tree}
use Rattle.sal_tree.specs.Rows.{rows_of}
use Rattle.sal_types.proofs.Handy.{not_true}
use Rattle.sal_rules.specs.Breaches.{keep, breach, numbers}
use Rattle.sal_check.specs.Nodes.{found, states}
use Rattle.sal_rules.specs.Places.{root_spot}
use Rattle.sal_check.proofs.Stated.{none-stated}
use Rattle.sal_check.proofs.Walked.{breach-found}
use Rattle.sal_check.proofs.check.whole.Goals as goal

pub returns-then-is_bare : goal.returns-then-is_bare
returns-then-is_bare c =
    let table = c.args.walk.now.schema.now in
    let none : list_any (states table) (numbers table) ≡ false = not_true (list_any (states table) (numbers table)) (sym c.is_bare.ensures ∙ c.if-is_bare.true) in
    none-stated table c.args.walk.now.store none (rows_of c.args.root.now)

pub returns : goal.returns
returns c =
    let table = c.args.walk.now.schema.now in
    let store = c.args.walk.now.store in
    let same : fold keep None (found table store [] root_spot c.node.result.now.value) ≡ breach table store (rows_of c.args.root.now) =
    ap (λ (t : Tree). fold keep None (found table store [] root_spot t)) c.node.ensures.tree ∙ breach-found table store c.args.root.now c.node.ensures.whole.ordered in
    subst (λ o. IfOk c.over.result (λ r. r ≡ o)) same c.over.ensures
