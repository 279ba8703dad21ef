use Rattle.std.proofs.Common.{◌≡◌, [], false, Some, None, sym, subst, ◌∙◌}
use Rattle.std.specs.Prelude.{IfOk}
use Rattle.std.specs.List.{fold, list_any}
use Rattle.sal_tree.specs.Rows.{rows_of}
use Rattle.sal_types.proofs.Handy.{not_true}
use Rattle.sal_rules.specs.Breaches.{keep, breach, numbers}
use Rattle.sal_check.specs.Near.{near}
use Rattle.sal_check.specs.Nodes.{states}
use Rattle.sal_rules.specs.Places.{root_spot}
use Rattle.sal_check.proofs.NearTrees.{near-breach}
use Rattle.sal_check.proofs.Stated.{none-stated}
use Rattle.sal_check.proofs.check.changed.Goals as goal

pub returns-then-is_bare : goal.returns-then-is_bare
returns-then-is_bare c =
    let table = c.args.near.now.walk.schema.now in
    let none : list_any (states table) (numbers table) ≡ false = not_true (list_any (states table) (numbers table)) (sym c.is_bare.ensures ∙ c.if-is_bare.true) in
    none-stated table c.args.near.now.walk.store none (rows_of c.args.after.now)

pub returns : goal.returns
returns c =
    let table = c.args.near.now.walk.schema.now in
    let store = c.args.near.now.walk.store in
    let stamps = c.args.near.now.stamps.now in
    let same : fold keep None (near stamps table store [] root_spot (Some c.node-old.result.now.value) c.node.result.now.value) ≡ breach table store (rows_of c.args.after.now) =
    (λ i. fold keep None (near stamps table store [] root_spot (Some (c.node-old.ensures.tree i)) (c.node.ensures.tree i)))
    ∙ near-breach stamps table store c.args.before.now c.args.after.now c.node-old.ensures.whole.ordered c.node.ensures.whole.ordered c.requires.keeps c.requires.kept in
    subst (λ o. IfOk c.over.result (λ r. r ≡ o)) same c.over.ensures
