-- The outermost lost parent.
use Rattle.std.proofs.Common.{◌≡◌, ℕ, true, List, Option, Some, None, length, take, ap, sym, ◌∙◌, rules, if◌then◌else◌}
use Rattle.std.specs.Prelude.{option_map, unwrap_or}
use Rattle.sal_types.specs.declared.value.Step.{Step}
use Rattle.sal_rows.specs.declared.outcome.ClashKind.TheVariants.{Deleted}
use Rattle.sal_tree.specs.Rows.{rows_of}
use Rattle.sal_rows.specs.declared.clash.Clash.{Clash}
use Rattle.sal_rows.specs.Clash.{needs_parents, lost_parent, last_touch_over}
use Rattle.sal_graft.specs.Rows.{lost_depth}
use Rattle.sal_graft.specs.Kept.{opening_in, ops_of, rows_in}
use Rattle.sal_graft.proofs.Clashes.{lost-parent}
use Rattle.sal_rows.proofs.Named.{parent_found}
use Rattle.sal_graft.proofs.search.parent_clash.Goals as goal

abbrev at_depth : ℕ → ℕ → ℕ → Option Clash
at_depth op depth commit = Some (record { op = op; row = None; depth = depth; kind = Deleted; commit = commit })

pub returns-in-None : goal.returns-in-None
returns-in-None c =
    let op = c.args.op.now in
    let f = parent_found (opening_in c.args.ground.now.commits.now) (ops_of c.args.ground.now.commits.now) c.args.ground.now.spans.now c.args.earlier.now op in
    let lost = lost_parent (opening_in c.args.ground.now.commits.now) (ops_of c.args.ground.now.commits.now) (rows_in c.args.ground.now.base.now) c.args.earlier.now op.store op.path in
    let needs : true ≡ needs_parents op.act = search rules in
    let none : None ≡ lost =
    sym c.in-None.is ∙ c.lost_depth.ensures.depth ∙ (λ i. lost_depth (rows_of (c.tree_of-base.ensures i)) (c.tip_of-tip.ensures i) c.args.earlier.now op.store (c.steps.ensures.all i))
    ∙ lost-parent (opening_in c.args.ground.now.commits.now) (ops_of c.args.ground.now.commits.now) (rows_in c.args.ground.now.base.now) c.args.earlier.now op.store op.path in
    ap (option_map f) none ∙ ap (λ b. if b then option_map f lost else None) needs

pub returns-in-Some : goal.returns-in-Some
returns-in-Some c =
    let op = c.args.op.now in
    let f = parent_found (opening_in c.args.ground.now.commits.now) (ops_of c.args.ground.now.commits.now) c.args.ground.now.spans.now c.args.earlier.now op in
    let lost = lost_parent (opening_in c.args.ground.now.commits.now) (ops_of c.args.ground.now.commits.now) (rows_in c.args.ground.now.base.now) c.args.earlier.now op.store op.path in
    let needs : true ≡ needs_parents op.act = search rules in
    let some : Some c.in-Some.depth ≡ lost =
    sym c.in-Some.is ∙ c.lost_depth.ensures.depth ∙ (λ i. lost_depth (rows_of (c.tree_of-base.ensures i)) (c.tip_of-tip.ensures i) c.args.earlier.now op.store (c.steps.ensures.all i))
    ∙ lost-parent (opening_in c.args.ground.now.commits.now) (ops_of c.args.ground.now.commits.now) (rows_in c.args.ground.now.base.now) c.args.earlier.now op.store op.path in
    let named : c.unwrap_or-commit.result ≡ unwrap_or (last_touch_over (opening_in c.args.ground.now.commits.now) (ops_of c.args.ground.now.commits.now) c.args.ground.now.spans.now op.store (take c.in-Some.depth op.path)) 0 =
    c.unwrap_or-commit.ensures ∙ ap (λ (o : Option ℕ). unwrap_or o 0) c.last_touch_over.ensures
    ∙ ap (λ (q : List Step). unwrap_or (last_touch_over (opening_in c.args.ground.now.commits.now) (ops_of c.args.ground.now.commits.now) c.args.ground.now.spans.now op.store (take c.in-Some.depth q)) 0) c.steps-in-Some.ensures.all in
    ap (at_depth (length c.args.earlier.now) c.in-Some.depth) named
    ∙ ap (option_map f) some ∙ ap (λ b. if b then option_map f lost else None) needs
