use Rattle.std.proofs.Common.{◌≡◌, ◌∙◌, ◌-◌, take, sym, ap, arith}
use Rattle.std.proofs.lemmas.List.Sums.{fold-append}
use Rattle.std.specs.List.{flat_map}
use Rattle.std.proofs.lemmas.Grind.{common_steps}
use Rattle.std.proofs.lemmas.Bool.Decides.{nat_tests}
use Rattle.sal_module.specs.Faults.{least, better}
use Rattle.sal_module.specs.Statements.{subs_of}
use Rattle.sal_module.specs.Profile.{level_faults}
use Rattle.sal_module.proofs.Levels.{tree_faults-last, tree_faults-more, below}
use Rattle.sal_module.proofs.profile.+with_tree.Goals as goal

pub returns-then-levels-eq0 : goal.returns-then-levels-eq0
returns-then-levels-eq0 t c =
    let last = tree_faults-last c.args.number c.args.stmt.now in
    grind (arith, nat_tests, common_steps)

pub returns : goal.returns
returns t c =
    let m = c.args.number in
    let stmt = c.args.stmt.now in
    let more = tree_faults-more m c.args.levels stmt (grind (arith, nat_tests, common_steps)) in
    let all = fold-append better c.args.best (level_faults m stmt) (flat_map (below m (c.args.levels - 1) stmt) (subs_of stmt)) in
    let whole : take c.loop-sub.sub-index (subs_of stmt) ≡ subs_of stmt = grind (arith, common_steps) in
    let at_end = rw whole at c.loop-sub.invariant in
    at_end ∙ ap (λ best. least best (flat_map (below m (c.args.levels - 1) stmt) (subs_of stmt))) c.with_level-best.ensures ∙ sym all ∙ ap (least c.args.best) (sym more)
