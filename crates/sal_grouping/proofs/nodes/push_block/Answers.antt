use Rattle.std.proofs.Common.{◌≡◌, ◌∙◌, ◌+◌, ◌++◌, sym, ap, arith}
use Rattle.sal_grouping.specs.Growth.{nodes_within}
use Rattle.sal_grouping.specs.Visits.{all_left, steps_within, all_steps}
use Rattle.sal_grouping.proofs.VisitLists.{nodes-none, nodes-visit, all_left-last, steps-none, steps-visit, all_steps-last}
use Rattle.sal_grouping.proofs.nodes.push_block.Goals as goal

pub returns-in_ok-push-clause-left : goal.returns-in_ok-push-clause-left
returns-in_ok-push-clause-left c rows named =
    let visits = c.args.visits.now.items in
    ap (all_left rows named) c.in_ok-push.ensures.items ∙ all_left-last rows named visits _
    ∙ ap (λ l. l ++ all_left rows named visits) (nodes-visit c.args.levels rows named c.args.block (omega arith))

pub returns-else-levels-gt0-clause-left : goal.returns-else-levels-gt0-clause-left
returns-else-levels-gt0-clause-left c rows named =
    let none : c.args.levels ≡ 0 = omega arith in
    ap (λ l. l ++ all_left rows named c.args.visits.now.items) (sym (ap (λ n. nodes_within n rows named c.args.block) none ∙ nodes-none rows named c.args.block))

pub returns-in_ok-push-clause-steps : goal.returns-in_ok-push-clause-steps
returns-in_ok-push-clause-steps c rows named =
    let visits = c.args.visits.now.items in
    ap (all_steps rows named) c.in_ok-push.ensures.items ∙ all_steps-last rows named visits _
    ∙ ap (λ n. n + all_steps rows named visits) (steps-visit c.args.levels rows named c.args.block (omega arith))

pub returns-else-levels-gt0-clause-steps : goal.returns-else-levels-gt0-clause-steps
returns-else-levels-gt0-clause-steps c rows named =
    let none : c.args.levels ≡ 0 = omega arith in
    omega (arith, ap (λ n. steps_within n rows named c.args.block) none ∙ steps-none rows named c.args.block)
