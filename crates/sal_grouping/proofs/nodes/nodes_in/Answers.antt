use Rattle.std.proofs.Common.{◌∙◌, ◌<◌, ◌++◌, length, sym, ap, arith, length-append}
use Rattle.std.proofs.lemmas.Grind.{common_steps}
use Rattle.sal_grouping.specs.Visits.{all_left, all_steps}
use Rattle.sal_grouping.proofs.VisitLists.{all_left-last, all_steps-last}
use Rattle.sal_grouping.proofs.nodes.nodes_in.Goals as goal

pub visits-preserved : goal.visits-preserved
visits-preserved c =
    let rows = c.args.plan.now.rows.items in
    let named = c.args.plan.now.named.items in
    let popped = ap (all_left rows named) c.in-Some.ensures.items ∙ all_left-last rows named c.pop.new.self.items c.in-Some.visit in
    c.in_ok-visit_one.ensures.left ∙ ap (λ l. c.visits.out.items ++ l) (sym popped) ∙ c.visits.invariant

pub returns-then-len-gt-MAX_NODES : goal.returns-then-len-gt-MAX_NODES
returns-then-len-gt-MAX_NODES c =
    let rows = c.args.plan.now.rows.items in
    let named = c.args.plan.now.named.items in
    let popped = ap (all_left rows named) c.in-Some.ensures.items ∙ all_left-last rows named c.pop.new.self.items c.in-Some.visit in
    let all = c.in_ok-visit_one.ensures.left ∙ ap (λ l. c.visits.out.items ++ l) (sym popped) ∙ c.visits.invariant in
    let count = ap length all in
    let found : 65536 < length c.visit_one.new.out.items = grind (arith, common_steps) in
    omega (arith, count, length-append c.visit_one.new.out.items (all_left rows named c.visit_one.new.visits.items))

pub visits-smaller : goal.visits-smaller
visits-smaller c =
    let rows = c.args.plan.now.rows.items in
    let named = c.args.plan.now.named.items in
    let popped = ap (all_steps rows named) c.in-Some.ensures.items ∙ all_steps-last rows named c.pop.new.self.items c.in-Some.visit in
    omega (arith, popped, c.in_ok-visit_one.ensures.fewer)
