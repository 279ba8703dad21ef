use Rattle.std.proofs.Common.{◌≡◌, ◌∙◌, ◌-◌, ◌+◌, ◌<◌, rules, length, sym, ap, arith}
use Rattle.std.proofs.lemmas.Grind.{common_steps}
use Rattle.sal_grouping.specs.Augments.{Progress, round, rounds}
use Rattle.sal_grouping.proofs.IndexLists.{not-same}
use Rattle.sal_grouping.proofs.RoundLists.{rounds-more, left-past, left-end, left-none}
use Rattle.sal_grouping.proofs.augments.rounds.Goals as goal

pub returns-in-None-clause-many : goal.returns-in-None-clause-many
returns-in-None-clause-many c =
    let a = c.args in
    let start : Progress = (a.nodes.now.items, a.augments.items) in
    let now : Progress = (c.loop-i.nodes.items, c.loop-i.left.items) in
    let count : length a.augments.items ≡ c.len-count.result = grind (arith, common_steps) in
    let past = rw (c.in-None.is, c.as_slice.ensures.value) at c.in_ok-round.ensures.many in
    left-past a.modules.now a.plan.now.rows.items a.plan.now.named.items (length a.augments.items) c.len-count.result (c.len-count.result - c.loop-i._i) start now count c.loop-i.invariant.left (omega arith) past

pub returns-then-len-clause-few : goal.returns-then-len-clause-few
returns-then-len-clause-few c =
    let a = c.args in
    let start : Progress = (a.nodes.now.items, a.augments.items) in
    let now : Progress = (c.loop-i.nodes.items, c.loop-i.left.items) in
    let count : length a.augments.items ≡ c.len-count.result = grind (arith, common_steps) in
    let few = rw (c.in-Some.is, c.as_slice.ensures.value) at c.in_ok-round.ensures.few in
    let lens : length c.in-Some.next.items ≡ length c.loop-i.left.items = grind (arith, common_steps) in
    few ∙ left-end a.modules.now a.plan.now.rows.items a.plan.now.named.items (length a.augments.items) c.len-count.result (c.len-count.result - c.loop-i._i) start now count c.loop-i.invariant.left (omega arith) (ap (λ (p : Progress). length p.1) (sym few) ∙ lens)

pub loop-i-preserved : goal.loop-i-preserved
loop-i-preserved c =
    let a = c.args in
    let stmts = a.modules.now in
    let rows = a.plan.now.rows.items in
    let named = a.plan.now.named.items in
    let now : Progress = (c.loop-i.nodes.items, c.loop-i.left.items) in
    let rest = c.len-count.result - c.loop-i._i in
    let few = rw (c.in-Some.is, c.as_slice.ensures.value) at c.in_ok-round.ensures.few in
    let some : 0 < rest = omega arith in
    let fits = rw c.in-Some.is at c.in_ok-round.ensures.fits in
    let differ : length c.in-Some.next.items ≡ length c.loop-i.left.items → ⊥ = grind (arith, common_steps) in
    let other : length (round stmts rows named now).1 ≡ length c.loop-i.left.items → ⊥ = λ e. differ (ap (λ (p : Progress). length p.1) few ∙ e) in
    let less : rest - 1 ≡ c.len-count.result - (c.loop-i._i + 1) = omega arith in
    record {
      small = search rules;
      left = c.loop-i.invariant.left ∙ rounds-more stmts rows named rest now some (not-same (length (round stmts rows named now).1) (length c.loop-i.left.items) other)
          ∙ ap (λ n. rounds n stmts rows named (round stmts rows named now)) less ∙ ap (rounds (c.len-count.result - (c.loop-i._i + 1)) stmts rows named) (sym few);
    }

pub returns-clause-few : goal.returns-clause-few
returns-clause-few c =
    let a = c.args in
    let start : Progress = (a.nodes.now.items, a.augments.items) in
    let now : Progress = (c.loop-i.nodes.items, c.loop-i.left.items) in
    let count : length a.augments.items ≡ c.len-count.result = grind (arith, common_steps) in
    left-none a.modules.now a.plan.now.rows.items a.plan.now.named.items (length a.augments.items) c.len-count.result (c.len-count.result - c.loop-i._i) start now count c.loop-i.invariant.left (omega arith)
