use Rattle.std.proofs.Common.{rules, ◌≡◌, true, false, sym, ◌∙◌}
use Rattle.sal_schema_of_table.proofs.Doubles.{has, at_first, at_last, seen_before, one_more}
use Rattle.sal_schema_of_table.proofs.distinct.all_differ.Goals as goal

pub loop-item-init : goal.loop-item-init
loop-item-init g c = at_first g.K.Ord.cmp c.new-seen.result c.args.items.now c.new-seen.ensures.empty

pub returns-then-not-branch : goal.returns-then-not-branch
returns-then-not-branch g c =
    let cmp = g.K.Ord.cmp in
    let is : has cmp c.loop-item.seen c.item-item.result ≡ true = search rules in
    sym (seen_before cmp c.loop-item.seen c.args.items.now c.loop-item.item-index c.item-item.result c.loop-item-test.true c.item-item.is is) ∙ c.loop-item.invariant

pub loop-item-preserved : goal.loop-item-preserved
loop-item-preserved g c =
    let cmp = g.K.Ord.cmp in
    let is : has cmp c.loop-item.seen c.item-item.result ≡ false = search rules in
    one_more cmp c.loop-item.seen c.args.items.now c.loop-item.item-index c.item-item.result c.loop-item-test.true c.item-item.is c.insert.new.self is (λ q. c.in_ok-insert.ensures.updates.0 q) ∙ c.loop-item.invariant

pub returns : goal.returns
returns g c = sym (at_last g.K.Ord.cmp c.loop-item.seen c.args.items.now c.loop-item.item-index c.loop-item-test.false) ∙ c.loop-item.invariant
