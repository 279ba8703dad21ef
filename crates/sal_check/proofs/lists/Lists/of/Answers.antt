use Rattle.std.proofs.Common.{rules, ◌≡◌, ◌&&◌, ◌||◌, true, false, ◌++◌, ◌∷◌, [], nat_eq, if◌then◌else◌, sym, ap, ◌∙◌, arith}
use Rattle.sal_schema.specs.Table.{data_parent}
use Rattle.sal_rules.specs.Contexts.{stand}
use Rattle.sal_check.specs.Nodes.{slot, states, is_judged_in}
use Rattle.sal_check.proofs.Plans.{kept-none, kept-one_more, kept-same, some-none, some-last, some-same, stand-inside, parent-inside}
use Rattle.sal_check.proofs.lists.Lists.of.Goals as goal

pub loop-number-init : goal.loop-number-init
loop-number-init c = record {
  count = omega (arith, c.in_ok-lists.ensures.count, c.len.ensures.count);
  each = λ k d low. c.in_ok-lists.ensures.empty k d (omega (arith, low, c.len.ensures.count)) ∙ kept-none (is_judged_in c.args.schema.now k);
  any = some-none (states c.args.schema.now);
}

pub add_to_both-requires-clause-at : goal.add_to_both-requires-clause-at
add_to_both-requires-clause-at c =
    let same = c.slot-stand.ensures ∙ ap slot c.stand.ensures in
    omega (arith, same, stand-inside c.args.schema.now c.loop-number.number, c.loop-number.invariant.count)

pub add_to_both-requires-clause-other : goal.add_to_both-requires-clause-other
add_to_both-requires-clause-other c =
    let same = c.slot-parent.ensures ∙ ap slot c.data_parent.ensures in
    omega (arith, same, parent-inside c.args.schema.now c.loop-number.number, c.loop-number.invariant.count)

pub loop-number-preserved-then-not-states : goal.loop-number-preserved-then-not-states
loop-number-preserved-then-not-states c =
    let table = c.args.schema.now in
    let n = c.loop-number.number in
    let untold : states table n ≡ false = search rules in
    record {
      count = c.loop-number.invariant.count;
      each = λ k d low. c.loop-number.invariant.each k d low ∙ kept-same (is_judged_in table k) n (ap (λ b. b && (nat_eq (slot (stand table n)) k || nat_eq (slot (data_parent table n)) k)) untold);
      any = c.loop-number.invariant.any ∙ some-same (states table) n untold;
    }

pub loop-number-preserved : goal.loop-number-preserved
loop-number-preserved c =
    let table = c.args.schema.now in
    let n = c.loop-number.number in
    let stated : states table n ≡ true = sym c.states.ensures ∙ c.if-not-states.false in
    let is : true ≡ states table n = sym stated in
    let at = c.slot-stand.ensures ∙ ap slot c.stand.ensures in
    let other = c.slot-parent.ensures ∙ ap slot c.data_parent.ensures in
    record {
      count = c.in_ok-add_to_both.ensures.count ∙ c.loop-number.invariant.count;
      each = λ k d low. c.in_ok-add_to_both.ensures.added k d (omega (arith, low, c.loop-number.invariant.count))
          ∙ (λ i. c.loop-number.invariant.each k d low i ++ (if is i && (nat_eq (at i) k || nat_eq (other i) k) then n ∷ [] else []))
          ∙ kept-one_more (is_judged_in table k) n;
      any = some-last (states table) n stated;
    }
