use Rattle.std.proofs.Common.{rules, ◌≡◌, ◌-◌, ◌+◌, ◌<◌, true, false, cond, length, ◌∷◌, sym, ap, ◌∙◌, arith}
use Rattle.sal_types.specs.declared.value.Step.TheVariants.{Node}
use Rattle.sal_schema.specs.Kinds.{is_list, is_data}
use Rattle.sal_schema.specs.Table.{is_kind}
use Rattle.sal_rules.specs.Contexts.{from_list}
use Rattle.sal_check.proofs.Climbs.{from-kind, from-None, from-end, from-outside, kind_says}
use Rattle.sal_check.proofs.climb.way_in_entry.Goals as goal

pub returns-in-None : goal.returns-in-None
returns-in-None c =
    let table = c.args.schema.now in
    let left = length table.nodes - c.loop-done.done in
    sym (from-None table left c.loop-done.steps.items) ∙ ap (λ o. from_list table left o c.loop-done.steps.items) (sym c.in-None.is) ∙ c.loop-done.invariant

pub returns-then-above-len : goal.returns-then-above-len
returns-then-above-len c =
    let table = c.args.schema.now in
    let n = length table.nodes in
    let steps = c.loop-done.steps.items in
    let inside : c.loop-done.done < n = omega (arith, c.loop-done-test.true, c.len-done-end.ensures.count) in
    sym (from-outside table n c.loop-done.done c.in-Some.above steps inside (omega (arith, c.if-above-len.true, c.len.ensures.count)))
    ∙ ap (λ o. from_list table (n - c.loop-done.done) o steps) (sym c.in-Some.is) ∙ c.loop-done.invariant

pub returns-then-is_list : goal.returns-then-is_list
returns-then-is_list c =
    let table = c.args.schema.now in
    let n = length table.nodes in
    let steps = c.loop-done.steps.items in
    let is : is_list c.kind-kind.result ≡ true = search rules in
    let inside : c.loop-done.done < n = omega (arith, c.loop-done-test.true, c.len-done-end.ensures.count) in
    sym (from-kind table n c.loop-done.done true c.in-Some.above c.kind-kind.result steps inside c.kind-kind.ensures is)
    ∙ ap (λ o. from_list table (n - c.loop-done.done) o steps) (sym c.in-Some.is) ∙ c.loop-done.invariant

pub loop-done-preserved : goal.loop-done-preserved
loop-done-preserved c =
    let table = c.args.schema.now in
    let n = length table.nodes in
    let above = c.in-Some.above in
    let steps = c.loop-done.steps.items in
    let is : is_list c.kind-kind.result ≡ false = search rules in
    let inside : c.loop-done.done < n = omega (arith, c.loop-done-test.true, c.len-done-end.ensures.count) in
    let added : c.add_data.new.steps.items ≡ cond (is_kind is_data table above) (Node above ∷ steps) steps =
    c.in_ok-add_data-in-Some.ensures ∙ ap (λ b. cond b (Node above ∷ steps) steps) (sym (kind_says is_data table above c.kind-kind.result c.kind-kind.ensures)) in
    (λ k. from_list table (n - (c.loop-done.done + 1)) (c.parent-here.ensures.parent k) (added k))
    ∙ sym (from-kind table n c.loop-done.done false above c.kind-kind.result steps inside c.kind-kind.ensures is)
    ∙ ap (λ o. from_list table (n - c.loop-done.done) o steps) (sym c.in-Some.is) ∙ c.loop-done.invariant

pub returns : goal.returns
returns c =
    let table = c.args.schema.now in
    let n = length table.nodes in
    sym (from-end table c.loop-done.here c.loop-done.steps.items n c.loop-done.done (omega (arith, c.loop-done-test.false, c.len-done-end.ensures.count))) ∙ c.loop-done.invariant
