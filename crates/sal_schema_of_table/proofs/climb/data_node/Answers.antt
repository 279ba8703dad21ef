use Rattle.std.proofs.Common.{◌+◌, ◌<◌, ◌≤◌, ◌-◌, Bool, not, length, sym, ap, ◌∙◌, arith}
use Rattle.sal_schema.specs.declared.kind.Kind.{Kind}
use Rattle.sal_schema.specs.Kinds.{is_choice_or_case}
use Rattle.sal_schema.specs.Table.{closest}
use Rattle.sal_schema_of_table.proofs.Climbs.{found, passed, at_top, at_end}
use Rattle.sal_schema_of_table.proofs.climb.data_node.Goals as goal

abbrev test : Kind → Bool
test = λ kind. not (is_choice_or_case kind)

pub returns-in-None : goal.returns-in-None
returns-in-None c = at_top test c.args.table.now c.loop-done.done c.loop-done.here _ c.loop-done.invariant c.in-None.is

pub returns-then-holds_data : goal.returns-then-holds_data
returns-then-holds_data c =
    let inside : c.loop-done.done < length c.args.table.now.nodes = omega (arith, c.loop-done-test.true, ap length c.items-done-end.ensures) in
    found test c.args.table.now c.loop-done.done c.loop-done.here _ c.loop-done.invariant c.in-Some.above c.in-Some.is inside (sym c.holds_data.ensures ∙ c.if-holds_data.true)

pub loop-done-preserved : goal.loop-done-preserved
loop-done-preserved c =
    let inside : c.loop-done.done < length c.args.table.now.nodes = omega (arith, c.loop-done-test.true, ap length c.items-done-end.ensures) in
    ap (closest test c.args.table.now (length c.args.table.now.nodes - (c.loop-done.done + 1))) c.parent_of-here.ensures
    ∙ passed test c.args.table.now c.loop-done.done c.loop-done.here _ c.loop-done.invariant c.in-Some.above c.in-Some.is inside (sym c.holds_data.ensures ∙ c.if-holds_data.false)

pub returns : goal.returns
returns c =
    let end : length c.args.table.now.nodes ≤ c.loop-done.done = omega (arith, c.loop-done-test.false, ap length c.items-done-end.ensures) in
    at_end test c.args.table.now c.loop-done.done c.loop-done.here _ c.loop-done.invariant end
