use Rattle.std.proofs.Common.{◌+◌, ◌<◌, ◌≤◌, ◌-◌, length, sym, ap, ◌∙◌, arith}
use Rattle.sal_schema.specs.Kinds.{is_list}
use Rattle.sal_schema.specs.Table.{closest}
use Rattle.sal_schema_of_table.proofs.Climbs.{found, passed, at_top, at_end}
use Rattle.sal_schema_of_table.proofs.climb.list_above.Goals as goal

pub returns-in-None : goal.returns-in-None
returns-in-None c = at_top is_list c.args.table.now c.loop-done.done c.loop-done.here _ c.loop-done.invariant c.in-None.is

pub returns-then-is_list_at : goal.returns-then-is_list_at
returns-then-is_list_at c =
    let inside : c.loop-done.done < length c.args.table.now.nodes = omega (arith, c.loop-done-test.true, ap length c.items-done-end.ensures) in
    found is_list c.args.table.now c.loop-done.done c.loop-done.here _ c.loop-done.invariant c.in-Some.above c.in-Some.is inside (sym c.is_list_at.ensures ∙ c.if-is_list_at.true)

pub loop-done-preserved : goal.loop-done-preserved
loop-done-preserved c =
    let inside : c.loop-done.done < length c.args.table.now.nodes = omega (arith, c.loop-done-test.true, ap length c.items-done-end.ensures) in
    ap (closest is_list c.args.table.now (length c.args.table.now.nodes - (c.loop-done.done + 1))) c.parent_of-here-in-Some.ensures
    ∙ passed is_list c.args.table.now c.loop-done.done c.loop-done.here _ c.loop-done.invariant c.in-Some.above c.in-Some.is inside (sym c.is_list_at.ensures ∙ c.if-is_list_at.false)

pub returns : goal.returns
returns c =
    let end : length c.args.table.now.nodes ≤ c.loop-done.done = omega (arith, c.loop-done-test.false, ap length c.items-done-end.ensures) in
    at_end is_list c.args.table.now c.loop-done.done c.loop-done.here _ c.loop-done.invariant end
