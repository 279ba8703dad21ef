use Rattle.std.proofs.Common.{◌∙◌, ◌-◌, Some, length, ap, arith, if◌then◌else◌}
use Rattle.sal_module_table.specs.Typed.{same_place}
use Rattle.sal_module_table.proofs.FromLast.{one-before, all-done}
use Rattle.sal_module_table.proofs.typed.by_place.Goals as goal

pub loop-done-preserved : goal.loop-done-preserved
loop-done-preserved c q =
    let places = c.args.places.now in
    let done = c.loop-done.done in
    let k = length places - 1 - done in
    let p = c.numbered-place.result in
    c.in_ok-put.ensures q ∙ ap (λ r. if same_place q p then Some k else r) (c.loop-done.invariant q)
    ∙ one-before (same_place q) places done p c.loop-done-test.true c.numbered-place.ensures

pub returns : goal.returns
returns c q = c.loop-done.invariant q ∙ all-done (same_place q) c.args.places.now c.loop-done.done (omega arith)
