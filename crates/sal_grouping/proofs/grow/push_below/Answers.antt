use Rattle.std.proofs.Common.{◌≡◌, ◌∙◌, ◌<◌, sym, ap, arith}
use Rattle.sal_grouping.specs.Growth.{below, grow}
use Rattle.sal_grouping.specs.Frames.{with_frames}
use Rattle.sal_grouping.proofs.FrameLists.{grow-none, frames-last, frame-whole}
use Rattle.sal_grouping.proofs.grow.push_below.Goals as goal

pub returns-then-levels-eq0-clause-few : goal.returns-then-levels-eq0-clause-few
returns-then-levels-eq0-clause-few c t owner forest =
    let a = c.args in
    let rows = a.plan.now.rows.items in
    let named = a.plan.now.named.items in
    let none : a.levels ≡ 0 = omega arith in
    ap (with_frames rows named owner a.frames.now.items)
    (sym (ap (λ n. grow n rows named owner a.parent forest (below rows named a.seed)) none ∙ grow-none rows named owner a.parent forest (below rows named a.seed)))

pub returns-in_ok-push-in-Some-clause-few : goal.returns-in_ok-push-in-Some-clause-few
returns-in_ok-push-in-Some-clause-few c t owner forest =
    let a = c.args in
    let rows = a.plan.now.rows.items in
    let named = a.plan.now.named.items in
    let more : 0 < a.levels = omega arith in
    let seeds = rw c.in-Some.is at c.in_ok-below.ensures in
    ap (λ fs. with_frames rows named owner fs forest) c.in_ok-push-in-Some.ensures.items ∙ frames-last rows named owner a.frames.now.items _ forest
    ∙ ap (with_frames rows named owner a.frames.now.items)
    (frame-whole rows named owner a.levels a.parent c.in-Some.seeds forest more ∙ ap (grow a.levels rows named owner a.parent forest) seeds)
