use Rattle.std.proofs.Common.{◌∙◌, ◌++◌, sym, ap}
use Rattle.sal_grouping.specs.declared.rows.Row.{Row}
use Rattle.sal_grouping.specs.Augments.{augment_at, augments_of}
use Rattle.std.proofs.Common.{take}
use Rattle.sal_grouping.proofs.Places.{numbered-take}
use Rattle.sal_grouping.proofs.augments.augments_of.Goals as goal

pub loop-k-preserved : goal.loop-k-preserved
loop-k-preserved c =
    let rows = c.args.rows.now in
    let k = c.loop-k.k in
    let row = c.index-rows-k.result in
    c.in_ok-push_augment.ensures ∙ ap (λ l. l ++ augment_at k row) c.loop-k.invariant
    ∙ ap (λ (r : Row). augments_of (take k rows) ++ augment_at k r) c.index-rows-k.is ∙ sym (numbered-take augment_at rows k row c.loop-k-test.true)
