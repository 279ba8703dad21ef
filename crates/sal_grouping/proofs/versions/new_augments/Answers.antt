use Rattle.std.proofs.Common.{◌∙◌, ◌++◌, take, sym, ap}
use Rattle.sal_grouping.specs.declared.rows.Row.{Row}
use Rattle.sal_grouping.specs.Versions.{new_augment_at, new_augments}
use Rattle.sal_grouping.proofs.Places.{numbered-take}
use Rattle.sal_grouping.proofs.versions.new_augments.Goals as goal

pub loop-k-preserved : goal.loop-k-preserved
loop-k-preserved c =
    let rows = c.args.rows.now in
    let old = c.args.old in
    let k = c.loop-k.k in
    let row = c.index-rows-k.result in
    c.in_ok-push_new_augment.ensures ∙ ap (λ l. l ++ new_augment_at old k row) c.loop-k.invariant
    ∙ ap (λ (r : Row). new_augments old (take k rows) ++ new_augment_at old k r) c.index-rows-k.is ∙ sym (numbered-take (new_augment_at old) rows k row c.loop-k-test.true)
