use Rattle.std.proofs.Common.{◌∙◌, ap, sym, [], ◌∷◌}
use Rattle.std.proofs.lemmas.List.Sums.{fold-append}
use Rattle.std.specs.FinMap.{put}
use Rattle.sal_types.specs.Order.{path_cmp}
use Rattle.sal_delta.specs.Ordered.{marks_of, put_mark}
use Rattle.sal_delta.proofs.InOrder.{marks-insert}
use Rattle.sal_delta.proofs.ordered.by_path.Goals as goal

pub loop-change-preserved : goal.loop-change-preserved
loop-change-preserved c =
    let change = c.in-Some.change in
    ap marks_of c.in_ok-put.ensures
    ∙ marks-insert c.loop-change.map.entries change.path (record { before = change.before; after = change.after })
    ∙ ap (put path_cmp change.path (change.before, change.after)) c.loop-change.invariant
    ∙ sym (fold-append put_mark [] c.loop-change.yielded (change ∷ []))
