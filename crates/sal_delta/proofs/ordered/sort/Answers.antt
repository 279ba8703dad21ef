use Rattle.std.proofs.Common.{rules}
use Rattle.std.specs.Ordering.{is_lt}
use Rattle.std.proofs.lemmas.Fn.{always_returns_same}
use Rattle.std.proofs.lemmas.List.Sorted.{ranks_by}
use Rattle.sal_types.specs.Order.{path_cmp, path_cmp-IsTotalOrder}
use Rattle.sal_rows.specs.declared.change.Change.{Change}
use Rattle.sal_rows.proofs.Sorted.{put_each-stable}
use Rattle.sal_delta.proofs.ordered.sort.Goals as goal

pub returns : goal.returns
returns c =
    put_each-stable (λ (d : Change). d.path) (λ (d : Change). (d.before, d.after)) _ _
    (c.sort_by.ensures.stable (λ a b. is_lt (path_cmp a.path b.path)) (ranks_by path_cmp-IsTotalOrder (λ (d : Change). d.path)) (always_returns_same _ _ _ (λ a r f k. search rules)))
