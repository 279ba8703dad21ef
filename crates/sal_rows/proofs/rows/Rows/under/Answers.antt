-- Some rows of a tree ascend.
use Rattle.std.proofs.Common.{◌≡◌, List, sym, ap, ◌∙◌, subst, take}
use Rattle.std.proofs.lemmas.List.{take_all}
use Rattle.sal_types.specs.declared.row.Row.{Row}
use Rattle.sal_types.specs.Prefix.{is_prefix}
use Rattle.sal_types.specs.Tree.{IsAscending, under}
use Rattle.sal_rows.proofs.Cells.{IsAscending-filter}
use Rattle.sal_rows.proofs.rows.Rows.under.Goals as goal

pub invariant_of-result : goal.invariant_of-result
invariant_of-result c =
    let rows = c.deref-row-items.result.now in
    let all : take c.loop-row.row-index rows ≡ rows = take_all _ _ c.loop-row-test.false in
    let kept : c.loop-row.list.items ≡ under c.self.inside.list.items c.args.path.now =
    c.loop-row.invariant ∙ ap (λ (some : List Row). under some c.args.path.now) (all ∙ c.deref-row-items.ensures.value) in
    subst IsAscending (sym kept) (IsAscending-filter (is_prefix c.args.path.now) _ c.self.invariant)
