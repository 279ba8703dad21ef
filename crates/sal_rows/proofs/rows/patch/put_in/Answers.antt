-- The row is set at the place that the search found.
use Rattle.std.proofs.Common.{◌≡◌, ◌<◌, ◌≤◌, List, length, get_or, ap, sym, ◌∙◌, subst, if◌then◌else◌}
use Rattle.std.specs.List.{insert}
use Rattle.std.specs.Result.{is_ok}
use Rattle.std.specs.declared.cmp.Ordering.TheVariants.{Equal}
use Rattle.sal_types.specs.declared.row.Row.{Row}
use Rattle.sal_types.specs.Order.{path_cmp}
use Rattle.sal_rows.specs.Search.{Parted}
use Rattle.sal_rows.proofs.Found.{set-found, insert-found}
use Rattle.sal_rows.proofs.rows.patch.put_in.Goals as goal

pub returns-in-Ok-clause-rows : goal.returns-in-Ok-clause-rows
returns-in-Ok-clause-rows c =
    let d = c.index_mut.result.now in
    let inside : c.in-Ok.at < length c.args.rows.now.items = subst (λ (rows : List Row). c.in-Ok.at < length rows) c.deref.ensures.value c.in-Ok.ensures.inside in
    let same : path_cmp (get_or c.args.rows.now.items c.in-Ok.at d).path c.args.row.path ≡ Equal = ap (λ (rows : List Row). path_cmp (get_or rows c.in-Ok.at d).path c.args.row.path) (sym c.deref.ensures.value) ∙ c.in-Ok.ensures.found d in
    set-found c.args.rows.now.items c.args.row c.in-Ok.at d c.requires.order inside same

pub returns-in-Err-clause-rows : goal.returns-in-Err-clause-rows
returns-in-Err-clause-rows c =
    let inside : c.in-Err.at ≤ length c.args.rows.now.items = subst (λ (rows : List Row). c.in-Err.at ≤ length rows) c.deref.ensures.value c.in-Err.ensures.inside in
    let parted : Parted c.args.rows.now.items c.args.row.path c.in-Err.at = subst (λ (rows : List Row). Parted rows c.args.row.path c.in-Err.at) c.deref.ensures.value c.in-Err.ensures.found in
    c.insert.ensures.items
    ∙ ap (λ r. if is_ok r then insert c.args.rows.now.items c.in-Err.at c.args.row else c.args.rows.now.items) c.unwrap.ensures
    ∙ insert-found c.args.rows.now.items c.args.row c.in-Err.at inside parted
