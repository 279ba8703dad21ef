-- The row is removed at the place that the search found.
use Rattle.std.proofs.Common.{◌≡◌, ◌<◌, List, length, get_or, ap, sym, ◌∙◌, subst}
use Rattle.std.specs.declared.cmp.Ordering.TheVariants.{Equal}
use Rattle.sal_types.specs.declared.row.Row.{Row}
use Rattle.sal_types.specs.Order.{path_cmp}
use Rattle.sal_rows.specs.Search.{Parted}
use Rattle.sal_rows.proofs.Found.{remove-found, none-found}
use Rattle.sal_rows.proofs.rows.patch.take_out.Goals as goal

pub returns-in-Ok-clause-rows : goal.returns-in-Ok-clause-rows
returns-in-Ok-clause-rows c =
    let d = c.remove.result in
    let inside : c.in-Ok.at < length c.args.rows.now.items = subst (λ (rows : List Row). c.in-Ok.at < length rows) c.deref.ensures.value c.in-Ok.ensures.inside in
    let same : path_cmp (get_or c.args.rows.now.items c.in-Ok.at d).path c.args.path.now ≡ Equal = ap (λ (rows : List Row). path_cmp (get_or rows c.in-Ok.at d).path c.args.path.now) (sym c.deref.ensures.value) ∙ c.in-Ok.ensures.found d in
    c.remove.ensures.items ∙ remove-found c.args.rows.now.items c.args.path.now c.in-Ok.at d c.requires.order inside same

pub returns-in-Err-clause-rows : goal.returns-in-Err-clause-rows
returns-in-Err-clause-rows c =
    let parted : Parted c.args.rows.now.items c.args.path.now c.in-Err.field-0 = subst (λ (rows : List Row). Parted rows c.args.path.now c.in-Err.field-0) c.deref.ensures.value c.in-Err.ensures.found in
    none-found c.args.rows.now.items c.args.path.now c.in-Err.field-0 parted
