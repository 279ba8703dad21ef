use Rattle.std.proofs.Common.{◌∙◌, ap, sym}
use Rattle.std.specs.BTreeMap.{insert_entry}
use Rattle.sal_types.specs.Order.{path_cmp}
use Rattle.sal_data.proofs.Ordered.{entries-in_order-more}
use Rattle.sal_data.proofs.order.by_path.Goals as goal

pub loop-row-preserved : goal.loop-row-preserved
loop-row-preserved c =
    let row = c.in-Some.row in
    c.in_ok-put.ensures ∙ ap (λ es. insert_entry path_cmp es row.path row.cell) c.loop-row.invariant ∙ sym (entries-in_order-more c.loop-row.yielded row)
