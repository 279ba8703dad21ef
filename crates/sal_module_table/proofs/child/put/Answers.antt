use Rattle.std.proofs.Common.{◌∙◌, Some, sym, ap, if◌then◌else◌}
use Rattle.std.specs.BTreeMap.{get}
use Rattle.sal_module_table.specs.Children.{key_cmp, is_found_by}
use Rattle.sal_module_table.proofs.Keys.{put-over}
use Rattle.sal_module_table.proofs.child.put.Goals as goal

pub returns-in_ok-insert : goal.returns-in_ok-insert
returns-in_ok-insert c q =
    let a = c.args in
    put-over a.map.now c.insert.new.self a.k c.in-Some.key c.in_ok-insert.ensures.updates q
    ∙ ap (λ key. if is_found_by q key then Some a.k else get key_cmp a.map.now q) (sym c.in-Some.is)
