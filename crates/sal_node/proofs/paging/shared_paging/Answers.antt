use Rattle.std.proofs.Common.{◌≤◌, length, ap, subst, arith}
use Rattle.sal_node.specs.Shape.{ArePaged}
use Rattle.sal_node.proofs.Targets.{copied-few}
use Rattle.sal_node.proofs.paging.shared_paging.Goals as goal

pub returns-in_ok-copy_children-in-Few-clause-pages : goal.returns-in_ok-copy_children-in-Few-clause-pages
returns-in_ok-copy_children-in-Few-clause-pages c =
    let fits : length c.in-Few.children.items ≤ 64 = subst (λ k. ArePaged k) c.in-Few.is c.requires in
    let same = ap length c.deref.ensures.value in
    copied-few c.in_ok-list-in-Few.list.items c.copy_children.new.into.items c.deref.result.now c.in_ok-list-in-Few.ensures.items (omega (arith, same, fits)) c.in_ok-copy_children-in-Few.ensures
