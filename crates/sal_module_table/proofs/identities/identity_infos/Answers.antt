use Rattle.std.proofs.Common.{sym, ap, subst, ◌∙◌}
use Rattle.sal_grouping.specs.Indexes.{lists}
use Rattle.sal_module_table.specs.Identities.{seen, AreSmall}
use Rattle.sal_module_table.proofs.SmallBases.{bases-small}
use Rattle.sal_module_table.proofs.identities.identity_infos.Goals as goal

pub infos_of-requires-clause-small : goal.infos_of-requires-clause-small
infos_of-requires-clause-small c =
    subst AreSmall (sym (ap lists c.deref-3.ensures.value ∙ c.in_ok-edges.ensures)) (bases-small c.args.typedefs.now c.are_counted.ensures (seen _))
