use Rattle.std.proofs.Common.{subst, sym}
use Rattle.std.proofs.lemmas.List.Elements.{All-get_or}
use Rattle.sal_typedefs.specs.Restrictions.{IsPosition}
use Rattle.sal_typedefs.proofs.meaning.positions.Goals as goal

pub position_of-requires : goal.position_of-requires
position_of-requires c = subst IsPosition (sym c.entry-item.is) (All-get_or IsPosition c.args.entries.now c.loop-entry.entry-index c.entry-item.result c.loop-entry-test.true c.requires)
