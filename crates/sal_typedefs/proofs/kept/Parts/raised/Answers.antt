use Rattle.std.proofs.Common.{refl}
use Rattle.sal_typedefs.proofs.SettledLists.{parts-raised}
use Rattle.sal_typedefs.proofs.kept.Parts.raised.Goals as goal

pub returns-clause-parts : goal.returns-clause-parts
returns-clause-parts c w sites are = parts-raised w sites c.args.self _ are refl refl c.greater.ensures.first refl
