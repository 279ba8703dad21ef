use Rattle.std.proofs.Common.{List, sym, subst}
use Rattle.sal_restrict.specs.declared.yang_type.YangType.{out-YangType}
use Rattle.sal_typedefs.specs.declared.entry.Entry.{Entry}
use Rattle.sal_typedefs.specs.Restrictions.{HasPositions}
use Rattle.sal_typedefs.proofs.PositionLists.{positions-none}
use Rattle.sal_typedefs.proofs.basis.own_basis.Goals as goal

pub returns-clause-positions : goal.returns-clause-positions
returns-clause-positions c =
    let P : List Entry → Type 0 = λ es. HasPositions (out-YangType c.in_ok-bare.field-0) es in
    subst P (sym c.new.ensures.items) (positions-none (out-YangType c.in_ok-bare.field-0))
