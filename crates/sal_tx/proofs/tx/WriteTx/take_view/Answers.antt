use Rattle.std.proofs.Common.{[], sym, subst}
use Rattle.sal_tx.specs.Views.{LieBelow}
use Rattle.sal_tx.proofs.Nexts.{lie_below}
use Rattle.sal_tx.proofs.tx.WriteTx.take_view.Goals as goal

pub viewed-requires : goal.viewed-requires
viewed-requires c =
    let w = c.self.inside.parts in
    subst LieBelow (sym c.ops.ensures) (lie_below w.begun.schema.value w.base [] w.changes c.self.invariant.0.lawful)
