use Rattle.sal_typedefs.proofs.OpenedLists.{still-self, grown-still}
use Rattle.sal_typedefs.proofs.scope.Scope.settle_all.Goals as goal

pub loop-k-init : goal.loop-k-init
loop-k-init c = still-self c.args.self.now c.requires.ready
