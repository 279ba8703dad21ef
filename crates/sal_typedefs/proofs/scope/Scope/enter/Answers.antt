use Rattle.std.proofs.Common.{[], ◌∷◌}
use Rattle.sal_typedefs.proofs.OpenedLists.{grown-still}
use Rattle.sal_typedefs.proofs.scope.Scope.enter.Goals as goal

pub returns : goal.returns
returns c = grown-still c.args.self.now c.push.new.self c.settle_all.new.self (c.args.stmt.now ∷ []) c.in_ok-push.ensures c.in_ok-settle_all.ensures
