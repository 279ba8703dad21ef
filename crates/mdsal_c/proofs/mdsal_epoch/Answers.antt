-- It is the one number.
use Rattle.std.proofs.Common.{List, ℕ, subst}
use Rattle.mdsal_c.specs.Handles.{EpochIf}
use Rattle.mdsal_c.proofs.mdsal_epoch.Goals as goal

pub returns : goal.returns
returns c = subst (λ (ns : List ℕ). EpochIf c.args.handle.now.held.value ns c.epoch.new.self.held.value c.epoch.result) c.from_ref.ensures.value c.epoch.ensures
