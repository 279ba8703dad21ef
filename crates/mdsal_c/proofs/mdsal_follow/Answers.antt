-- It is the one number.
use Rattle.std.proofs.Common.{List, ℕ, subst}
use Rattle.mdsal_c.specs.Handles.{FollowsIf}
use Rattle.mdsal_c.proofs.mdsal_follow.Goals as goal

pub returns : goal.returns
returns c =
    subst (λ (ns : List ℕ). FollowsIf c.args.script.now ns c.args.handle.now.held.value c.follow.new.self.held.value c.follow.result) c.from_ref.ensures.value c.follow.ensures
