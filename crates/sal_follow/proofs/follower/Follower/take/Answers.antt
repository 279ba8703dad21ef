use Rattle.std.proofs.Common.{ap, sym, ◌∙◌}
use Rattle.sal_follow.proofs.Feeding.{fed-failed}
use Rattle.sal_follow.proofs.follower.Follower.take.Goals as goal

pub returns-in-Some : goal.returns-in-Some
returns-in-Some c = fed-failed c.args.self.now c.in-Some.fault c.args.piece.now (sym (ap (λ f. f.held.fault) c.self.view_is) ∙ c.in-Some.is)
