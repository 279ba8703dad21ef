use Rattle.std.proofs.Common.{ap, ◌∙◌}
use Rattle.sal_mount.specs.Register.{Register, live_at}
use Rattle.sal_mount.proofs.Kept.{asked}
use Rattle.sal_mount.proofs.mounts.Mounts.mount_at.Goals as goal

pub returns-clause-answer : goal.returns-clause-answer
returns-clause-answer c = asked c.args.self.now c.args.path.now c.live_at.result (c.live_at.ensures ∙ ap (λ (r : Register). live_at r c.args.path.now) c.self.view_is)
