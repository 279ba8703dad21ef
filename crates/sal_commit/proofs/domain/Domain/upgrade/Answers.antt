-- The newest trees break no rule by the version, and the plan is that of it.
use Rattle.std.proofs.Common.{◌≡◌, ◌-◌, length, arith}
use Rattle.std.proofs.lemmas.Grind.{common_steps}
use Rattle.sal_commit.proofs.Sounds.{AreSoundSince-newest}
use Rattle.sal_commit.proofs.VersionTables.{newest-unbroken}
use Rattle.sal_commit.proofs.domain.Domain.upgrade.Goals as goal

pub invariant_of-self : goal.invariant_of-self
invariant_of-self c =
    let d = c.args.self.now in
    let next = c.args.next in
    let since : c.len.result - 1 ≡ length d.commits.items - 1 = grind (arith, common_steps) in
    record {
      planned = next.planned;
      sound = AreSoundSince-newest (c.len.result - 1) next.schema.value d.commits.items since (λ k at. newest-unbroken d next.number next.schema.value k c.requires.kept c.requires.sound c.requires.version at);
      reached = omega (arith, since, c.requires.kept.opened);
      following = d.following;
    }
