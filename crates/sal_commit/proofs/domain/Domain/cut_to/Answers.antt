-- The commits that stay break no rule, and follow one another.
use Rattle.std.proofs.Common.{◌≡◌, ◌+◌, ◌<◌, length, take, ap, sym, subst, arith}
use Rattle.std.proofs.lemmas.List.{length-take}
use Rattle.sal_graft.specs.Following.{AreFollowing}
use Rattle.sal_commit.specs.Sound.{AreSoundSince}
use Rattle.sal_commit.proofs.Following.{AreFollowing-take}
use Rattle.sal_commit.proofs.Sounds.{AreSoundSince-take}
use Rattle.sal_commit.proofs.domain.Domain.cut_to.Goals as goal

pub invariant_of-self : goal.invariant_of-self
invariant_of-self c =
    let d = c.args.self.now in
    let n = c.args.number + 1 in
    let following : AreFollowing c.truncate.new.self.items = subst AreFollowing (sym c.truncate.ensures.items) (AreFollowing-take n d.commits.items d.following) in
    let long : length c.truncate.new.self.items ≡ length (take n d.commits.items) = ap length c.truncate.ensures.items in
    let reached : d.since < length c.truncate.new.self.items = omega (arith, long, length-take n d.commits.items, d.reached, c.requires.since) in
    record {
      planned = d.planned;
      sound = subst (AreSoundSince d.since d.schema.value) (sym c.truncate.ensures.items) (AreSoundSince-take d.since d.schema.value n d.commits.items d.sound);
      reached = reached;
      following = following;
    }
