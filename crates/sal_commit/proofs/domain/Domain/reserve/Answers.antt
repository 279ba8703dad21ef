use Rattle.std.proofs.Common.{◌<◌, List, length, sym, subst}
use Rattle.sal_tree.specs.declared.commit.Commit.{Commit}
use Rattle.sal_graft.specs.Following.{AreFollowing}
use Rattle.sal_commit.specs.Sound.{AreSoundSince}
use Rattle.sal_commit.proofs.domain.Domain.reserve.Goals as goal

pub invariant_of-self : goal.invariant_of-self
invariant_of-self c =
    let d = c.args.self.now in
    record {
      planned = d.planned;
      sound = subst (AreSoundSince d.since d.schema.value) (sym c.reserve.ensures.items) d.sound;
      reached = subst (λ (commits : List Commit). d.since < length commits) (sym c.reserve.ensures.items) d.reached;
      following = subst AreFollowing (sym c.reserve.ensures.items) d.following;
    }
