-- The trees of the new commit break no rule either, and were made of those before.
use Rattle.std.proofs.Common.{◌≤◌, ◌<◌, List, length, sym, subst, arith}
use Rattle.std.specs.Prelude.{is_ok}
use Rattle.sal_tree.specs.declared.commit.Commit.{Commit}
use Rattle.sal_graft.specs.Following.{AreFollowing}
use Rattle.sal_commit.specs.Sound.{AreSoundSince}
use Rattle.sal_commit.proofs.Following.{AreFollowing-push}
use Rattle.sal_commit.proofs.Sounds.{AreSoundSince-push, longer}
use Rattle.sal_commit.proofs.phases.publish.Goals as goal

pub invariant_of-domain : goal.invariant_of-domain
invariant_of-domain c =
    let following : AreFollowing c.push.new.self.items = subst AreFollowing (sym c.push.ensures.items)
    (AreFollowing-push c.args.domain.now.commits.items c.args.prepared.commit (is_ok c.push.result) c.args.domain.now.following c.requires.follows) in
    let low : c.args.domain.now.since ≤ length c.args.domain.now.commits.items = omega (arith, c.args.domain.now.reached) in
    let reached : c.args.domain.now.since < length c.push.new.self.items = subst (λ (commits : List Commit). c.args.domain.now.since < length commits) (sym c.push.ensures.items)
    (longer c.args.domain.now.since c.args.domain.now.commits.items c.args.prepared.commit (is_ok c.push.result) c.args.domain.now.reached) in
    record {
      planned = c.args.domain.now.planned;
      sound = subst (AreSoundSince c.args.domain.now.since c.args.domain.now.schema.value) (sym c.push.ensures.items)
          (AreSoundSince-push c.args.domain.now.since c.args.domain.now.schema.value c.args.domain.now.commits.items c.args.prepared.commit (is_ok c.push.result) low c.args.domain.now.sound c.requires.sound);
      reached = reached;
      following = following;
    }
