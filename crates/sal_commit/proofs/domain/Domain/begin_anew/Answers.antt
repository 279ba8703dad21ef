-- The newest trees break no rule of the present version, and their nodes have no later stamps than their receipt.
use Rattle.std.proofs.Common.{rules, ◌<◌, List, length, refl, ap, sym, ◌∙◌, subst}
use Rattle.sal_tree.specs.declared.commit.Commit.{Commit}
use Rattle.sal_graft.specs.Following.{AreFollowing}
use Rattle.sal_graft.specs.Kept.{AreKept, chains_of, opening_in, ops_of}
use Rattle.sal_commit.specs.Sound.{AreSoundSince}
use Rattle.sal_commit.specs.Stamps.{receipts_of}
use Rattle.sal_commit.proofs.Begun.{anew-chains, anew-following, anew-kept, anew-length, anew-opening, anew-ops, anew-receipts, anew-sound}
use Rattle.sal_commit.proofs.domain.Domain.begin_anew.Goals as goal

pub invariant_of-self : goal.invariant_of-self
invariant_of-self c =
    let d = c.args.self.now in
    let is = sym c.keep_newest.ensures in
    record {
      planned = d.planned;
      sound = subst (AreSoundSince 0 d.schema.value) is (anew-sound d.since d.schema.value d.commits.items d.reached d.sound);
      reached = subst (λ (commits : List Commit). 0 < length commits) is (anew-length d.commits.items c.requires.opened);
      following = subst AreFollowing is (anew-following d.commits.items c.requires.opened d.following);
    }

pub returns : goal.returns
returns c =
    let d = c.args.self.now in
    let is = c.keep_newest.ensures in
    record {
      number = refl;
      live = search rules;
      schema = refl;
      first = c.drop_versions.ensures.first;
      upgrades = c.drop_versions.ensures.upgrades;
      version = refl;
      since = refl;
      rules = refl;
      commits = is;
      kept = subst AreKept (sym is) (anew-kept d.commits.items c.requires);
      ops = ap ops_of is ∙ anew-ops d.commits.items;
      chains = ap chains_of is ∙ anew-chains d.commits.items;
      receipts = ap receipts_of is ∙ anew-receipts d.commits.items c.requires.opened;
      opening = λ s. ap (λ (cs : List Commit). opening_in cs s) is ∙ anew-opening d.commits.items s c.requires;
    }
