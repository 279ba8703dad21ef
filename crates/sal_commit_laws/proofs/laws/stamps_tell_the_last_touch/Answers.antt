-- What the commits from the opening on did at a path.
use Rattle.std.proofs.Common.{◌≡◌, ℕ, ◌+◌, ◌-◌, List, get_or, Option, None, Some, ap, sym, ◌∙◌, arith}
use Rattle.sal_types.specs.declared.value.Store.{Store}
use Rattle.sal_types.specs.declared.value.Step.{Step}
use Rattle.sal_rows.specs.Commits.{last_touch}
use Rattle.sal_node.specs.Tree.{Tree}
use Rattle.sal_tree.specs.Grow.{at}
use Rattle.sal_tree.specs.declared.commit.Commit.{Commit}
use Rattle.sal_graft.specs.Following.{AreFollowing}
use Rattle.sal_graft.specs.Kept.{AreKept, opening_in, ops_of, tree_in}
use Rattle.sal_graft.proofs.Following.{Tells, tells}
use Rattle.sal_commit_laws.specs.Stamps.{IsGivenBy, StampsTellTheLastTouch, StandsAt}
use Rattle.sal_commit_laws.proofs.Ages.{same_at, there}
use Rattle.sal_commit_laws.proofs.laws.stamps_tell_the_last_touch.Goals as goal

given : (commits : List Commit) (are : AreKept commits) (following : AreFollowing commits) (n : ℕ) (c d : Commit) (s : Store) (p : List Step) (m : Tree) (o : Option ℕ) → StandsAt commits 0 c
    → at (Some (tree_in d.trees s)) p ≡ Some m → Tells commits are following s p 0 n c d o → IsGivenBy commits s p m o
given commits are following n c d s p m None at_c stands tell = λ x at_x. ap (λ (y : Commit). at (Some (tree_in y.trees s)) p) (same_at commits 0 0 x c (omega arith) at_x at_c) ∙ sym tell ∙ stands
given commits are following n c d s p m (Some j) at_c stands tell = λ x at_x. tell.2 x m at_x.1 stands

last_told : StampsTellTheLastTouch
last_told commits k d s p m are following at_d stands =
    let c : Commit = get_or commits 0 d in
    let at_c : StandsAt commits 0 c = there commits 0 d (omega (arith, at_d.0)) in
    let long : 0 + (k - 0) ≡ k = omega arith in
    given commits are following (k - 0) c d s p m (last_touch (opening_in commits) (ops_of commits) s p (record { from = 0; to = k })) at_c stands
    (tells commits are following s p (k - 0) 0 c d (omega (arith, at_d.0)) at_c.1 (at_d.1 ∙ ap (λ i. get_or commits i d) (sym long)))

pub returns : goal.returns
returns c = record { last = last_told }
