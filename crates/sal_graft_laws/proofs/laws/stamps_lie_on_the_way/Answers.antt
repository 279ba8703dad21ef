-- What was not touched has an older stamp.
use Rattle.std.proofs.Common.{◌≡◌, ℕ, ◌+◌, ◌<◌, ◌≤◌, Bool, true, false, List, length, get_or, Some, refl, sym, ◌∙◌, arith}
use Rattle.std.specs.Prelude.{Contains}
use Rattle.sal_types.specs.declared.value.Store.{Store}
use Rattle.sal_types.specs.declared.value.Step.{Step}
use Rattle.sal_rows.specs.Touch.{touches}
use Rattle.sal_node.specs.Tree.{Tree}
use Rattle.sal_tree.specs.Grow.{at}
use Rattle.sal_tree.specs.declared.commit.Commit.{Commit}
use Rattle.sal_graft.specs.Following.{AreFollowing, IsMadeOf, stamp_of}
use Rattle.sal_graft.specs.Kept.{rows_in, tree_in}
use Rattle.sal_graft.proofs.Following.{stamped-at}
use Rattle.sal_graft_laws.specs.Way.{paths_of, ways}
use Rattle.sal_graft_laws.proofs.Ways.{any-touched, in_ways, length-ways}
use Rattle.sal_graft_laws.proofs.laws.stamps_lie_on_the_way.Goals as goal

touched : (c d : Commit) (s : Store) (p : List Step) (n : Tree) → IsMadeOf c d → ((m : Tree) → at (Some (tree_in c.trees s)) p ≡ Some m → m.stamp ≤ stamp_of c.receipt)
    → at (Some (tree_in d.trees s)) p ≡ Some n → n.stamp ≡ stamp_of d.receipt → touches (rows_in c.trees s) s d.ops.value p ≡ true
touched c d s p n made old stands own =
    elim (touches (rows_in c.trees s) s d.ops.value p) as (λ b. touches (rows_in c.trees s) s d.ops.value p ≡ b → b ≡ true) [
      | true ↦ λ _. refl
      | false ↦ λ none. absurd (let most : n.stamp ≤ stamp_of c.receipt = old n (sym ((made.follows s).kept p none) ∙ stands) in omega (arith, most, own, made.later))
    ] refl

pub returns-clause-stamped : goal.returns-clause-stamped
returns-clause-stamped c commits k before after s p n following short at_before at_after stands own =
    let made : IsMadeOf before after = following.made k before after short at_before at_after in
    in_ways p (paths_of (rows_in before.trees s) s after.ops.value)
    (any-touched (rows_in before.trees s) s after.ops.value p ∙ touched before after s p n made (stamped-at commits k before s following (omega (arith, short)) at_before p) stands own)

pub returns-clause-few : goal.returns-clause-few
returns-clause-few c = length-ways
