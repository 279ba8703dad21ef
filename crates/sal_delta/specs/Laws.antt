-- Laws of the trees of commits.
use Rattle.std.specs.Prelude.{ℕ, Bool, List}
use Rattle.sal_types.specs.declared.value.Step.{Step}
use Rattle.sal_node.specs.Tree.{Tree}
use Rattle.sal_tree.specs.Follows.{Follows, HasNo, Agree}
use Rattle.sal_tree.specs.History.{IsOneOf}

-- The trees before and after a commit agree, if the tree before has none of the stamps of the commit.
abbrev pub ACommitAgrees : Type 0
ACommitAgrees = (stamps : List ℕ) (touched : List Step → Bool) (t u : Tree) → Follows (IsOneOf stamps) touched t u → ((s : ℕ) → IsOneOf stamps s → HasNo s t) → Agree t u
