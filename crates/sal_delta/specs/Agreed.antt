-- Commits that agree pairwise with their neighbours.
use Rattle.std.specs.Prelude.{◌≡◌, ℕ, ◌+◌, ◌<◌, List, length, slice_index_or}
use Rattle.sal_tree.specs.Follows.{Agree}
use Rattle.sal_tree.specs.declared.commit.Commit.{Commit}
use Rattle.sal_tree.specs.declared.commit.Pair.{Pair}

-- in either store, nodes at one path with one stamp are the same
abbrev pub AgreeBoth : Pair → Pair → Type 0
AgreeBoth before after = Agree before.config after.config × Agree before.oper after.oper

-- the trees of each commit agree with those of the next one
abbrev pub AreAgreed : List Commit → Type 0
AreAgreed commits = (k : ℕ) (c d : Commit) → k + 1 < length commits → c ≡ slice_index_or commits k c → d ≡ slice_index_or commits (k + 1) d → AgreeBoth c.trees d.trees
