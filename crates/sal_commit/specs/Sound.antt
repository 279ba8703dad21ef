-- Trees that break no structural rule, and which nodes a change keeps.
use Rattle.std.specs.Prelude.{◌≡◌, ℕ, ◌-◌, List, drop, length, All, None, slice_index_or}
use Rattle.sal_types.specs.declared.value.Store.{Store}
use Rattle.sal_schema.specs.declared.table.SchemaTable.{SchemaTable}
use Rattle.sal_rules.specs.Breaches.{breach}
use Rattle.sal_check.specs.Near.{Keeps}
use Rattle.sal_tree.specs.declared.commit.Commit.{Commit}
use Rattle.sal_tree.specs.declared.commit.Pair.{Pair}
use Rattle.sal_graft.specs.Kept.{rows_in, tree_in}

-- neither tree breaks a structural rule
abbrev pub BreakNone : SchemaTable → Pair → Type 0
BreakNone table pair = (s : Store) → breach table s (rows_in pair s) ≡ None

-- the trees of each commit break none
abbrev pub AreSound : SchemaTable → List Commit → Type 0
AreSound table commits = All (λ (c : Commit). BreakNone table c.trees) commits

-- nor do the trees of the commits from this number on
abbrev pub AreSoundSince : ℕ → SchemaTable → List Commit → Type 0
AreSoundSince since table commits = AreSound table (drop since commits)

-- both trees keep all nodes of the newest commit's trees, except those with the stamps
abbrev pub KeepNewest : List ℕ → List Commit → Pair → Type 0
KeepNewest stamps commits trees = (c : Commit) (s : Store) → c ≡ slice_index_or commits (length commits - 1) c → Keeps stamps (tree_in c.trees s) (tree_in trees s)
