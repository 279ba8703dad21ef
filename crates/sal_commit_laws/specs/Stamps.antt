-- Laws of the stamps of nodes, over any commits of a domain.
use Rattle.std.specs.Prelude.{◌≡◌, ◌↔◌, ℕ, ◌<◌, ◌≤◌, false, List, length, Option, Some, None, slice_index_or}
use Rattle.sal_types.specs.declared.value.Store.{Store}
use Rattle.sal_types.specs.declared.value.Step.{Step}
use Rattle.sal_types.specs.Tree.{under}
use Rattle.sal_rows.specs.declared.op.Op.{Op}
use Rattle.sal_rows.specs.Commits.{last_touch}
use Rattle.sal_rows.specs.Touch.{touches}
use Rattle.sal_node.specs.Tree.{Tree, IsGrove}
use Rattle.sal_tree.specs.Grow.{at}
use Rattle.sal_tree.specs.Follows.{Agree, HasNo}
use Rattle.sal_tree.specs.Rows.{rows_of}
use Rattle.sal_tree.specs.declared.commit.Commit.{Commit}
use Rattle.sal_graft.specs.Following.{AreFollowing, stamp_of}
use Rattle.sal_graft.specs.Kept.{AreKept, opening_in, ops_of, tree_in}
use Rattle.sal_commit.specs.Anew.{begun_anew}
use Rattle.sal_tx.specs.Views.{IsAfter}
use Rattle.sal_tx.specs.Views as tx

-- the commit has the number k
abbrev pub StandsAt : List Commit → ℕ → Commit → Type 0
StandsAt commits k c = (k < length commits) × (c ≡ slice_index_or commits k c)

-- ---- two commits

-- in the trees of any two of the commits, nodes at one path with one stamp are the same, with all that is below them
abbrev pub AgreeByStamps : List Commit → Type 0
AgreeByStamps commits = (j k : ℕ) (c d : Commit) (s : Store) → StandsAt commits j c → StandsAt commits k d → Agree (tree_in c.trees s) (tree_in d.trees s)

abbrev pub OneStampIsOneNode : Type 0
OneStampIsOneNode = (commits : List Commit) → AreFollowing commits → AgreeByStamps commits

-- and the rows at the path and below it are equal
abbrev pub OneStampHasOneTree : Type 0
OneStampHasOneTree =
    (commits : List Commit) (j k : ℕ) (c d : Commit) (s : Store) (p : List Step) (n m : Tree) → AreFollowing commits → StandsAt commits j c → StandsAt commits k d
    → IsGrove (tree_in c.trees s).kids → IsGrove (tree_in d.trees s).kids → at (Some (tree_in c.trees s)) p ≡ Some n → at (Some (tree_in d.trees s)) p ≡ Some m → n.stamp ≡ m.stamp
    → under (rows_of (tree_in d.trees s)) p ≡ under (rows_of (tree_in c.trees s)) p

-- ---- the commit that gave a stamp

-- the node's stamp is that of the commit with this number; without a number, the node is the opening's
abbrev pub IsGivenBy : List Commit → Store → List Step → Tree → Option ℕ → Type 0
IsGivenBy commits s p n None = (c : Commit) → StandsAt commits 0 c → at (Some (tree_in c.trees s)) p ≡ Some n
IsGivenBy commits s p n (Some k) = (c : Commit) → StandsAt commits k c → n.stamp ≡ stamp_of c.receipt

-- a node at commit k was given its stamp by the last commit up to k that touched its path
abbrev pub StampsTellTheLastTouch : Type 0
StampsTellTheLastTouch =
    (commits : List Commit) (k : ℕ) (d : Commit) (s : Store) (p : List Step) (n : Tree) → AreKept commits → AreFollowing commits → StandsAt commits k d → at (Some (tree_in d.trees s)) p ≡ Some n
    → IsGivenBy commits s p n (last_touch (opening_in commits) (ops_of commits) s p (record { from = 0; to = k }))

-- ---- old stamps and later ones

-- a node with one stamp at a path in two commits is there in each commit between
abbrev pub StampsNeverComeAgain : Type 0
StampsNeverComeAgain =
    (commits : List Commit) (i j k : ℕ) (b c d : Commit) (s : Store) (p : List Step) (n m : Tree) → AreFollowing commits → i ≤ j → j ≤ k → StandsAt commits i b → StandsAt commits j c → StandsAt commits k d
    → at (Some (tree_in b.trees s)) p ≡ Some n → at (Some (tree_in d.trees s)) p ≡ Some m → n.stamp ≡ m.stamp → at (Some (tree_in c.trees s)) p ≡ Some n

-- no tree has the stamp of a later commit
abbrev pub LaterStampsAreNew : Type 0
LaterStampsAreNew =
    (commits : List Commit) (j k : ℕ) (c d : Commit) (s : Store) → AreFollowing commits → j < k → StandsAt commits j c → StandsAt commits k d → HasNo (stamp_of d.receipt) (tree_in c.trees s)

-- ---- views of transactions

-- if no node of the opening has the stamp of a transaction, wherever it began, no commit has it
abbrev pub ViewStampsAreNoCommits : Type 0
ViewStampsAreNoCommits =
    (commits : List Commit) (k place : ℕ) (d : Commit) (s : Store) → AreFollowing commits → ((c : Commit) → StandsAt commits 0 c → HasNo (tx.stamp_of place) (tree_in c.trees s)) → StandsAt commits k d
    → HasNo (tx.stamp_of place) (tree_in d.trees s)

-- no node of an opening of receipt 0 has one, as that of a first epoch
abbrev pub FirstOpeningsHaveNone : Type 0
FirstOpeningsHaveNone =
    (commits : List Commit) (place : ℕ) (c : Commit) (s : Store) → AreFollowing commits → StandsAt commits 0 c → c.receipt ≡ 0 → HasNo (tx.stamp_of place) (tree_in c.trees s)

-- and none of the next epoch's opening, if no commit before has: so there is none over any number of epochs
abbrev pub NextOpeningsHaveNone : Type 0
NextOpeningsHaveNone =
    (commits : List Commit) (place : ℕ) (c : Commit) (s : Store) → ((k : ℕ) (d : Commit) → StandsAt commits k d → HasNo (tx.stamp_of place) (tree_in d.trees s)) → StandsAt (begun_anew commits) 0 c
    → HasNo (tx.stamp_of place) (tree_in c.trees s)

-- over a base without the transaction's stamp, a node of the view has its base's stamp exactly if the transaction did not touch it
abbrev pub ViewsDifferWhereTouched : Type 0
ViewsDifferWhereTouched =
    (place : ℕ) (s : Store) (ops : List Op) (base view : Tree) (p : List Step) (n m : Tree) → IsAfter (tx.stamp_of place) s ops base view → HasNo (tx.stamp_of place) base
    → at (Some base) p ≡ Some n → at (Some view) p ≡ Some m → (n.stamp ≡ m.stamp) ↔ (touches (rows_of base) s ops p ≡ false)

-- every other node of the view has the transaction's stamp
abbrev pub ViewsHaveOneStamp : Type 0
ViewsHaveOneStamp =
    (place : ℕ) (s : Store) (ops : List Op) (base view : Tree) (p : List Step) (m : Tree) → IsAfter (tx.stamp_of place) s ops base view → at (Some base) p ≡ None → at (Some view) p ≡ Some m
    → m.stamp ≡ tx.stamp_of place
