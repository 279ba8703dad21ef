-- The receipts of commits, and the commit that may follow others.
use Rattle.std.specs.Prelude.{◌≡◌, ℕ, ◌+◌, ◌-◌, ◌<◌, List, [], ◌∷◌, length, map, slice_index_or}
use Rattle.sal_types.specs.declared.value.Store.{Store}
use Rattle.sal_rows.specs.declared.op.Op.{Op}
use Rattle.sal_rows.specs.Touch.{touches}
use Rattle.sal_tree.specs.Follows.{Follows, exactly}
use Rattle.sal_tree.specs.declared.commit.Commit.{Commit}
use Rattle.sal_tree.specs.declared.commit.Pair.{Pair}
use Rattle.sal_graft.specs.Following.{BothUpTo, IsMadeOf, stamp_of}
use Rattle.sal_graft.specs.Kept.{rows_in, tree_in}

-- the receipt of the opening, which is the first of the commits: 0 in the first epoch, in a later one the receipt of the last commit of the
-- epoch before
abbrev pub first_receipt : List Commit → ℕ
first_receipt [] = 0
first_receipt (opening ∷ commits) = opening.receipt

-- the receipts of the commits, relative to the receipt of the opening, which is 0
abbrev pub receipts_of : List Commit → List ℕ
receipts_of commits = map (λ (c : Commit). c.receipt - first_receipt commits) commits

-- The receipt, relative to the opening's, is greater than the newest commit's.
abbrev pub IsNewReceipt : List Commit → ℕ → Type 0
IsNewReceipt commits receipt = (c : Commit) → c ≡ slice_index_or commits (length commits - 1) c → c.receipt < first_receipt commits + receipt

-- The stamp is that of a receipt that is greater than the newest commit's.
pub record IsNewStamp (commits : List Commit) (receipt stamp : ℕ) : Type 0 where
  pub own : stamp ≡ stamp_of receipt
  pub later : (c : Commit) → c ≡ slice_index_or commits (length commits - 1) c → c.receipt < receipt

-- both trees follow those of the newest commit: what the operations touch has the stamp, and every other node is unchanged
abbrev pub FollowNewest : ℕ → List Op → List Commit → Pair → Type 0
FollowNewest stamp ops commits trees =
    (c : Commit) (s : Store) → c ≡ slice_index_or commits (length commits - 1) c → Follows (exactly stamp) (touches (rows_in c.trees s) s ops) (tree_in c.trees s) (tree_in trees s)

-- A commit that may follow these: it is made from the newest one, and no stamp in its trees is greater than its own.
pub record CanFollow (commits : List Commit) (next : Commit) : Type 0 where
  pub made : (c : Commit) → c ≡ slice_index_or commits (length commits - 1) c → IsMadeOf c next
  pub stamped : BothUpTo (stamp_of next.receipt) next.trees
