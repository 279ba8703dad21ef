-- What follows from stamps over commits made one after another.
use Rattle.std.proofs.Common.{◌≡◌, ◌≢◌, inl, ℕ, true, false, List, [], ◌∷◌, ◌||◌, Some, refl, ap, sym, ◌∙◌, subst, if◌then◌else◌}
use Rattle.std.proofs.lemmas.Bool.{or_parts}
use Rattle.sal_types.specs.declared.value.Step.{Step}
use Rattle.sal_types.specs.declared.value.Store.{Store}
use Rattle.sal_node.specs.Tree.{Tree}
use Rattle.sal_rows.specs.Touch.{touches}
use Rattle.sal_tree.specs.Grow.{at}
use Rattle.sal_tree.specs.Rows.{rows_of}
use Rattle.sal_tree.specs.History.{IsOneOf, Done, IsHistory, newest, last_stamps, is_touched, IsFresh}
use Rattle.sal_tree.proofs.Follows.{some_same}

-- A node has a stamp of the last commit that touched its path, or one of those before the first commit.
pub stamp-last : (s : Store) (before : List ℕ) (t : Tree) (ds : List Done) (p : List Step) → IsHistory s t ds → ((n : Tree) → at (Some t) p ≡ Some n → IsOneOf before n.stamp) → (n : Tree) → at (Some (newest t ds)) p ≡ Some n → IsOneOf (last_stamps s before t ds p) n.stamp
stamp-last s before t [] p h was = was
stamp-last s before t (d ∷ ds) p h was = stamp-last s (if touches (rows_of t) s d.ops p then d.stamps else before) d.tree ds p h.1 (λ n stands.
    elim (touches (rows_of t) s d.ops p) as (λ b. touches (rows_of t) s d.ops p ≡ b → IsOneOf (if b then d.stamps else before) n.stamp) [
      | true ↦ λ e. h.0.stamped p n e stands
      | false ↦ λ e. was n (sym (h.0.kept p e) ∙ stands)
    ] refl)

-- A node that no commit touched is the same.
pub untouched-same : (s : Store) (t : Tree) (ds : List Done) (p : List Step) → IsHistory s t ds → is_touched s t ds p ≡ false → at (Some (newest t ds)) p ≡ at (Some t) p
untouched-same s t [] p h e = refl
untouched-same s t (d ∷ ds) p h e = untouched-same s d.tree ds p h.1 (or_parts (touches (rows_of t) s d.ops p) _ e).1 ∙ h.0.kept p (or_parts _ (is_touched s d.tree ds p) e).0

-- A node that a commit touched has the stamp of one of the commits.
last-fresh : (s : Store) (stamp : ℕ) (before : List ℕ) (t : Tree) (ds : List Done) (p : List Step) → ¬ (IsOneOf before stamp) → IsFresh stamp ds → ¬ (IsOneOf (last_stamps s before t ds p) stamp)
last-fresh s stamp before t [] p other fresh = other
last-fresh s stamp before t (d ∷ ds) p other fresh = last-fresh s stamp (if touches (rows_of t) s d.ops p then d.stamps else before) d.tree ds p (elim (touches (rows_of t) s d.ops p) as (λ b. ¬ (IsOneOf (if b then d.stamps else before) stamp)) [ true ↦ fresh.0 | false ↦ other ]) fresh.1

touched-last : (s : Store) (stamp : ℕ) (before : List ℕ) (t : Tree) (ds : List Done) (p : List Step) → IsFresh stamp ds → is_touched s t ds p ≡ true → ¬ (IsOneOf (last_stamps s before t ds p) stamp)
touched-last s stamp before t [] p fresh = λ e. cc
touched-last s stamp before t (d ∷ ds) p fresh =
    elim (touches (rows_of t) s d.ops p) as (λ b. (b || is_touched s d.tree ds p) ≡ true → ¬ (IsOneOf (last_stamps s (if b then d.stamps else before) d.tree ds p) stamp)) [
      | true ↦ λ e. last-fresh s stamp d.stamps d.tree ds p fresh.0 fresh.1
      | false ↦ λ e. touched-last s stamp before d.tree ds p fresh.1 e
    ]

-- A path that is present before and after the commits has the same stamp exactly if no commit touched it.
pub same_stamp-untouched : (s : Store) (t : Tree) (ds : List Done) (p : List Step) (n m : Tree) → IsHistory s t ds → at (Some t) p ≡ Some n → at (Some (newest t ds)) p ≡ Some m → IsFresh n.stamp ds →
    (is_touched s t ds p ≡ false → n.stamp ≡ m.stamp) × (is_touched s t ds p ≡ true → m.stamp ≢ n.stamp)
same_stamp-untouched s t ds p n m h a b fresh = (
  (λ e. ap (λ (k : Tree). k.stamp) (some_same n m (sym a ∙ sym (untouched-same s t ds p h e) ∙ b))),
  (λ e is. touched-last s n.stamp (n.stamp ∷ []) t ds p fresh e (subst (λ k. IsOneOf (last_stamps s (n.stamp ∷ []) t ds p) k) is (stamp-last s (n.stamp ∷ []) t ds p h (λ k stands. inl (ap (λ (j : Tree). j.stamp) (some_same k n (sym stands ∙ a)))) m b))),
)
