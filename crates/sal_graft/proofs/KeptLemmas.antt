-- Kept commits and the plain list of their operations.
use Rattle.std.proofs.Common.{◌≡◌, ℕ, zero, suc, ◌+◌, ◌-◌, ◌<◌, ◌≤◌, List, [], ◌∷◌, ◌++◌, length, take, get_or, Some, refl, ap, sym, ◌∙◌, arith}
use Rattle.std.specs.Prelude.{slice_get}
use Rattle.std.proofs.lemmas.List.{take_all, take_more}
use Rattle.std.proofs.lemmas.List.Sums.{fold-append}
use Rattle.std.proofs.lemmas.Option.{get_or_from_slice_get, slice_get_within}
use Rattle.sal_types.specs.declared.value.Store.{Store}
use Rattle.sal_types.specs.declared.value.Step.{Step}
use Rattle.sal_types.specs.declared.row.Row.{Row}
use Rattle.sal_rows.specs.declared.op.Op.{Op}
use Rattle.sal_rows.specs.Apply.{apply_ops}
use Rattle.sal_rows.specs.Touch.{touches}
use Rattle.sal_rows.specs.Commits.{commit_touches, next_tree, tree_after, tree_at, touches_at}
use Rattle.sal_tree.specs.declared.commit.Commit.{Commit}
use Rattle.sal_rows.specs.Clash.{tip}
use Rattle.sal_graft.specs.Kept.{AreKept, opening_in, all_ops, ops_of, rows_in}

length_ops : (commits : List Commit) → length (all_ops commits) ≡ length commits
length_ops [] = refl
length_ops (c ∷ commits) = ap suc (length_ops commits)

pub length-ops_of : (kept : List Commit) → 1 ≤ length kept → length (ops_of kept) ≡ length kept - 1
length-ops_of [] h = absurd (omega arith)
length-ops_of (opening ∷ commits) h = length_ops commits ∙ omega arith

get_ops : (commits : List Commit) (k : ℕ) (c : Commit) → k < length commits → c ≡ get_or commits k c → slice_get (all_ops commits) k ≡ Some c.ops.value
get_ops [] k c h e = absurd (omega arith)
get_ops (d ∷ commits) zero c h e = ap (λ (x : Commit). Some x.ops.value) (sym e)
get_ops (d ∷ commits) (suc k) c h e = get_ops commits k c (omega arith) e

-- the operations of commit k + 1
pub ops_at : (kept : List Commit) (k : ℕ) (c : Commit) → suc k < length kept → c ≡ get_or kept (suc k) c → slice_get (ops_of kept) k ≡ Some c.ops.value
ops_at [] k c h e = absurd (omega arith)
ops_at (opening ∷ commits) k c h e = get_ops commits k c (omega arith) e

-- the test of the code for a commit and the one before it
pub touches_at-kept : (kept : List Commit) (number : ℕ) (before c : Commit) (s : Store) (p : List Step) → AreKept kept → 1 ≤ number → number < length kept → before ≡ get_or kept (number - 1) before → c ≡ get_or kept number c → touches_at (opening_in kept) (ops_of kept) s p number ≡ touches (rows_in before.trees s) s c.ops.value p
touches_at-kept kept zero before c s p are low high at_before at_c = absurd (omega arith)
touches_at-kept kept (suc k) before c s p are low high at_before at_c =
    let n : suc k - 1 ≡ k = omega arith in
    let tree : rows_in before.trees s ≡ tree_at (opening_in kept) (ops_of kept) s k = are.trees k before s (omega arith) (at_before ∙ ap (λ i. get_or kept i before) n) in
    let ops : slice_get (ops_of kept) k ≡ Some c.ops.value = ops_at kept k c high at_c in
    ap (λ i. commit_touches (tree_at (opening_in kept) (ops_of kept) s i) s p (slice_get (ops_of kept) i)) n ∙ (λ i. commit_touches (sym tree i) s p (ops i))

-- the newest trees
pub tip-kept : (kept : List Commit) (c : Commit) (s : Store) → AreKept kept → c ≡ get_or kept (length kept - 1) c → rows_in c.trees s ≡ tip (opening_in kept) (ops_of kept) s
tip-kept kept c s are at_c =
    are.trees (length kept - 1) c s (omega (arith, are.opened)) at_c
    ∙ ap (tree_after s (opening_in kept s)) (take_all (length kept - 1) (ops_of kept) (omega (arith, length-ops_of kept are.opened)))

-- the tree of a commit is that of the one before it after its operations
pub next-tree : (kept : List Commit) (k : ℕ) (c d : Commit) (s : Store) → AreKept kept → k + 1 < length kept → c ≡ get_or kept k c → d ≡ get_or kept (k + 1) d → rows_in d.trees s ≡ apply_ops (rows_in c.trees s) s d.ops.value
next-tree kept k c d s are inside at_c at_d =
    let there : slice_get (ops_of kept) k ≡ Some d.ops.value = ops_at kept k d (omega (arith, inside)) (at_d ∙ ap (λ i. get_or kept i d) (let e : k + 1 ≡ suc k = omega arith in e)) in
    let more : take (k + 1) (ops_of kept) ≡ take k (ops_of kept) ++ d.ops.value ∷ [] =
    take_more (ops_of kept) k d.ops.value (slice_get_within (ops_of kept) k d.ops.value there) ∙ ap (λ (ops : List Op). take k (ops_of kept) ++ ops ∷ []) (get_or_from_slice_get (ops_of kept) k d.ops.value d.ops.value there) in
    are.trees (k + 1) d s inside at_d
    ∙ ap (tree_after s (opening_in kept s)) more
    ∙ fold-append (next_tree s) (opening_in kept s) (take k (ops_of kept)) (d.ops.value ∷ [])
    ∙ ap (λ (rows : List Row). apply_ops rows s d.ops.value) (sym (are.trees k c s (omega (arith, inside)) at_c))
