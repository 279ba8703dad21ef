-- The commits that a hub keeps of a domain have the trees that the log gives.
use Rattle.std.proofs.Common.{◌≡◌, ℕ, ◌+◌, ◌<◌, ◌≤◌, suc, List, [], ◌∷◌, length, map, Result, refl, ap, subst, ◌∙◌, arith}
use Rattle.std.specs.Prelude.{slice_index_or}
use Rattle.std.specs.List.{range_with_len}
use Rattle.sal_types.specs.declared.row.Row.{Row}
use Rattle.sal_types.specs.declared.value.Store.{Store}
use Rattle.sal_types.specs.declared.value.Store.TheVariants.{Config, Oper}
use Rattle.sal_rows.specs.declared.op.Op.{Op}
use Rattle.sal_rows.specs.Commits.{tree_at}
use Rattle.sal_schema.specs.declared.table.SchemaTable.{SchemaTable}
use Rattle.sal_tree.specs.declared.commit.Commit.{Commit}
use Rattle.sal_graft.specs.Kept.{AreKept, all_ops, opening_in, ops_of}
use Rattle.sal_history.specs.World.{opening_of}
use Rattle.sal_history.specs.History.{commits, history}
use Rattle.sal_history.specs.Versions.{tables_now}
use Rattle.sal_commit.specs.declared.domain.Domain.{Domain}
use Rattle.sal_hub.specs.Domains.{IsDomain}
use Rattle.sal_hub.specs.HubHistory.{HubHistory}
use Rattle.sal_follow.specs.declared.fault.ExportFault.{ExportFault}
use Rattle.sal_follow.specs.Framed.{Trees, ExportsOn, trees_of}
use Rattle.sal_resume.specs.Committed.{trees_by, committed}

-- each element is what its number gives, counted from n
numbered : {A B : Type 0} (g : A → B) (f : ℕ → B) (n : ℕ) (xs : List A) → ((i : ℕ) (x : A) → i < length xs → x ≡ slice_index_or xs i x → g x ≡ f (n + i)) → map g xs ≡ map f (range_with_len n (length xs))
numbered g f n [] each = refl
numbered g f n (x ∷ xs) each =
    let here : n + 0 ≡ n = omega arith in
    let first : g x ≡ f n = each 0 x (omega arith) refl ∙ ap f here in
    let rest : map g xs ≡ map f (range_with_len (n + 1) (length xs)) = numbered g f (n + 1) xs (λ i y inside at. let there : n + suc i ≡ n + 1 + i = omega arith in each (suc i) y (omega (arith, inside)) at ∙ ap f there) in
    ap (λ y. y ∷ map g xs) first ∙ ap (λ ys. f n ∷ ys) rest

ops-long : (cs : List Commit) → length (all_ops cs) ≡ length cs
ops-long [] = refl
ops-long (c ∷ cs) = ap suc (ops-long cs)

kept-long : (kept : List Commit) → 1 ≤ length kept → length kept ≡ length (ops_of kept) + 1
kept-long [] some = absurd (omega (arith, some))
kept-long (c ∷ cs) some = let long = ops-long cs in omega (arith, long)

-- a commit has the trees of its number
trees-kept : (kept : List Commit) (opening : Store → List Row) (ops : List (List Op)) → AreKept kept → opening_in kept ≡ opening → ops_of kept ≡ ops → (k : ℕ) (c : Commit) → k < length kept → c ≡ slice_index_or kept k c
    → trees_of c ≡ record { config = tree_at opening ops Config k; oper = tree_at opening ops Oper k }
trees-kept kept opening ops are opens does k c inside at =
    let config = are.trees k c Config inside at ∙ ap (λ (o : Store → List Row). tree_at o (ops_of kept) Config k) opens ∙ ap (λ (os : List (List Op)). tree_at opening os Config k) does in
    let oper = are.trees k c Oper inside at ∙ ap (λ (o : Store → List Row). tree_at o (ops_of kept) Oper k) opens ∙ ap (λ (os : List (List Op)). tree_at opening os Oper k) does in
    λ i. record { config = config i; oper = oper i }

-- all commits that are kept
pub leader : (known : HubHistory) (n : ℕ) (d : Domain) → IsDomain known n d → map trees_of d.commits.items ≡ committed known n
leader known n d is =
    let kept : List Commit = d.commits.items in
    let done : List (List Op) = commits (history known.world known.log) n in
    let each : map trees_of kept ≡ map (trees_by known n) (range_with_len 0 (length kept)) =
    numbered trees_of (trees_by known n) 0 kept (λ i c inside at. let there : i ≡ 0 + i = omega arith in trees-kept kept (opening_of known.world n) done is.kept is.opening is.commits i c inside at ∙ ap (trees_by known n) there) in
    let long : length kept ≡ length done + 1 = kept-long kept is.kept.opened ∙ ap (λ (os : List (List Op)). length os + 1) is.commits in
    each ∙ ap (λ m. map (trees_by known n) (range_with_len 0 m)) long

-- what is exported of them is exported of the log
pub exported-committed : (known : HubHistory) (n k number : ℕ) (d : Domain) (result : Result (List ℕ) ExportFault) → IsDomain known n d → ExportsOn d.schema.value (map trees_of d.commits.items) k number result
    → ExportsOn (tables_now known.world (history known.world known.log) n) (committed known n) k number result
exported-committed known n k number d result is told =
    subst (λ (table : SchemaTable). ExportsOn table (committed known n) k number result) is.schema (subst (λ (trees : List Trees). ExportsOn d.schema.value trees k number result) (leader known n d is) told)

-- by any table
pub exported-by : (table : SchemaTable) (known : HubHistory) (n k number : ℕ) (d : Domain) (result : Result (List ℕ) ExportFault) → IsDomain known n d → ExportsOn table (map trees_of d.commits.items) k number result
    → ExportsOn table (committed known n) k number result
exported-by table known n k number d result is told = subst (λ (trees : List Trees). ExportsOn table trees k number result) (leader known n d is) told
