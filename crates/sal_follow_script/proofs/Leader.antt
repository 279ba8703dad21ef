-- The commits that a hub keeps of domain 0 have the trees that the log gives.
use Rattle.std.proofs.Common.{◌≡◌, ℕ, ◌+◌, ◌<◌, ◌≤◌, suc, List, [], ◌∷◌, length, map, get_or, Result, Err, refl, ap, sym, ◌∙◌, subst, arith}
use Rattle.std.specs.Prelude.{slice_index_or}
use Rattle.std.specs.List.{range_with_len}
use Rattle.std.specs.declared.alloc.Global.{Global}
use Rattle.std.specs.declared.sync.Arc.{Arc}
use Rattle.sal_types.specs.declared.row.Row.{Row}
use Rattle.sal_types.specs.declared.value.Store.{Store}
use Rattle.sal_types.specs.declared.value.Store.TheVariants.{Config, Oper}
use Rattle.sal_rows.specs.declared.op.Op.{Op}
use Rattle.sal_rows.specs.Commits.{tree_at}
use Rattle.sal_schema.specs.declared.table.SchemaTable.{SchemaTable}
use Rattle.sal_tree.specs.declared.commit.Commit.{Commit}
use Rattle.sal_graft.specs.Kept.{AreKept, all_ops, opening_in, ops_of}
use Rattle.sal_history.specs.World.{Domain, last_of, opening_of}
use Rattle.sal_history.specs.History.{commits, history}
use Rattle.sal_script.specs.Play.{Played}
use Rattle.sal_script.specs.Tables.{tables_of}
use Rattle.sal_client.specs.declared.simulation.PlayFault.{PlayFault}
use Rattle.sal_client.specs.declared.simulation.PlayFault.TheVariants as fault_of
use Rattle.sal_client.specs.Runs.{PlaysAs}
use Rattle.sal_commit.specs.declared.domain.Domain.{Domain as Kept}
use Rattle.sal_hub.specs.Domains.{IsDomain}
use Rattle.sal_hub.specs.HubHistory.{HubHistory}
use Rattle.sal_versions.specs.Shared.{tables_in}
use Rattle.sal_follow.specs.Framed.{trees_of}
use Rattle.sal_prepare.specs.declared.status.Status.{Status}
use Rattle.sal_prepare.specs.Texts.{IsTextOr, IsTextStatus}
use Rattle.sal_prepare.specs.Plays.{play_status}
use Rattle.sal_follow_script.specs.Exports.{export_log, export_play, frames_by, own_trees, trees_by}

-- ---- lists by their numbers

-- each element is what its number gives, counted from n
numbered : {A B : Type 0} (g : A → B) (f : ℕ → B) (n : ℕ) (xs : List A) → ((i : ℕ) (x : A) → i < length xs → x ≡ slice_index_or xs i x → g x ≡ f (n + i)) → map g xs ≡ map f (range_with_len n (length xs))
numbered g f n [] each = refl
numbered g f n (x ∷ xs) each =
    let here : n + 0 ≡ n = omega (arith) in
    let first : g x ≡ f n = each 0 x (omega (arith)) refl ∙ ap f here in
    let rest : map g xs ≡ map f (range_with_len (n + 1) (length xs)) = numbered g f (n + 1) xs (λ i y inside at. let there : n + suc i ≡ n + 1 + i = omega (arith) in each (suc i) y (omega (arith, inside)) at ∙ ap f there) in
    ap (λ y. y ∷ map g xs) first ∙ ap (λ ys. f n ∷ ys) rest

-- ---- one domain

ops_long : (cs : List Commit) → length (all_ops cs) ≡ length cs
ops_long [] = refl
ops_long (c ∷ cs) = ap suc (ops_long cs)

kept_long : (kept : List Commit) → 1 ≤ length kept → length kept ≡ length (ops_of kept) + 1
kept_long [] some = absurd (omega (arith, some))
kept_long (c ∷ cs) some = let long = ops_long cs in omega (arith, long)

-- a commit has the trees of its number
trees_kept : (kept : List Commit) (opening : Store → List Row) (ops : List (List Op)) → AreKept kept → opening_in kept ≡ opening → ops_of kept ≡ ops → (k : ℕ) (c : Commit) → k < length kept → c ≡ slice_index_or kept k c
    → trees_of c ≡ record { config = tree_at opening ops Config k; oper = tree_at opening ops Oper k }
trees_kept kept opening ops are opens does k c inside at =
    let config = are.trees k c Config inside at ∙ ap (λ (o : Store → List Row). tree_at o (ops_of kept) Config k) opens ∙ ap (λ (os : List (List Op)). tree_at opening os Config k) does in
    let oper = are.trees k c Oper inside at ∙ ap (λ (o : Store → List Row). tree_at o (ops_of kept) Oper k) opens ∙ ap (λ (os : List (List Op)). tree_at opening os Oper k) does in
    λ i. record { config = config i; oper = oper i }

-- all commits that are kept
pub leader : (known : HubHistory) (d : Kept) → IsDomain known 0 d → map trees_of d.commits.items ≡ own_trees known.world known.log
leader known d is =
    let kept : List Commit = d.commits.items in
    let done : List (List Op) = commits (history known.world known.log) 0 in
    let each : map trees_of kept ≡ map (trees_by known.world known.log) (range_with_len 0 (length kept)) =
    numbered trees_of (trees_by known.world known.log) 0 kept (λ i c inside at. let there : i ≡ 0 + i = omega (arith) in trees_kept kept (opening_of known.world 0) done is.kept is.opening is.commits i c inside at ∙ ap (trees_by known.world known.log) there) in
    let long : length kept ≡ length done + 1 = kept_long kept is.kept.opened ∙ ap (λ (os : List (List Op)). length os + 1) is.commits in
    each ∙ ap (λ n. map (trees_by known.world known.log) (range_with_len 0 n)) long

-- the frames of the commits are the frames of the log
pub exported_log : (known : HubHistory) (d : Kept) (table : SchemaTable) (result : Result (List ℕ) Status) → IsDomain known 0 d → table ≡ last_of known.world 0
    → IsTextOr (frames_by table (map trees_of d.commits.items)) result → IsTextOr (export_log known.world known.log) result
exported_log known d table result is same told =
    subst (λ (made : Result (List ℕ) Status). IsTextOr made result) (ap (λ (t : SchemaTable). frames_by t (map trees_of d.commits.items)) same ∙ ap (frames_by (last_of known.world 0)) (leader known d is)) told

-- ---- the last version of its schema

pub first_last : (schemas : List (Arc SchemaTable Global)) (world : List Domain) (s : Arc SchemaTable Global) → 1 ≤ length schemas → s ≡ get_or schemas 0 s → tables_in schemas ≡ tables_of world
    → (1 ≤ length world) × (s.value ≡ last_of world 0)
first_last [] world s some at same = absurd (omega (arith, some))
first_last (x ∷ schemas) [] s some at same = absurd (none same)
  where
    none : (let ts : List SchemaTable = x.value ∷ tables_in schemas in ts) ≡ [] → ⊥
    none e = cc
first_last (x ∷ schemas) (d ∷ world) s some at same = (omega (arith), ap (λ (y : Arc SchemaTable Global). y.value) at ∙ ap (λ (ts : List SchemaTable). first ts x.value) same)
  where
    first : List SchemaTable → SchemaTable → SchemaTable
    first [] other = other
    first (t ∷ ts) other = t

-- ---- a play that failed

pub unplayed : (world : List Domain) (made : Result Played ℕ) (fault : PlayFault) (status : Status) → PlaysAs world (Err fault) made → status ≡ play_status fault → IsTextStatus (export_play world made) status
unplayed world made (fault_of.BadOrder index) status is same = subst (IsTextStatus (export_play world made)) (sym same) (ap (export_play world) is)
unplayed world made fault_of.NoMemory status is same = subst (IsTextStatus (export_play world made)) (sym same) tt
