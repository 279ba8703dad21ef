-- Each round is decided as the next commit: it clashes with none, and the schema of a load has no rule that could be broken.
use Rattle.std.proofs.Common.{◌≡◌, ℕ, Bool, true, false, List, [], ◌∷◌, take, find, Option, Some, None, refl, ap, ◌∙◌, if◌then◌else◌}
use Rattle.std.specs.Prelude.{not}
use Rattle.std.specs.List.{flat_map, fold}
use Rattle.std.specs.Option.{option_map}
use Rattle.sal_types.specs.declared.value.Store.{Store}
use Rattle.sal_types.specs.declared.value.Store.TheVariants.{Config, Oper}
use Rattle.sal_types.specs.declared.value.Step.{Step}
use Rattle.sal_types.specs.declared.value.Step.TheVariants.{Node}
use Rattle.sal_types.specs.declared.row.Row.{Row}
use Rattle.sal_types.specs.Tree.{has}
use Rattle.sal_rows.specs.declared.clash.Rules.TheVariants.{One}
use Rattle.sal_rows.specs.declared.clash.Span.{Span}
use Rattle.sal_rows.specs.Clash.{clash, is_lost, lost_parent}
use Rattle.sal_rows.specs.PathClash.{difference}
use Rattle.sal_rows.specs.Commits.{is_unchanged, tree_after, tree_at}
use Rattle.sal_rules.specs.Breaches.{breach, breaches_at, breaches_from, first, keep, numbers}
use Rattle.sal_rules.specs.Places.{places, spot_of}
use Rattle.sal_rules.specs.Seen.{Seen, seen_from}
use Rattle.sal_schema.specs.Table.{closest}
use Rattle.sal_script.specs.LoadExamples.{entry, table}
use Rattle.sal_script_laws.specs.Rounds.{IsAccepted, IsDecided, Round, commits_of, has_key, nothing, put_of, trees_behind}
use Rattle.sal_script_laws.proofs.Behind.{absent, has_key-take, length-commits, no_list, take-commits}

-- ---- conflicts

none_found : {X : Type 0} (t : X → Bool) (xs : List X) → ((x : X) → t x ≡ false) → find t xs ≡ None
none_found t [] none = refl
none_found t (x ∷ xs) none = ap (λ b. if b then Some x else find t xs) (none x) ∙ none_found t xs none

absent-at : (rounds : List Round) (k key : ℕ) → has_key rounds key ≡ false → has (tree_at nothing (commits_of rounds) Config k) (entry key) ≡ false
absent-at rounds k key none =
    ap (λ commits. has (tree_after Config [] commits) (entry key)) (take-commits k rounds) ∙ absent (take k rounds) key (has_key-take k rounds key none)

unchanged : (rounds : List Round) (key : ℕ) → has_key rounds key ≡ false → (span : Span) → is_unchanged nothing (commits_of rounds) Config (entry key) span ≡ true
unchanged rounds key none span = rw (absent-at rounds span.from key none, absent-at rounds span.to key none) refl

no_difference : (rounds : List Round) (key : ℕ) (spans : List Span) → has_key rounds key ≡ false → difference nothing (commits_of rounds) Config spans (entry key) ≡ None
no_difference rounds key spans none =
    ap (option_map _) (none_found (λ span. not (is_unchanged nothing (commits_of rounds) Config (entry key) span)) spans (λ span. ap not (unchanged rounds key none span)))

none_lost : (rounds front : List Round) (key : ℕ) → is_lost nothing (commits_of rounds) (trees_behind front) [] Config (Node 0 ∷ []) ≡ false
none_lost rounds front key = rw (no_list front) refl

no_lost_parent : (rounds front : List Round) (key : ℕ) → lost_parent nothing (commits_of rounds) (trees_behind front) [] Config (entry key) ≡ None
no_lost_parent rounds front key = rw (none_lost rounds front key) refl

no_clash : (rounds front : List Round) (spans : List Span) (key value : ℕ) → has_key rounds key ≡ false → clash nothing (commits_of rounds) One (trees_behind front) spans (put_of key value ∷ []) ≡ None
no_clash rounds front spans key value none = rw (no_lost_parent rounds front key, no_difference rounds key spans none) refl

-- ---- rules

flat_map-none : {X Y : Type 0} (f : X → List Y) (xs : List X) → ((x : X) → f x ≡ []) → flat_map f xs ≡ []
flat_map-none f [] none = refl
flat_map-none f (x ∷ xs) none = rw (none x) (flat_map-none f xs none)

none-at : (store : Store) (place : List Step) (see : Seen) (m : Option ℕ) → breaches_at table store place see m (numbers table) ≡ []
unfolding first closest
none-at Config place see None = refl
none-at Config place see (Some n) = refl
none-at Oper place see None = refl
none-at Oper place see (Some n) = refl

none-from : (store : Store) (tree : List Row) (place : List Step) → breaches_from table store place (seen_from tree place) (spot_of table place) (numbers table) ≡ []
none-from store tree place =
    elim (spot_of table place).wants_entry as (λ b. (if b then [] else breaches_at table store place (seen_from tree place) (spot_of table place).node (numbers table)) ≡ []) [
      | true ↦ refl
      | false ↦ none-at store place (seen_from tree place) (spot_of table place).node
    ]

no_breach : (store : Store) (tree : List Row) → breach table store tree ≡ None
no_breach store tree = ap (fold keep None) (flat_map-none _ (places tree) (none-from store tree))

-- ---- both

pub decided : IsDecided
decided rounds front spans key value none =
    rw (no_clash rounds front spans key value none, no_breach Config, no_breach Oper, length-commits rounds) refl

-- a transaction takes the put over any tree
pub accepted : IsAccepted
accepted tree key value = refl
