-- An operation for a version is one for each later version, and is refused for the same cause.
use Rattle.std.proofs.Common.{◌≡◌, ℕ, Bool, true, not, ◌&&◌, IsTrue, List, [], ◌∷◌, length, map, Some, None, refl, sym, ap, subst}
use Rattle.std.specs.Prelude.{◌||◌, find, option_map, if◌then◌else◌, IsFalse}
use Rattle.std.specs.List.{list_all}
use Rattle.sal_types.specs.declared.value.Store.{Store}
use Rattle.sal_types.specs.declared.value.Store.TheVariants.{Config, Oper}
use Rattle.sal_types.specs.declared.value.Step.{Step}
use Rattle.sal_types.specs.declared.row.Row.{Row}
use Rattle.sal_types.specs.Prefix.{is_prefix}
use Rattle.sal_types.specs.Tree.{has}
use Rattle.sal_rows.specs.declared.op.Op.{Op}
use Rattle.sal_rows.specs.Apply.{rows_of_act}
use Rattle.sal_rows.specs.Clash.{needs_parents}
use Rattle.sal_schema.specs.declared.table.SchemaTable.{SchemaTable}
use Rattle.sal_schema.specs.Fitting.{has_mark, is_root, is_of_state, is_in_message, cell_fits, is_whole_above, row_fits, fits}
use Rattle.sal_schema.specs.Paths.{fits_path, last_step}
use Rattle.sal_schema.specs.Valid.{IsTable}
use Rattle.sal_schema.specs.Versions.{Extends}
use Rattle.sal_schema.proofs.Conjuncts.{and_first, and_second}
use Rattle.sal_schema.proofs.Fronts.{both, all-more}
use Rattle.sal_schema.proofs.Stays.{IsInside, is_inside, fit-inside, path-stays, rows-stay, mark-same, of-state-same, key-leaf-same, message-same}
use Rattle.sal_rules.specs.declared.fault.TxFault.TheVariants.{NotConfig, KeyLeaf, ParentMissing, RootPath}
use Rattle.sal_rules.specs.Refusals.{above, missing_parent, first_state, not_config, or_else, when, refusal}
use Rattle.sal_rules.specs.Versions.{OperationsStay, RefusalsStay}
use Rattle.sal_rules.specs.Writes.{IsForSchema}

find-same : {X : Type 0} (good p q : X → Bool) → ((x : X) → IsTrue (good x) → p x ≡ q x) → (xs : List X) → IsTrue (list_all good xs) → find p xs ≡ find q xs
find-same good p q each [] h = refl
find-same good p q each (x ∷ xs) h =
    let here = each x (and_first (good x) (list_all good xs) h) in
    let rest = find-same good p q each xs (and_second (good x) (list_all good xs) h) in
    λ i. if here i then Some x else rest i

all-mapped : {X Y : Type 0} (f : X → Y) (test : Y → Bool) (xs : List X) → IsTrue (list_all (λ x. test (f x)) xs) → IsTrue (list_all test (map f xs))
all-mapped f test [] h = refl
all-mapped f test (x ∷ xs) h = both (test (f x)) (list_all test (map f xs)) (and_first (test (f x)) (list_all (λ x. test (f x)) xs) h) (all-mapped f test xs (and_second (test (f x)) (list_all (λ x. test (f x)) xs) h))

above-inside : (count : ℕ) (path : List Step) → IsInside count path → IsTrue (list_all (list_all (is_inside count)) (above path))
above-inside count [] h = refl
above-inside count (step ∷ []) h = refl
above-inside count (step ∷ next ∷ path) h =
    let here = and_first (is_inside count step) (list_all (is_inside count) (next ∷ path)) h in
    let rest = above-inside count (next ∷ path) (and_second (is_inside count step) (list_all (is_inside count) (next ∷ path)) h) in
    both (list_all (is_inside count) (step ∷ [])) (list_all (list_all (is_inside count)) (map (λ q. step ∷ q) (above (next ∷ path)))) (both (is_inside count step) true here refl)
    (all-mapped (λ q. step ∷ q) (list_all (is_inside count)) (above (next ∷ path)) (all-more (list_all (is_inside count)) (λ q. list_all (is_inside count) (step ∷ q)) (λ q k. both (is_inside count step) (list_all (is_inside count) q) here k) (above (next ∷ path)) rest))

module _ (newer older : SchemaTable) (good : IsTable older) (e : Extends newer older) where
  abbrev count : ℕ
  count = length older.nodes

  row-inside : (p : List Step) (rows : List Row) (row : Row) → IsTrue (row_fits older p rows row) → IsTrue (list_all (is_inside count) row.path)
  row-inside p rows row h =
      let lies = fits_path older row.path && is_prefix p row.path in
      let holds = cell_fits older row.path row.cell && is_whole_above older rows p row.path in
      let front = and_first (lies && holds) (not (is_root p) || not (is_in_message older row.path)) h in
      fit-inside newer older good e row.path (and_first (fits_path older row.path) (is_prefix p row.path) (and_first lies holds front))

  rows-inside : (p : List Step) (rows : List Row) → IsTrue (fits older p rows) → IsTrue (list_all (λ (row : Row). list_all (is_inside count) row.path) rows)
  rows-inside p rows h = all-more (row_fits older p rows) (λ (row : Row). list_all (is_inside count) row.path) (row-inside p rows) rows h

  missing-same : (tree : List Row) (path : List Step) → IsInside count path → missing_parent newer tree path ≡ missing_parent older tree path
  missing-same tree path h =
      find-same (list_all (is_inside count)) (λ q. has_mark newer (last_step q) && not (has tree q)) (λ q. has_mark older (last_step q) && not (has tree q)) (λ q inside. ap (λ b. b && not (has tree q)) (mark-same newer older good e q inside)) (above path)
      (above-inside count path h)

  first-same : (path : List Step) (rows : List Row) → IsInside count path → IsTrue (list_all (λ (row : Row). list_all (is_inside count) row.path) rows) → first_state newer path rows ≡ first_state older path rows
  first-same path rows h all =
      let own = of-state-same newer older good e path h in
      let found = find-same (λ (row : Row). list_all (is_inside count) row.path) (λ (row : Row). is_of_state newer row.path) (λ (row : Row). is_of_state older row.path) (λ row inside. of-state-same newer older good e row.path inside) rows all in
      λ i. if own i then Some path else option_map (λ (row : Row). row.path) (found i)

  config-same : (s : Store) (path : List Step) (rows : List Row) → IsInside count path → IsTrue (list_all (λ (row : Row). list_all (is_inside count) row.path) rows) → not_config newer s path rows ≡ not_config older s path rows
  config-same Config path rows h all = first-same path rows h all
  config-same Oper path rows h all = refl

  refusal-same : (tree : List Row) (op : Op) → IsForSchema older op → refusal newer tree op ≡ refusal older tree op
  refusal-same tree op h =
      let inside = fit-inside newer older good e op.path h.path in
      let key = key-leaf-same newer older good e op.path inside in
      let config = config-same op.store op.path (rows_of_act op.act) inside (rows-inside op.path (rows_of_act op.act) h.rows) in
      let missing = missing-same tree op.path inside in
      λ i.
      or_else (when (is_root op.path) RootPath) (or_else (when (key i) (KeyLeaf op.path)) (or_else (option_map NotConfig (config i)) (option_map ParentMissing (if needs_parents op.act then missing i else None))))

  operation-stays : (op : Op) → IsForSchema older op → IsForSchema newer op
  operation-stays op h =
      let inside = fit-inside newer older good e op.path h.path in
      let these = message-same newer older good e op.path inside in
      record {
        path = path-stays newer older good e op.path h.path;
        data_path = subst IsFalse (sym these) h.data_path;
        rows = rows-stay newer older good e op.path (rows_of_act op.act) h.rows;
      }

pub operations_stay : OperationsStay
operations_stay newer older op good e h = operation-stays newer older good e op h

pub refusals_stay : RefusalsStay
refusals_stay newer older tree op good e h = refusal-same newer older good e tree op h
