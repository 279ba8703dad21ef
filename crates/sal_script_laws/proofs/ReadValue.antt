-- The value of a round, which a script has as JSON, is read as the rows of its put.
use Rattle.std.proofs.Common.{◌≡◌, ℕ, ◌≤◌, true, List, [], ◌∷◌, ◌++◌, Some, Result, Ok, refl, ap}
use Rattle.std.specs.Ordering.{is_eq}
use Rattle.std.specs.Cmp.{tied_itself}
use Rattle.serde_json.specs.Data.{number as json_number, unsigned}
use Rattle.sal_types.specs.declared.value.Step.{Step}
use Rattle.sal_types.specs.declared.value.Step.TheVariants.{Node, Key}
use Rattle.sal_types.specs.declared.value.Cell.TheVariants.{Leaf}
use Rattle.sal_types.specs.declared.value.Value.{Value}
use Rattle.sal_types.specs.declared.row.Row.{Row}
use Rattle.sal_types.specs.Order.{step_cmp-IsTotalOrder}
use Rattle.sal_types.specs.Reading.{◌>>=◌}
use Rattle.sal_types.specs.Tree.{IsAscending}
use Rattle.sal_restrict.specs.declared.yang_type.YangType.TheViews.{out-roll-YangType}
use Rattle.sal_schema.specs.Table.{closest}
use Rattle.sal_json.specs.declared.fault.ScalarFault.{ScalarFault}
use Rattle.sal_json.specs.Read.{type_scalar}
use Rattle.sal_data.specs.Read.{Reading, at_path, followed, key_step, node_scalar, object_rows, same_step}
use Rattle.sal_data.proofs.Fronts.{path_cmp-behind}
use Rattle.sal_data.proofs.PutInOrder.{in_order-rising}
use Rattle.sal_script.specs.Load.{entry_data}
use Rattle.sal_script.specs.LoadExamples.{entry, number, rows, table}
use Rattle.sal_script_laws.specs.Rounds.{DataIsRead}
use Rattle.sal_script_laws.proofs.ReadNumbers.{whole}

key_scalar : (n : ℕ) → n ≤ 4294967295 → node_scalar table 1 (json_number (unsigned n)) ≡ Ok (number n)
key_scalar n small = simp (type_scalar, out-roll-YangType, whole n small) refl

value_scalar : (n : ℕ) → n ≤ 4294967295 → node_scalar table 2 (json_number (unsigned n)) ≡ Ok (number n)
value_scalar n small = simp (type_scalar, out-roll-YangType, whole n small) refl

key-is : (key value : ℕ) → key ≤ 4294967295 → key_step table 0 (Node 0 ∷ []) (entry_data key value) ≡ Ok (Key (number key ∷ []))
key-is key value small = rw (key_scalar key small) refl

leafs : ℕ → ℕ → List Row
leafs key value =
    record { path = entry key ++ Node 1 ∷ []; cell = Leaf (number key) }
    ∷ record { path = entry key ++ Node 2 ∷ []; cell = Leaf (number value) }
    ∷ []

-- the result for the two leafs, if their values have these results
abbrev leaf_by : List Step → Result Value ScalarFault → Reading
leaf_by path read = at_path path read >>= λ value. Ok (record { path = path; cell = Leaf value } ∷ [])

abbrev leafs_by : ℕ → Result Value ScalarFault → Result Value ScalarFault → Reading
leafs_by key one two =
    leaf_by (entry key ++ Node 1 ∷ []) one >>= λ rows. followed rows (leaf_by (entry key ++ Node 2 ∷ []) two >>= λ others. followed others (Ok []))

leafs-are : (key value : ℕ) → key ≤ 4294967295 → value ≤ 4294967295 → object_rows table (Some 0) (entry key) (entry_data key value) ≡ Ok (leafs key value)
unfolding leafs closest
leafs-are key value small low = λ i. leafs_by key (key_scalar key small i) (value_scalar value low i)

own_step : (step : Step) → same_step step step ≡ true
own_step step = ap is_eq (tied_itself step_cmp-IsTotalOrder step)

rising : (key value : ℕ) → IsAscending (rows key value)
rising key value = rw (path_cmp-behind (entry key) [] (Node 1 ∷ [])) refl

pub data_is_read : DataIsRead
unfolding leafs
data_is_read key value small low =
    rw (key-is key value small, own_step (Key (number key ∷ [])), leafs-are key value small low, in_order-rising (rows key value) (rising key value)) refl
