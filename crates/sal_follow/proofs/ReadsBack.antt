-- Paths and cells read as they are written.
use Rattle.std.proofs.Common.{◌≡◌, ℕ, suc, ◌+◌, ◌-◌, ◌<◌, ◌≤◌, ◌^◌, ◌&&◌, ◌==◌, Bool, true, false, List, [], ◌∷◌, length, Option, Some, None, Result, Ok, Err, if◌then◌else◌, refl, ap, sym, ◌∙◌, arith}
use Rattle.std.specs.Prelude.{nat_lt, nat_le, option_map, option_and_then, is_some, IsTrue}
use Rattle.std.specs.List.{slice_get}
use Rattle.std.specs.Option.{option_map_or}
use Rattle.std.proofs.lemmas.Bool.Decides.{nat_tests}
use Rattle.serde_json.specs.Data.{Data, null, object, no_members}
use Rattle.serde_json.specs.Find.{as_null}
use Rattle.serde_json.specs.View.{items_of}
use Rattle.sal_types.specs.declared.value.Value.{Value}
use Rattle.sal_types.specs.declared.value.Cell.{Cell}
use Rattle.sal_types.specs.declared.value.Cell.TheVariants.{Mark, Leaf}
use Rattle.sal_types.specs.declared.value.Step.{Step}
use Rattle.sal_types.specs.declared.value.Step.TheVariants.{Node, Key, Item}
use Rattle.sal_restrict.specs.declared.yang_type.YangType.{YangType, out-YangType}
use Rattle.sal_restrict.specs.declared.yang_type.YangType.TheOpen.{YangType-F}
use Rattle.sal_schema.specs.declared.kind.Kind.{Kind}
use Rattle.sal_schema.specs.declared.kind.Kind.TheVariants.{Leaf as LeafKind}
use Rattle.sal_schema.specs.declared.table.SchemaTable.{SchemaTable}
use Rattle.sal_schema.specs.Fitting.{has_mark, is_at_leaf}
use Rattle.sal_schema.specs.Kinds.{is_leaf, is_presence}
use Rattle.sal_schema.specs.Paths.{fits_path, last_step, node_from, node_of}
use Rattle.sal_schema.specs.Table.{is_kind, kind_of, keys_of, type_of, module_of}
use Rattle.sal_json.specs.declared.fault.ScalarFault.{ScalarFault}
use Rattle.sal_json.specs.declared.fault.ScalarFault.TheVariants.{WrongKind}
use Rattle.sal_json.specs.Numerals.{whole_atom, int_atom}
use Rattle.sal_json.specs.Read.{json_atom, of_string, of_number, if_own, is_own_json, own_json, value_of, first_own, plain, layer_scalar, type_scalar, scalar_of}
use Rattle.sal_data.specs.Laws.{IsReadable}
use Rattle.sal_data.specs.Read.{node_scalar}
use Rattle.sal_data.specs.Written.{scalar_json}
use Rattle.sal_follow.specs.Frames.{done, both, value_at, keys_in, node_in, step_in, steps_in, if_path, path_in, mark_in, leaf_cell, leaf_in, some_cell, no_cell, cell_in}
use Rattle.sal_follow.specs.Written.{keys_json, step_json, steps_json, path_json, cell_json}
use Rattle.sal_follow.specs.Laws.{AreReadable, IsReadableStep, IsReadableFrom, IsReadableCell}

-- ---- the last step

abbrev named_by : Option Step → Option ℕ
named_by (Some (Node n)) = Some n
named_by o = None

none-no_step : (n : ℕ) → None ≡ Some (Node n) → ⊥
none-no_step n e = cc

key-no_node : (values : List Value) (n : ℕ) → Some (Key values) ≡ Some (Node n) → ⊥
key-no_node values n e = cc

item-no_node : (value : Value) (n : ℕ) → Some (Item value) ≡ Some (Node n) → ⊥
item-no_node value n e = cc

two_less_one : (n : ℕ) → suc (suc n) - 1 ≡ suc n
two_less_one n = omega arith

one_less_one : (n : ℕ) → suc n - 1 ≡ n
one_less_one n = omega arith

last-more : (first step : Step) (path : List Step) → last_step (first ∷ step ∷ path) ≡ last_step (step ∷ path)
last-more first step path = ap (slice_get (first ∷ step ∷ path)) (two_less_one (length path)) ∙ sym (ap (slice_get (step ∷ path)) (one_less_one (length path)))

module _ (table : SchemaTable) where
  keys-read : (leafs : List ℕ) (values : List Value) → AreReadable table leafs values → keys_in table leafs (items_of (keys_json table leafs values)) ≡ Some values
  keys-read [] [] r = refl
  keys-read [] (value ∷ values) r = absurd r
  keys-read (leaf ∷ leafs) [] r = absurd r
  keys-read (leaf ∷ leafs) (value ∷ values) r = λ i. both (λ v vs. v ∷ vs) (done (r.0 i)) (keys-read leafs values r.1 i)

  node-read : (n : ℕ) → n < 2 ^ 32 → node_in n ≡ Some (Node n)
  node-read n small = let e : nat_lt n (2 ^ 32) ≡ true = grind (arith, nat_tests) in ap (λ b. if b then Some (Node n) else None) e

  step-read : (here : Option ℕ) (step : Step) → IsReadableStep table here step → step_in table here (step_json table here step) ≡ Some step
  step-read None (Node n) r = node-read n r
  step-read (Some m) (Node n) r = node-read n r
  step-read (Some n) (Key values) r = ap (option_map Key) (keys-read (keys_of table n) values r)
  step-read (Some n) (Item value) r = ap (λ read. option_map Item (done read)) r
  step-read None (Key values) r = absurd r
  step-read None (Item value) r = absurd r

  steps-read : (here : Option ℕ) (path : List Step) → IsReadableFrom table here path → steps_in table here (items_of (steps_json table here path)) ≡ Some path
  steps-read here [] r = refl
  steps-read here (step ∷ path) r =
      ap (λ (o : Option Step). option_and_then (λ s. option_map (λ steps. s ∷ steps) (steps_in table (node_from here (s ∷ [])) (items_of (steps_json table (node_from here (step ∷ [])) path)))) o) (step-read here step r.0)
      ∙ ap (option_map (λ (steps : List Step). step ∷ steps)) (steps-read (node_from here (step ∷ [])) path r.1)

  is_path : (path : List Step) (a b : Bool) → a ≡ true → b ≡ true → (if a && b then Some path else None) ≡ Some path
  is_path path true true x y = refl
  is_path path true false x y = cc
  is_path path false b x y = cc

  short : (n : ℕ) → n ≤ 32 → nat_le n 32 ≡ true
  short n e = grind (arith, nat_tests)

  pub path-read : (path : List Step) → length path ≤ 32 → IsTrue (fits_path table path) → IsReadableFrom table None path → path_in table (path_json table path) ≡ Some path
  path-read path few fits r =
      ap (option_and_then (if_path table)) (steps-read None path r) ∙ is_path path (nat_le (length path) 32) (fits_path table path) (short (length path) few) fits

-- ---- null denotes no value

module _ (table : SchemaTable) where
  json-null : (m : ℕ) (layer : YangType-F YangType) → json_atom table m layer null ≡ Err WrongKind
  json-null m (YangType-F.Int bits sign range) =
      elim (bits == 64) as (λ b. (if b then of_string (int_atom bits sign range) null else of_number (whole_atom sign range) null) ≡ Err WrongKind) [ true ↦ refl | false ↦ refl ]
  json-null m layer = refl

  own-null : (m : ℕ) (member : YangType) → own_json table m null member ≡ None
  own-null m member = ap (if_own (is_own_json table m (out-YangType member) null)) (json-null m (out-YangType member))

  first-null : (m i : ℕ) (members : List YangType) → first_own (own_json table m null) i members ≡ Err WrongKind
  first-null m i [] = refl
  first-null m i (member ∷ members) =
      ap (λ o. option_map_or (λ atom. Ok (value_of i atom)) o (first_own (own_json table m null) (i + 1) members)) (own-null m member) ∙ first-null m (i + 1) members

  layer-null : (m : ℕ) (layer : YangType-F YangType) → layer_scalar table m layer null ≡ Err WrongKind
  layer-null m (YangType-F.Union members) = first-null m 0 members
  layer-null m layer = ap plain (json-null m layer)

  scalar-null : (ty m : ℕ) → scalar_of table ty m null ≡ Err WrongKind
  scalar-null ty m = elim (slice_get table.types ty) as (λ o. option_map_or (λ type. type_scalar table type m null) o (Err WrongKind) ≡ Err WrongKind) [
    | None ↦ refl
    | Some type ↦ layer-null m (out-YangType type)
  ]

  node-null : (n : ℕ) → node_scalar table n null ≡ Err WrongKind
  node-null n = elim (type_of table n) as (λ o. option_map_or (λ ty. option_map_or (λ m. scalar_of table ty m null) (module_of table n) (Err WrongKind)) o (Err WrongKind) ≡ Err WrongKind) [
    | None ↦ refl
    | Some ty ↦ elim (module_of table n) as (λ o. option_map_or (λ m. scalar_of table ty m null) o (Err WrongKind) ≡ Err WrongKind) [
      | None ↦ refl
      | Some m ↦ scalar-null ty m
    ]
  ]

  err-no_ok : (r : Result Value ScalarFault) (value : Value) → r ≡ Err WrongKind → r ≡ Ok value → ⊥
  err-no_ok r value err ok = cc

  -- JSON that reads as a value is not null
  not-null : (n : ℕ) (d : Data) (value : Value) → node_scalar table n d ≡ Ok value → is_some (as_null d) ≡ false
  not-null n null value e = absurd (err-no_ok (node_scalar table n null) value (node-null n) e)
  not-null n d value e = refl

  -- ---- cells

  presence : (kind : Kind) → is_leaf kind ≡ true → is_presence kind ≡ false
  presence LeafKind e = refl
  presence kind e = cc

  no_presence : (n : ℕ) → is_kind is_leaf table n ≡ true → is_kind is_presence table n ≡ false
  no_presence n = elim (kind_of table n) as (λ o. option_map_or is_leaf o false ≡ true → option_map_or is_presence o false ≡ false) [
    | None ↦ λ e. refl
    | Some kind ↦ presence kind
  ]

  last-from : (here : Option ℕ) (path : List Step) (n : ℕ) → last_step path ≡ Some (Node n) → node_from here path ≡ Some n
  last-from here [] n e = absurd (none-no_step n e)
  last-from here (Node m ∷ []) n e = ap named_by e
  last-from here (Key values ∷ []) n e = absurd (key-no_node values n e)
  last-from here (Item value ∷ []) n e = absurd (item-no_node value n e)
  last-from here (Node m ∷ step ∷ path) n e = last-from (Some m) (step ∷ path) n (sym (last-more (Node m) step path) ∙ e)
  last-from here (Key values ∷ step ∷ path) n e = last-from here (step ∷ path) n (sym (last-more (Key values) step path) ∙ e)
  last-from here (Item value ∷ step ∷ path) n e = last-from here (step ∷ path) n (sym (last-more (Item value) step path) ∙ e)

  leaf-read : (path : List Step) (value : Value) (n : ℕ) → last_step path ≡ Some (Node n) → is_kind is_leaf table n ≡ true → IsReadable table n value
      → cell_in table path (scalar_json table n value) ≡ Some (Some (Leaf value))
  leaf-read path value n last leaf read =
      let d : Data = scalar_json table n value in
      ap (λ b. if b then no_cell table path else some_cell table path d) (not-null n d value read)
      ∙ ap (λ (s : Option Step). if has_mark table s then mark_in d else (if is_at_leaf table s then leaf_in table s d else None)) last
      ∙ ap (λ b. if b then mark_in d else (if is_kind is_leaf table n then option_map leaf_cell (value_at table n d) else None)) (no_presence n leaf)
      ∙ ap (λ b. if b then option_map leaf_cell (value_at table n d) else None) leaf ∙ ap (λ r. option_map leaf_cell (done r)) read

  pub cell-read : (path : List Step) (c : Option Cell) → IsReadableCell table path c → cell_in table path (cell_json table (node_of path) c) ≡ Some c
  cell-read path None own = ap (λ b. if b then Some None else None) own
  cell-read path (Some Mark) marks = ap (λ b. if b then Some (Some Mark) else (if is_at_leaf table (last_step path) then leaf_in table (last_step path) (object no_members) else None)) marks
  cell-read path (Some (Leaf value)) (n, last, leaf, read) =
      ap (λ o. cell_in table path (option_map_or (λ n. scalar_json table n value) o null)) (last-from None path n last) ∙ leaf-read path value n last leaf read
