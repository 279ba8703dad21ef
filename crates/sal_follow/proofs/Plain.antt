-- A value written for a frame has no floating-point number, and is not nested deeper than a reader accepts.
use Rattle.std.proofs.Common.{◌≡◌, ℕ, ◌+◌, ◌≤◌, ℤ, pos, negsuc, max, Bool, true, false, ◌||◌, List, [], ◌∷◌, map, Option, Some, None, decimal, refl, arith, if◌then◌else◌}
use Rattle.std.proofs.lemmas.Bool.{or_from}
use Rattle.std.specs.Fmt.{signed_decimal}
use Rattle.std.specs.List.{slice_get}
use Rattle.std.specs.Option.{option_map_or}
use Rattle.serde_json.specs.Data.{Data, null, boolean, number, unsigned, string, array, no_items, item, depth, items_depth}
use Rattle.serde_json.specs.Find.{of_integer}
use Rattle.serde_json.specs.View.{items_of}
use Rattle.serde_json.specs.Written.{has_float, items_have_float}
use Rattle.sal_types.specs.declared.value.Atom.{Atom}
use Rattle.sal_types.specs.declared.value.Atom.TheVariants.{Signed, Unsigned, Dec, Text, Bool as Truth, Enum, Bits, Bin, Ident, Empty}
use Rattle.sal_types.specs.declared.value.Value.{Value}
use Rattle.sal_types.specs.declared.value.Cell.{Cell}
use Rattle.sal_types.specs.declared.value.Cell.TheVariants.{Mark, Leaf}
use Rattle.sal_types.specs.declared.value.Step.{Step}
use Rattle.sal_types.specs.declared.value.Step.TheVariants.{Node, Key, Item}
use Rattle.sal_restrict.specs.declared.yang_type.YangType.{YangType, out-YangType}
use Rattle.sal_restrict.specs.declared.yang_type.YangType.TheOpen.{YangType-F}
use Rattle.sal_rows.specs.declared.rows.patch.Patch.{Patch}
use Rattle.sal_schema.specs.declared.table.SchemaTable.{SchemaTable}
use Rattle.sal_schema.specs.Paths.{node_from, node_of}
use Rattle.sal_schema.specs.Table.{keys_of, type_of, module_of}
use Rattle.sal_json.specs.Written.{is_wide, atom_json, atom_text, layer_for, type_json_of, json_of}
use Rattle.sal_data.specs.Written.{scalar_json}
use Rattle.sal_follow.specs.declared.frame.Frame.{Frame}
use Rattle.sal_follow.specs.Written.{keys_json, value_json, step_json, steps_json, path_json, cell_json, patch_json, store_json, frame_json}

-- no float, and a depth of at most `k`
abbrev Plain : ℕ → Data → Type 0
Plain k d = (has_float d ≡ false) × (depth d ≤ k)

abbrev PlainItems : ℕ → List Data → Type 0
PlainItems k ds = (items_have_float (items_of ds) ≡ false) × (items_depth (items_of ds) ≤ k)

greater : (a b k : ℕ) → a ≤ k → b ≤ k → max a b ≤ k
greater a b k p q = omega arith

plain_cons : (k : ℕ) (d : Data) (ds : List Data) → Plain k d → PlainItems k ds → PlainItems k (d ∷ ds)
plain_cons k d ds p q = (or_from (has_float d) (items_have_float (items_of ds)) p.0 q.0, greater (depth d) (items_depth (items_of ds)) k p.1 q.1)

plain_array : (k : ℕ) (ds : List Data) → PlainItems k ds → Plain (k + 1) (array (items_of ds))
plain_array k ds p = (p.0, omega (arith, p.1))

plain_if : (k : ℕ) (b : Bool) (x y : Data) → Plain k x → Plain k y → Plain k (if b then x else y)
plain_if k true x y p q = p
plain_if k false x y p q = q

plain_null : (k : ℕ) → Plain k null
plain_null k = (refl, omega arith)

plain_string : (k : ℕ) (s : List ℕ) → Plain k (string s)
plain_string k s = (refl, omega arith)

plain_map : {A : Type 0} (k : ℕ) (f : A → Data) (o : Option A) → ((a : A) → Plain k (f a)) → Plain k (option_map_or f o null)
plain_map k f None all = plain_null k
plain_map k f (Some a) all = all a

-- ---- values

plain_number : (n : ℕ) → Plain 1 (number (unsigned n))
plain_number n = (refl, omega arith)

plain_truth : (b : Bool) → Plain 1 (boolean b)
plain_truth b = (refl, omega arith)

plain_empty : Plain 1 (array (item null no_items))
plain_empty = (refl, omega arith)

plain_integer : (z : ℤ) → Plain 1 (number (of_integer z))
plain_integer (pos n) = (refl, omega arith)
plain_integer (negsuc n) = (refl, omega arith)

module _ (table : SchemaTable) where
  plain_words : (m : ℕ) (layer : YangType-F YangType) (atom : Atom) → Plain 1 (string (atom_text table m layer atom))
  plain_words m layer atom = plain_string 1 (atom_text table m layer atom)

  plain_atom : (m : ℕ) (layer : YangType-F YangType) (atom : Atom) → Plain 1 (atom_json table m layer atom)
  plain_atom m layer (Signed z) = plain_if 1 (is_wide layer) (string (signed_decimal z)) (number (of_integer z)) (plain_string 1 (signed_decimal z)) (plain_integer z)
  plain_atom m layer (Unsigned n) = plain_if 1 (is_wide layer) (string (decimal n)) (number (unsigned n)) (plain_string 1 (decimal n)) (plain_number n)
  plain_atom m layer (Dec a b) = plain_words m layer (Dec a b)
  plain_atom m layer (Text a) = plain_words m layer (Text a)
  plain_atom m layer (Truth a) = plain_truth a
  plain_atom m layer (Enum a) = plain_words m layer (Enum a)
  plain_atom m layer (Bits a) = plain_words m layer (Bits a)
  plain_atom m layer (Bin a) = plain_words m layer (Bin a)
  plain_atom m layer (Ident a) = plain_words m layer (Ident a)
  plain_atom m layer Empty = plain_empty

  plain_typed : (m : ℕ) (value : Value) (ty : YangType) → Plain 1 (type_json_of table ty m value)
  plain_typed m value ty = plain_map 1 (λ layer. atom_json table m layer value.atom) (layer_for (out-YangType ty) value.member) (λ layer. plain_atom m layer value.atom)

  plain_scalar : (n : ℕ) (value : Value) → Plain 1 (scalar_json table n value)
  unfolding scalar_json
  plain_scalar n value =
      plain_map 1 (λ ty. option_map_or (λ m. json_of table ty m value) (module_of table n) null) (type_of table n)
      (λ ty. plain_map 1 (λ m. json_of table ty m value) (module_of table n) (λ m. plain_map 1 (λ t. type_json_of table t m value) (slice_get table.types ty) (λ t. plain_typed m value t)))

  plain_value : (here : Option ℕ) (value : Value) → Plain 1 (value_json table here value)
  plain_value here value = plain_map 1 (λ n. scalar_json table n value) here (λ n. plain_scalar n value)

  -- ---- paths

  plain_keys : (leafs : List ℕ) (values : List Value) → PlainItems 1 (keys_json table leafs values)
  plain_keys [] values = (refl, omega arith)
  plain_keys (leaf ∷ leafs) [] = (refl, omega arith)
  plain_keys (leaf ∷ leafs) (value ∷ values) = plain_cons 1 (scalar_json table leaf value) (keys_json table leafs values) (plain_scalar leaf value) (plain_keys leafs values)

  plain_step : (here : Option ℕ) (step : Step) → Plain 2 (step_json table here step)
  plain_step here (Node n) = (refl, omega arith)
  plain_step None (Key values) = (refl, omega arith)
  plain_step (Some n) (Key values) = plain_array 1 (keys_json table (keys_of table n) values) (plain_keys (keys_of table n) values)
  plain_step here (Item value) = let p = plain_value here value in (or_from (has_float (value_json table here value)) false p.0 refl, omega (arith, p.1))

  plain_steps : (here : Option ℕ) (path : List Step) → PlainItems 2 (steps_json table here path)
  plain_steps here [] = (refl, omega arith)
  plain_steps here (step ∷ path) = plain_cons 2 (step_json table here step) (steps_json table (node_from here (step ∷ [])) path) (plain_step here step) (plain_steps (node_from here (step ∷ [])) path)

  plain_path : (path : List Step) → Plain 3 (path_json table path)
  plain_path path = plain_array 2 (steps_json table None path) (plain_steps None path)

  -- ---- rows

  plain_cell : (here : Option ℕ) (cell : Option Cell) → Plain 3 (cell_json table here cell)
  plain_cell here None = plain_null 3
  plain_cell here (Some Mark) = (refl, omega arith)
  plain_cell here (Some (Leaf value)) = let p = plain_value here value in (p.0, omega (arith, p.1))

  plain_patch : (p : Patch) → Plain 4 (patch_json table p)
  plain_patch p =
      let c : Data = cell_json table (node_of p.path) p.cell in
      plain_array 3 (path_json table p.path ∷ c ∷ []) (plain_cons 3 (path_json table p.path) (c ∷ []) (plain_path p.path) (plain_cons 3 c [] (plain_cell (node_of p.path) p.cell) (refl, omega arith)))

  plain_patches : (ps : List Patch) → PlainItems 4 (map (patch_json table) ps)
  plain_patches [] = (refl, omega arith)
  plain_patches (p ∷ ps) = plain_cons 4 (patch_json table p) (map (patch_json table) ps) (plain_patch p) (plain_patches ps)

  plain_store : (ps : List Patch) → Plain 5 (store_json table ps)
  plain_store ps = plain_array 4 (map (patch_json table) ps) (plain_patches ps)

  pub plain_frame : (f : Frame) → Plain 6 (frame_json table f)
  plain_frame f =
      let c = plain_store f.config in
      let o = plain_store f.oper in
      let a : Bool = has_float (store_json table f.config) in
      let b : Bool = has_float (store_json table f.oper) in
      (or_from a (b || false) c.0 (or_from b false o.0 refl), omega (arith, c.1, o.1))
