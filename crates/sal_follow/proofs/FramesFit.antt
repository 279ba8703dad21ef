-- The rows of a frame fit the schema.
use Rattle.std.proofs.Common.{◌≡◌, ℕ, ◌==◌, ◌&&◌, Bool, true, false, List, [], ◌∷◌, length, Option, Some, None, if◌then◌else◌, refl, ap, sym, subst, ◌∙◌}
use Rattle.std.specs.Prelude.{Result, Ok, Err, is_some, nat_le, option_map, option_and_then, codes}
use Rattle.std.proofs.lemmas.Bool.{and_parts, and_from}
use Rattle.serde_json.specs.Data.{Data, Items, no_items, item, Members}
use Rattle.serde_json.specs.Find.{as_array, as_object, as_null, get_member}
use Rattle.sal_types.specs.declared.value.Value.{Value}
use Rattle.sal_types.specs.declared.value.Cell.{Cell}
use Rattle.sal_types.specs.declared.value.Cell.TheVariants.{Mark, Leaf}
use Rattle.sal_types.specs.declared.value.Step.{Step}
use Rattle.sal_types.specs.declared.value.Step.TheVariants.{Node}
use Rattle.sal_rows.specs.declared.rows.patch.Patch.{Patch}
use Rattle.sal_schema.specs.declared.table.SchemaTable.{SchemaTable}
use Rattle.sal_schema.specs.Fitting.{has_mark, has_value, is_at_leaf, has_own_row}
use Rattle.sal_schema.specs.Kinds.{is_leaf}
use Rattle.sal_schema.specs.Paths.{fits_path, last_step}
use Rattle.sal_schema.specs.Table.{is_kind}
use Rattle.sal_schema.specs.Values.{is_of_node}
use Rattle.sal_data.specs.Read.{node_scalar}
use Rattle.sal_data.proofs.ReadParts.{value_fits}
use Rattle.sal_near.specs.Near.{cell_or_none_fits, patch_fits, patches_fit}
use Rattle.sal_follow.specs.declared.frame.Frame.{Frame}
use Rattle.sal_follow.specs.Frames as spec
use Rattle.sal_follow.specs.States.{FrameFits}

-- the result of a function on an option
given : {A B : Type 0} (f : A → Option B) (o : Option A) (y : B) → option_and_then f o ≡ Some y → (x : A) × (o ≡ Some x) × (f x ≡ Some y)
given f None y e = cc
given f (Some x) y e = (x, refl, e)

mapped : {A B : Type 0} (f : A → B) (o : Option A) (y : B) → option_map f o ≡ Some y → (x : A) × (o ≡ Some x) × (f x ≡ y)
mapped f None y e = cc
mapped f (Some x) y e = (x, refl, cc)

-- both are there
paired : {A B C : Type 0} (f : A → B → C) (a : Option A) (b : Option B) (y : C) → spec.both f a b ≡ Some y → (x : A) × (z : B) × (a ≡ Some x) × (b ≡ Some z) × (f x z ≡ y)
paired f a b y e =
    let (x, is, e1) = given (λ x. option_map (f x) b) a y e in
    let (z, has, e2) = mapped (f x) b y e1 in
    (x, z, is, has, e2)

-- a value that passes a test
tested : {A : Type 0} (b : Bool) (x y : A) → (if b then Some x else None) ≡ Some y → (b ≡ true) × (x ≡ y)
tested true x y e = (refl, cc)
tested false x y e = cc

module _ (table : SchemaTable) where
  path-fits : (json : Data) (path : List Step) → spec.path_in table json ≡ Some path → fits_path table path ≡ true
  path-fits json path e =
      let (items, is, e1) = given (spec.path_of table) (as_array json) path e in
      let (steps, has, e2) = given (spec.if_path table) (spec.steps_in table None items) path e1 in
      let (good, same) = tested (nat_le (length steps) 32 && fits_path table steps) steps path e2 in
      sym (ap (fits_path table) same) ∙ (and_parts (nat_le (length steps) 32) (fits_path table steps) good).1

  leaf-fits : (step : Option Step) (json : Data) (o : Option Cell) → is_at_leaf table step ≡ true → spec.leaf_in table step json ≡ Some o → (value : Value) × (o ≡ Some (Leaf value)) × (has_value table step value ≡ true)
  leaf-fits None json o at e = cc
  leaf-fits (Some (Node n)) json o at e =
      let (value, is, e1) = mapped spec.leaf_cell (spec.value_at table n json) o e in
      (value, sym e1, and_from (is_kind is_leaf table n) (is_of_node table n value) at (value_fits table n json value (good (node_scalar table n json) value is)))
    where
      good : {E : Type 0} (r : Result Value E) (value : Value) → spec.done r ≡ Some value → r ≡ Ok value
      good (Ok x) value e = let same : x ≡ value = cc in ap Ok same
      good (Err x) value e = cc
  leaf-fits (Some step) json o at e = cc

  mark-there : (json : Data) (o : Option Cell) → spec.mark_in json ≡ Some o → o ≡ Some Mark
  mark-there json o e =
      let (ms, is, e1) = given spec.mark_of (as_object json) o e in
      sym (tested (spec.count ms == 0) (Some Mark) o e1).1

  cell-fits : (path : List Step) (json : Data) (o : Option Cell) → spec.cell_in table path json ≡ Some o → cell_or_none_fits table path o ≡ true
  cell-fits path json o e = elim (is_some (as_null json)) as (λ b. (if b then spec.no_cell table path else spec.some_cell table path json) ≡ Some o → cell_or_none_fits table path o ≡ true) [
    | true ↦ λ f. ap (cell_or_none_fits table path) (sym (tested (has_own_row table path) None o f).1)
    | false ↦ λ f. some f
  ] e
    where
      some : spec.some_cell table path json ≡ Some o → cell_or_none_fits table path o ≡ true
      some f = elim (has_mark table (last_step path)) as (λ b. has_mark table (last_step path) ≡ b → (if b then spec.mark_in json else if is_at_leaf table (last_step path) then spec.leaf_in table (last_step path) json else None) ≡ Some o → cell_or_none_fits table path o ≡ true) [
        | true ↦ λ mark g. ap (cell_or_none_fits table path) (mark-there json o g) ∙ mark
        | false ↦ λ mark g. leaf g
      ] refl f
        where
          leaf : (if is_at_leaf table (last_step path) then spec.leaf_in table (last_step path) json else None) ≡ Some o → cell_or_none_fits table path o ≡ true
          leaf g = elim (is_at_leaf table (last_step path)) as (λ b. is_at_leaf table (last_step path) ≡ b → (if b then spec.leaf_in table (last_step path) json else None) ≡ Some o → cell_or_none_fits table path o ≡ true) [
            | true ↦ λ at h. let (value, is, fine) = leaf-fits (last_step path) json o at h in ap (cell_or_none_fits table path) is ∙ fine
            | false ↦ λ at h. cc
          ] refl g

  pair-fits : (p c : Data) (q : Patch) → spec.pair_of table p c ≡ Some q → patch_fits table q ≡ true
  pair-fits p c q e =
      let (path, is, e1) = given (λ path. option_map (spec.patch path) (spec.cell_in table path c)) (spec.path_in table p) q e in
      let (cell, has, e2) = mapped (spec.patch path) (spec.cell_in table path c) q e1 in
      sym (ap (patch_fits table) e2) ∙ and_from (fits_path table path) (cell_or_none_fits table path cell) (path-fits p path is) (cell-fits path c cell has)

  items-fit : (items : Items) (q : Patch) → spec.pair_in table items ≡ Some q → patch_fits table q ≡ true
  items-fit (item p (item c no_items)) q e = pair-fits p c q e
  items-fit items q e = cc

  patch-fits : (json : Data) (q : Patch) → spec.patch_in table json ≡ Some q → patch_fits table q ≡ true
  patch-fits json q e = let (items, is, e1) = given (spec.pair_in table) (as_array json) q e in items-fit items q e1

  patches-fit : (items : Items) (ps : List Patch) → spec.patches_in table items ≡ Some ps → patches_fit table ps ≡ true
  patches-fit no_items ps e = let same : [] ≡ ps = cc in sym (ap (patches_fit table) same)
  patches-fit (item json items) ps e =
      let (q, qs, is, has, same) = paired (λ (p : Patch) ps. p ∷ ps) (spec.patch_in table json) (spec.patches_in table items) ps e in
      sym (ap (patches_fit table) same) ∙ and_from (patch_fits table q) (patches_fit table qs) (patch-fits json q is) (patches-fit items qs has)

  store-fits : (json : Data) (ps : List Patch) → spec.store_in table json ≡ Some ps → patches_fit table ps ≡ true
  store-fits json ps e =
      let (items, is, e1) = given (spec.rows_in table) (as_array json) ps e in
      let (qs, has, e2) = given spec.if_ascending (spec.patches_in table items) ps e1 in
      let (up, same) = tested (spec.is_ascending qs) qs ps e2 in
      sym (ap (patches_fit table) same) ∙ patches-fit items qs has

  named-fits : (name : List ℕ) (ms : Members) (ps : List Patch) → spec.named name ms (spec.store_in table) ≡ Some ps → patches_fit table ps ≡ true
  named-fits name ms ps e = let (json, is, e1) = given (spec.store_in table) (get_member name ms) ps e in store-fits json ps e1

  stores-fit : (ms : Members) (n : ℕ) (f : Frame) → spec.stores_in table ms n ≡ Some f → FrameFits table f
  stores-fit ms n f e =
      let (config, oper, is, has, same) = paired (spec.frame n) (spec.named (codes "config") ms (spec.store_in table)) (spec.named (codes "operational") ms (spec.store_in table)) f e in
      subst (λ (f : Frame). FrameFits table f) same (record { config = named-fits (codes "config") ms config is; oper = named-fits (codes "operational") ms oper has })

  pub frame-fits : (text : List ℕ) (f : Frame) → spec.frame_in table text ≡ Some f → FrameFits table f
  frame-fits text f e =
      let (ms, is, e1) = given (spec.members_in table) (option_and_then as_object (spec.data_in text)) f e in
      by ms (spec.count ms == 3) e1
    where
      by : (ms : Members) (b : Bool) → (if b then option_and_then (spec.stores_in table ms) (spec.named (codes "commit") ms spec.number_in) else None) ≡ Some f → FrameFits table f
      by ms true e = let (n, is, e1) = given (spec.stores_in table ms) (spec.named (codes "commit") ms spec.number_in) f e in stores-fit ms n f e1
      by ms false e = cc
