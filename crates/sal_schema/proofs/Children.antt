-- Properties of a data node, and that its name denotes it.
use Rattle.std.proofs.Common.{◌≡◌, ℕ, zero, suc, ◌+◌, true, false, cond, IsTrue, List, [], ◌∷◌, ◌++◌, get_or, Option, Some, None, refl, sym, ap, subst, ◌∙◌, arith}
use Rattle.std.specs.Prelude.{Contains, option_map, option_and_then}
use Rattle.std.specs.List.{slice_get}
use Rattle.std.specs.Option.{option_map_or}
use Rattle.std.specs.Cmp.{eq_by_cmp_equiv}
use Rattle.std.proofs.lemmas.Bool.{and_parts}
use Rattle.std.proofs.lemmas.List.Elements.{Contains-append_right}
use Rattle.std.proofs.lemmas.List.Sorted.{IsPermutation-refl}
use Rattle.sal_schema.specs.declared.names.Named.{Named}
use Rattle.sal_schema.specs.declared.table.NodeInfo.{NodeInfo}
use Rattle.sal_schema.specs.declared.table.SchemaTable.{SchemaTable}
use Rattle.sal_schema.specs.Kinds.{is_data}
use Rattle.sal_schema.specs.Names.{name_cmp-IsTotalOrder, is_called, lookup, are_distinct, named, name_of_parts, data_at, data_names, module_names, module_called, child_of}
use Rattle.sal_schema.specs.Table.{each_from, data_node, data_parent, is_data_child, is_kind, is_same, module_of, name_of, module_name}
use Rattle.sal_schema.specs.Valid.{IsTable, is_identifier}
use Rattle.sal_schema.proofs.Facts.{slice_get_some, slice_get_there, module_is_there, numbers_at}
use Rattle.sal_schema.proofs.Numbered.{list_all-at}
use Rattle.sal_schema.proofs.Searched.{lookup-Finds}
use Rattle.sal_schema.specs.Lookups.{own_module}
use Rattle.sal_schema.proofs.Childless.{same-some}

pub same-is : (o parent : Option ℕ) → is_same o parent ≡ true → o ≡ parent
same-is None None e = refl
same-is (Some q) None e = cc
same-is o (Some p) e = same-some o p e

-- ---- elements listed under their own names

module _ {X : Type 0} (f : ℕ → X → List Named) where
  listed : (xs : List X) (i k n : ℕ) (x : X) (entry : Named) → slice_get xs k ≡ Some x → n ≡ i + k → f n x ≡ entry ∷ [] → Contains (each_from f i xs) entry
  listed [] i k n x entry e place is = cc
  listed (y ∷ xs) i zero n x entry e place is =
      let same : y ≡ x = cc in
      let start : i ≡ n = omega arith in
      let first : f i y ≡ entry ∷ [] = (λ j. f (start j) (same j)) ∙ is in
      subst (λ ys. Contains (ys ++ each_from f (i + 1) xs) entry) (sym first) (0, omega arith, refl)
  listed (y ∷ xs) i (suc k) n x entry e place is = Contains-append_right (f i y) (each_from f (i + 1) xs) entry (listed xs (i + 1) k n x entry e (omega arith) is)

pub called_itself : (entry : Named) → is_called entry.name entry ≡ true
called_itself entry = let laws = eq_by_cmp_equiv name_cmp-IsTotalOrder in laws.refl entry.name

found_itself : (names : List Named) (entry : Named) → IsTrue (are_distinct names) → Contains names entry → lookup names entry.name ≡ Some entry.number
found_itself names entry distinct there = sym (lookup-Finds names names entry.name (Some entry.number) distinct (IsPermutation-refl names) (entry, there, called_itself entry, refl))

pub first_default : (xs : List (List ℕ)) (k : ℕ) (d x : List ℕ) → slice_get xs k ≡ Some x → get_or xs k d ≡ x
first_default [] k d x e = cc
first_default (y ∷ xs) zero d x e = cc
first_default (y ∷ xs) (suc k) d x e = first_default xs k d x e

-- what is known of a node for data
pub record IsChild (table : SchemaTable) (parent : Option ℕ) (n : ℕ) : Type 0 where
  pub node : NodeInfo
  pub module_text : List ℕ
  pub there : slice_get table.nodes n ≡ Some node
  pub is_for_data : is_data node.kind ≡ true
  pub above : data_node table node.parent ≡ parent
  pub of_module : slice_get table.modules node.module ≡ Some module_text
  pub named_well : is_identifier node.name ≡ true
  pub module_named_well : is_identifier module_text ≡ true

module _ (table : SchemaTable) (good : IsTable table) where
  kind_there : (n : ℕ) → is_kind is_data table n ≡ true → (node : NodeInfo) × (slice_get table.nodes n ≡ Some node) × (is_data node.kind ≡ true)
  kind_there n e = by (slice_get table.nodes n) refl e
    where
      by : (o : Option NodeInfo) → slice_get table.nodes n ≡ o → option_map_or is_data (option_map (λ (node : NodeInfo). node.kind) o) false ≡ true → (node : NodeInfo) × (slice_get table.nodes n ≡ Some node) × (is_data node.kind ≡ true)
      by None at e = cc
      by (Some node) at e = (node, at, e)

  pub child : (parent : Option ℕ) (n : ℕ) → is_data_child table parent n ≡ true → IsChild table parent n
  child parent n e =
      let (of_kind, below) = and_parts (is_kind is_data table n) (is_same (data_parent table n) parent) e in
      let (node, there, is) = kind_there n of_kind in
      let (inside, here) = slice_get_some table.nodes n node there in
      let above : data_node table node.parent ≡ parent = ap (λ o. data_node table (option_and_then (λ (node : NodeInfo). node.parent) o)) (sym there) ∙ same-is (data_parent table n) parent below in
      let known = module_is_there table n node (numbers_at table n node good inside here) in
      let (text, of_module) = slice_get_there table.modules node.module known in
      let (at2, here2) = slice_get_some table.modules node.module text of_module in
      record {
        node = node;
        module_text = text;
        there = there;
        is_for_data = is;
        above = above;
        of_module = of_module;
        named_well = subst (λ (x : NodeInfo). is_identifier x.name ≡ true) (sym here) (list_all-at (λ (x : NodeInfo). is_identifier x.name) table.nodes n node good.names inside);
        module_named_well = subst (λ t. is_identifier t ≡ true) (sym here2) (list_all-at is_identifier table.modules node.module text good.module_names known);
      }

  -- a module's name names it
  pub module_known : (m : ℕ) (text : List ℕ) → slice_get table.modules m ≡ Some text → module_called table text ≡ Some m
  module_known m text at =
      found_itself (module_names table) (named None 0 text m) good.distinct.modules
      (listed (λ m text. named None 0 text m ∷ []) table.modules 0 m m text (named None 0 text m) at (omega arith) refl)

  module _ (parent : Option ℕ) (n : ℕ) (c : IsChild table parent n) where
    pub module_name-is : module_name table c.node.module ≡ c.module_text
    module_name-is = first_default table.modules c.node.module [] c.module_text c.of_module

    pub module_of-is : module_of table n ≡ Some c.node.module
    module_of-is = ap (option_map (λ (node : NodeInfo). node.module)) c.there

    pub name_of-is : name_of table n ≡ c.node.name
    name_of-is = ap (λ o. option_map_or (λ (node : NodeInfo). node.name) o []) c.there

    name_found : lookup (data_names table) (name_of_parts parent c.node.module c.node.name) ≡ Some n
    name_found =
        let entry = named (data_node table c.node.parent) c.node.module c.node.name n in
        let here : data_at table n c.node ≡ entry ∷ [] = ap (λ b. cond b (entry ∷ []) []) c.is_for_data in
        ap (λ p. lookup (data_names table) (name_of_parts p c.node.module c.node.name)) (sym c.above)
        ∙ found_itself (data_names table) entry good.distinct.data_nodes (listed (data_at table) table.nodes 0 n n c.node entry c.there (omega arith) here)

    -- the child of this name in its module
    pub child_of-name : child_of table parent c.module_text c.node.name ≡ Some n
    child_of-name = ap (option_and_then (λ k. lookup (data_names table) (name_of_parts parent k c.node.name))) (module_known c.node.module c.module_text c.of_module) ∙ name_found

    -- the name of its module
    pub own_module-is : own_module table n ≡ c.module_text
    own_module-is = ap (λ o. option_map_or (module_name table) o []) module_of-is ∙ module_name-is

    -- its name, with that of its module, means it again
    pub child-again : child_of table parent (own_module table n) (name_of table n) ≡ Some n
    child-again = (λ i. child_of table parent (own_module-is i) (name_of-is i)) ∙ child_of-name
