-- A name denotes a data node below that parent.
use Rattle.std.proofs.Common.{◌≡◌, ℕ, suc, ◌+◌, ◌-◌, ◌≤◌, Bool, true, false, cond, List, [], ◌∷◌, ◌++◌, Option, Some, None, refl, sym, ap, ◌∙◌, arith}
use Rattle.std.specs.Prelude.{option_map, find, if◌then◌else◌}
use Rattle.std.specs.List.{slice_get}
use Rattle.std.specs.Ordering.{is_eq}
use Rattle.std.specs.declared.cmp.Ordering.{Ordering}
use Rattle.std.specs.declared.cmp.Ordering.TheVariants.{Less, Equal, Greater}
use Rattle.std.specs.FinMap.{nat_cmp-IsAntisymmetric}
use Rattle.std.proofs.lemmas.Bool.Decides.{nat_tests}
use Rattle.std.proofs.lemmas.Option.{option_and_then_some}
use Rattle.sal_types.specs.Order.{then-first}
use Rattle.sal_schema.specs.declared.names.Name.{Name as FullName}
use Rattle.sal_schema.specs.declared.names.Named.{Named}
use Rattle.sal_schema.specs.declared.table.NodeInfo.{NodeInfo}
use Rattle.sal_schema.specs.declared.table.SchemaTable.{SchemaTable}
use Rattle.sal_schema.specs.Kinds.{is_data}
use Rattle.sal_schema.specs.Names.{name_cmp, is_called, lookup, named, name_of_parts, data_at, data_names, module_called, child_of}
use Rattle.sal_schema.specs.Table.{each_from, data_node, is_data_child, is_same}
use Rattle.sal_schema.specs.Valid.{text_eq}
use Rattle.sal_schema.specs.Lookups.{own_module}
use Rattle.sal_pathtext.specs.Words.{Name}
use Rattle.sal_pathtext.specs.Nodes.{meant}

some_same : {X : Type 0} (x y : X) → ◌≡◌ {A = Option X} (Some x) (Some y) → x ≡ y
some_same x y e = cc

none_some : {X P : Type 0} (x : X) → ◌≡◌ {A = Option X} None (Some x) → P
none_some x e = cc

is_equal : (o : Ordering) → is_eq o ≡ true → o ≡ Equal
is_equal Less e = cc
is_equal Equal e = refl
is_equal Greater e = cc

pub same-itself : (o : Option ℕ) → is_same o o ≡ true
same-itself None = refl
same-itself (Some n) = grind (arith, nat_tests)

-- two names of one parent
same_parent : (x y : FullName) → is_eq (name_cmp x y) ≡ true → x.parent ≡ y.parent
same_parent x y e = by x.parent y.parent (is_equal (name_cmp x y) e)
  where
    by : (p q : Option ℕ) → name_cmp (name_of_parts p x.module x.text) (name_of_parts q y.module y.text) ≡ Equal → p ≡ q
    by None None e = refl
    by None (Some q) e = cc
    by (Some p) None e = cc
    by (Some p) (Some q) e = ap Some (nat_cmp-IsAntisymmetric p q (then-first _ _ e))

-- a node for data of this number is there, and its data parent is this one
abbrev pub IsChild : SchemaTable → Option ℕ → Option NodeInfo → Type 0
IsChild table parent found = (node : NodeInfo) × (found ≡ Some node) × (is_data node.kind ≡ true) × (data_node table node.parent ≡ parent)

module _ (table : SchemaTable) (name : FullName) where
  found_in : (nodes : List NodeInfo) (i n : ℕ) → lookup (each_from (data_at table) i nodes) name ≡ Some n → (i ≤ n) × IsChild table name.parent (slice_get nodes (n - i))
  found_in [] i n e = none_some n e
  found_in (node ∷ nodes) i n e =
      by_kind (λ e. let (low, child) = found_in nodes (i + 1) n e in let more : n - i ≡ suc (n - (i + 1)) = omega arith in (omega arith, rw more child)) (is_data node.kind) refl e
    where
      here : Named
      here = named (data_node table node.parent) node.module node.name i

      Here : Type 0
      Here = (i ≤ n) × IsChild table name.parent (slice_get (node ∷ nodes) (n - i))

      Further : Type 0
      Further = lookup (each_from (data_at table) (i + 1) nodes) name ≡ Some n → Here

      by_name : Further → (b : Bool) → is_called name here ≡ b → is_data node.kind ≡ true
          → option_map (λ (entry : Named). entry.number) (cond b (Some here) (find (is_called name) (each_from (data_at table) (i + 1) nodes))) ≡ Some n → Here
      by_name further true is known e =
          let same : i ≡ n = some_same i n e in
          let none : n - i ≡ 0 = omega arith in
          (omega arith, rw none (node, refl, known, same_parent here.name name is))
      by_name further false is known e = further e

      by_kind : Further → (b : Bool) → is_data node.kind ≡ b → lookup (cond b (here ∷ []) [] ++ each_from (data_at table) (i + 1) nodes) name ≡ Some n → Here
      by_kind further true known e = by_name further (is_called name here) refl known e
      by_kind further false known e = further e

-- what is found below a parent is a child of it
pub child_of-is : (table : SchemaTable) (parent : Option ℕ) (m text : List ℕ) (n : ℕ) → child_of table parent m text ≡ Some n → is_data_child table parent n ≡ true
child_of-is table parent m text n e = option_and_then_some (λ k. lookup (data_names table) (name_of_parts parent k text)) (module_called table m) n e (λ k known found. by k found)
  where
    by : (k : ℕ) → lookup (data_names table) (name_of_parts parent k text) ≡ Some n → is_data_child table parent n ≡ true
    by k found =
        let (low, child) = found_in table (name_of_parts parent k text) table.nodes 0 n found in
        let (node, there, known, above) = child in
        let whole : n - 0 ≡ n = omega arith in
        let at : slice_get table.nodes n ≡ Some node = ap (slice_get table.nodes) (sym whole) ∙ there in
        rw at (rw (known, above) (same-itself parent))

pub meant-is : (table : SchemaTable) (parent : Option ℕ) (name : Name) (n : ℕ) → meant table parent name ≡ Some n → is_data_child table parent n ≡ true
meant-is table None (None, own) n e = none_some n e
meant-is table None (Some m, own) n e = child_of-is table None m own n e
meant-is table (Some p) (None, own) n e = child_of-is table (Some p) (own_module table p) own n e
meant-is table (Some p) (Some m, own) n e = by (text_eq m (own_module table p)) e
  where
    by : (b : Bool) → (if b then None else child_of table (Some p) m own) ≡ Some n → is_data_child table (Some p) n ≡ true
    by true e = none_some n e
    by false e = child_of-is table (Some p) m own n e
