-- A number past those of a schema's nodes has no children.
use Rattle.std.proofs.Common.{◌≡◌, ℕ, ◌+◌, ◌≤◌, IsTrue, true, false, nat_lt, List, [], ◌∷◌, ◌++◌, length, Option, Some, None, refl, ap, ◌∙◌, arith}
use Rattle.std.proofs.lemmas.Bool.Decides.{nat_tests}
use Rattle.std.specs.Prelude.{if◌then◌else◌}
use Rattle.std.specs.List.{slice_get}
use Rattle.std.specs.Option.{option_map_or}
use Rattle.sal_schema.specs.declared.table.NodeInfo.{NodeInfo}
use Rattle.sal_schema.specs.declared.table.SchemaTable.{SchemaTable}
use Rattle.sal_schema.specs.Table.{all_from, child_at, children_in, children_of, is_same}
use Rattle.sal_schema.specs.Valid.{IsTable, has_numbers}
use Rattle.sal_schema.proofs.Conjuncts.{and_first, and_second}

-- a parent before k is not the node n after it
other_parent : (parent : Option ℕ) (k n : ℕ) → k ≤ n → IsTrue (option_map_or (λ p. nat_lt p k) parent true) → is_same parent (Some n) ≡ false
other_parent None k n far h = refl
other_parent (Some p) k n far h = grind (arith, nat_tests)

module _ (table : SchemaTable) (n : ℕ) where
  no_child : (k : ℕ) (node : NodeInfo) → k ≤ n → IsTrue (has_numbers table k node) → child_at (Some n) k node ≡ []
  no_child k node far h = ap (λ b. if b then k ∷ [] else []) (other_parent node.parent k n far (and_first _ _ (and_first _ _ h)))

  no_children : (i : ℕ) (nodes : List NodeInfo) → i + length nodes ≤ n → IsTrue (all_from (has_numbers table) i nodes) → children_in i nodes (Some n) ≡ []
  no_children i [] far h = refl
  no_children i (node ∷ nodes) far h =
      ap (λ ns. ns ++ children_in (i + 1) nodes (Some n)) (no_child i node (omega (arith, far)) (and_first (has_numbers table i node) (all_from (has_numbers table) (i + 1) nodes) h))
      ∙ no_children (i + 1) nodes (omega (arith, far)) (and_second (has_numbers table i node) (all_from (has_numbers table) (i + 1) nodes) h)

  pub none_past : (place : ℕ) → IsTable table → length table.nodes ≤ n → slice_get (children_of table (Some n)) place ≡ None
  none_past place good far = ap (λ ns. slice_get ns place) (no_children 0 table.nodes (omega (arith, far)) good.numbers)
