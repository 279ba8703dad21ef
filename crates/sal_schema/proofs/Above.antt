-- The data parent of a node.
use Rattle.std.proofs.Common.{◌≡◌, ℕ, suc, ◌+◌, ◌-◌, ◌<◌, ◌≤◌, Bool, true, false, cond, not, List, [], ◌∷◌, ◌++◌, length, get_or, map, take, Option, Some, None, sym, refl, ap, ◌∙◌, arith}
use Rattle.std.proofs.lemmas.List.{get_or-map, get_or-take, map_more, length-take-le}
use Rattle.std.specs.Prelude.{IfSome, option_map}
use Rattle.std.specs.List.{slice_get}
use Rattle.std.specs.Option.{option_map_or, option_and_then}
use Rattle.sal_schema.specs.declared.table.NodeInfo.{NodeInfo}
use Rattle.sal_schema.specs.declared.table.SchemaTable.{SchemaTable}
use Rattle.sal_schema.specs.Kinds.{is_choice_or_case}
use Rattle.sal_schema.specs.Indexed.{passed_over}
use Rattle.sal_schema.specs.Table.{closest, data_node}
use Rattle.sal_schema.specs.Valid.{IsTable}
use Rattle.sal_schema.proofs.Facts.{parent_before, slice_get_some, slice_get_there, lower, closest-None, closest-Some, closest-enough}
use Rattle.sal_schema.proofs.Childless.{stays}

abbrev found_for : SchemaTable → NodeInfo → Option ℕ
found_for table node = data_node table node.parent

turned : {X : Type 0} (b : Bool) (x y z : X) → x ≡ y → cond b x z ≡ cond (not b) z y
turned true x y z e = e
turned false x y z e = refl

module _ (table : SchemaTable) (good : IsTable table) (p m : ℕ) (node : NodeInfo) (at : slice_get table.nodes p ≡ Some node) (all : length table.nodes ≡ suc m) where
  -- one step up
  above_one : data_node table (Some p) ≡ cond (not (is_choice_or_case node.kind)) (Some p) (closest stays table m node.parent)
  above_one =
      ap (λ n. closest stays table n (Some p)) all ∙ closest-Some stays table m p
      ∙ ap (λ r. cond (option_map_or stays (option_map (λ (node : NodeInfo). node.kind) r) false) (Some p) (closest stays table m (option_and_then (λ (node : NodeInfo). node.parent) r))) at

  -- and on
  above_rest : p ≤ m → closest stays table m node.parent ≡ data_node table node.parent
  above_rest room =
      let (inside, here) = slice_get_some table.nodes p node at in
      let low = parent_before table table.nodes p node good refl inside here in
      closest-enough stays table m (length table.nodes) node.parent good (lower node.parent p m low room) (lower node.parent p (length table.nodes) low (omega arith))

-- the data parent, if those of the nodes before are known
pub passed_over-data : (table : SchemaTable) (nodes : List NodeInfo) (done : List (Option ℕ)) (i : ℕ) (here : Option ℕ) → IsTable table → nodes ≡ table.nodes
    → i ≤ length nodes → done ≡ map (found_for table) (take i nodes) → IfSome here (λ p. p < i) → passed_over nodes done here ≡ data_node table here
passed_over-data table nodes done i None good all few known low = sym (closest-None stays table (length table.nodes))
passed_over-data table nodes done i (Some p) good all few known low =
    let (node, at) = slice_get_there nodes p (omega arith) in
    let (inside, here) = slice_get_some nodes p node at in
    let below : slice_get table.nodes p ≡ Some node = sym (ap (λ ys. slice_get ys p) all) ∙ at in
    let long : length table.nodes ≡ suc (length table.nodes - 1) = omega (arith, ap length all) in
    let found : get_or done p None ≡ data_node table node.parent =
    ap (λ ys. get_or ys p None) known ∙ get_or-map (found_for table) (take i nodes) p node None (omega (arith, length-take-le i nodes few))
    ∙ ap (found_for table) (get_or-take i nodes p node low ∙ sym here) in
    let rest = above_rest table good p (length table.nodes - 1) node below long (omega (arith, ap length all)) in
    ap (λ r. cond (option_map_or (λ (node : NodeInfo). is_choice_or_case node.kind) r false) (get_or done p None) (Some p)) at
    ∙ turned (is_choice_or_case node.kind) (get_or done p None) (closest stays table (length table.nodes - 1) node.parent) (Some p) (found ∙ sym rest)
    ∙ sym (above_one table good p (length table.nodes - 1) node below long)

-- one node more
pub one_more : (table : SchemaTable) (nodes : List NodeInfo) (done : List (Option ℕ)) (i : ℕ) (node : NodeInfo) → IsTable table → nodes ≡ table.nodes
    → i < length nodes → node ≡ get_or nodes i node → done ≡ map (found_for table) (take i nodes)
    → done ++ passed_over nodes done node.parent ∷ [] ≡ map (found_for table) (take (i + 1) nodes)
one_more table nodes done i node good all inside here known =
    let parent = passed_over-data table nodes done i node.parent good all (omega arith) known (parent_before table nodes i node good all inside here) in
    ap (λ x. done ++ x ∷ []) (parent ∙ ap (found_for table) here) ∙ ap (λ ys. ys ++ found_for table (get_or nodes i node) ∷ []) known ∙ sym (map_more (found_for table) nodes i node inside)
