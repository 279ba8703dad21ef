-- The test of a table and what a table of a schema is.
use Rattle.std.proofs.Common.{◌≡◌, ℕ, ◌+◌, Bool, true, false, ◌&&◌, IsTrue, List, [], ◌∷◌, refl, sym, ap, subst, ◌∙◌}
use Rattle.std.specs.Prelude.{◌↔◌, Result, Ok, Err, IfOk}
use Rattle.sal_types.specs.declared.memory.NoMemory.{NoMemory}
use Rattle.std.specs.List.{list_all}
use borrow.Author.Tests.{ltb-true, lt-ltb}
use Rattle.sal_schema.specs.declared.table.NodeInfo.{NodeInfo}
use Rattle.sal_schema.specs.declared.table.SchemaTable.{SchemaTable}
use Rattle.sal_schema.specs.Table.{all_from}
use Rattle.sal_schema.specs.Valid.{IsTable, IsSmall, HasDistinctNames, has_numbers, stands_right, is_identifier, has_its_type, has_its_keys, has_its_uniques}
use Rattle.sal_schema.proofs.Conjuncts.{and_first, and_second}
use Rattle.sal_schema_of_table.specs.Whole.{is_small, is_good_node, has_distinct_names, is_table}
use Rattle.sal_schema.proofs.Fronts.{both}

shuffle : (a b c d : Bool) → ((a && b) && (c && d)) ≡ ((a && c) && (b && d))
shuffle true true c d = refl
shuffle true false true d = refl
shuffle true false false d = refl
shuffle false b c d = refl

-- a test of two parts
all_from-and : {X : Type 0} (f g : ℕ → X → Bool) (i : ℕ) (xs : List X) → all_from (λ n x. f n x && g n x) i xs ≡ (all_from f i xs && all_from g i xs)
all_from-and f g i [] = refl
all_from-and f g i (x ∷ xs) = ap (λ b. (f i x && g i x) && b) (all_from-and f g (i + 1) xs) ∙ shuffle (f i x) (g i x) (all_from f (i + 1) xs) (all_from g (i + 1) xs)

-- a test that looks at no number
all_from-all : {X : Type 0} (f : X → Bool) (i : ℕ) (xs : List X) → all_from (λ n x. f x) i xs ≡ list_all f xs
all_from-all f i [] = refl
all_from-all f i (x ∷ xs) = ap (λ b. f x && b) (all_from-all f (i + 1) xs)

module _ (table : SchemaTable) where
  abbrev has_good_nodes : Bool
  has_good_nodes =
      ((((all_from (has_numbers table) 0 table.nodes && list_all (stands_right table) table.nodes) && list_all (λ (node : NodeInfo). is_identifier node.name) table.nodes)
      && list_all has_its_type table.nodes)
      && all_from (has_its_keys table) 0 table.nodes)
      && all_from (has_its_uniques table) 0 table.nodes

  nodes-are : all_from (is_good_node table) 0 table.nodes ≡ has_good_nodes
  nodes-are =
      let nodes = table.nodes in
      let one : ℕ → NodeInfo → Bool = has_numbers table in
      let two : ℕ → NodeInfo → Bool = λ n node. one n node && stands_right table node in
      let three : ℕ → NodeInfo → Bool = λ n node. two n node && is_identifier node.name in
      let four : ℕ → NodeInfo → Bool = λ n node. three n node && has_its_type node in
      let five : ℕ → NodeInfo → Bool = λ n node. four n node && has_its_keys table n node in
      all_from-and five (has_its_uniques table) 0 nodes
      ∙ ap (λ b. b && all_from (has_its_uniques table) 0 nodes)
      (all_from-and four (has_its_keys table) 0 nodes
      ∙ ap (λ b. b && all_from (has_its_keys table) 0 nodes)
      (all_from-and three (λ n node. has_its_type node) 0 nodes
      ∙ (λ i. (all_from-and two (λ n (node : NodeInfo). is_identifier node.name) 0 nodes
      ∙ (λ j. (all_from-and one (λ n node. stands_right table node) 0 nodes ∙ ap (λ b. all_from one 0 nodes && b) (all_from-all (stands_right table) 0 nodes)) j
      && all_from-all (λ (node : NodeInfo). is_identifier node.name) 0 nodes j)) i && all_from-all has_its_type 0 nodes i)))

  IsSmall-from : IsTrue (is_small table) → IsSmall table
  IsSmall-from h =
      let three = and_first _ _ h in
      let two = and_first _ _ three in
      record {
        nodes = ltb-true _ _ (and_first _ _ two);
        types = ltb-true _ _ (and_second _ _ two);
        modules = ltb-true _ _ (and_second _ _ three);
        identities = ltb-true _ _ (and_second _ _ h);
      }

  is_small-from : IsSmall table → IsTrue (is_small table)
  is_small-from h = both _ _ (both _ _ (both _ _ (lt-ltb _ _ h.nodes) (lt-ltb _ _ h.types)) (lt-ltb _ _ h.modules)) (lt-ltb _ _ h.identities)

  HasDistinctNames-from : IsTrue (has_distinct_names table) → HasDistinctNames table
  HasDistinctNames-from h =
      let four = and_first _ _ h in
      let three = and_first _ _ four in
      let two = and_first _ _ three in
      record {
        modules = and_first _ _ two;
        identities = and_second _ _ two;
        rpcs = and_second _ _ three;
        notifications = and_second _ _ four;
        data_nodes = and_second _ _ h;
      }

  has_distinct_names-from : HasDistinctNames table → IsTrue (has_distinct_names table)
  has_distinct_names-from h = both _ _ (both _ _ (both _ _ (both _ _ h.modules h.identities) h.rpcs) h.notifications) h.data_nodes

  pub IsTable-from : IsTrue (is_table table) → IsTable table
  IsTable-from h =
      let five = and_first _ _ h in
      let four = and_first _ _ five in
      let three = and_first _ _ four in
      let two = and_first _ _ three in
      let nodes : IsTrue has_good_nodes = subst IsTrue nodes-are (and_second _ _ four) in
      let nodes_five = and_first _ _ nodes in
      let nodes_four = and_first _ _ nodes_five in
      let nodes_three = and_first _ _ nodes_four in
      let nodes_two = and_first _ _ nodes_three in
      record {
        small = IsSmall-from (and_first _ _ two);
        numbers = and_first _ _ nodes_two;
        places = and_second _ _ nodes_two;
        names = and_second _ _ nodes_three;
        leaf_types = and_second _ _ nodes_four;
        keys = and_second _ _ nodes_five;
        uniques = and_second _ _ nodes;
        module_names = and_second _ _ two;
        identities = and_second _ _ three;
        types = and_second _ _ five;
        distinct = HasDistinctNames-from (and_second _ _ h);
      }

  pub is_table-from : IsTable table → IsTrue (is_table table)
  is_table-from h =
      let nodes : IsTrue has_good_nodes = both _ _ (both _ _ (both _ _ (both _ _ (both _ _ h.numbers h.places) h.names) h.leaf_types) h.keys) h.uniques in
      both _ _ (both _ _ (both _ _ (both _ _ (both _ _ (is_small-from h.small) h.module_names) h.identities) (subst IsTrue (sym nodes-are) nodes)) h.types) (has_distinct_names-from h.distinct)

  pub says : (r : Result Bool NoMemory) → IfOk r (λ b. b ≡ is_table table) → IfOk r (λ b. IsTrue b ↔ IsTable table)
  says (Ok b) is = (λ h. IsTable-from (subst IsTrue is h), λ h. subst IsTrue (sym is) (is_table-from h))
  says (Err e) is = tt
