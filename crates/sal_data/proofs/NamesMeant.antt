-- What a name means has this name.
use Rattle.std.proofs.Common.{◌≡◌, ◌⊎◌, inl, inr, ℕ, zero, suc, ◌+◌, Bool, true, false, cond, List, [], ◌∷◌, ◌++◌, take, drop, get_or, Option, Some, None, Ok, if◌then◌else◌, refl, sym, ap, subst, ◌∙◌, arith}
use Rattle.std.specs.Prelude.{option_map, option_and_then, find, ◌||◌}
use Rattle.std.specs.List.{slice_get, list_any, position_or_len, before_first, after_first}
use Rattle.std.specs.Option.{option_map_or}
use Rattle.std.specs.Ordering.{is_eq, nat_cmp}
use Rattle.std.specs.declared.cmp.Ordering.TheVariants.{Equal}
use Rattle.std.specs.Cmp.{Equal-is}
use Rattle.std.specs.FinMap.{nat_cmp-IsAntisymmetric, slice_cmp-IsAntisymmetric}
use Rattle.std.proofs.lemmas.Bool.{and_from, not_from_true}
use Rattle.std.proofs.lemmas.Bool.Decides.{nat_tests}
use Rattle.std.proofs.lemmas.Option.{option_and_then_some, same_Some, cond_some}
use Rattle.sal_types.specs.declared.value.Step.{Step}
use Rattle.sal_types.specs.Order.{then-first, then-second}
use Rattle.sal_schema.specs.declared.names.Name.{Name}
use Rattle.sal_schema.specs.declared.names.Named.{Named}
use Rattle.sal_schema.specs.declared.table.NodeInfo.{NodeInfo}
use Rattle.sal_schema.specs.declared.table.SchemaTable.{SchemaTable}
use Rattle.sal_schema.specs.Kinds.{is_data}
use Rattle.sal_schema.specs.Names.{name_cmp, is_called, lookup, named, name_of_parts, module_at, data_at, data_names, module_names, module_called, child_of}
use Rattle.sal_schema.specs.Table.{each_from, data_node, data_parent, is_data_child, is_kind, is_same, module_of, name_of, module_name}
use Rattle.sal_schema.specs.Valid.{IsTable, is_identifier}
use Rattle.sal_schema.proofs.Facts.{slice_get_some, slice_get_there, module_is_there, numbers_at}
use Rattle.sal_schema.proofs.Numbered.{list_all-at}
use Rattle.sal_schema.specs.Lookups.{own_module}
use Rattle.sal_schema.proofs.Children.{first_default, module_known}
use Rattle.sal_json.specs.Named.{is_colon}
use Rattle.sal_json.proofs.Chosen.{from_some, same_ok}
use Rattle.sal_data.specs.Members.{is_qualified, member_name, has_module, if_qualified, qualified_child, plain_child, child_called, name_fault, member_node}
use Rattle.sal_data.proofs.Listed.{In, In-either}

-- ---- names

same_option : (p q : Option ℕ) (m k : ℕ) (t u : List ℕ) → name_cmp (name_of_parts p m t) (name_of_parts q k u) ≡ Equal → (p ≡ q) × ((m ≡ k) × (t ≡ u))
same_option None None m k t u e = (refl, (nat_cmp-IsAntisymmetric m k (then-first _ _ e), slice_cmp-IsAntisymmetric nat_cmp-IsAntisymmetric t u (then-second (nat_cmp m k) _ e)))
same_option None (Some q) m k t u e = cc
same_option (Some p) None m k t u e = cc
same_option (Some p) (Some q) m k t u e =
    let rest = then-second (nat_cmp p q) _ e in
    (ap Some (nat_cmp-IsAntisymmetric p q (then-first _ _ e)), (nat_cmp-IsAntisymmetric m k (then-first _ _ rest), slice_cmp-IsAntisymmetric nat_cmp-IsAntisymmetric t u (then-second (nat_cmp m k) _ rest)))

same_name : (x y : Name) → is_eq (name_cmp x y) ≡ true → (x.parent ≡ y.parent) × ((x.module ≡ y.module) × (x.text ≡ y.text))
same_name x y e = same_option x.parent y.parent x.module y.module x.text y.text ((Equal-is (name_cmp x y)).0 e)

-- what a search finds is listed under the name
found : (names : List Named) (name : Name) (n : ℕ) → lookup names name ≡ Some n → (entry : Named) × In entry names × (is_called name entry ≡ true) × (entry.number ≡ n)
found [] name n e = cc
found (x ∷ names) name n e = by (λ e. found names name n e) (is_called name x) refl e
  where
    by : (lookup names name ≡ Some n → (entry : Named) × In entry names × (is_called name entry ≡ true) × (entry.number ≡ n)) → (b : Bool) → is_called name x ≡ b
        → option_map (λ (entry : Named). entry.number) (cond b (Some x) (find (is_called name) names)) ≡ Some n → (entry : Named) × In entry (x ∷ names) × (is_called name entry ≡ true) × (entry.number ≡ n)
    by later true is e = (x, inl refl, is, same_Some x.number n e)
    by later false is e = let (entry, there, called, number) = later e in (entry, inr there, called, number)

module _ {X : Type 0} (f : ℕ → X → List Named) where
  -- what is listed comes from an element with its number
  came_from : (xs : List X) (i : ℕ) (entry : Named) → In entry (each_from f i xs) → (k : ℕ) × (x : X) × (slice_get xs k ≡ Some x) × In entry (f (i + k) x)
  came_from [] i entry h = absurd h
  came_from (y ∷ xs) i entry h = by (λ h. came_from xs (i + 1) entry h) (In-either entry (f i y) (each_from f (i + 1) xs) h)
    where
      by : (In entry (each_from f (i + 1) xs) → (k : ℕ) × (x : X) × (slice_get xs k ≡ Some x) × In entry (f ((i + 1) + k) x)) → (In entry (f i y)) ⊎ (In entry (each_from f (i + 1) xs))
          → (k : ℕ) × (x : X) × (slice_get (y ∷ xs) k ≡ Some x) × In entry (f (i + k) x)
      by later (inl here) = let same : i ≡ i + 0 = omega arith in (zero, y, refl, subst (λ n. In entry (f n y)) same here)
      by later (inr there) = let (k, x, at, mine) = later there in let same : (i + 1) + k ≡ i + suc k = omega arith in (suc k, x, at, subst (λ n. In entry (f n x)) same mine)

module _ (table : SchemaTable) where
  -- the module of a name has it
  pub module_meant : (text : List ℕ) (m : ℕ) → module_called table text ≡ Some m → slice_get table.modules m ≡ Some text
  module_meant text m e =
      let (entry, there, called, number) = found (module_names table) (name_of_parts None 0 text) m e in
      let (k, own, at, mine) = came_from module_at table.modules 0 entry there in
      elim mine [
        | inl is ↦
            let (_, (_, same)) = same_name entry.name (name_of_parts None 0 text) called in
            let spelled : own ≡ text = sym (ap (λ (x : Named). x.name.text) is) ∙ same in
            let here : 0 + k ≡ m = sym (ap (λ (x : Named). x.number) is) ∙ number in
            let place : k ≡ m = omega arith in
            ap (slice_get table.modules) (sym place) ∙ at ∙ ap Some spelled
        | inr none ↦ absurd none
      ]

  -- what is known of a child by its name
  pub record IsMeant (parent : Option ℕ) (m text : List ℕ) (n : ℕ) : Type 0 where
    pub node : NodeInfo
    pub there : slice_get table.nodes n ≡ Some node
    pub is_for_data : is_data node.kind ≡ true
    pub above : data_node table node.parent ≡ parent
    pub of_module : slice_get table.modules node.module ≡ Some m
    pub called : module_called table m ≡ Some node.module
    pub spelled : node.name ≡ text

  listed_node : (parent : Option ℕ) (text : List ℕ) (k n : ℕ) → lookup (data_names table) (name_of_parts parent k text) ≡ Some n
      → (node : NodeInfo) × (slice_get table.nodes n ≡ Some node) × (is_data node.kind ≡ true) × (data_node table node.parent ≡ parent) × (node.module ≡ k) × (node.name ≡ text)
  listed_node parent text k n e =
      let (entry, there, called, number) = found (data_names table) (name_of_parts parent k text) n e in
      let (j, node, at, mine) = came_from (data_at table) table.nodes 0 entry there in
      by entry called number j node at (is_data node.kind) refl mine
    where
      by : (entry : Named) → is_called (name_of_parts parent k text) entry ≡ true → entry.number ≡ n → (j : ℕ) (node : NodeInfo) → slice_get table.nodes j ≡ Some node → (b : Bool) → is_data node.kind ≡ b
          → In entry (if b then named (data_node table node.parent) node.module node.name (0 + j) ∷ [] else [])
          → (node : NodeInfo) × (slice_get table.nodes n ≡ Some node) × (is_data node.kind ≡ true) × (data_node table node.parent ≡ parent) × (node.module ≡ k) × (node.name ≡ text)
      by entry called number j node at true is (inl same) =
          let (a, (b, c)) = same_name entry.name (name_of_parts parent k text) called in
          let here : 0 + j ≡ n = sym (ap (λ (x : Named). x.number) same) ∙ number in
          let place : j ≡ n = omega arith in
          (node, ap (slice_get table.nodes) (sym place) ∙ at, is, sym (ap (λ (x : Named). x.name.parent) same) ∙ a, sym (ap (λ (x : Named). x.name.module) same) ∙ b, sym (ap (λ (x : Named). x.name.text) same) ∙ c)
      by entry called number j node at true is (inr none) = absurd none
      by entry called number j node at false is none = absurd none

  pub meant : (parent : Option ℕ) (m text : List ℕ) (n : ℕ) → child_of table parent m text ≡ Some n → IsMeant parent m text n
  meant parent m text n e = option_and_then_some (λ k. lookup (data_names table) (name_of_parts parent k text)) (module_called table m) n e (λ k known listed. by k known listed)
    where
      by : (k : ℕ) → module_called table m ≡ Some k → lookup (data_names table) (name_of_parts parent k text) ≡ Some n → IsMeant parent m text n
      by k known listed =
          let (node, there, is, above, module_is, spelled) = listed_node parent text k n listed in
          record {
            node = node;
            there = there;
            is_for_data = is;
            above = above;
            of_module = ap (slice_get table.modules) module_is ∙ module_meant m k known;
            called = known ∙ ap Some (sym module_is);
            spelled = spelled;
          }

  pub same-itself : (o : Option ℕ) → is_same o o ≡ true
  same-itself None = refl
  same-itself (Some n) = grind (arith, nat_tests)

  module _ (parent : Option ℕ) (m text : List ℕ) (n : ℕ) (c : IsMeant parent m text n) where
    meant_child : is_data_child table parent n ≡ true
    meant_child =
        let kind : is_kind is_data table n ≡ true = ap (λ o. option_map_or is_data (option_map (λ (node : NodeInfo). node.kind) o) false) c.there ∙ c.is_for_data in
        let above : data_parent table n ≡ parent = ap (λ o. data_node table (option_and_then (λ (node : NodeInfo). node.parent) o)) c.there ∙ c.above in
        and_from (is_kind is_data table n) (is_same (data_parent table n) parent) kind (ap (λ o. is_same o parent) above ∙ same-itself parent)

    meant_module : own_module table n ≡ m
    meant_module = ap (λ o. option_map_or (module_name table) (option_map (λ (node : NodeInfo). node.module) o) []) c.there ∙ first_default table.modules c.node.module [] m c.of_module

    meant_name : name_of table n ≡ text
    meant_name = ap (λ o. option_map_or (λ (node : NodeInfo). node.name) o []) c.there ∙ c.spelled

    meant_number : module_of table n ≡ Some c.node.module
    meant_number = ap (option_map (λ (node : NodeInfo). node.module)) c.there

-- ---- a text with a colon

further : (c : ℕ) (t : List ℕ) → is_colon c ≡ false → position_or_len is_colon (c ∷ t) ≡ suc (position_or_len is_colon t)
further c t is = rw is (omega arith)

apart : (t : List ℕ) → list_any is_colon t ≡ true → before_first is_colon t ++ 58 ∷ after_first is_colon t ≡ t
apart [] e = cc
apart (c ∷ t) e = by (apart t) (is_colon c) refl e
  where
    by : (list_any is_colon t ≡ true → before_first is_colon t ++ 58 ∷ after_first is_colon t ≡ t) → (b : Bool) → is_colon c ≡ b → (b || list_any is_colon t) ≡ true → before_first is_colon (c ∷ t) ++ 58 ∷ after_first is_colon (c ∷ t) ≡ c ∷ t
    by rest true is e = let same : 58 ≡ c = grind (arith, nat_tests) in rw is (ap (λ d. d ∷ t) same)
    by rest false is e =
        let k = position_or_len is_colon t in
        let at : position_or_len is_colon (c ∷ t) ≡ suc k = further c t is in
        let more : suc k + 1 ≡ suc (k + 1) = omega arith in
        (λ i. take (at i) (c ∷ t) ++ 58 ∷ drop (at i + 1) (c ∷ t)) ∙ ap (λ m. take (suc k) (c ∷ t) ++ 58 ∷ drop m (c ∷ t)) more ∙ ap (λ u. c ∷ u) (rest e)

module _ (table : SchemaTable) (good : IsTable table) where
  -- a module of no name is none
  no_module : (m : ℕ) → slice_get table.modules m ≡ Some [] → ⊥
  no_module m e =
      let (inside, here) = slice_get_some table.modules m [] e in
      let well : is_identifier (get_or table.modules m []) ≡ true = list_all-at is_identifier table.modules m [] good.module_names inside in
      let never : is_identifier [] ≡ true = ap is_identifier here ∙ well in
      cc

  -- the module of a node, by its name
  module_again : (p m : ℕ) → module_called table (own_module table p) ≡ Some m → module_of table p ≡ Some m
  module_again p m e = by (slice_get table.nodes p) refl
    where
      by : (o : Option NodeInfo) → slice_get table.nodes p ≡ o → module_of table p ≡ Some m
      by None at =
          let none : own_module table p ≡ [] = ap (λ o. option_map_or (module_name table) (option_map (λ (node : NodeInfo). node.module) o) []) at in
          absurd (no_module m (module_meant table [] m (ap (module_called table) (sym none) ∙ e)))
      by (Some node) at =
          let (inside, here) = slice_get_some table.nodes p node at in
          let known = module_is_there table p node (numbers_at table p node good inside here) in
          let (text, of_module) = slice_get_there table.modules node.module known in
          let spelled : own_module table p ≡ text = ap (λ o. option_map_or (module_name table) (option_map (λ (node : NodeInfo). node.module) o) []) at ∙ first_default table.modules node.module [] text of_module in
          let again : module_called table text ≡ Some node.module = module_known table good node.module text of_module in
          ap (option_map (λ (node : NodeInfo). node.module)) at ∙ sym again ∙ ap (module_called table) (sym spelled) ∙ e

  -- what is meant by a name of the right form is a child, and the name is its own
  pub child_meant : (parent : Option ℕ) (name : List ℕ) (n : ℕ) → child_called table parent name ≡ Some n → (is_data_child table parent n ≡ true) × (name ≡ member_name table parent n)
  child_meant parent name n e = elim (has_module name) as (λ b. has_module name ≡ b → (if b then qualified_child table parent name else plain_child table parent name) ≡ Some n → (is_data_child table parent n ≡ true) × (name ≡ member_name table parent n)) [
    | true ↦ λ is e. long is e
    | false ↦ λ is e. short parent e
  ] refl e
    where
      long : has_module name ≡ true → qualified_child table parent name ≡ Some n → (is_data_child table parent n ≡ true) × (name ≡ member_name table parent n)
      long is e = option_and_then_some (if_qualified table parent) (child_of table parent (before_first is_colon name) (after_first is_colon name)) n e (λ k there right. by k there right)
        where
          by : (k : ℕ) → child_of table parent (before_first is_colon name) (after_first is_colon name) ≡ Some k → if_qualified table parent k ≡ Some n → (is_data_child table parent n ≡ true) × (name ≡ member_name table parent n)
          by k there right =
              let (qualified, same) = cond_some (is_qualified table parent k) k n right in
              let before = before_first is_colon name in
              let after = after_first is_colon name in
              let c = meant table parent before after n (there ∙ ap Some same) in
              let q : is_qualified table parent n ≡ true = ap (is_qualified table parent) (sym same) ∙ qualified in
              let spelled : member_name table parent n ≡ before ++ 58 ∷ after =
              ap (λ b. if b then own_module table n ++ 58 ∷ name_of table n else name_of table n) q ∙ (λ i. meant_module table parent before after n c i ++ 58 ∷ meant_name table parent before after n c i) in
              (meant_child table parent before after n c, sym (apart name is) ∙ sym spelled)

      short : (parent : Option ℕ) → plain_child table parent name ≡ Some n → (is_data_child table parent n ≡ true) × (name ≡ member_name table parent n)
      short None e = cc
      short (Some p) e =
          let own = own_module table p in
          let c = meant table (Some p) own name n e in
          let same : module_of table n ≡ module_of table p = meant_number table (Some p) own name n c ∙ sym (module_again p c.node.module c.called) in
          let q : is_qualified table (Some p) n ≡ false = not_from_true (is_same (module_of table n) (module_of table p)) (ap (λ o. is_same o (module_of table p)) same ∙ same-itself table (module_of table p)) in
          let spelled : member_name table (Some p) n ≡ name = ap (λ b. if b then own_module table n ++ 58 ∷ name_of table n else name_of table n) q ∙ meant_name table (Some p) own name n c in
          (meant_child table (Some p) own name n c, sym spelled)

  pub member_meant : (parent : Option ℕ) (path : List Step) (name : List ℕ) (n : ℕ) → member_node table parent path name ≡ Ok n → (is_data_child table parent n ≡ true) × (name ≡ member_name table parent n)
  member_meant parent path name n e =
      let (k, there, is) = from_some {X = ℕ} (λ n. Ok n) (child_called table parent name) (name_fault table parent path name) n e in
      child_meant parent name n (there ∙ ap Some (same_ok k n is))
