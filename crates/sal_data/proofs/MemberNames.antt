-- The name of a member means its node again.
use Rattle.std.proofs.Common.{◌≡◌, ℕ, ◌+◌, true, false, List, [], ◌∷◌, ◌++◌, take, drop, Option, Some, None, Ok, Err, if◌then◌else◌, sym, ap, ◌∙◌, inl, inr}
use Rattle.std.specs.Prelude.{option_and_then}
use Rattle.std.specs.Option.{option_map_or}
use Rattle.std.specs.List.{before_first, after_first}
use Rattle.std.proofs.lemmas.Bool.{cases_Bool, not-false}
use Rattle.std.proofs.lemmas.Option.{same_Some}
use Rattle.sal_types.specs.declared.value.Step.{Step}
use Rattle.sal_schema.specs.declared.table.SchemaTable.{SchemaTable}
use Rattle.sal_schema.specs.Names.{child_of}
use Rattle.sal_schema.specs.Table.{is_data_child, is_same, module_of, module_name, name_of}
use Rattle.sal_schema.specs.Valid.{IsTable}
use Rattle.sal_schema.specs.Lookups.{own_module}
use Rattle.sal_schema.proofs.Children.{IsChild, child, module_name-is, module_of-is, name_of-is, child_of-name, own_module-is, same-is}
use Rattle.sal_json.specs.Named.{is_colon}
use Rattle.sal_json.proofs.IdentTexts.{no_colon, colon-at, take-front, drop-front, colon-there}
use Rattle.sal_data.specs.Members.{is_qualified, member_name, if_qualified, qualified_child, plain_child, child_called, name_fault, member_node}

-- ---- members

module _ (table : SchemaTable) (good : IsTable table) where
  pub child_called-name : (parent : Option ℕ) (n : ℕ) → is_data_child table parent n ≡ true → child_called table parent (member_name table parent n) ≡ Some n
  child_called-name parent n e = elim (cases_Bool (is_qualified table parent n)) [ inl is ↦ long is | inr isnt ↦ short parent c isnt ]
    where
      c : IsChild table parent n
      c = child table good parent n e

      spelled : own_module table n ≡ c.module_text
      spelled = own_module-is table good parent n c

      own : name_of table n ≡ c.node.name
      own = name_of-is table good parent n c

      long : is_qualified table parent n ≡ true → child_called table parent (member_name table parent n) ≡ Some n
      long is =
          let whole = c.module_text ++ 58 ∷ c.node.name in
          let name : member_name table parent n ≡ whole = ap (λ b. if b then own_module table n ++ 58 ∷ name_of table n else name_of table n) is ∙ (λ i. spelled i ++ 58 ∷ own i) in
          let at = colon-at c.node.name c.module_text (no_colon c.module_text c.module_named_well) in
          let before : before_first is_colon whole ≡ c.module_text = ap (λ k. take k whole) at ∙ take-front c.node.name c.module_text in
          let after : after_first is_colon whole ≡ c.node.name = ap (λ k. drop (k + 1) whole) at ∙ drop-front c.node.name c.module_text in
          ap (child_called table parent) name
          ∙ ap (λ b. if b then qualified_child table parent whole else plain_child table parent whole) (colon-there c.node.name c.module_text)
          ∙ (λ i. option_and_then (if_qualified table parent) (child_of table parent (before i) (after i)))
          ∙ ap (option_and_then (if_qualified table parent)) (child_of-name table good parent n c)
          ∙ ap (λ b. if b then Some n else None) is

      short : (p : Option ℕ) → IsChild table p n → is_qualified table p n ≡ false → child_called table p (member_name table p n) ≡ Some n
      short None d isnt = cc
      short (Some p) d isnt =
          let none = no_colon d.node.name d.named_well in
          let name : member_name table (Some p) n ≡ d.node.name =
          ap (λ b. if b then own_module table n ++ 58 ∷ name_of table n else name_of table n) isnt ∙ name_of-is table good (Some p) n d in
          let same : module_of table n ≡ module_of table p = same-is (module_of table n) (module_of table p) (not-false (is_same (module_of table n) (module_of table p)) isnt) in
          let of_parent : own_module table p ≡ d.module_text =
          ap (λ o. option_map_or (module_name table) o []) (sym same ∙ module_of-is table good (Some p) n d) ∙ module_name-is table good (Some p) n d in
          ap (child_called table (Some p)) name
          ∙ ap (λ b. if b then qualified_child table (Some p) d.node.name else plain_child table (Some p) d.node.name) none
          ∙ ap (λ t. child_of table (Some p) t d.node.name) of_parent ∙ child_of-name table good (Some p) n d

  -- two children of one name are one
  pub same_child : (parent : Option ℕ) (n m : ℕ) → is_data_child table parent n ≡ true → is_data_child table parent m ≡ true
      → member_name table parent n ≡ member_name table parent m → n ≡ m
  same_child parent n m en em same =
      same_Some n m (sym (child_called-name parent n en) ∙ ap (child_called table parent) same ∙ child_called-name parent m em)

  pub member_node-name : (parent : Option ℕ) (n : ℕ) (path : List Step) → is_data_child table parent n ≡ true → member_node table parent path (member_name table parent n) ≡ Ok n
  member_node-name parent n path e =
      let name = member_name table parent n in
      ap (λ (o : Option ℕ). option_map_or {T = ℕ} (λ k. Ok k) o (Err (name_fault table parent path name))) (child_called-name parent n e)
