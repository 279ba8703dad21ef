-- Leafs and leaf-lists have no children.
use Rattle.std.proofs.Common.{◌≡◌, ℕ, zero, suc, Bool, true, false, cond, not, length, Option, Some, None, refl, sym, ap, ◌∙◌, arith}
use Rattle.std.specs.List.{slice_get}
use Rattle.std.proofs.lemmas.Bool.{not-true, true≢false}
use Rattle.std.proofs.lemmas.Bool.Decides.{nat_tests}
use Rattle.std.proofs.lemmas.Option.{none-some, option_and_then_some}
use Rattle.sal_schema.specs.declared.kind.Kind.{Kind}
use Rattle.sal_schema.specs.declared.table.NodeInfo.{NodeInfo}
use Rattle.sal_schema.specs.declared.table.SchemaTable.{SchemaTable}
use Rattle.sal_schema.specs.Kinds.{is_data, is_choice_or_case, has_type}
use Rattle.sal_schema.specs.Table.{closest, data_parent, is_data_child, is_kind, is_same, parent_of}
use Rattle.sal_schema.specs.Valid.{IsTable, stands_right, is_under}
use Rattle.sal_schema.proofs.Conjuncts.{and_first, and_second}
use Rattle.sal_schema.proofs.Facts.{slice_get_some, closest-None, closest-Some}
use Rattle.sal_schema.proofs.Numbered.{list_all-at}

pub same-some : (o : Option ℕ) (p : ℕ) → is_same o (Some p) ≡ true → o ≡ Some p
same-some None p e = cc
same-some (Some q) p e = let same : q ≡ p = grind (arith, nat_tests) in ap Some same

abbrev pub stays : Kind → Bool
stays kind = not (is_choice_or_case kind)

closest-zero : (table : SchemaTable) (here : Option ℕ) → closest stays table 0 here ≡ None
unfolding closest
closest-zero table here = refl

-- a node that is a data parent has a child
climb : (table : SchemaTable) (p steps k : ℕ) → closest stays table steps (parent_of table k) ≡ Some p → (c : ℕ) × (parent_of table c ≡ Some p)
climb table p zero k e = absurd (none-some p (sym (closest-zero table (parent_of table k)) ∙ e))
climb table p (suc steps) k e = by (λ q more. climb table p steps q more) (parent_of table k) refl e
  where
    by : ((q : ℕ) → closest stays table steps (parent_of table q) ≡ Some p → (c : ℕ) × (parent_of table c ≡ Some p)) → (o : Option ℕ) → parent_of table k ≡ o → closest stays table (suc steps) o ≡ Some p → (c : ℕ) × (parent_of table c ≡ Some p)
    by up None above e = absurd (none-some p (sym (closest-None stays table (suc steps)) ∙ e))
    by up (Some q) above e = elim (is_kind stays table q) as (λ b. cond b (Some q) (closest stays table steps (parent_of table q)) ≡ Some p → (c : ℕ) × (parent_of table c ≡ Some p)) [
      | true ↦ λ here. (k, above ∙ here)
      | false ↦ λ more. up q more
    ] (sym (closest-Some stays table steps q) ∙ e)

-- the nodes below this one, by its parent
child_stands : (table : SchemaTable) (c p : ℕ) → IsTable table → parent_of table c ≡ Some p → is_kind has_type table p ≡ false
child_stands table c p good e = option_and_then_some (λ (node : NodeInfo). node.parent) (slice_get table.nodes c) p e (λ node there above. by node there above)
  where
    by : (node : NodeInfo) → slice_get table.nodes c ≡ Some node → node.parent ≡ Some p → is_kind has_type table p ≡ false
    by node there above =
        let (inside, here) = slice_get_some table.nodes c node there in
        let right = list_all-at (stands_right table) table.nodes c node good.places inside in
        let right2 : stands_right table node ≡ true = rw here right in
        let free = and_first (not (is_under has_type table node)) _ (and_first _ _ (and_first _ _ right2)) in
        let no : is_under has_type table node ≡ false = not-true (is_under has_type table node) free in
        rw above at no

-- no leaf and no leaf-list is a data parent
pub no_child : (table : SchemaTable) (p n : ℕ) → IsTable table → is_kind has_type table p ≡ true → is_data_child table (Some p) n ≡ true → ⊥
no_child table p n good leaf child =
    let above = same-some (data_parent table n) p (and_second (is_kind is_data table n) (is_same (data_parent table n) (Some p)) child) in
    let (c, under) = climb table p (length table.nodes) n above in
    true≢false (sym leaf ∙ child_stands table c p good under)
