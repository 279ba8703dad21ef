-- The rows of an entry are at it and below it, each at its own place, and so disjoint from the rows of other entries.
use Rattle.std.proofs.Common.{◌≡◌, ℕ, false, List, [], ◌∷◌, ◌++◌, refl, ap}
use Rattle.std.specs.Prelude.{not, nat_eq}
use Rattle.std.specs.List.{list_any}
use Rattle.std.proofs.lemmas.Bool.{eqb-false, false_from_ne_true}
use Rattle.sal_types.specs.declared.value.Step.{Step}
use Rattle.sal_types.specs.declared.value.Step.TheVariants.{Node, Key}
use Rattle.sal_types.specs.declared.value.Value.{Value}
use Rattle.sal_types.specs.Order.{path_eq}
use Rattle.sal_types.specs.Prefix.{is_prefix}
use Rattle.sal_types.specs.Tree.{has}
use Rattle.sal_types.proofs.Prefixes.{IsPrefix-from_test, is_prefix-append}
use Rattle.sal_rows.proofs.Cells.{same_path}
use Rattle.sal_script.specs.Load.{unsigned_of}
use Rattle.sal_script.specs.LoadExamples.{entry, rows}

-- the number in the key of a path's second step
abbrev key_in : List Value → ℕ
key_in [] = 0
key_in (value ∷ values) = unsigned_of value.atom

abbrev second_key : Step → ℕ
second_key (Key values) = key_in values
second_key step = 0

abbrev key_at : List Step → ℕ
key_at (first ∷ second ∷ path) = second_key second
key_at path = 0

-- the node of a path's third step
abbrev node_at : Step → ℕ
node_at (Node n) = n
node_at step = 0

abbrev third_node : List Step → ℕ
third_node (first ∷ second ∷ third ∷ path) = node_at third
third_node path = 0

other_entry : (key other : ℕ) (rest : List Step) → nat_eq other key ≡ false → is_prefix (entry key) (entry other ++ rest) ≡ false
other_entry key other rest e = false_from_ne_true _ (λ h. eqb-false other key e (ap key_at (IsPrefix-from_test (entry key) (entry other ++ rest) h).1))

-- none of an entry's rows is at another entry or below it
pub apart : (key other value : ℕ) → nat_eq other key ≡ false → has (rows other value) (entry key) ≡ false
apart key other value e = rw (other_entry key other [] e) refl

-- nor at the list
pub not_list : (key value : ℕ) → list_any (λ row. path_eq (Node 0 ∷ []) row.path) (rows key value) ≡ false
not_list key value = refl

-- all of them are at the entry or below it
pub at_entry : (key value : ℕ) → list_any (λ row. not (is_prefix (entry key) row.path)) (rows key value) ≡ false
at_entry key value = rw (is_prefix-append (entry key) []) refl

pub differ : (p q : List Step) → (third_node p ≡ third_node q → ⊥) → path_eq p q ≡ false
differ p q ne = false_from_ne_true _ (λ h. ne (ap third_node (same_path p q h)))
