-- Texts of keys.
use Rattle.std.proofs.Common.{◌≡◌, ℕ, ◌≤◌, List, [], ◌∷◌, length, drop, refl, ap}
use Rattle.std.proofs.lemmas.List.{drop_all}
use Rattle.sal_types.specs.declared.value.Value.{Value}
use Rattle.sal_schema.specs.declared.table.SchemaTable.{SchemaTable}
use Rattle.sal_pathtext.specs.Written.{keys_text}

-- no value is left
pub keys-none : (table : SchemaTable) (n : ℕ) (leafs : List ℕ) (values : List Value) (i : ℕ) → length values ≤ i → keys_text table n leafs (drop i values) ≡ []
keys-none table n [] values i past = refl
keys-none table n (leaf ∷ leafs) values i past = ap (keys_text table n (leaf ∷ leafs)) (drop_all i values past)
