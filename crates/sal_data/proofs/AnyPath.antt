-- Which entry a JSON value is does not depend on the path at which it is read: the path stands in the faults alone.
use Rattle.std.proofs.Common.{◌≡◌, ℕ, List, [], ◌∷◌, Option, Some, None, Result, Ok, Err, refl, ap, ◌∙◌}
use Rattle.std.specs.Option.{option_map_or}
use Rattle.serde_json.specs.Data.{Data, Members}
use Rattle.serde_json.specs.Find.{as_object, get_member}
use Rattle.sal_types.specs.declared.value.Value.{Value}
use Rattle.sal_types.specs.declared.value.Step.{Step}
use Rattle.sal_types.specs.declared.value.Step.TheVariants.{Key}
use Rattle.sal_types.specs.Reading.{◌>>=◌}
use Rattle.sal_schema.specs.declared.table.SchemaTable.{SchemaTable}
use Rattle.sal_schema.specs.Table.{keys_of}
use Rattle.sal_json.specs.declared.fault.ScalarFault.{ScalarFault}
use Rattle.sal_data.specs.declared.fault.DataFault.{DataFault}
use Rattle.sal_data.specs.declared.fault.DataFault.TheVariants.{WrongShape, MissingKey}
use Rattle.sal_data.specs.Members.{member_name}
use Rattle.sal_data.specs.Read.{at_path, node_scalar, key_value, key_values, key_step, item_step}

-- what the first reading gives, the second gives too
abbrev Gives : {X : Type 0} → Result X DataFault → Result X DataFault → Type 0
Gives {X} r s = (x : X) → r ≡ Ok x → s ≡ Ok x

scalars : {X : Type 0} (p q : List Step) (r : Result X ScalarFault) → Gives (at_path p r) (at_path q r)
scalars p q (Ok x) y e = e
scalars p q (Err fault) y e = cc

chained : {A B : Type 0} (r s : Result A DataFault) (f g : A → Result B DataFault) → Gives r s → ((a : A) → Gives (f a) (g a)) → Gives (r >>= f) (s >>= g)
chained (Ok a) s f g first rest x e = ap (λ t. t >>= g) (first a refl) ∙ rest a x e
chained (Err fault) s f g first rest x e = cc

value : (table : SchemaTable) (n : ℕ) (p q : List Step) (ms : Members) (leaf : ℕ) → Gives (key_value table n p ms leaf) (key_value table n q ms leaf)
value table n p q ms leaf = found (get_member (member_name table (Some n) leaf) ms)
  where
    found : (o : Option Data) → Gives (option_map_or (λ json. at_path p (node_scalar table leaf json)) o (Err (MissingKey p))) (option_map_or (λ json. at_path q (node_scalar table leaf json)) o (Err (MissingKey q)))
    found None x e = cc
    found (Some json) x e = scalars p q (node_scalar table leaf json) x e

values : (table : SchemaTable) (n : ℕ) (p q : List Step) (ms : Members) (leafs : List ℕ) → Gives (key_values table n p ms leafs) (key_values table n q ms leafs)
values table n p q ms [] x e = e
values table n p q ms (leaf ∷ leafs) x e =
    chained (key_value table n p ms leaf) (key_value table n q ms leaf) (λ v. key_values table n p ms leafs >>= λ vs. Ok (v ∷ vs)) (λ v. key_values table n q ms leafs >>= λ vs. Ok (v ∷ vs)) (value table n p q ms leaf)
    (λ v. chained (key_values table n p ms leafs) (key_values table n q ms leafs) (λ vs. Ok (v ∷ vs)) (λ vs. Ok (v ∷ vs)) (values table n p q ms leafs) (λ vs y g. g)) x e

pub keys_anywhere : (table : SchemaTable) (n : ℕ) (p q : List Step) (json : Data) (x : Step) → key_step table n p json ≡ Ok x → key_step table n q json ≡ Ok x
keys_anywhere table n p q json = found (as_object json)
  where
    found : (o : Option Members) → Gives (option_map_or (λ ms. key_values table n p ms (keys_of table n) >>= λ vs. Ok (Key vs)) o (Err (WrongShape p))) (option_map_or (λ ms. key_values table n q ms (keys_of table n) >>= λ vs. Ok (Key vs)) o (Err (WrongShape q)))
    found None x e = cc
    found (Some ms) x e =
        chained (key_values table n p ms (keys_of table n)) (key_values table n q ms (keys_of table n)) (λ vs. Ok (Key vs)) (λ vs. Ok (Key vs)) (values table n p q ms (keys_of table n)) (λ vs y g. g) x e

pub items_anywhere : (table : SchemaTable) (n : ℕ) (p q : List Step) (json : Data) (x : Step) → item_step table n p json ≡ Ok x → item_step table n q json ≡ Ok x
items_anywhere table n p q json =
    chained (at_path p (node_scalar table n json)) (at_path q (node_scalar table n json)) _ _ (scalars p q (node_scalar table n json)) (λ v x e. e)
