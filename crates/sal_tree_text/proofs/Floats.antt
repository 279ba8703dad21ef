-- No floating-point number is in what is written for a scalar.
use Rattle.std.proofs.Common.{◌≡◌, ℕ, ℤ, pos, negsuc, Bool, true, false, Option, Some, None, refl}
use Rattle.std.specs.Prelude.{if◌then◌else◌}
use Rattle.std.specs.List.{slice_get}
use Rattle.std.specs.Option.{option_map_or}
use Rattle.serde_json.specs.Data.{Data, null, number}
use Rattle.serde_json.specs.Find.{of_integer}
use Rattle.serde_json.specs.Written.{has_float}
use Rattle.sal_types.specs.declared.value.Atom.{Atom}
use Rattle.sal_types.specs.declared.value.Atom.TheVariants.{Signed, Unsigned, Dec, Text, Bool as Truth, Enum, Bits, Bin, Ident, Empty}
use Rattle.sal_types.specs.declared.value.Value.{Value}
use Rattle.sal_restrict.specs.declared.yang_type.YangType.{YangType, out-YangType}
use Rattle.sal_restrict.specs.declared.yang_type.YangType.TheOpen.{YangType-F}
use Rattle.sal_schema.specs.declared.table.SchemaTable.{SchemaTable}
use Rattle.sal_schema.specs.Table.{type_of, module_of}
use Rattle.sal_json.specs.Written.{is_wide, atom_json, layer_for, type_json_of, json_of}
use Rattle.sal_data.specs.Written.{scalar_json}

pub one_of : (b : Bool) (x y : Data) → has_float x ≡ false → has_float y ≡ false → has_float (if b then x else y) ≡ false
one_of true x y p q = p
one_of false x y p q = q

pub if_some : {A : Type 0} (f : A → Data) (o : Option A) → ((a : A) → has_float (f a) ≡ false) → has_float (option_map_or f o null) ≡ false
if_some f None whole = refl
if_some f (Some a) whole = whole a

whole_integer : (z : ℤ) → has_float (number (of_integer z)) ≡ false
whole_integer (pos n) = refl
whole_integer (negsuc n) = refl

whole_atom : (table : SchemaTable) (m : ℕ) (layer : YangType-F YangType) (atom : Atom) → has_float (atom_json table m layer atom) ≡ false
whole_atom table m layer (Signed z) = one_of (is_wide layer) _ _ refl (whole_integer z)
whole_atom table m layer (Unsigned n) = one_of (is_wide layer) _ _ refl refl
whole_atom table m layer (Dec a b) = refl
whole_atom table m layer (Text a) = refl
whole_atom table m layer (Truth a) = refl
whole_atom table m layer (Enum a) = refl
whole_atom table m layer (Bits a) = refl
whole_atom table m layer (Bin a) = refl
whole_atom table m layer (Ident a) = refl
whole_atom table m layer Empty = refl

whole_of_type : (table : SchemaTable) (m : ℕ) (value : Value) (ty : YangType) → has_float (type_json_of table ty m value) ≡ false
whole_of_type table m value ty = if_some (λ layer. atom_json table m layer value.atom) (layer_for (out-YangType ty) value.member) (λ layer. whole_atom table m layer value.atom)

whole_json : (table : SchemaTable) (ty m : ℕ) (value : Value) → has_float (json_of table ty m value) ≡ false
whole_json table ty m value = if_some (λ t. type_json_of table t m value) (slice_get table.types ty) (λ t. whole_of_type table m value t)

whole_scalar : (table : SchemaTable) (value : Value) (n : ℕ) → has_float (scalar_json table n value) ≡ false
unfolding scalar_json
whole_scalar table value n =
    if_some (λ ty. option_map_or (λ m. json_of table ty m value) (module_of table n) null) (type_of table n)
    (λ ty. if_some (λ m. json_of table ty m value) (module_of table n) (λ m. whole_json table ty m value))

pub has_float-scalar : (table : SchemaTable) (n : ℕ) (value : Value) → has_float (scalar_json table n value) ≡ false
has_float-scalar table n value = whole_scalar table value n
