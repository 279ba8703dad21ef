-- A value that is read is of its type.
use Rattle.std.proofs.Common.{◌≡◌, ℕ, suc, ◌+◌, ◌==◌, nat_lt, ℤ, pos, negsuc, Bool, true, false, not, ◌&&◌, if◌then◌else◌, List, [], ◌∷◌, length, Option, Some, None, Result, Ok, Err, codes, refl, ap, sym, ◌∙◌, inl, inr, arith}
use Rattle.std.specs.Option.{option_map_or}
use Rattle.std.specs.Str.{chars}
use Rattle.std.specs.List.{list_all, slice_get, position}
use Rattle.std.proofs.lemmas.Bool.{cases_Bool, and_parts, and_from}
use Rattle.std.proofs.lemmas.Bool.Decides.{nat_tests}
use Rattle.serde_json.specs.Data.{Data}
use Rattle.serde_json.specs.Find.{as_str, as_bool}
use Rattle.sal_types.specs.declared.value.Atom.{Atom}
use Rattle.sal_types.specs.declared.value.Atom.TheVariants.{Signed, Unsigned, Dec, Text, Bool as BoolAtom, Enum, Bin, Ident, Empty}
use Rattle.sal_types.specs.declared.value.Value.{Value}
use Rattle.sal_restrict.specs.declared.ranges.Part.{Part}
use Rattle.sal_restrict.specs.declared.yang_type.YangType.{YangType, out-YangType}
use Rattle.sal_restrict.specs.declared.yang_type.YangType.TheOpen.{YangType-F}
use Rattle.sal_restrict.specs.Ranges.{holds}
use Rattle.sal_restrict.specs.Bounds.{signed}
use Rattle.sal_schema.specs.declared.table.SchemaTable.{SchemaTable}
use Rattle.sal_schema.specs.Values.{is_of_layer, is_of_type, is_of_type_layer, is_of_plain, takes_identity}
use Rattle.sal_json.specs.declared.fault.ScalarFault.{ScalarFault}
use Rattle.sal_json.specs.declared.fault.ScalarFault.TheVariants.{WrongKind, OutOfRange, BadLength, NoMatch, UnknownName}
use Rattle.sal_json.specs.Numerals.{is_in_64, whole_atom, is_number, number_of, is_decimal, without_sign, has_minus, is_exact, units_of, units_atom}
use Rattle.sal_json.specs.Named.{text_eq, number_called, set_atom, bits_of, identity_called, derived_atom}
use Rattle.sal_json.specs.Patterns.{passes}
use Rattle.sal_json.specs.Read.{text_atom, json_atom, bytes_of, bytes_atom, whole_of, is_nulls, of_string, own_text, own_json, first_own, if_own, plain, value_of, layer_text_scalar, layer_scalar, type_text_scalar, type_scalar}
use Rattle.sal_json.specs.Laws.{IsOfItsType, IsOfItsTypeAsKey}
use Rattle.sal_json.proofs.Chosen.{same_ok, chosen, otherwise, from_some}
use Rattle.sal_json.proofs.BitSets.{among_called, bits_of-bits}
use Rattle.sal_types.proofs.Handy.{not_false}

same_number : (n : ℕ) → (n == n) ≡ true
same_number n = grind (arith, nat_tests)

module _ (table : SchemaTable) where
  whole-is_of : (bits : ℕ) (sign : Bool) (range : List Part) (z : ℤ) (atom : Atom) → whole_atom sign range z ≡ Ok atom → is_of_layer table (YangType-F.Int bits sign range) atom ≡ true
  whole-is_of bits true range z atom e =
      let (b, same) = chosen (is_in_64 z && holds range z) (Ok (Signed z)) OutOfRange atom e in
      ap (is_of_layer table (YangType-F.Int bits true range)) (sym (same_ok _ _ same)) ∙ (and_parts _ _ b).1
  whole-is_of bits false range (pos n) atom e =
      let (b, same) = chosen (nat_lt n 18446744073709551616 && holds range (pos n)) (Ok (Unsigned n)) OutOfRange atom e in
      ap (is_of_layer table (YangType-F.Int bits false range)) (sym (same_ok _ _ same)) ∙ (and_parts _ _ b).1
  whole-is_of bits false range (negsuc n) atom e = cc

  units-is_of : (digits : ℕ) (range : List Part) (z : ℤ) (atom : Atom) → units_atom digits range z ≡ Ok atom → is_of_layer table (YangType-F.Dec digits range) atom ≡ true
  units-is_of digits range z atom e =
      let (b, same) = chosen (is_in_64 z && holds range z) (Ok (Dec z digits)) OutOfRange atom e in
      ap (is_of_layer table (YangType-F.Dec digits range)) (sym (same_ok _ _ same)) ∙ and_from _ _ (same_number digits) (and_parts _ _ b).1

  bool-is_of : (a b : Bool) (atom : Atom) → (if a then Ok (BoolAtom true) else if b then Ok (BoolAtom false) else Err WrongKind) ≡ Ok atom → is_of_layer table YangType-F.Bool atom ≡ true
  bool-is_of true b atom e = ap (is_of_layer table YangType-F.Bool) (sym (same_ok _ _ e))
  bool-is_of false true atom e = ap (is_of_layer table YangType-F.Bool) (sym (same_ok _ _ e))
  bool-is_of false false atom e = cc

  set-is_of : (names : List (List ℕ)) (positions t : List ℕ) (r : Result ℕ ScalarFault) (atom : Atom) → bits_of names positions t ≡ r → set_atom r ≡ Ok atom
      → is_of_layer table (YangType-F.Bits names positions) atom ≡ true
  set-is_of names positions t (Ok set) atom was e = ap (is_of_layer table (YangType-F.Bits names positions)) (sym (same_ok _ _ e)) ∙ bits_of-bits names positions t set was
  set-is_of names positions t (Err fault) atom was e = cc

  pub text-is_of : (m : ℕ) (layer : YangType-F YangType) (t : List ℕ) (atom : Atom) → text_atom table m layer t ≡ Ok atom → is_of_layer table layer atom ≡ true
  text-is_of m (YangType-F.Int bits sign range) t atom e =
      let (form, found) = chosen (is_number bits t) (whole_atom sign range (number_of t)) WrongKind atom e in
      whole-is_of bits sign range (number_of t) atom found
  text-is_of m (YangType-F.Dec digits range) t atom e =
      let (form, found) = otherwise (not (is_decimal (without_sign t))) WrongKind _ atom e in
      let (exact, there) = chosen (is_exact digits (without_sign t)) (units_atom digits range (signed (has_minus t) (units_of digits (without_sign t)))) OutOfRange atom found in
      units-is_of digits range (signed (has_minus t) (units_of digits (without_sign t))) atom there
  text-is_of m (YangType-F.Text lengths patterns) t atom e =
      let (long, found) = otherwise (not (holds lengths (pos (length (chars t))))) BadLength _ atom e in
      let (all, there) = chosen (list_all (passes t) patterns) (Ok (Text t)) NoMatch atom found in
      ap (is_of_layer table (YangType-F.Text lengths patterns)) (sym (same_ok _ _ there)) ∙ not_false (holds lengths (pos (length (chars t)))) long
  text-is_of m YangType-F.Bool t atom e = bool-is_of (text_eq t (codes "true")) (text_eq t (codes "false")) atom e
  text-is_of m (YangType-F.Enum names places) t atom e =
      let (place, called, there) = from_some (λ place. Ok (Enum place)) (number_called names places t) UnknownName atom e in
      ap (is_of_layer table (YangType-F.Enum names places)) (sym (same_ok _ _ there)) ∙ among_called places (position (text_eq t) names) place called
  text-is_of m (YangType-F.Bits names positions) t atom e = set-is_of names positions t (bits_of names positions t) atom refl e
  text-is_of m (YangType-F.Bin lengths) t atom e =
      let (bytes, read, found) = from_some (bytes_atom lengths) (bytes_of t) WrongKind atom e in
      let (long, there) = chosen (holds lengths (pos (length bytes))) (Ok (Bin bytes)) BadLength atom found in
      ap (is_of_layer table (YangType-F.Bin lengths)) (sym (same_ok _ _ there)) ∙ long
  text-is_of m (YangType-F.Ident bases) t atom e =
      let (i, called, found) = from_some (derived_atom table bases) (identity_called table m t) UnknownName atom e in
      let (derived, there) = chosen (takes_identity table bases i) (Ok (Ident i)) UnknownName atom found in
      ap (is_of_layer table (YangType-F.Ident bases)) (sym (same_ok _ _ there)) ∙ derived
  text-is_of m YangType-F.Empty t atom e =
      let (none, there) = chosen (length t == 0) (Ok Empty) WrongKind atom e in
      ap (is_of_layer table YangType-F.Empty) (sym (same_ok _ _ there))
  text-is_of m (YangType-F.Union members) t atom e = cc
  text-is_of m (YangType-F.Leafref path) t atom e = cc

  string-is_of : (m : ℕ) (layer : YangType-F YangType) (json : Data) (atom : Atom) → of_string (text_atom table m layer) json ≡ Ok atom → is_of_layer table layer atom ≡ true
  string-is_of m layer json atom e = let (t, read, found) = from_some (text_atom table m layer) (as_str json) WrongKind atom e in text-is_of m layer t atom found

  int-is_of : (m bits : ℕ) (sign : Bool) (range : List Part) (json : Data) (atom : Atom) → json_atom table m (YangType-F.Int bits sign range) json ≡ Ok atom
      → is_of_layer table (YangType-F.Int bits sign range) atom ≡ true
  int-is_of m bits sign range json atom e = elim (cases_Bool (bits == 64)) [
    | inl wide ↦ string-is_of m (YangType-F.Int bits sign range) json atom (rw wide at e)
    | inr small ↦
        let e' = rw small at e in
        let (z, read, found) = from_some (whole_atom sign range) (whole_of json) WrongKind atom e' in
        whole-is_of bits sign range z atom found
  ]

  pub json-is_of : (m : ℕ) (layer : YangType-F YangType) (json : Data) (atom : Atom) → json_atom table m layer json ≡ Ok atom → is_of_layer table layer atom ≡ true
  json-is_of m (YangType-F.Int bits sign range) json atom e = int-is_of m bits sign range json atom e
  json-is_of m (YangType-F.Dec digits range) json atom e = string-is_of m (YangType-F.Dec digits range) json atom e
  json-is_of m (YangType-F.Text lengths patterns) json atom e = string-is_of m (YangType-F.Text lengths patterns) json atom e
  json-is_of m YangType-F.Bool json atom e =
      let (b, read, found) = from_some (λ b. Ok (BoolAtom b)) (as_bool json) WrongKind atom e in
      ap (is_of_layer table YangType-F.Bool) (sym (same_ok _ _ found))
  json-is_of m (YangType-F.Enum names places) json atom e = string-is_of m (YangType-F.Enum names places) json atom e
  json-is_of m (YangType-F.Bits names positions) json atom e = string-is_of m (YangType-F.Bits names positions) json atom e
  json-is_of m (YangType-F.Bin lengths) json atom e = string-is_of m (YangType-F.Bin lengths) json atom e
  json-is_of m (YangType-F.Ident bases) json atom e = string-is_of m (YangType-F.Ident bases) json atom e
  json-is_of m YangType-F.Empty json atom e =
      let (one, there) = chosen (is_nulls json) (Ok Empty) WrongKind atom e in
      ap (is_of_layer table YangType-F.Empty) (sym (same_ok _ _ there))
  json-is_of m (YangType-F.Union members) json atom e = string-is_of m (YangType-F.Union members) json atom e
  json-is_of m (YangType-F.Leafref path) json atom e = string-is_of m (YangType-F.Leafref path) json atom e

  -- ---- unions

  pub own-taken : (is_own : Atom → Bool) (r : Result Atom ScalarFault) (atom : Atom) → if_own is_own r ≡ Some atom → r ≡ Ok atom
  own-taken is_own (Err fault) atom e = cc
  own-taken is_own (Ok found) atom e = elim (cases_Bool (is_own found)) [
    | inl own ↦ let same : Some found ≡ Some atom = rw own at e in let here : found ≡ atom = cc in ap Ok here
    | inr other ↦ let no : None ≡ Some atom = rw other at e in cc
  ]

  -- the first member that takes something is at its place
  pub first-place : (take : YangType → Option Atom) (members : List YangType) (i : ℕ) (value : Value) → first_own take i members ≡ Ok value
      → (k : ℕ) × (member : YangType) × (value.member ≡ i + k) × (slice_get members k ≡ Some member) × (take member ≡ Some value.atom)
  first-place take [] i value e = cc
  first-place take (member ∷ members) i value e =
      elim (take member) as (λ o. take member ≡ o → (k : ℕ) × (other : YangType) × (value.member ≡ i + k) × (slice_get (member ∷ members) k ≡ Some other) × (take other ≡ Some value.atom)) [
        | Some atom ↦ λ was.
            let found : ◌≡◌ {A = Result Value ScalarFault} (Ok (value_of i atom)) (Ok value) = sym (ap (λ o. option_map_or (λ atom. Ok (value_of i atom)) o (first_own take (i + 1) members)) was) ∙ e in
            let same = same_ok (value_of i atom) value found in
            let start : i ≡ i + 0 = omega arith in
            (0, member, sym (ap (λ (v : Value). v.member) same) ∙ start, refl, was ∙ ap (λ (v : Value). Some v.atom) same)
        | None ↦ λ was.
            let later = sym (ap (λ o. option_map_or (λ atom. Ok (value_of i atom)) o (first_own take (i + 1) members)) was) ∙ e in
            let (k, other, place, there, taken) = first-place take members (i + 1) value later in
            let next : (i + 1) + k ≡ i + suc k = omega arith in
            (suc k, other, place ∙ next, there, taken)
      ] refl

  plain-of : (layer : YangType-F YangType) (r : Result Atom ScalarFault) (value : Value) → ((atom : Atom) → r ≡ Ok atom → is_of_layer table layer atom ≡ true) → plain r ≡ Ok value
      → (value.member == 0 && is_of_layer table layer value.atom) ≡ true
  plain-of layer (Ok atom) value each e =
      let same = same_ok (value_of 0 atom) value e in
      ap (λ (v : Value). v.member == 0 && is_of_layer table layer v.atom) (sym same) ∙ each atom refl
  plain-of layer (Err fault) value each e = cc

  place_zero : (k n : ℕ) → k ≡ 0 + n → k ≡ n
  place_zero k n e = omega arith

  union-of : (members : List YangType) (take : YangType → Option Atom) (value : Value) → ((member : YangType) (atom : Atom) → take member ≡ Some atom → is_of_plain table member atom ≡ true)
      → first_own take 0 members ≡ Ok value → is_of_type_layer table (YangType-F.Union members) value ≡ true
  union-of members take value each e =
      let (k, member, place, there, taken) = first-place take members 0 value e in
      ap (λ n. option_map_or (λ member. is_of_plain table member value.atom) (slice_get members n) false) (place_zero value.member k place)
      ∙ ap (λ o. option_map_or (λ member. is_of_plain table member value.atom) o false) there ∙ each member value.atom taken

  layer-text : (m : ℕ) (layer : YangType-F YangType) (t : List ℕ) (value : Value) → layer_text_scalar table m layer t ≡ Ok value → is_of_type_layer table layer value ≡ true
  layer-text m (YangType-F.Int bits sign range) t value e = plain-of (YangType-F.Int bits sign range) (text_atom table m (YangType-F.Int bits sign range) t) value (λ atom found. text-is_of m (YangType-F.Int bits sign range) t atom found) e
  layer-text m (YangType-F.Dec digits range) t value e = plain-of (YangType-F.Dec digits range) (text_atom table m (YangType-F.Dec digits range) t) value (λ atom found. text-is_of m (YangType-F.Dec digits range) t atom found) e
  layer-text m (YangType-F.Text lengths patterns) t value e = plain-of (YangType-F.Text lengths patterns) (text_atom table m (YangType-F.Text lengths patterns) t) value (λ atom found. text-is_of m (YangType-F.Text lengths patterns) t atom found) e
  layer-text m YangType-F.Bool t value e = plain-of YangType-F.Bool (text_atom table m YangType-F.Bool t) value (λ atom found. text-is_of m YangType-F.Bool t atom found) e
  layer-text m (YangType-F.Enum names places) t value e = plain-of (YangType-F.Enum names places) (text_atom table m (YangType-F.Enum names places) t) value (λ atom found. text-is_of m (YangType-F.Enum names places) t atom found) e
  layer-text m (YangType-F.Bits names positions) t value e = plain-of (YangType-F.Bits names positions) (text_atom table m (YangType-F.Bits names positions) t) value (λ atom found. text-is_of m (YangType-F.Bits names positions) t atom found) e
  layer-text m (YangType-F.Bin lengths) t value e = plain-of (YangType-F.Bin lengths) (text_atom table m (YangType-F.Bin lengths) t) value (λ atom found. text-is_of m (YangType-F.Bin lengths) t atom found) e
  layer-text m (YangType-F.Ident bases) t value e = plain-of (YangType-F.Ident bases) (text_atom table m (YangType-F.Ident bases) t) value (λ atom found. text-is_of m (YangType-F.Ident bases) t atom found) e
  layer-text m YangType-F.Empty t value e = plain-of YangType-F.Empty (text_atom table m YangType-F.Empty t) value (λ atom found. text-is_of m YangType-F.Empty t atom found) e
  layer-text m (YangType-F.Leafref path) t value e = plain-of (YangType-F.Leafref path) (text_atom table m (YangType-F.Leafref path) t) value (λ atom found. text-is_of m (YangType-F.Leafref path) t atom found) e
  layer-text m (YangType-F.Union members) t value e = union-of members (own_text table m t) value (λ member atom taken. text-is_of m (out-YangType member) t atom (own-taken _ (text_atom table m (out-YangType member) t) atom taken)) e

  layer-json : (m : ℕ) (layer : YangType-F YangType) (json : Data) (value : Value) → layer_scalar table m layer json ≡ Ok value → is_of_type_layer table layer value ≡ true
  layer-json m (YangType-F.Int bits sign range) json value e = plain-of (YangType-F.Int bits sign range) (json_atom table m (YangType-F.Int bits sign range) json) value (λ atom found. json-is_of m (YangType-F.Int bits sign range) json atom found) e
  layer-json m (YangType-F.Dec digits range) json value e = plain-of (YangType-F.Dec digits range) (json_atom table m (YangType-F.Dec digits range) json) value (λ atom found. json-is_of m (YangType-F.Dec digits range) json atom found) e
  layer-json m (YangType-F.Text lengths patterns) json value e = plain-of (YangType-F.Text lengths patterns) (json_atom table m (YangType-F.Text lengths patterns) json) value (λ atom found. json-is_of m (YangType-F.Text lengths patterns) json atom found) e
  layer-json m YangType-F.Bool json value e = plain-of YangType-F.Bool (json_atom table m YangType-F.Bool json) value (λ atom found. json-is_of m YangType-F.Bool json atom found) e
  layer-json m (YangType-F.Enum names places) json value e = plain-of (YangType-F.Enum names places) (json_atom table m (YangType-F.Enum names places) json) value (λ atom found. json-is_of m (YangType-F.Enum names places) json atom found) e
  layer-json m (YangType-F.Bits names positions) json value e = plain-of (YangType-F.Bits names positions) (json_atom table m (YangType-F.Bits names positions) json) value (λ atom found. json-is_of m (YangType-F.Bits names positions) json atom found) e
  layer-json m (YangType-F.Bin lengths) json value e = plain-of (YangType-F.Bin lengths) (json_atom table m (YangType-F.Bin lengths) json) value (λ atom found. json-is_of m (YangType-F.Bin lengths) json atom found) e
  layer-json m (YangType-F.Ident bases) json value e = plain-of (YangType-F.Ident bases) (json_atom table m (YangType-F.Ident bases) json) value (λ atom found. json-is_of m (YangType-F.Ident bases) json atom found) e
  layer-json m YangType-F.Empty json value e = plain-of YangType-F.Empty (json_atom table m YangType-F.Empty json) value (λ atom found. json-is_of m YangType-F.Empty json atom found) e
  layer-json m (YangType-F.Leafref path) json value e = plain-of (YangType-F.Leafref path) (json_atom table m (YangType-F.Leafref path) json) value (λ atom found. json-is_of m (YangType-F.Leafref path) json atom found) e
  layer-json m (YangType-F.Union members) json value e = union-of members (own_json table m json) value (λ member atom taken. json-is_of m (out-YangType member) json atom (own-taken _ (json_atom table m (out-YangType member) json) atom taken)) e

from_type : (table : SchemaTable) (o : Option YangType) (r : YangType → Result Value ScalarFault) (value : Value) → ((t : YangType) → r t ≡ Ok value → is_of_type table t value ≡ true)
    → option_map_or r o (Err WrongKind) ≡ Ok value → option_map_or (λ t. is_of_type table t value) o false ≡ true
from_type table None r value each e = cc
from_type table (Some t) r value each e = each t e

pub json_of_type : IsOfItsType
json_of_type table ty m json value e = from_type table (slice_get table.types ty) (λ t. type_scalar table t m json) value (λ t found. layer-json table m (out-YangType t) json value found) e

pub key_of_type : IsOfItsTypeAsKey
key_of_type table ty m t value e = from_type table (slice_get table.types ty) (λ here. type_text_scalar table here m t) value (λ here found. layer-text table m (out-YangType here) t value found) e
