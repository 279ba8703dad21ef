-- The text of a value that was read reads as the value.
use Rattle.std.proofs.Common.{◌≡◌, ℕ, ◌+◌, ◌≤◌, ◌<◌, ◌==◌, true, not, ◌&&◌, nat_le, nat_lt, List, [], length, Option, Some, None, Result, Ok, Err, IsTrue, refl, ap, sym, subst, ◌∙◌, arith}
use Rattle.std.specs.Option.{option_map_or}
use Rattle.std.specs.List.{slice_get, list_all}
use Rattle.std.proofs.lemmas.Bool.{and_parts}
use Rattle.std.proofs.lemmas.Bool.Decides.{nat_tests}
use Rattle.base64.specs.GeneralPurpose.{IsBytes}
use Rattle.serde_json.specs.Data.{Data, null}
use Rattle.sal_types.specs.declared.value.Atom.{Atom}
use Rattle.sal_types.specs.declared.value.Atom.TheVariants.{Dec, Ident, Bits}
use Rattle.sal_types.specs.declared.value.Value.{Value}
use Rattle.sal_restrict.specs.declared.ranges.Part.{Part}
use Rattle.sal_restrict.specs.declared.yang_type.YangType.{YangType, out-YangType}
use Rattle.sal_restrict.specs.declared.yang_type.YangType.TheOpen.{YangType-F}
use Rattle.sal_restrict.specs.Bounds.{signed}
use Rattle.sal_restrict.specs.Ranges.{holds}
use Rattle.sal_schema.specs.declared.table.SchemaTable.{SchemaTable}
use Rattle.sal_schema.specs.Valid.{IsTable, is_good_layer, is_good_type, is_good_type_layer, all_differ, is_identifier}
use Rattle.sal_schema.proofs.Conjuncts.{and_first, and_second}
use Rattle.sal_json.specs.declared.fault.ScalarFault.{ScalarFault}
use Rattle.sal_json.specs.declared.fault.ScalarFault.TheVariants.{WrongKind, OutOfRange, UnknownName}
use Rattle.sal_json.specs.Numerals.{is_in_64, is_decimal, is_exact, without_sign, has_minus, units_of, units_atom}
use Rattle.sal_schema.specs.Table.{is_derived}
use Rattle.sal_schema.specs.Values.{takes_identity}
use Rattle.sal_json.specs.Named.{identity_called, derived_atom, text_eq, bits_of, set_atom}
use Rattle.sal_json.specs.Read.{text_atom, json_atom, plain, value_of, own_text, is_own_text, first_own, layer_scalar, layer_text_scalar, type_scalar, type_text_scalar}
use Rattle.sal_json.specs.Written.{atom_text, atom_json, layer_for, type_json_of, type_text_of}
use Rattle.sal_json.specs.Laws.{HasBytes, ReadsBack, ReadsBackAsKey}
use Rattle.std.specs.Prelude.{nat_eq}
use Rattle.sal_json.proofs.BitTexts.{bits_again, read-named, none-above}
use Rattle.sal_json.proofs.Chosen.{same_ok, chosen, otherwise, from_some}
use Rattle.sal_json.proofs.DecTexts.{dec_readable}
use Rattle.sal_json.proofs.IdentTexts.{identity_again}
use Rattle.sal_json.proofs.OfType.{first-place}
use Rattle.sal_json.proofs.Readable.{text_eq-same, own-is, layer_json, union-readable, plain-readable}
use Rattle.sal_json.proofs.TextAgain.{IsAgain, int-again, string-again, bool-again, empty-again, enum-again, binary-again}
use Rattle.sal_json.proofs.Typed.{type_is_good}

first_digit : (digits : ℕ) → IsTrue (nat_le 1 digits && nat_le digits 18) → 1 ≤ digits
first_digit digits e = let one = and_first (nat_le 1 digits) (nat_le digits 18) e in grind (arith, nat_tests)

is_inside : (i n : ℕ) → nat_lt i n ≡ true → i < n
is_inside i n e = grind (arith, nat_tests)

same_count : (x y : ℕ) → (x == y) ≡ true → x ≡ y
same_count x y e = grind (arith, nat_tests)

plain-parts : (r : Result Atom ScalarFault) (value : Value) → plain r ≡ Ok value → (r ≡ Ok value.atom) × (value_of 0 value.atom ≡ value)
plain-parts (Ok atom) value e =
    let same = same_ok (value_of 0 atom) value e in
    (ap (λ (v : Value). Ok v.atom) same, (λ i. value_of 0 (sym same i).atom) ∙ same)
plain-parts (Err fault) value e = cc

module _ (table : SchemaTable) (is_table : IsTable table) (m : ℕ) where
  dec-again : (digits : ℕ) (range : List Part) (t : List ℕ) (atom : Atom) → 1 ≤ digits → text_atom table m (YangType-F.Dec digits range) t ≡ Ok atom → IsAgain table m (YangType-F.Dec digits range) atom
  dec-again digits range t atom some e =
      let z = signed (has_minus t) (units_of digits (without_sign t)) in
      let (form, found) = otherwise (not (is_decimal (without_sign t))) WrongKind _ atom e in
      let (exact, there) = chosen (is_exact digits (without_sign t)) (units_atom digits range z) OutOfRange atom found in
      let (fits, done) = chosen (is_in_64 z && holds range z) (Ok (Dec z digits)) OutOfRange atom there in
      let same = same_ok (Dec z digits) atom done in
      subst (IsAgain table m (YangType-F.Dec digits range)) same (dec_readable digits range z some (and_parts (is_in_64 z) (holds range z) fits).0 ∙ there ∙ ap Ok (sym same))

  identity-again : (bases t : List ℕ) (atom : Atom) → text_atom table m (YangType-F.Ident bases) t ≡ Ok atom → IsAgain table m (YangType-F.Ident bases) atom
  identity-again bases t atom e =
      let (i, called, found) = from_some (derived_atom table bases) (identity_called table m t) UnknownName atom e in
      let (derived, done) = chosen (takes_identity table bases i) (Ok (Ident i)) UnknownName atom found in
      let same = same_ok (Ident i) atom done in
      let inside = is_inside i (length table.identities) (and_parts (nat_lt i (length table.identities)) (list_all (is_derived table i) bases) derived).0 in
      subst (IsAgain table m (YangType-F.Ident bases)) same (ap (λ o. option_map_or (derived_atom table bases) o (Err UnknownName)) (identity_again table is_table m i inside) ∙ found ∙ ap Ok (sym same))

  set-again : (names : List (List ℕ)) (positions t : List ℕ) (r : Result ℕ ScalarFault) (atom : Atom) → IsTrue (is_good_layer table (YangType-F.Bits names positions)) → bits_of names positions t ≡ r
      → set_atom r ≡ Ok atom → IsAgain table m (YangType-F.Bits names positions) atom
  set-again names positions t (Ok set) atom good was e =
      let front = and_first _ _ good in
      let well = and_first _ _ front in
      let both = and_first _ _ well in
      let count = same_count (length names) (length positions) (and_first (length names == length positions) (all_differ text_eq names) both) in
      let back = bits_again names positions count (and_second (length names == length positions) (all_differ text_eq names) both) (and_second _ (all_differ nat_eq positions) well)
      (and_second _ (list_all is_identifier names) front) set (read-named names positions t set was) (none-above names positions t set was (and_second _ (list_all (λ p. nat_lt p 64) positions) good)) in
      subst (IsAgain table m (YangType-F.Bits names positions)) (same_ok (Bits set) atom e) (ap set_atom back)
  set-again names positions t (Err fault) atom good was e = cc

  text-again : (layer : YangType-F YangType) (t : List ℕ) (atom : Atom) → IsTrue (is_good_layer table layer) → IsBytes t
      → text_atom table m layer t ≡ Ok atom → IsAgain table m layer atom
  text-again (YangType-F.Int bits sign range) t atom good bytes e = int-again table m bits sign range t atom e
  text-again (YangType-F.Dec digits range) t atom good bytes e = dec-again digits range t atom (first_digit digits (and_first (nat_le 1 digits && nat_le digits 18) _ good)) e
  text-again (YangType-F.Text lengths patterns) t atom good bytes e = string-again table m lengths patterns t atom e
  text-again YangType-F.Bool t atom good bytes e = bool-again table m t atom e
  text-again (YangType-F.Enum names places) t atom good bytes e = enum-again table m names places t atom (and_second (length names == length places && all_differ text_eq names) _ good) e
  text-again (YangType-F.Bits names positions) t atom good bytes e = set-again names positions t (bits_of names positions t) atom good refl e
  text-again (YangType-F.Bin lengths) t atom good bytes e = binary-again table m lengths t atom bytes e
  text-again (YangType-F.Ident bases) t atom good bytes e = identity-again bases t atom e
  text-again YangType-F.Empty t atom good bytes e = empty-again table m t atom e
  text-again (YangType-F.Leafref path) t atom good bytes e = cc
  text-again (YangType-F.Union members) t atom good bytes e = cc

  plain-back : (layer : YangType-F YangType) (json : Data) (value : Value) → IsTrue (is_good_layer table layer) → HasBytes json → plain (json_atom table m layer json) ≡ Ok value
      → plain (json_atom table m layer (atom_json table m layer value.atom)) ≡ Ok value
  plain-back layer json value good bytes e =
      let (read, same) = plain-parts (json_atom table m layer json) value e in
      ap plain (plain-readable table m layer json value.atom (λ t there found. text-again layer t value.atom good (bytes t there) found) read) ∙ ap Ok same

  layer-back : (layer : YangType-F YangType) (json : Data) (value : Value) → IsTrue (is_good_type_layer table layer) → HasBytes json → layer_scalar table m layer json ≡ Ok value
      → layer_scalar table m layer (layer_json table m layer value) ≡ Ok value
  layer-back (YangType-F.Int bits sign range) json value good bytes e = plain-back (YangType-F.Int bits sign range) json value good bytes e
  layer-back (YangType-F.Dec digits range) json value good bytes e = plain-back (YangType-F.Dec digits range) json value good bytes e
  layer-back (YangType-F.Text lengths patterns) json value good bytes e = plain-back (YangType-F.Text lengths patterns) json value good bytes e
  layer-back YangType-F.Bool json value good bytes e = plain-back YangType-F.Bool json value good bytes e
  layer-back (YangType-F.Enum names places) json value good bytes e = plain-back (YangType-F.Enum names places) json value good bytes e
  layer-back (YangType-F.Bits names positions) json value good bytes e = plain-back (YangType-F.Bits names positions) json value good bytes e
  layer-back (YangType-F.Bin lengths) json value good bytes e = plain-back (YangType-F.Bin lengths) json value good bytes e
  layer-back (YangType-F.Ident bases) json value good bytes e = plain-back (YangType-F.Ident bases) json value good bytes e
  layer-back YangType-F.Empty json value good bytes e = plain-back YangType-F.Empty json value good bytes e
  layer-back (YangType-F.Leafref path) json value good bytes e = plain-back (YangType-F.Leafref path) json value good bytes e
  layer-back (YangType-F.Union members) json value good bytes e = union-readable table m members json value e

from_type : (table : SchemaTable) → IsTable table → (m : ℕ) (json : Data) (value : Value) (o : Option YangType) → ((t : YangType) → o ≡ Some t → IsTrue (is_good_type table t)) → HasBytes json
    → option_map_or (λ t. type_scalar table t m json) o (Err WrongKind) ≡ Ok value
    → option_map_or (λ t. type_scalar table t m (option_map_or (λ t. type_json_of table t m value) o null)) o (Err WrongKind) ≡ Ok value
from_type table is_table m json value None good bytes e = cc
from_type table is_table m json value (Some t) good bytes e = layer-back table is_table m (out-YangType t) json value (good t refl) bytes e

pub reads_back : ReadsBack
reads_back table good ty m json value bytes e =
    from_type table good m json value (slice_get table.types ty) (λ t there. type_is_good table ty t good there) bytes e

-- ---- key texts

module _ (table : SchemaTable) (is_table : IsTable table) (m : ℕ) where
  abbrev layer_text : YangType-F YangType → Value → List ℕ
  layer_text layer value = option_map_or (λ layer. atom_text table m layer value.atom) (layer_for layer value.member) []

  plain-key : (layer : YangType-F YangType) (t : List ℕ) (value : Value) → IsTrue (is_good_layer table layer) → IsBytes t → plain (text_atom table m layer t) ≡ Ok value
      → plain (text_atom table m layer (atom_text table m layer value.atom)) ≡ Ok value
  plain-key layer t value good bytes e =
      let (read, same) = plain-parts (text_atom table m layer t) value e in
      ap plain (text-again table is_table m layer t value.atom good bytes read) ∙ ap Ok same

  place_zero : (k n : ℕ) → k ≡ 0 + n → k ≡ n
  place_zero k n e = omega arith

  union-key : (members : List YangType) (t : List ℕ) (value : Value) → layer_text_scalar table m (YangType-F.Union members) t ≡ Ok value
      → layer_text_scalar table m (YangType-F.Union members) (layer_text (YangType-F.Union members) value) ≡ Ok value
  union-key members t value e =
      let (k, member, place, there, taken) = first-place table (own_text table m t) members 0 value e in
      let layer = out-YangType member in
      let own = own-is (is_own_text table m layer t) (text_atom table m layer t) value.atom taken in
      let same = text_eq-same t (atom_text table m layer value.atom) own in
      let here = ap (λ n. slice_get members n) (place_zero value.member k place) ∙ there in
      let spelled : layer_text (YangType-F.Union members) value ≡ atom_text table m layer value.atom =
      ap (λ o. option_map_or (λ layer. atom_text table m layer value.atom) (option_map_or (λ member. Some (out-YangType member)) o None) []) here in
      ap (λ d. first_own (own_text table m d) 0 members) (spelled ∙ sym same) ∙ e

  layer-key : (layer : YangType-F YangType) (t : List ℕ) (value : Value) → IsTrue (is_good_type_layer table layer) → IsBytes t → layer_text_scalar table m layer t ≡ Ok value
      → layer_text_scalar table m layer (layer_text layer value) ≡ Ok value
  layer-key (YangType-F.Int bits sign range) t value good bytes e = plain-key (YangType-F.Int bits sign range) t value good bytes e
  layer-key (YangType-F.Dec digits range) t value good bytes e = plain-key (YangType-F.Dec digits range) t value good bytes e
  layer-key (YangType-F.Text lengths patterns) t value good bytes e = plain-key (YangType-F.Text lengths patterns) t value good bytes e
  layer-key YangType-F.Bool t value good bytes e = plain-key YangType-F.Bool t value good bytes e
  layer-key (YangType-F.Enum names places) t value good bytes e = plain-key (YangType-F.Enum names places) t value good bytes e
  layer-key (YangType-F.Bits names positions) t value good bytes e = plain-key (YangType-F.Bits names positions) t value good bytes e
  layer-key (YangType-F.Bin lengths) t value good bytes e = plain-key (YangType-F.Bin lengths) t value good bytes e
  layer-key (YangType-F.Ident bases) t value good bytes e = plain-key (YangType-F.Ident bases) t value good bytes e
  layer-key YangType-F.Empty t value good bytes e = plain-key YangType-F.Empty t value good bytes e
  layer-key (YangType-F.Leafref path) t value good bytes e = plain-key (YangType-F.Leafref path) t value good bytes e
  layer-key (YangType-F.Union members) t value good bytes e = union-key members t value e

key_from_type : (table : SchemaTable) → IsTable table → (m : ℕ) (text : List ℕ) (value : Value) (o : Option YangType) → ((t : YangType) → o ≡ Some t → IsTrue (is_good_type table t)) → IsBytes text
    → option_map_or (λ t. type_text_scalar table t m text) o (Err WrongKind) ≡ Ok value
    → option_map_or (λ t. type_text_scalar table t m (option_map_or (λ t. type_text_of table t m value) o [])) o (Err WrongKind) ≡ Ok value
key_from_type table is_table m text value None good bytes e = cc
key_from_type table is_table m text value (Some t) good bytes e = layer-key table is_table m (out-YangType t) text value (good t refl) bytes e

pub key_reads_back : ReadsBackAsKey
key_reads_back table good ty m text value bytes e =
    key_from_type table good m text value (slice_get table.types ty) (λ t there. type_is_good table ty t good there) bytes e
