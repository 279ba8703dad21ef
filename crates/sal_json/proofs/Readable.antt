-- A value that is read is readable.
use Rattle.std.proofs.Common.{◌≡◌, ℕ, ◌+◌, ◌==◌, Bool, true, false, if◌then◌else◌, List, [], ◌∷◌, Some, None, Result, Ok, Err, refl, ap, sym, subst, ◌∙◌, inl, inr, arith}
use Rattle.std.specs.Prelude.{nat_eq}
use Rattle.std.specs.Option.{option_map_or}
use Rattle.std.specs.List.{slice_get}
use Rattle.std.proofs.lemmas.Bool.{cases_Bool, and_parts}
use Rattle.std.proofs.lemmas.Bool.Decides.{nat_tests}
use Rattle.serde_json.specs.Data.{Data, null, boolean, string}
use Rattle.serde_json.specs.Find.{as_str, as_bool, of_integer}
use Rattle.sal_types.specs.declared.value.Atom.{Atom}
use Rattle.sal_types.specs.declared.value.Atom.TheVariants.{Bool as BoolAtom, Empty}
use Rattle.sal_types.specs.declared.value.Value.{Value}
use Rattle.sal_restrict.specs.declared.ranges.Part.{Part}
use Rattle.sal_restrict.specs.declared.yang_type.YangType.{YangType, out-YangType}
use Rattle.sal_restrict.specs.declared.yang_type.YangType.TheOpen.{YangType-F}
use Rattle.sal_schema.specs.declared.table.SchemaTable.{SchemaTable}
use Rattle.sal_json.specs.declared.fault.ScalarFault.{ScalarFault}
use Rattle.sal_json.specs.declared.fault.ScalarFault.TheVariants.{WrongKind}
use Rattle.sal_json.specs.Numerals.{whole_atom}
use Rattle.sal_json.specs.Named.{text_eq}
use Rattle.sal_json.specs.Read.{text_atom, json_atom, whole_of, is_nulls, of_string, of_number, own_json, first_own, if_own, is_own_json, layer_scalar}
use Rattle.sal_json.specs.Written.{atom_text, atom_json, layer_for}
use Rattle.sal_json.proofs.Chosen.{same_ok, chosen, from_some}
use Rattle.sal_json.proofs.OfType.{json-is_of, own-taken, first-place}
use Rattle.sal_json.proofs.Alike.{IsAlike, same_IsAlike, str-is, bool-is, whole-alike, nulls-alike, of_integer-whole, atom-alike, first-alike, is_textual, textual-json, whole-json}

same_number : (x y : ℕ) → nat_eq x y ≡ true → x ≡ y
same_number x y e = grind (arith, nat_tests)

pub text_eq-same : (a b : List ℕ) → text_eq a b ≡ true → a ≡ b
text_eq-same [] [] e = refl
text_eq-same [] (y ∷ b) e = cc
text_eq-same (x ∷ a) [] e = cc
text_eq-same (x ∷ a) (y ∷ b) e = let (here, rest) = and_parts (nat_eq x y) (text_eq a b) e in let first = same_number x y here in let more = text_eq-same a b rest in λ i. first i ∷ more i

pub own-is : (is_own : Atom → Bool) (r : Result Atom ScalarFault) (atom : Atom) → if_own is_own r ≡ Some atom → is_own atom ≡ true
own-is is_own (Err fault) atom e = cc
own-is is_own (Ok found) atom e = elim (cases_Bool (is_own found)) [
  | inl own ↦ let same : Some found ≡ Some atom = rw own at e in let here : found ≡ atom = cc in ap is_own (sym here) ∙ own
  | inr other ↦ let never : None ≡ Some atom = rw other at e in cc
]

module _ (table : SchemaTable) (m : ℕ) where
  abbrev written : YangType-F YangType → Atom → Data
  written layer atom = atom_json table m layer atom

  abbrev text : YangType-F YangType → Atom → List ℕ
  text layer atom = atom_text table m layer atom

  -- a JSON text is read as a text
  textual-read : (layer : YangType-F YangType) (json : Data) → is_textual layer ≡ true → json_atom table m layer json ≡ of_string (text_atom table m layer) json
  textual-read (YangType-F.Int bits sign range) json wide = ap (λ b. if b then of_string (text_atom table m (YangType-F.Int bits sign range)) json else of_number (whole_atom sign range) json) wide
  textual-read YangType-F.Bool json wide = cc
  textual-read YangType-F.Empty json wide = cc
  textual-read (YangType-F.Dec digits range) json wide = refl
  textual-read (YangType-F.Text lengths patterns) json wide = refl
  textual-read (YangType-F.Enum names places) json wide = refl
  textual-read (YangType-F.Bits names positions) json wide = refl
  textual-read (YangType-F.Bin lengths) json wide = refl
  textual-read (YangType-F.Ident bases) json wide = refl
  textual-read (YangType-F.Union members) json wide = refl
  textual-read (YangType-F.Leafref path) json wide = refl

  -- numbers, `true`, `false` and `[null]` read alike in any form
  number-alike : (bits : ℕ) (sign : Bool) (range : List Part) (json : Data) (atom : Atom) → (bits == 64) ≡ false → json_atom table m (YangType-F.Int bits sign range) json ≡ Ok atom
      → IsAlike (written (YangType-F.Int bits sign range) atom) json
  number-alike bits sign range json atom small e =
      let e' = rw small at e in
      let (z, read, found) = from_some (whole_atom sign range) (whole_of json) WrongKind atom e' in
      subst (λ d. IsAlike d json) (sym (whole-json table m bits sign range z atom small found)) (whole-alike json (of_integer z) z read (of_integer-whole z))

  plain-alike : (layer : YangType-F YangType) (json : Data) (atom : Atom) → is_textual layer ≡ false → json_atom table m layer json ≡ Ok atom → IsAlike (written layer atom) json
  plain-alike (YangType-F.Int bits sign range) json atom small e = number-alike bits sign range json atom small e
  plain-alike YangType-F.Bool json atom other e =
      let (b, read, found) = from_some (λ b. Ok (BoolAtom b)) (as_bool json) WrongKind atom e in
      subst (λ a. IsAlike (written YangType-F.Bool a) json) (same_ok _ _ found) (same_IsAlike (boolean b) json (sym (bool-is json b read)))
  plain-alike YangType-F.Empty json atom other e =
      let (one, there) = chosen (is_nulls json) (Ok Empty) WrongKind atom e in
      subst (λ a. IsAlike (written YangType-F.Empty a) json) (same_ok _ _ there) (nulls-alike json one)
  plain-alike (YangType-F.Dec digits range) json atom other e = cc
  plain-alike (YangType-F.Text lengths patterns) json atom other e = cc
  plain-alike (YangType-F.Enum names places) json atom other e = cc
  plain-alike (YangType-F.Bits names positions) json atom other e = cc
  plain-alike (YangType-F.Bin lengths) json atom other e = cc
  plain-alike (YangType-F.Ident bases) json atom other e = cc
  plain-alike (YangType-F.Union members) json atom other e = cc
  plain-alike (YangType-F.Leafref path) json atom other e = cc

  textual-alike : (layer : YangType-F YangType) (json : Data) (atom : Atom) → is_textual layer ≡ true → json_atom table m layer json ≡ Ok atom
      → is_own_json table m layer json atom ≡ true → IsAlike (written layer atom) json
  textual-alike layer json atom wide e own =
      let (t, read, found) = from_some (text_atom table m layer) (as_str json) WrongKind atom (sym (textual-read layer json wide) ∙ e) in
      let own' = sym (ap (λ o. option_map_or (λ t. text_eq t (text layer atom)) o true) read) ∙ own in
      let same = text_eq-same t (text layer atom) own' in
      let spelled = textual-json table m layer atom wide (json-is_of table m layer json atom e) in
      same_IsAlike (written layer atom) json (spelled ∙ ap string (sym same) ∙ sym (str-is json t read))

  own-alike : (layer : YangType-F YangType) (json : Data) (atom : Atom) → json_atom table m layer json ≡ Ok atom → is_own_json table m layer json atom ≡ true → IsAlike (written layer atom) json
  own-alike layer json atom e own = elim (cases_Bool (is_textual layer)) [
    | inl wide ↦ textual-alike layer json atom wide e own
    | inr other ↦ plain-alike layer json atom other e
  ]

  abbrev pub layer_json : YangType-F YangType → Value → Data
  layer_json layer value = option_map_or (λ layer. atom_json table m layer value.atom) (layer_for layer value.member) null

  place_zero : (k n : ℕ) → k ≡ 0 + n → k ≡ n
  place_zero k n e = omega arith

  -- what a union takes
  pub union-readable : (members : List YangType) (json : Data) (value : Value) → layer_scalar table m (YangType-F.Union members) json ≡ Ok value
      → layer_scalar table m (YangType-F.Union members) (layer_json (YangType-F.Union members) value) ≡ Ok value
  union-readable members json value e =
      let (k, member, place, there, taken) = first-place table (own_json table m json) members 0 value e in
      let layer = out-YangType member in
      let read = own-taken table (is_own_json table m layer json) (json_atom table m layer json) value.atom taken in
      let own = own-is (is_own_json table m layer json) (json_atom table m layer json) value.atom taken in
      let alike = own-alike layer json value.atom read own in
      let here = ap (λ n. slice_get members n) (place_zero value.member k place) ∙ there in
      let spelled : layer_json (YangType-F.Union members) value ≡ written layer value.atom =
      ap (λ o. option_map_or (λ layer. atom_json table m layer value.atom) (option_map_or (λ member. Some (out-YangType member)) o None) null) here in
      ap (λ d. first_own (own_json table m d) 0 members) spelled ∙ first-alike table m (written layer value.atom) json alike members 0 ∙ e

  -- what another type reads, where its texts are readable
  pub plain-readable : (layer : YangType-F YangType) (json : Data) (atom : Atom)
      → ((t : List ℕ) → as_str json ≡ Some t → text_atom table m layer t ≡ Ok atom → text_atom table m layer (text layer atom) ≡ Ok atom)
      → json_atom table m layer json ≡ Ok atom → json_atom table m layer (written layer atom) ≡ Ok atom
  plain-readable layer json atom again e = elim (cases_Bool (is_textual layer)) [
    | inl wide ↦
        let (t, read, found) = from_some (text_atom table m layer) (as_str json) WrongKind atom (sym (textual-read layer json wide) ∙ e) in
        let spelled = textual-json table m layer atom wide (json-is_of table m layer json atom e) in
        ap (json_atom table m layer) spelled ∙ textual-read layer (string (text layer atom)) wide ∙ again t read found
    | inr other ↦ atom-alike table m layer (written layer atom) json (plain-alike layer json atom other e) ∙ e
  ]
