-- JSON values that read alike, and the JSON of what a union takes.
use Rattle.std.proofs.Common.{◌≡◌, ℕ, ◌+◌, ◌==◌, nat_lt, ℤ, pos, negsuc, Bool, true, false, ◌&&◌, if◌then◌else◌, List, [], ◌∷◌, Some, Ok, Err, refl, ap, sym, ◌∙◌}
use Rattle.std.specs.Option.{option_map_or}
use Rattle.std.specs.Fmt.{signed_decimal}
use Rattle.serde_json.specs.Data.{Data, Num, unsigned, null, boolean, number, string, array, object, no_items, item}
use Rattle.serde_json.specs.Find.{as_str, as_bool, as_integer, of_integer}
use Rattle.sal_types.specs.declared.value.Atom.{Atom}
use Rattle.sal_types.specs.declared.value.Atom.TheVariants.{Signed, Unsigned, Bool as BoolAtom, Empty}
use Rattle.sal_restrict.specs.declared.ranges.Part.{Part}
use Rattle.sal_restrict.specs.declared.yang_type.YangType.{YangType, out-YangType}
use Rattle.sal_restrict.specs.declared.yang_type.YangType.TheOpen.{YangType-F}
use Rattle.sal_restrict.specs.Ranges.{holds}
use Rattle.sal_schema.specs.declared.table.SchemaTable.{SchemaTable}
use Rattle.sal_schema.specs.Values.{is_of_layer}
use Rattle.sal_json.specs.declared.fault.ScalarFault.TheVariants.{WrongKind, OutOfRange}
use Rattle.sal_json.specs.Numerals.{is_in_64, whole_atom}
use Rattle.sal_json.specs.Named.{text_eq}
use Rattle.sal_json.specs.Read.{text_atom, json_atom, whole_of, is_nulls, own_json, first_own, if_own, value_of}
use Rattle.sal_json.specs.Written.{atom_text, atom_json}
use Rattle.sal_json.proofs.Chosen.{same_ok, chosen}

-- readers see no difference between them
pub record IsAlike (a b : Data) : Type 0 where
  pub str : as_str a ≡ as_str b
  pub whole : whole_of a ≡ whole_of b
  pub bool : as_bool a ≡ as_bool b
  pub nulls : is_nulls a ≡ is_nulls b

pub same_IsAlike : (a b : Data) → a ≡ b → IsAlike a b
same_IsAlike a b e = record { str = ap as_str e; whole = ap whole_of e; bool = ap as_bool e; nulls = ap is_nulls e }

pub str-is : (d : Data) (t : List ℕ) → as_str d ≡ Some t → d ≡ string t
str-is null t e = cc
str-is (boolean b) t e = cc
str-is (number n) t e = cc
str-is (string s) t e = let same : s ≡ t = cc in ap string same
str-is (array ds) t e = cc
str-is (object ms) t e = cc

pub bool-is : (d : Data) (b : Bool) → as_bool d ≡ Some b → d ≡ boolean b
bool-is null b e = cc
bool-is (boolean c) b e = let same : c ≡ b = cc in ap boolean same
bool-is (number n) b e = cc
bool-is (string s) b e = cc
bool-is (array ds) b e = cc
bool-is (object ms) b e = cc

-- a number with the integer z reads as the text that is written for z
pub whole-alike : (d : Data) (n : Num) (z : ℤ) → whole_of d ≡ Some z → as_integer n ≡ Some z → IsAlike (number n) d
whole-alike null n z e h = cc
whole-alike (boolean b) n z e h = cc
whole-alike (number k) n z e h = record { str = refl; whole = h ∙ sym e; bool = refl; nulls = refl }
whole-alike (string s) n z e h = cc
whole-alike (array ds) n z e h = cc
whole-alike (object ms) n z e h = cc

pub nulls-alike : (d : Data) → is_nulls d ≡ true → IsAlike (array (item null no_items)) d
nulls-alike null e = cc
nulls-alike (boolean b) e = cc
nulls-alike (number n) e = cc
nulls-alike (string s) e = cc
nulls-alike (array ds) e = record { str = refl; whole = refl; bool = refl; nulls = sym e }
nulls-alike (object ms) e = cc

pub of_integer-whole : (z : ℤ) → as_integer (of_integer z) ≡ Some z
of_integer-whole (pos n) = refl
of_integer-whole (negsuc n) = refl

-- a type whose values are JSON texts
abbrev pub is_textual : YangType-F YangType → Bool
is_textual (YangType-F.Int bits sign range) = bits == 64
is_textual YangType-F.Bool = false
is_textual YangType-F.Empty = false
is_textual layer = true

module _ (table : SchemaTable) (m : ℕ) where
  -- ---- readers

  pub atom-alike : (layer : YangType-F YangType) (a b : Data) → IsAlike a b → json_atom table m layer a ≡ json_atom table m layer b
  atom-alike (YangType-F.Int bits sign range) a b same = λ i. if bits == 64 then option_map_or (text_atom table m (YangType-F.Int bits sign range)) (same.str i) (Err WrongKind) else option_map_or (whole_atom sign range) (same.whole i) (Err WrongKind)
  atom-alike YangType-F.Bool a b same = ap (λ o. option_map_or (λ b. Ok (BoolAtom b)) o (Err WrongKind)) same.bool
  atom-alike YangType-F.Empty a b same = ap (λ b. if b then Ok Empty else Err WrongKind) same.nulls
  atom-alike (YangType-F.Dec digits range) a b same = ap (λ o. option_map_or (text_atom table m (YangType-F.Dec digits range)) o (Err WrongKind)) same.str
  atom-alike (YangType-F.Text lengths patterns) a b same = ap (λ o. option_map_or (text_atom table m (YangType-F.Text lengths patterns)) o (Err WrongKind)) same.str
  atom-alike (YangType-F.Enum names places) a b same = ap (λ o. option_map_or (text_atom table m (YangType-F.Enum names places)) o (Err WrongKind)) same.str
  atom-alike (YangType-F.Bits names positions) a b same = ap (λ o. option_map_or (text_atom table m (YangType-F.Bits names positions)) o (Err WrongKind)) same.str
  atom-alike (YangType-F.Bin lengths) a b same = ap (λ o. option_map_or (text_atom table m (YangType-F.Bin lengths)) o (Err WrongKind)) same.str
  atom-alike (YangType-F.Ident bases) a b same = ap (λ o. option_map_or (text_atom table m (YangType-F.Ident bases)) o (Err WrongKind)) same.str
  atom-alike (YangType-F.Union members) a b same = ap (λ o. option_map_or (text_atom table m (YangType-F.Union members)) o (Err WrongKind)) same.str
  atom-alike (YangType-F.Leafref path) a b same = ap (λ o. option_map_or (text_atom table m (YangType-F.Leafref path)) o (Err WrongKind)) same.str

  own-alike : (a b : Data) → IsAlike a b → (member : YangType) → own_json table m a member ≡ own_json table m b member
  own-alike a b same member = λ i.
      if_own (λ atom. option_map_or (λ t. text_eq t (atom_text table m (out-YangType member) atom)) (same.str i) true) (atom-alike (out-YangType member) a b same i)

  pub first-alike : (a b : Data) → IsAlike a b → (members : List YangType) (k : ℕ) → first_own (own_json table m a) k members ≡ first_own (own_json table m b) k members
  first-alike a b same [] k = refl
  first-alike a b same (member ∷ members) k = λ i. option_map_or (λ atom. Ok (value_of k atom)) (own-alike a b same member i) (first-alike a b same members (k + 1) i)

  -- ---- written values

  -- the JSON of a value of such a type is its text
  pub textual-json : (layer : YangType-F YangType) (atom : Atom) → is_textual layer ≡ true → is_of_layer table layer atom ≡ true → atom_json table m layer atom ≡ string (atom_text table m layer atom)
  textual-json (YangType-F.Int bits sign range) (Signed z) wide e = ap (λ b. if b then string (signed_decimal z) else number (of_integer z)) wide
  textual-json (YangType-F.Int bits sign range) (Unsigned n) wide e = ap (λ b. if b then string (signed_decimal (pos n)) else number (unsigned n)) wide
  textual-json (YangType-F.Int bits sign range) (BoolAtom b) wide e = cc
  textual-json (YangType-F.Int bits sign range) Empty wide e = cc
  textual-json (YangType-F.Int bits sign range) atom wide e = refl
  textual-json YangType-F.Bool atom wide e = cc
  textual-json YangType-F.Empty atom wide e = cc
  textual-json (YangType-F.Dec digits range) (Signed z) wide e = cc
  textual-json (YangType-F.Dec digits range) (Unsigned n) wide e = cc
  textual-json (YangType-F.Dec digits range) (BoolAtom b) wide e = cc
  textual-json (YangType-F.Dec digits range) Empty wide e = cc
  textual-json (YangType-F.Dec digits range) atom wide e = refl
  textual-json (YangType-F.Text lengths patterns) (Signed z) wide e = cc
  textual-json (YangType-F.Text lengths patterns) (Unsigned n) wide e = cc
  textual-json (YangType-F.Text lengths patterns) (BoolAtom b) wide e = cc
  textual-json (YangType-F.Text lengths patterns) Empty wide e = cc
  textual-json (YangType-F.Text lengths patterns) atom wide e = refl
  textual-json (YangType-F.Enum names places) (Signed z) wide e = cc
  textual-json (YangType-F.Enum names places) (Unsigned n) wide e = cc
  textual-json (YangType-F.Enum names places) (BoolAtom b) wide e = cc
  textual-json (YangType-F.Enum names places) Empty wide e = cc
  textual-json (YangType-F.Enum names places) atom wide e = refl
  textual-json (YangType-F.Bits names positions) (Signed z) wide e = cc
  textual-json (YangType-F.Bits names positions) (Unsigned n) wide e = cc
  textual-json (YangType-F.Bits names positions) (BoolAtom b) wide e = cc
  textual-json (YangType-F.Bits names positions) Empty wide e = cc
  textual-json (YangType-F.Bits names positions) atom wide e = refl
  textual-json (YangType-F.Bin lengths) (Signed z) wide e = cc
  textual-json (YangType-F.Bin lengths) (Unsigned n) wide e = cc
  textual-json (YangType-F.Bin lengths) (BoolAtom b) wide e = cc
  textual-json (YangType-F.Bin lengths) Empty wide e = cc
  textual-json (YangType-F.Bin lengths) atom wide e = refl
  textual-json (YangType-F.Ident bases) (Signed z) wide e = cc
  textual-json (YangType-F.Ident bases) (Unsigned n) wide e = cc
  textual-json (YangType-F.Ident bases) (BoolAtom b) wide e = cc
  textual-json (YangType-F.Ident bases) Empty wide e = cc
  textual-json (YangType-F.Ident bases) atom wide e = refl
  textual-json (YangType-F.Union members) (Signed z) wide e = cc
  textual-json (YangType-F.Union members) (Unsigned n) wide e = cc
  textual-json (YangType-F.Union members) (BoolAtom b) wide e = cc
  textual-json (YangType-F.Union members) Empty wide e = cc
  textual-json (YangType-F.Union members) atom wide e = refl
  textual-json (YangType-F.Leafref path) (Signed z) wide e = cc
  textual-json (YangType-F.Leafref path) (Unsigned n) wide e = cc
  textual-json (YangType-F.Leafref path) (BoolAtom b) wide e = cc
  textual-json (YangType-F.Leafref path) Empty wide e = cc
  textual-json (YangType-F.Leafref path) atom wide e = refl

  -- the number of an integer type
  pub whole-json : (bits : ℕ) (sign : Bool) (range : List Part) (z : ℤ) (atom : Atom) → (bits == 64) ≡ false → whole_atom sign range z ≡ Ok atom
      → atom_json table m (YangType-F.Int bits sign range) atom ≡ number (of_integer z)
  whole-json bits true range z atom small e =
      let same = same_ok _ _ (chosen (is_in_64 z && holds range z) (Ok (Signed z)) OutOfRange atom e).1 in
      ap (atom_json table m (YangType-F.Int bits true range)) (sym same) ∙ ap (λ b. if b then string (signed_decimal z) else number (of_integer z)) small
  whole-json bits false range (pos n) atom small e =
      let same = same_ok _ _ (chosen (nat_lt n 18446744073709551616 && holds range (pos n)) (Ok (Unsigned n)) OutOfRange atom e).1 in
      ap (atom_json table m (YangType-F.Int bits false range)) (sym same) ∙ ap (λ b. if b then string (signed_decimal (pos n)) else number (unsigned n)) small
  whole-json bits false range (negsuc n) atom small e = cc
