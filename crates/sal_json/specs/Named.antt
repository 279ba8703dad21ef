-- Values that are names: of enums, bits and identities (RFC 7951 sections 6.4, 6.5 and 6.8).
use Rattle.std.specs.Prelude.{ℕ, ◌^◌, bit_or, Bool, ◌==◌, nat_eq, List, [], ◌∷◌, ◌++◌, length, Option, Result, Ok, Err, fold, option_and_then, position, slice_index_or, if◌then◌else◌}
use Rattle.std.specs.List.{list_any, before_first, after_first, slice_split, join_by, filter, range_with_len, slice_get}
use Rattle.std.specs.Option.{option_map_or}
use Rattle.std.specs.Cmp.Lexicographic.{pointwise}
use Rattle.sal_types.specs.declared.value.Atom.{Atom}
use Rattle.sal_types.specs.declared.value.Atom.TheVariants.{Enum, Bits, Ident}
use Rattle.sal_schema.specs.declared.table.SchemaTable.{SchemaTable}
use Rattle.sal_schema.specs.Table.{module_name, identity_name, identity_module}
use Rattle.sal_schema.specs.Names.{identity_of}
use Rattle.sal_schema.specs.Values.{has_bit, takes_identity}
use Rattle.sal_json.specs.declared.fault.ScalarFault.{ScalarFault}
use Rattle.sal_json.specs.declared.fault.ScalarFault.TheVariants.{WrongKind, UnknownName}

-- two texts are the same
abbrev pub text_eq : List ℕ → List ℕ → Bool
text_eq = pointwise nat_eq

-- ---- names, each with a number

-- the number of a name
abbrev pub number_called : List (List ℕ) → List ℕ → List ℕ → Option ℕ
number_called names numbers t = option_and_then (slice_get numbers) (position (text_eq t) names)

-- the name at an index
abbrev pub name_there : List (List ℕ) → Option ℕ → List ℕ
name_there names at = option_map_or (λ i. slice_index_or names i []) at []

-- the name with a number
abbrev pub name_with : List (List ℕ) → List ℕ → ℕ → List ℕ
name_with names numbers n = name_there names (position (λ k. k == n) numbers)

-- ---- enumerations

abbrev pub enum_atom : List (List ℕ) → List ℕ → List ℕ → Result Atom ScalarFault
enum_atom names places t = option_map_or (λ place. Ok (Enum place)) (number_called names places t) (Err UnknownName)

-- ---- bits

abbrev pub is_space : ℕ → Bool
is_space c = c == 32

-- a set of bits and one more, which it has not yet
abbrev pub with_bit : ℕ → ℕ → Result ℕ ScalarFault
with_bit set p = if has_bit set p then Err WrongKind else Ok (bit_or set (2 ^ p))

abbrev pub with_name : List (List ℕ) → List ℕ → ℕ → List ℕ → Result ℕ ScalarFault
with_name names positions set name =
    if length name == 0 then Err WrongKind else option_map_or (with_bit set) (number_called names positions name) (Err UnknownName)

abbrev pub then_name : List (List ℕ) → List ℕ → Result ℕ ScalarFault → List ℕ → Result ℕ ScalarFault
then_name names positions (Ok set) name = with_name names positions set name
then_name names positions (Err fault) name = Err fault

-- names, one space between any two, in any order and none twice; the first fault from the left is returned
unfoldable pub bits_of : List (List ℕ) → List ℕ → List ℕ → Result ℕ ScalarFault
bits_of names positions t = if length t == 0 then Ok 0 else fold (then_name names positions) (Ok 0) (slice_split is_space t)

abbrev pub set_atom : Result ℕ ScalarFault → Result Atom ScalarFault
set_atom (Ok set) = Ok (Bits set)
set_atom (Err fault) = Err fault

abbrev pub bits_atom : List (List ℕ) → List ℕ → List ℕ → Result Atom ScalarFault
bits_atom names positions t = set_atom (bits_of names positions t)

-- the names of the bits that are set, by position
abbrev pub bits_text : List (List ℕ) → List ℕ → ℕ → List ℕ
bits_text names positions set = join_by (name_with names positions) (32 ∷ []) (filter (has_bit set) (range_with_len 0 64))

-- ---- identities

abbrev pub is_colon : ℕ → Bool
is_colon c = c == 58

-- the identity of a name: of the module `m`, or of the one before the first colon
abbrev pub identity_called : SchemaTable → ℕ → List ℕ → Option ℕ
identity_called table m t =
    if list_any is_colon t then identity_of table (before_first is_colon t) (after_first is_colon t) else identity_of table (module_name table m) t

abbrev pub derived_atom : SchemaTable → List ℕ → ℕ → Result Atom ScalarFault
derived_atom table bases i = if takes_identity table bases i then Ok (Ident i) else Err UnknownName

-- an identity that is derived from all bases
abbrev pub identity_atom : SchemaTable → ℕ → List ℕ → List ℕ → Result Atom ScalarFault
identity_atom table m bases t = option_map_or (derived_atom table bases) (identity_called table m t) (Err UnknownName)

-- the name of an identity, with its module if that is not `m`
abbrev pub identity_text : SchemaTable → ℕ → ℕ → List ℕ
identity_text table m i = option_map_or (λ own. if own == m then identity_name table i else module_name table own ++ 58 ∷ identity_name table i) (identity_module table i) []
