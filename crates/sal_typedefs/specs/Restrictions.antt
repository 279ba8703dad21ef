-- The restrictions in a type statement (RFC 7950 sections 7.3.4 and 9).
use Rattle.std.specs.Prelude.{◌≡◌, ℕ, ℤ, pos, ◌<◌, ◌≤◌, ◌≤ℤ◌, ⊤, All, Bool, true, false, not, ◌&&◌, ◌||◌, ◌==◌, nat_lt, nat_le, List, [], ◌++◌, length, Option, Some, None, is_some, is_err, if◌then◌else◌}
use Rattle.std.specs.List.{flat_map, list_any}
use Rattle.std.specs.Option.{option_to_list}
use Rattle.sal_stmt.specs.declared.stmt.Stmt.{Stmt}
use Rattle.sal_module.specs.declared.keyword.Keyword.{Keyword}
use Rattle.sal_module.specs.declared.keyword.Keyword.TheVariants as word
use Rattle.sal_module.specs.declared.fault.Cause.TheVariants.{BadRestriction, BadPattern}
use Rattle.sal_module.specs.declared.fault.Found.{Found}
use Rattle.sal_module.specs.Keywords.{same_keyword}
use Rattle.sal_module.specs.Arguments.{decimal, is_whole}
use Rattle.sal_module.specs.Statements.{is_named, subs_of, all_named, argument_of, value_of}
use Rattle.sal_module.specs.Profile.{at_stmt}
use Rattle.std.specs.Borrow.{Bor}
use Rattle.sal_restrict.specs.declared.ranges.Part.{Part}
use Rattle.sal_restrict.specs.declared.ranges.Ranges.{Ranges}
use Rattle.sal_restrict.specs.declared.yang_type.YangType.{YangType, out-YangType}
use Rattle.sal_restrict.specs.declared.yang_type.YangType.TheOpen.{YangType-F}
use Rattle.sal_restrict.specs.RangeTexts.{read_ranges}
use Rattle.sal_typedefs.specs.declared.entry.Entry.{Entry}
use Rattle.sal_typedefs.specs.declared.entry.Numbering.{Numbering}
use Rattle.sal_typedefs.specs.declared.entry.Numbering.TheVariants.{Enums, Bits}
use Rattle.sal_typedefs.specs.Entries.{item_of, entry_faults}
use Rattle.sal_typedefs.specs.Patterns.{is_malformed}

-- The type that a statement restricts: the built-in type itself, or one that is derived from it. The names of an enumeration or
-- bits have their numbers here.
pub record Base : Type 0 where
  pub type : YangType
  pub entries : List Entry
  pub itself : Bool

-- one whose names do not matter
abbrev pub unlisted : YangType → Bool → Base
unlisted type itself = record { type = type; entries = []; itself = itself }

abbrev pub Layer : Type 0
Layer = YangType-F YangType

-- in the code's form
abbrev pub seen : Bor Ranges × ℕ → List Part × ℕ
seen n = (n.0.now, n.1)

-- the numbers that a `range` restricts, and their fraction digits
abbrev pub numbers : Layer → Option (List Part × ℕ)
numbers (YangType-F.Int bits signed range) = Some (range, 0)
numbers (YangType-F.Dec digits range) = Some (range, digits)
numbers t = None

-- the numbers that a `length` restricts
abbrev pub lengths : Layer → Option (List Part × ℕ)
lengths (YangType-F.Text length patterns) = Some (length, 0)
lengths (YangType-F.Bin length) = Some (length, 0)
lengths t = None

abbrev pub is_text : Layer → Bool
is_text (YangType-F.Text length patterns) = true
is_text t = false

abbrev pub is_enumeration : Layer → Bool
is_enumeration (YangType-F.Enum names places) = true
is_enumeration t = false

abbrev pub is_bits : Layer → Bool
is_bits (YangType-F.Bits names positions) = true
is_bits t = false

abbrev pub is_leafref : Layer → Bool
is_leafref (YangType-F.Leafref path) = true
is_leafref t = false

-- the substatement that the statement of a built-in type requires, and no other may have
abbrev pub needed : Layer → Option Keyword
needed (YangType-F.Dec digits range) = Some word.FractionDigits
needed (YangType-F.Enum names places) = Some word.Enum
needed (YangType-F.Bits names positions) = Some word.Bit
needed (YangType-F.Ident bases) = Some word.Base
needed (YangType-F.Union members) = Some word.Type
needed (YangType-F.Leafref path) = Some word.Path
needed t = None

abbrev pub is_needed : Base → Keyword → Bool
is_needed base keyword = base.itself && list_any (same_keyword keyword) (option_to_list (needed (out-YangType base.type)))

-- a restriction of another kind of type
abbrev pub is_measure_of_another : Layer → Stmt → Bool
is_measure_of_another t stmt =
    ((is_named word.Range stmt && not (is_some (numbers t))) || (is_named word.Length stmt && not (is_some (lengths t)))) || (is_named word.Pattern stmt && not (is_text t))

abbrev pub is_item_of_another : Layer → Stmt → Bool
is_item_of_another t stmt =
    ((is_named word.Enum stmt && not (is_enumeration t)) || (is_named word.Bit stmt && not (is_bits t))) || (is_named word.RequireInstance stmt && not (is_leafref t))

-- a substatement that only another built-in type, or only the built-in type itself, may have
abbrev pub is_out_of_place : Base → Stmt → Bool
is_out_of_place base stmt =
    (((is_named word.FractionDigits stmt && not (is_needed base word.FractionDigits)) || (is_named word.Base stmt && not (is_needed base word.Base)))
    || (is_named word.Path stmt && not (is_needed base word.Path))) || (is_named word.Type stmt && not (is_needed base word.Type))

abbrev pub is_misplaced : Base → Stmt → Bool
is_misplaced base stmt =
    (is_measure_of_another (out-YangType base.type) stmt || is_item_of_another (out-YangType base.type) stmt) || is_out_of_place base stmt

-- a text that is not a range or length, or one that is wider than that of the type
abbrev pub is_wider : Option (List Part × ℕ) → Stmt → Bool
is_wider None stmt = false
is_wider (Some (within, digits)) stmt = is_err (read_ranges (argument_of stmt) within digits)

-- a type whose numbers and lengths can be restricted: there are some, and at most 18 fraction digits
abbrev pub HasNumbers : Layer → Type 0
HasNumbers (YangType-F.Int bits signed range) = 0 < length range
HasNumbers (YangType-F.Dec digits range) = (0 < length range) × (digits ≤ 18)
HasNumbers (YangType-F.Text lengths patterns) = 0 < length lengths
HasNumbers (YangType-F.Bin lengths) = 0 < length lengths
HasNumbers t = ⊤

-- bits whose numbers are positions: other types have none
abbrev pub IsPosition : Entry → Type 0
IsPosition e = (pos 0 ≤ℤ e.number) × (e.number ≤ℤ pos 63)

abbrev pub HasPositions : Layer → List Entry → Type 0
HasPositions (YangType-F.Bits names positions) entries = All IsPosition entries
HasPositions t entries = ⊤

-- an enumeration that names its values itself, and not more than 32 bits number
abbrev pub HasPlaces : Bool → Layer → List Entry → Type 0
HasPlaces itself (YangType-F.Enum names places) entries = itself ≡ true → length entries ≤ 4294967296
HasPlaces itself t entries = ⊤

-- ---- fraction digits

abbrev pub digits_of : Stmt → ℕ
digits_of stmt = decimal (value_of word.FractionDigits stmt)

-- from 1 to 18
abbrev pub are_fraction_digits : List ℕ → Bool
are_fraction_digits t = is_whole t && (nat_lt 0 (decimal t) && nat_le (decimal t) 18)

abbrev pub is_decimal : Base → Bool
is_decimal base = is_needed base word.FractionDigits

abbrev pub digit_fault : ℕ → Stmt → List Found
digit_fault m sub =
    if not (is_named word.FractionDigits sub) || are_fraction_digits (argument_of sub) then [] else at_stmt BadRestriction m sub

abbrev pub digit_faults : ℕ → Stmt → List Found
digit_faults m stmt = flat_map (digit_fault m) (subs_of stmt)

-- a decimal64 gets its digits before it is restricted
abbrev pub with_digits : ℕ → Layer → Layer
with_digits digits (YangType-F.Dec old range) = YangType-F.Dec digits range
with_digits digits t = t

abbrev pub layer_of : Base → Stmt → Layer
layer_of base stmt = if is_decimal base then with_digits (digits_of stmt) (out-YangType base.type) else out-YangType base.type

-- ---- all faults of a statement

-- the required substatement is missing
abbrev pub absent_faults : Base → ℕ → Stmt → List Found
absent_faults base m stmt =
    if base.itself && list_any (λ keyword. not (list_any (is_named keyword) (subs_of stmt))) (option_to_list (needed (out-YangType base.type)))
    then at_stmt BadRestriction m stmt else []

abbrev pub is_bad : Base → Layer → Stmt → Bool
is_bad base t sub = is_misplaced base sub || ((is_named word.Range sub && is_wider (numbers t) sub) || (is_named word.Length sub && is_wider (lengths t) sub))

abbrev pub sub_faults : Base → Layer → ℕ → Stmt → List Found
sub_faults base t m sub = if is_bad base t sub then at_stmt BadRestriction m sub else []

-- how the names of a type get their numbers, if it has names
abbrev pub numbering_of : Layer → Option Numbering
numbering_of (YangType-F.Enum names places) = Some Enums
numbering_of (YangType-F.Bits names positions) = Some Bits
numbering_of t = None

-- the names from which a statement chooses, or none if it defines names
abbrev pub choices : Base → Option (List Entry)
choices base = if base.itself then None else Some base.entries

-- the enums, or the bits
abbrev pub faults_by : Base → ℕ → Stmt → Numbering → List Found
faults_by base m stmt n = entry_faults n (choices base) m [] (all_named (item_of n) stmt)

abbrev pub list_faults : Base → ℕ → Stmt → List Found
list_faults base m stmt = flat_map (faults_by base m stmt) (option_to_list (numbering_of (out-YangType base.type)))

-- Restrictions of a decimal64 with bad fraction digits are not checked.
abbrev pub restriction_faults : Base → ℕ → Stmt → List Found
restriction_faults base m stmt =
    if is_decimal base && not (length (digit_faults m stmt) == 0) then digit_faults m stmt
    else absent_faults base m stmt ++ flat_map (sub_faults base (layer_of base stmt) m) (subs_of stmt) ++ list_faults base m stmt

abbrev pub pattern_fault : ℕ → Stmt → List Found
pattern_fault m sub = if not (is_named word.Pattern sub) || not (is_malformed (argument_of sub)) then [] else at_stmt BadPattern m sub

abbrev pub pattern_faults : ℕ → Stmt → List Found
pattern_faults m stmt = flat_map (pattern_fault m) (subs_of stmt)
