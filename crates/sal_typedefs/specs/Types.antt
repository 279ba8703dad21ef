-- The meaning of a type statement: its type, or the first fault in it and in those that it depends on.
use Rattle.std.specs.Prelude.{◌≡◌, ⊤, ℕ, zero, suc, Bool, true, false, not, ◌&&◌, ◌==◌, List, [], ◌∷◌, ◌++◌, map, find, length, Option, Some, None, is_some, option_map, unwrap_or, if◌then◌else◌, unsigned_abs}
use Rattle.std.specs.List.{flat_map, list_any, enumerate_from, position_from, slice_get, slice_index}
use Rattle.std.specs.Option.{option_to_list}
use Rattle.std.specs.Result.{result_unwrap_or}
use Rattle.sal_stmt.specs.declared.stmt.Stmt.{Stmt}
use Rattle.sal_module.specs.declared.keyword.Keyword.{Keyword}
use Rattle.sal_module.specs.declared.keyword.Keyword.TheVariants as word
use Rattle.sal_module.specs.declared.fault.Found.{Found}
use Rattle.sal_module.specs.Keywords.{same}
use Rattle.sal_module.specs.Statements.{is_named, subs_of, all_named, argument_of, value_of}
use Rattle.sal_restrict.specs.declared.ranges.Part.{Part}
use Rattle.sal_restrict.specs.declared.yang_type.Pattern.{Pattern}
use Rattle.sal_restrict.specs.declared.yang_type.YangType.{YangType, out-YangType, roll-YangType}
use Rattle.sal_restrict.specs.declared.yang_type.YangType.TheOpen.{YangType-F}
use Rattle.sal_restrict.specs.RangeTexts.{read_ranges}
use Rattle.sal_typedefs.specs.Scopes.{Site, identity_of}
use Rattle.sal_typedefs.specs.Builtins.{builtin_of, type_of}
use Rattle.sal_typedefs.specs.Names.{name_of, rests_on, steps_of}
use Rattle.sal_typedefs.specs.declared.entry.Entry.{Entry}
use Rattle.sal_typedefs.specs.declared.entry.Numbering.{Numbering}
use Rattle.sal_typedefs.specs.declared.entry.Numbering.TheVariants.{Enums, Bits}
use Rattle.sal_typedefs.specs.Entries.{item_of, entries_of}
use Rattle.sal_typedefs.specs.Restrictions.{Base, unlisted, Layer, layer_of, numbering_of, choices, restriction_faults, pattern_faults}

-- ---- the type of a statement without faults

-- the range of a text, or all numbers if there is none
abbrev pub read_or_all : List ℕ → ℕ → List Part → List Part
read_or_all t digits within = result_unwrap_or (read_ranges t within digits) within

-- the range or length of a type, narrowed if the statement has one
abbrev pub narrowed : Keyword → Stmt → ℕ → List Part → List Part
narrowed keyword stmt digits within =
    unwrap_or (option_map (λ sub. read_or_all (argument_of sub) digits within) (find (is_named keyword) (subs_of stmt))) within

abbrev pub pattern_of : Stmt → Pattern
pattern_of stmt = record { text = argument_of stmt; inverted = list_any (is_named word.Modifier) (subs_of stmt) }

-- the members of a union, or the type as its only member
abbrev pub members_of : YangType → Layer → List YangType
members_of t (YangType-F.Union members) = members
members_of t layer = t ∷ []

-- the indexes of some names in the original enumeration
abbrev pub places_of : List (List ℕ) → List ℕ → List (List ℕ) → List ℕ
places_of names places chosen = map (λ name. slice_index places (unwrap_or (position_from (same name) 0 names) 0)) chosen

abbrev pub names_in : List Entry → List (List ℕ)
names_in entries = map (λ (e : Entry). e.name) entries

-- A statement without names has all names of the type that it restricts.
abbrev pub takes_all : Numbering → Base → Stmt → Bool
takes_all n base stmt = not base.itself && not (list_any (is_named (item_of n)) (subs_of stmt))

-- the names and numbers of the type
abbrev pub entries_with : Base → Stmt → Numbering → List Entry
entries_with base stmt n = if takes_all n base stmt then base.entries else entries_of n (choices base) [] (all_named (item_of n) stmt)

abbrev pub entries_by : Base → Stmt → Option Numbering → List Entry
entries_by base stmt None = []
entries_by base stmt (Some n) = entries_with base stmt n

abbrev pub entries_in : Base → Stmt → Layer → List Entry
entries_in base stmt layer = entries_by base stmt (numbering_of layer)

-- Some substatements count only directly on the built-in type. `below` are the types that it depends on.
abbrev pub restricted : List Stmt → ℕ → Base → Stmt → List YangType → List Entry → Layer → Layer
restricted modules m base stmt below entries (YangType-F.Int bits signed range) = YangType-F.Int bits signed (narrowed word.Range stmt 0 range)
restricted modules m base stmt below entries (YangType-F.Dec digits range) = YangType-F.Dec digits (narrowed word.Range stmt digits range)
restricted modules m base stmt below entries (YangType-F.Text length patterns) =
    YangType-F.Text (narrowed word.Length stmt 0 length) (patterns ++ map pattern_of (all_named word.Pattern stmt))
restricted modules m base stmt below entries (YangType-F.Enum names places) =
    if takes_all Enums base stmt then YangType-F.Enum names places
    else YangType-F.Enum (names_in entries) (if base.itself then map (λ (e : ℕ × Entry). e.0) (enumerate_from 0 entries) else places_of names places (names_in entries))
restricted modules m base stmt below entries (YangType-F.Bits names positions) =
    if takes_all Bits base stmt then YangType-F.Bits names positions
    else YangType-F.Bits (names_in entries) (map (λ (e : Entry). unsigned_abs e.number) entries)
restricted modules m base stmt below entries (YangType-F.Bin length) = YangType-F.Bin (narrowed word.Length stmt 0 length)
restricted modules m base stmt below entries (YangType-F.Ident bases) =
    YangType-F.Ident (if base.itself then flat_map (λ sub. option_to_list (identity_of modules m (argument_of sub))) (all_named word.Base stmt) else bases)
restricted modules m base stmt below entries (YangType-F.Union members) =
    YangType-F.Union (if base.itself then flat_map (λ t. members_of t (out-YangType t)) below else members)
restricted modules m base stmt below entries (YangType-F.Leafref path) = YangType-F.Leafref (if base.itself then value_of word.Path stmt else path)
restricted modules m base stmt below entries t = t

-- a type that only its statement restricts, and without names
abbrev pub IsPlain : Layer → Type 0
IsPlain (YangType-F.Enum names places) = ⊥
IsPlain (YangType-F.Bits names positions) = ⊥
IsPlain (YangType-F.Ident bases) = ⊥
IsPlain (YangType-F.Union members) = ⊥
IsPlain layer = ⊤

abbrev pub IsRestricted : YangType → Bool → Stmt → YangType → Type 0
IsRestricted type itself stmt result =
    (modules : List Stmt) (m : ℕ) (below : List YangType) (entries : List Entry)
    → result ≡ roll-YangType (restricted modules m (unlisted type itself) stmt below entries (out-YangType type))

-- ---- one statement after those that it depends on

-- the faults of a statement and of those that it depends on, and its type if there is none
pub record Judged : Type 0 where
  pub faults : List Found
  pub type : YangType
  pub entries : List Entry

abbrev pub nothing : Judged
nothing = record { faults = []; type = roll-YangType YangType-F.Empty; entries = [] }

abbrev pub is_faulty : Judged → Bool
is_faulty judged = not (length judged.faults == 0)

-- the built-in type that a statement names, or the type of its typedef
abbrev pub base_of : Site → List Judged → Base
base_of site below =
    if is_some (builtin_of (name_of site))
    then record { type = unwrap_or (option_map type_of (builtin_of (name_of site))) nothing.type; entries = []; itself = true }
    else record { type = (unwrap_or (slice_get below 0) nothing).type; entries = (unwrap_or (slice_get below 0) nothing).entries; itself = false }

-- If one of the types below has a fault, only patterns are checked.
abbrev pub own_faults : Site → Base → List Judged → List Found
own_faults site base below =
    pattern_faults site.module site.stmt ++ (if list_any is_faulty below then [] else restriction_faults base site.module site.stmt)

abbrev pub judged : List Stmt → Site → Base → List Judged → Judged
judged modules site base below =
    let layer = layer_of base site.stmt in
    let entries = entries_in base site.stmt layer in
    record {
      faults = flat_map (λ (j : Judged). j.faults) below ++ own_faults site base below;
      type = roll-YangType (restricted modules site.module base site.stmt (map (λ (j : Judged). j.type) below) entries layer);
      entries = entries;
    }

-- at the end of a path
unfoldable pub judge_last : List Stmt → Site → Judged
judge_last modules site = judged modules site (base_of site []) []

-- If no name is faulty, no path has more steps than there are statements.
unfoldable pub judge : ℕ → List Stmt → Site → Judged
judge zero modules site = judge_last modules site
judge (suc steps) modules site =
    judged modules site (base_of site (map (judge steps modules) (rests_on modules site))) (map (judge steps modules) (rests_on modules site))

-- ---- the result

abbrev pub judgement : List Stmt → Site → Judged
judgement modules site = judge (steps_of modules) modules site
