-- The names of enumerations and bits, with their numbers (RFC 7950 sections 9.6 and 9.7).
use Rattle.std.specs.Prelude.{ℕ, ℤ, pos, ◌+◌, neg_ℤ, ◌+ℤ◌, int_lt, Bool, true, false, not, ◌&&◌, ◌||◌, ◌==◌, nat_le, List, [], ◌∷◌, ◌++◌, map, fold, find, drop, Option, Some, None, option_map, unwrap_or, if◌then◌else◌}
use Rattle.std.specs.Borrow.{Bor}
use Rattle.std.specs.Int.{int_max}
use Rattle.std.specs.List.{list_any}
use Rattle.std.specs.Ordering.{int_eq}
use Rattle.sal_stmt.specs.declared.stmt.Stmt.{Stmt}
use Rattle.sal_stmt.specs.Words.{first}
use Rattle.sal_module.specs.declared.keyword.Keyword.{Keyword}
use Rattle.sal_module.specs.declared.keyword.Keyword.TheVariants as word
use Rattle.sal_module.specs.declared.fault.Cause.TheVariants.{BadRestriction}
use Rattle.sal_module.specs.declared.fault.Found.{Found}
use Rattle.sal_module.specs.Keywords.{same}
use Rattle.sal_module.specs.Arguments.{decimal, is_integer, is_whole}
use Rattle.sal_module.specs.Statements.{is_named, subs_of, argument_of}
use Rattle.sal_module.specs.Profile.{at_stmt}
use Rattle.sal_typedefs.specs.declared.entry.Entry.{Entry}
use Rattle.sal_typedefs.specs.declared.entry.Numbering.{Numbering}
use Rattle.sal_typedefs.specs.declared.entry.Numbering.TheVariants.{Enums, Bits}

-- ---- how names get their numbers

-- the statement of a name, and the one in it that gives a number
abbrev pub item_of : Numbering → Keyword
item_of Enums = word.Enum
item_of Bits = word.Bit

abbrev pub number_word : Numbering → Keyword
number_word Enums = word.Value
number_word Bits = word.Position

-- the form of that number, and the greatest one
abbrev pub has_form : Numbering → List ℕ → Bool
has_form Enums t = is_integer t
has_form Bits t = is_whole t && nat_le (decimal t) 63

abbrev pub greatest : Numbering → ℤ
greatest Enums = pos 2147483647
greatest Bits = pos 63

abbrev pub integer : List ℕ → ℤ
integer t = if first t == 45 then neg_ℤ (pos (decimal (drop 1 t))) else pos (decimal t)

-- the text of the number that a statement gives
abbrev pub text_of : Numbering → Stmt → Option (List ℕ)
text_of n stmt = option_map argument_of (find (is_named (number_word n)) (subs_of stmt))

-- and the number, if it has the form
abbrev pub stated : Numbering → Option (List ℕ) → Option ℤ
stated n None = None
stated n (Some t) = if has_form n t then Some (integer t) else None

abbrev pub is_malformed : Numbering → Option (List ℕ) → Bool
is_malformed n None = false
is_malformed n (Some t) = not (has_form n t)

abbrev pub has_name : List ℕ → List Entry → Bool
has_name name entries = list_any (λ (e : Entry). same e.name name) entries

abbrev pub has_number : ℤ → List Entry → Bool
has_number number entries = list_any (λ (e : Entry). int_eq e.number number) entries

-- one more than the highest number so far, or 0
abbrev pub next : List Entry → ℤ
next [] = pos 0
next (e ∷ entries) = fold int_max e.number (map (λ (e : Entry). e.number) entries) +ℤ pos 1

-- an upper bound of the numbers in texts, and of the next number after `count` names
abbrev pub bound : ℕ → ℤ
bound count = pos (4294967296 + count)

-- ---- a name that the type itself defines

abbrev pub number_of : Numbering → List Entry → Stmt → ℤ
number_of n before stmt = unwrap_or (stated n (text_of n stmt)) (next before)

-- a name or a number that an earlier one has, and a number past the greatest
abbrev pub is_bad : Numbering → List Entry → Stmt → Bool
is_bad n before stmt =
    ((has_name (argument_of stmt) before || has_number (number_of n before stmt) before) || int_lt (greatest n) (number_of n before stmt))
    || is_malformed n (text_of n stmt)

-- ---- a name chosen from another type

abbrev pub named : List ℕ → List Entry → Option Entry
named name entries = find (λ (e : Entry). same e.name name) entries

-- another number than this one
abbrev pub differs : Numbering → ℤ → Option (List ℕ) → Bool
differs n number None = false
differs n number (Some t) = not (has_form n t) || not (int_eq (integer t) number)

abbrev pub differs_from : Numbering → Option (List ℕ) → Option Entry → Bool
differs_from n text None = true
differs_from n text (Some e) = differs n e.number text

-- a name that the type lacks or an earlier one has, and a number that is not the type's
abbrev pub is_bad_choice : Numbering → List Entry → List Entry → Stmt → Bool
is_bad_choice n entries before stmt = has_name (argument_of stmt) before || differs_from n (text_of n stmt) (named (argument_of stmt) entries)

-- ---- all names of a statement

-- The names are chosen from those of another type, or the statement defines them.
abbrev pub entry_of : Numbering → Option (List Entry) → List Entry → Stmt → Entry
entry_of n None before stmt = record { name = argument_of stmt; number = number_of n before stmt }
entry_of n (Some entries) before stmt = unwrap_or (named (argument_of stmt) entries) (record { name = argument_of stmt; number = pos 0 })

abbrev pub is_faulty : Numbering → Option (List Entry) → List Entry → Stmt → Bool
is_faulty n None before stmt = is_bad n before stmt
is_faulty n (Some entries) before stmt = is_bad_choice n entries before stmt

abbrev pub entries_of : Numbering → Option (List Entry) → List Entry → List Stmt → List Entry
entries_of n from before [] = before
entries_of n from before (stmt ∷ stmts) = entries_of n from (before ++ entry_of n from before stmt ∷ []) stmts

abbrev pub entry_faults : Numbering → Option (List Entry) → ℕ → List Entry → List Stmt → List Found
entry_faults n from m before [] = []
entry_faults n from m before (stmt ∷ stmts) =
    (if is_faulty n from before stmt then at_stmt BadRestriction m stmt else []) ++ entry_faults n from m (before ++ entry_of n from before stmt ∷ []) stmts

-- in the code's form
abbrev pub text_seen : Option (Bor (List ℕ)) → Option (List ℕ)
text_seen text = option_map (λ (t : Bor (List ℕ)). t.now) text

abbrev pub entries_seen : Option (Bor (List Entry)) → Option (List Entry)
entries_seen entries = option_map (λ (e : Bor (List Entry)). e.now) entries
