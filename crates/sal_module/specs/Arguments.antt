-- The forms of arguments.
use Rattle.std.specs.Prelude.{ℕ, ◌+◌, ◌-◌, ◌*◌, ◌^◌, Bool, true, false, not, ◌&&◌, ◌||◌, ◌==◌, nat_lt, nat_le, List, fold, length, drop, Option, Some, None, if◌then◌else◌, codes}
use Rattle.std.specs.List.{list_all, slice_split}
use Rattle.std.specs.Char.{is_ascii_digit}
use Rattle.sal_stmt.specs.Words.{first, is_empty, is_identifier, is_keyword}
use Rattle.sal_module.specs.declared.argument.Form.{Form}
use Rattle.sal_module.specs.declared.argument.Form.TheVariants.{Identifier, Name, SchemaPath, Text, Absent, Truth, Version, Inversion, Whole, Count, Limit, Integer}
use Rattle.sal_module.specs.Keywords.{same}

-- `0`, or digits that do not begin with `0` (RFC 7950 section 14, non-negative-integer-value)
abbrev pub is_whole : List ℕ → Bool
is_whole t = (not (is_empty t) && list_all is_ascii_digit t) && (length t == 1 || not (first t == 48))

-- the number that digits write
abbrev pub decimal : List ℕ → ℕ
decimal t = fold (λ n c. 10 * n + (c - 48)) 0 t

-- a whole number of 32 bits without a sign
abbrev pub is_count : List ℕ → Bool
is_count t = is_whole t && nat_lt (decimal t) (2 ^ 32)

-- a positive one, or `unbounded`
abbrev pub is_limit : List ℕ → Bool
is_limit t = same t (codes "unbounded") || (is_count t && nat_lt 0 (decimal t))

-- a whole number of 32 bits with a sign: `-0` is one, and a leading `+` is not allowed (integer-value)
abbrev pub is_integer : List ℕ → Bool
is_integer t =
    if first t == 45 then is_whole (drop 1 t) && nat_le (decimal (drop 1 t)) (2 ^ 31)
    else is_whole t && nat_lt (decimal t) (2 ^ 31)

-- A `/` before each of its names (absolute-schema-nodeid). A name may have a prefix.
abbrev pub is_schema_path : List ℕ → Bool
is_schema_path t = first t == 47 && list_all is_keyword (slice_split (λ c. c == 47) (drop 1 t))

abbrev pub has_form : Form → List ℕ → Bool
has_form Identifier t = is_identifier t
has_form Name t = is_keyword t
has_form SchemaPath t = is_schema_path t
has_form Text t = true
has_form Absent t = false
has_form Truth t = same t (codes "true") || same t (codes "false")
has_form Version t = same t (codes "1") || same t (codes "1.1")
has_form Inversion t = same t (codes "invert-match")
has_form Whole t = is_whole t
has_form Count t = is_count t
has_form Limit t = is_limit t
has_form Integer t = is_integer t

-- an argument that is missing, not allowed or of the wrong form
abbrev pub is_bad_argument : Form → Option (List ℕ) → Bool
is_bad_argument Absent None = false
is_bad_argument form None = true
is_bad_argument form (Some t) = not (has_form form t)
