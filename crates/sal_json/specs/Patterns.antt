-- Patterns of texts (RFC 7950 section 9.4.5), in the grammar of `regex`. A pattern is matched with the whole text.
use Rattle.std.specs.Prelude.{◌≡◌, ◌<◌, All, MatchOption, ℕ, Bool, true, false, not, nat_lt, List, [], ◌∷◌, map, Option, Some, None, is_some, chars, if◌then◌else◌}
use Rattle.std.specs.List.{list_any, slice_get}
use Rattle.std.specs.Option.{option_map_or}
use Rattle.regex_syntax.specs.Verdict.{default_config}
use Rattle.regex_syntax.specs.Grammar.{Names, read}
use Rattle.regex_syntax.specs.Brackets.{Nested}
use Rattle.regex_hir.specs.Re.{Re}
use Rattle.regex_hir.specs.Find.{find_str}
use Rattle.regex_hir.specs.Meaning.{meaning}
use Rattle.regex_hir.specs.declared.hir.Hir.{Hir}
use Rattle.sal_restrict.specs.WholeTexts.{whole_text}
use Rattle.sal_restrict.specs.declared.yang_type.Pattern.{Pattern}
use Rattle.sal_restrict.specs.declared.yang_type.YangType.{YangType, out-YangType}
use Rattle.sal_restrict.specs.declared.yang_type.YangType.TheOpen.{YangType-F}
use Rattle.sal_schema.specs.declared.table.SchemaTable.{SchemaTable}
use Rattle.sal_json.specs.declared.fault.PatternsFault.{PatternsFault}
use Rattle.sal_json.specs.declared.fault.PatternsFault.TheVariants.{Refused, NoMemory}

abbrev pub Text : Type 0
Text = List ℕ

-- the pattern that the grammar accepts is found in the text
abbrev pub is_found : Option (Nested Re × Names) → Text → Bool
is_found None t = false
is_found (Some found) t = is_some (find_str found.0.value t 0)

-- a pattern, as it is searched for, is found in the text
unfoldable pub finds : Text → Text → Bool
finds pattern t = is_found (read default_config (chars pattern)) t

-- the tree is found where the pattern is
abbrev pub IsFoundAs : Hir → Text → Type 0
IsFoundAs hir pattern = (t : Text) → All (λ b. b < 256) t → is_some (find_str (meaning hir) t 0) ≡ finds pattern t

-- all of the text matches the pattern
abbrev pub matches : Text → Text → Bool
matches p t = finds (whole_text p) t

-- the text matches the pattern, or does not match an inverted one
abbrev pub passes : Text → Pattern → Bool
passes t pattern = if pattern.inverted then not (matches pattern.text t) else matches pattern.text t

-- the grammar accepts nothing, or a pattern that is nested too deeply
abbrev pub is_refused : Option (Nested Re × Names) → Bool
is_refused None = true
is_refused (Some found) = nat_lt default_config.nest_limit found.0.depth

unfoldable pub is_malformed : Text → Bool
is_malformed p = is_refused (read default_config (chars (whole_text p)))

-- there is none for a malformed pattern, and otherwise the one that is searched for
abbrev pub IsWhole : Text → Option Text → Type 0
IsWhole p found = MatchOption found (is_malformed p ≡ true) (λ whole. (whole ≡ whole_text p) × (is_malformed p ≡ false))

-- ---- the patterns of a schema

-- one of these is malformed
abbrev pub have_malformed : List Pattern → Bool
have_malformed patterns = list_any (λ (p : Pattern). is_malformed p.text) patterns

-- the patterns of a type that is no union
abbrev pub layer_patterns : YangType-F YangType → List Pattern
layer_patterns (YangType-F.Text length patterns) = patterns
layer_patterns layer = []

abbrev pub plain_patterns : YangType → List Pattern
plain_patterns ty = layer_patterns (out-YangType ty)

-- a list of one
abbrev pub only : {X : Type 0} → X → List X
only x = x ∷ []

-- those of each member of a union, or of the type itself
abbrev pub member_patterns : YangType → YangType-F YangType → List (List Pattern)
member_patterns ty (YangType-F.Union members) = map plain_patterns members
member_patterns ty layer = only (plain_patterns ty)

abbrev pub type_patterns : YangType → List (List Pattern)
type_patterns ty = member_patterns ty (out-YangType ty)

-- a type has a malformed pattern
abbrev pub has_malformed : YangType → Bool
has_malformed ty = list_any have_malformed (type_patterns ty)

-- a type of this number has one
abbrev pub IsRefusal : SchemaTable → PatternsFault → Type 0
IsRefusal table (Refused ty) = option_map_or has_malformed (slice_get table.types ty) false ≡ true
IsRefusal table NoMemory = Unit {0}

-- a pattern, as it is searched for
abbrev pub searched : Pattern → Text
searched p = whole_text p.text

abbrev pub plain_searched : YangType → List Text
plain_searched ty = map searched (plain_patterns ty)

abbrev pub member_searched : YangType → YangType-F YangType → List (List Text)
member_searched ty (YangType-F.Union members) = map plain_searched members
member_searched ty layer = only (plain_searched ty)

abbrev pub type_searched : YangType → List (List Text)
type_searched ty = member_searched ty (out-YangType ty)

-- the patterns of each type, member by member, as they are searched for
abbrev pub patterns_of : SchemaTable → List (List (List Text))
patterns_of table = map type_searched table.types
