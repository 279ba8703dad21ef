-- The rules of the profile: every fault of every statement, in any order; the least of them is returned.
use Rattle.std.specs.Prelude.{ℕ, zero, suc, Bool, false, not, ◌&&◌, ◌||◌, ◌==◌, List, [], ◌∷◌, ◌++◌, Option, Some, None, if◌then◌else◌, codes}
use Rattle.std.specs.List.{flat_map, list_any, enumerate_from}
use Rattle.sal_stmt.specs.declared.stmt.Stmt.{Stmt, out-Stmt}
use Rattle.sal_module.specs.declared.keyword.Keyword.{Keyword}
use Rattle.sal_module.specs.declared.keyword.Keyword.TheVariants as word
use Rattle.sal_module.specs.declared.table.Often.{Often}
use Rattle.sal_module.specs.declared.table.Often.TheVariants.{Optional, One}
use Rattle.sal_module.specs.declared.table.TheConstants.{LEFT_OUT}
use Rattle.sal_module.specs.declared.profile.Standing.{Standing}
use Rattle.sal_module.specs.declared.profile.Standing.TheVariants.{Nowhere, Once, Again}
use Rattle.sal_module.specs.declared.fault.Cause.{Cause}
use Rattle.sal_module.specs.declared.fault.Cause.TheVariants.{UnknownStatement, LeftOut, Missing, Twice, BadArgument}
use Rattle.sal_module.specs.declared.fault.Found.{Found}
use Rattle.sal_module.specs.Keywords.{same, same_keyword, keyword_of}
use Rattle.sal_module.specs.Arguments.{is_bad_argument}
use Rattle.sal_module.specs.Table.{Entry, Rule, rule_of}
use Rattle.sal_module.specs.Statements.{is_named, subs_of, all_named, argument_of}
use Rattle.sal_module.specs.LeftOut.{is_left_out, bit_faults}

-- a fault of module m at an offset
abbrev pub at_place : Cause → ℕ → ℕ → List Found
at_place cause m at = record { cause = cause; «module» = m; at = at } ∷ []

-- and at a statement
abbrev pub at_stmt : Cause → ℕ → Stmt → List Found
at_stmt cause m stmt = at_place cause m (out-Stmt stmt).at

-- ---- how often substatements occur

-- how often the statements of one keyword occur, with the offset of the second
abbrev pub standing_of : List Stmt → Standing
standing_of [] = Nowhere
standing_of (one ∷ []) = Once
standing_of (one ∷ two ∷ more) = Again (out-Stmt two).at

-- of a keyword in the block of a statement at an offset
abbrev pub often_faults : ℕ → ℕ → Keyword → Often → Standing → List Found
often_faults m at keyword One Nowhere = at_place (Missing keyword) m at
often_faults m at keyword One (Again second) = at_place (Twice keyword) m second
often_faults m at keyword Optional (Again second) = at_place (Twice keyword) m second
often_faults m at keyword often standing = []

abbrev pub entry_faults : ℕ → Stmt → Entry → List Found
entry_faults m stmt entry = often_faults m (out-Stmt stmt).at entry.0 entry.1 (standing_of (all_named entry.0 stmt))

-- ---- which substatements are allowed

-- a keyword with a prefix
abbrev pub is_prefixed : List ℕ → Bool
is_prefixed text = list_any (λ c. c == 58) text

abbrev pub allows_keyword : Rule → Option Keyword → Bool
allows_keyword rule None = false
allows_keyword rule (Some keyword) = list_any (λ (e : Entry). same_keyword e.0 keyword) rule.entries

-- the rule allows the keyword
abbrev pub allows : Rule → List ℕ → Bool
allows rule text = allows_keyword rule (keyword_of text)

abbrev pub is_left_out_word : List ℕ → Bool
is_left_out_word text = list_any (λ word. same word.now text) LEFT_OUT

-- the kind of fault for a keyword that its parent does not allow
abbrev pub cause_outside : Stmt → List ℕ → Cause
cause_outside parent text =
    if (is_left_out_word text || same text (codes "notification")) || (is_named word.Uses parent && same text (codes "augment"))
    then LeftOut else UnknownStatement

abbrev pub sub_faults : ℕ → Stmt → Rule → Stmt → List Found
sub_faults m parent rule sub =
    if is_prefixed (out-Stmt sub).keyword || allows rule (out-Stmt sub).keyword then []
    else at_stmt (cause_outside parent (out-Stmt sub).keyword) m sub

-- ---- one statement

abbrev pub argument_faults : ℕ → Stmt → Rule → List Found
argument_faults m stmt rule = if is_bad_argument rule.argument (out-Stmt stmt).arg then at_stmt BadArgument m stmt else []

abbrev pub left_out_faults : ℕ → Stmt → List Found
left_out_faults m stmt = if is_left_out stmt then at_stmt LeftOut m stmt else []

-- the bits of a `type bits`
abbrev pub type_faults : ℕ → Stmt → List Found
type_faults m stmt = if is_named word.Type stmt && same (argument_of stmt) (codes "bits") then bit_faults m 0 (subs_of stmt) else []

-- the faults in the block of a statement
abbrev pub block_faults : ℕ → Stmt → Rule → List Found
block_faults m stmt rule =
    flat_map (entry_faults m stmt) rule.entries ++ flat_map (sub_faults m stmt rule) (subs_of stmt) ++ type_faults m stmt

-- The content of an extension has no effect.
unfoldable pub level_faults : ℕ → Stmt → List Found
level_faults m stmt =
    let rule = rule_of (out-Stmt stmt).keyword in
    argument_faults m stmt rule ++ left_out_faults m stmt ++ (if is_named word.Extension stmt then [] else block_faults m stmt rule)

-- ---- whole trees

-- Substatements are checked if the parent allows this statement, and not inside a prefixed one or an extension.
abbrev pub is_judged : Stmt → Stmt → Bool
is_judged parent sub =
    (not (is_prefixed (out-Stmt sub).keyword) && allows (rule_of (out-Stmt parent).keyword) (out-Stmt sub).keyword)
    && not (is_named word.Extension parent)

-- at a statement, and in `levels` levels below it
unfoldable pub tree_faults : ℕ → ℕ → Stmt → List Found
tree_faults m zero stmt = level_faults m stmt
tree_faults m (suc levels) stmt =
    level_faults m stmt ++ flat_map (λ sub. if is_judged stmt sub then tree_faults m levels sub else []) (subs_of stmt)

-- A text is one `module`. Blocks are nested at most 64 deep, so no statement is on a lower level.
unfoldable pub module_faults : ℕ → Stmt → List Found
module_faults m stmt =
    if is_named word.Module stmt then tree_faults m 64 stmt
    else at_stmt (if is_left_out_word (out-Stmt stmt).keyword then LeftOut else UnknownStatement) m stmt

-- of all modules, numbered from 0
abbrev pub profile_faults : List Stmt → List Found
profile_faults stmts = flat_map (λ (m, stmt). module_faults m stmt) (enumerate_from 0 stmts)
