-- Statements by their keywords.
use Rattle.std.specs.Prelude.{ℕ, Bool, List, [], find, filter, option_map, unwrap_or}
use Rattle.sal_stmt.specs.declared.stmt.Stmt.{Stmt, out-Stmt}
use Rattle.sal_module.specs.declared.keyword.Keyword.{Keyword}
use Rattle.sal_module.specs.Keywords.{same, word_of}

-- the statement has this keyword
abbrev pub is_named : Keyword → Stmt → Bool
is_named keyword stmt = same (out-Stmt stmt).keyword (word_of keyword)

-- the statements of its block
abbrev pub subs_of : Stmt → List Stmt
subs_of stmt = (out-Stmt stmt).subs

-- the statements of its block with this keyword
abbrev pub all_named : Keyword → Stmt → List Stmt
all_named keyword stmt = filter (is_named keyword) (subs_of stmt)

-- its argument, or the empty text if it has none
abbrev pub argument_of : Stmt → List ℕ
argument_of stmt = unwrap_or (out-Stmt stmt).arg []

-- the argument of the first statement of this keyword in its block
abbrev pub value_of : Keyword → Stmt → List ℕ
value_of keyword stmt = unwrap_or (option_map argument_of (find (is_named keyword) (subs_of stmt))) []
