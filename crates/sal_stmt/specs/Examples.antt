-- Texts and statements for the examples.
use Rattle.std.specs.Prelude.{ℕ, List, Some, codes}
use Prim.Native.String.{String}
use Rattle.sal_stmt.specs.declared.stmt.Stmt.{Stmt, roll-Stmt}

-- the statement with this keyword, offset and argument and with these statements in its block
abbrev pub plain : String → ℕ → String → List Stmt → Stmt
plain keyword at text subs = roll-Stmt (record { keyword = codes keyword; arg = Some (codes text); at = at; subs = subs })

-- five spaces on the second line: as many columns as the first line has before the string's text
abbrev pub trimmed : String
trimmed = "  x \"a  \n     b\";"

-- two more
abbrev pub kept : String
kept = "  x \"a  \n       b\";"
