-- Texts and the statements that they are, by the forms of RFC 7950 section 6.
use Rattle.std.specs.Prelude.{ℕ, List, [], ◌∷◌, ◌++◌, Option, Some, None, codes}
use Prim.Native.String.{String}
use Rattle.sal_stmt.specs.declared.stmt.Stmt.{Stmt, roll-Stmt}
use Rattle.sal_stmt.specs.Words.{Text}

-- the statement of this keyword, at this place, with this argument, if it has one, and these statements in its block
abbrev pub stmt : String → ℕ → Option (List ℕ) → List Stmt → Stmt
stmt keyword at arg subs = roll-Stmt (record { keyword = codes keyword; arg = arg; at = at; subs = subs })

abbrev pub word : String → ℕ → List Stmt → Stmt
word keyword at subs = stmt keyword at None subs

abbrev pub plain : String → ℕ → String → List Stmt → Stmt
plain keyword at text subs = stmt keyword at (Some (codes text)) subs

-- statements, with and without arguments and blocks
abbrev pub forms : List (Text × Stmt)
forms =
    (codes "module m { }", plain "module" 0 "m" [])
    ∷ (codes "m;", word "m" 0 [])
    ∷ (codes "a { b; }\n", word "a" 0 (word "b" 4 [] ∷ []))
    ∷ (codes "a b { c d; e f { g; } }", plain "a" 0 "b" (plain "c" 6 "d" [] ∷ plain "e" 11 "f" (word "g" 17 [] ∷ []) ∷ []))
    ∷ (codes "_a.b-1;", word "_a.b-1" 0 [])
    ∷ (codes "p:a b;", plain "p:a" 0 "b" [])
    ∷ (codes "p:a { q:b \"c\" { d; } }", word "p:a" 0 (plain "q:b" 6 "c" (word "d" 16 [] ∷ []) ∷ []))
    ∷ []

-- white space and comments between the parts
abbrev pub separators : List (Text × Stmt)
separators =
    (codes "a; // b", word "a" 0 [])
    ∷ (codes "//c\n/*c*/x//c\n/*c*/\"a\"//c\n+/*c*/'b'/*c*/{/*c*/y/**/;//c\n}//c", plain "x" 9 "ab" (word "y" 46 [] ∷ []))
    ∷ (codes "\t\r\nx\ra\t;", plain "x" 3 "a" [])
    ∷ (codes "x\"a\";", plain "x" 0 "a" [])
    ∷ (codes "x/* * / ** /*/\"a\";", plain "x" 0 "a" [])
    ∷ (codes "a b//c\n;", plain "a" 0 "b" [])
    ∷ (codes "a b/*c*/;", plain "a" 0 "b" [])
    ∷ []

-- unquoted strings
abbrev pub unquoted : List (Text × Stmt)
unquoted =
    (codes "a b/c*d;", plain "a" 0 "b/c*d" [])
    ∷ (codes "a /;", plain "a" 0 "/" [])
    ∷ (codes "a +;", plain "a" 0 "+" [])
    ∷ (codes "a " ++ ((195 ∷ 169 ∷ []) ++ codes "\\n+1;"), stmt "a" 0 (Some ((195 ∷ 169 ∷ []) ++ codes "\\n+1")) [])
    ∷ []

-- strings in quotes, their escapes, and strings that are joined
abbrev pub strings : List (Text × Stmt)
strings =
    (codes "x 'a\\n';", plain "x" 0 "a\\n" [])
    ∷ (codes "x 'a\"b\r\n  c';", plain "x" 0 "a\"b\r\n  c" [])
    ∷ (codes "x \"a\" + 'b';", plain "x" 0 "ab" [])
    ∷ (codes "x \"a\"+'b'+\"c\"{}", plain "x" 0 "abc" [])
    ∷ (codes "x \"\";", plain "x" 0 "" [])
    ∷ (codes "x \"\\\\n\\t\\\"\";", plain "x" 0 "\\n\t\"" [])
    ∷ (codes "x \"a \\n\";", plain "x" 0 "a \n" [])
    ∷ (codes "x \"\u{7f}{;}'//\";", plain "x" 0 "\u{7f}{;}'//" [])
    ∷ []

-- the lines of a string in double quotes: white space after them is cut, and before them up to the quote's column
abbrev pub lines : List (Text × Stmt)
lines =
    (codes "  x \"a  \n     b\";", plain "x" 2 "a\nb" [])
    ∷ (codes "  x \"a  \n       b\";", plain "x" 2 "a\n  b" [])
    ∷ (codes "x \"  a\nb  \";", plain "x" 0 "  a\nb  " [])
    ∷ (codes "x \"a\n   \n  b\";", plain "x" 0 "a\n\nb" [])
    ∷ (codes "x \"a\\t\n   b\";", plain "x" 0 "a\t\nb" [])
    ∷ (codes "x \"a \t \r\n   b\";", plain "x" 0 "a\nb" [])
    ∷ (codes "x \"a\r   b\";", plain "x" 0 "a\r   b" [])
    ∷ (codes "\tx \"a\n          b\";", plain "x" 1 "a\nb" [])
    ∷ (codes "\tx \"a\n            b\";", plain "x" 1 "a\n b" [])
    ∷ (codes "x \"a\n\tb\";", plain "x" 0 "a\n     b" [])
    ∷ (codes "x \"a\n  \tb\";", plain "x" 0 "a\n       b" [])
    ∷ (codes "\n\n        x \"a\n\t  \tb\";", plain "x" 10 "a\n       b" [])
    ∷ (codes "/*" ++ ((195 ∷ 169 ∷ []) ++ codes "*/x \"a\n         b\";"), plain "x" 6 "a\n b" [])
    ∷ (codes "x \"a\" +\n \"b\n  c\";", plain "x" 0 "ab\nc" [])
    ∷ []
