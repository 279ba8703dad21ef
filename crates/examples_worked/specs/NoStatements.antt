-- Texts that are no statement, and the first fault of each, with its offset.
use Rattle.std.specs.Prelude.{List, [], ◌∷◌, codes}
use Rattle.sal_stmt.specs.declared.fault.StmtFault.{StmtFault}
use Rattle.sal_stmt.specs.declared.fault.StmtFault.TheVariants.{BadToken, BadEscape, Unclosed, TextAfter}
use Rattle.sal_stmt.specs.Words.{Text}

-- a token that is not allowed there, or a character that no text has
abbrev pub bad_tokens : List (Text × StmtFault)
bad_tokens =
    (codes "", BadToken 0)
    ∷ (codes " \r\n\t", BadToken 0)
    ∷ (codes "//a", BadToken 0)
    ∷ (codes ";", BadToken 0)
    ∷ (codes "{}", BadToken 0)
    ∷ (codes "\"a\";", BadToken 0)
    ∷ (codes " a/b;", BadToken 1)
    ∷ (codes "a:;", BadToken 0)
    ∷ (codes "a:b:c;", BadToken 0)
    ∷ (codes "1a;", BadToken 0)
    ∷ (codes "-a;", BadToken 0)
    ∷ (codes "a:", BadToken 0)
    ∷ (codes "/", BadToken 0)
    ∷ (codes "a*/;", BadToken 1)
    ∷ (codes "a b*/;", BadToken 3)
    ∷ (codes "a }", BadToken 2)
    ∷ (codes "a { ; }", BadToken 4)
    ∷ (codes "a { 'b'; }", BadToken 4)
    ∷ (codes "a b c;", BadToken 4)
    ∷ (codes "a b \"c\";", BadToken 4)
    ∷ (codes "a b + c;", BadToken 4)
    ∷ (codes "a \"b\" c;", BadToken 6)
    ∷ (codes "a \"b\" +c;", BadToken 7)
    ∷ (codes "a 'b' + ;", BadToken 8)
    ∷ (codes "a\u{1};", BadToken 1)
    ∷ (codes "a \u{b} b;", BadToken 2)
    ∷ (codes "a \"b\u{1f}\";", BadToken 4)
    ∷ (codes "a '\0';", BadToken 3)
    ∷ (codes "//\u{c}\na;", BadToken 2)
    ∷ (codes "/*\n\u{8}*/a;", BadToken 3)
    ∷ (codes "a; \u{2}", BadToken 3)
    ∷ (codes "a; */", BadToken 3)
    ∷ []

-- a statement, a string, a block or a comment that does not end
abbrev pub unclosed : List (Text × StmtFault)
unclosed =
    (codes " a", Unclosed 1)
    ∷ (codes "a b", Unclosed 0)
    ∷ (codes "a //c", Unclosed 0)
    ∷ (codes "a \"b\"", Unclosed 0)
    ∷ (codes "a \"b\" +", Unclosed 0)
    ∷ (codes "a http://x;", Unclosed 0)
    ∷ (codes "a \"b", Unclosed 2)
    ∷ (codes "a 'b\\'", Unclosed 0)
    ∷ (codes "a 'b", Unclosed 2)
    ∷ (codes "a \"b\\", Unclosed 2)
    ∷ (codes "a {", Unclosed 2)
    ∷ (codes "a { b;", Unclosed 2)
    ∷ (codes "a { b { c; }", Unclosed 2)
    ∷ (codes "a { b", Unclosed 4)
    ∷ (codes "a { b { c; } /*", Unclosed 13)
    ∷ (codes "/*a", Unclosed 0)
    ∷ (codes "a; /*", Unclosed 3)
    ∷ []

-- an escape that YANG does not have
abbrev pub bad_escapes : List (Text × StmtFault)
bad_escapes =
    (codes "a \"\\d\";", BadEscape 3)
    ∷ (codes "a \"b\\\n\";", BadEscape 4)
    ∷ (codes "a \"\\ \" \u{1}", BadEscape 3)
    ∷ (codes "a \"b\" + \"\\r\";", BadEscape 9)
    ∷ []

-- a text after the statement
abbrev pub texts_after : List (Text × StmtFault)
texts_after =
    (codes "a; b;", TextAfter 3)
    ∷ (codes "a;;", TextAfter 2)
    ∷ (codes "a{}}", TextAfter 3)
    ∷ (codes "a; \"", TextAfter 3)
    ∷ (codes "a;/b", TextAfter 2)
    ∷ []

-- each proper prefix of `module m { prefix p; }` is unclosed, with the offset of its innermost open part
abbrev pub prefixes : List (Text × StmtFault)
prefixes =
    (codes "m", Unclosed 0)
    ∷ (codes "mo", Unclosed 0)
    ∷ (codes "mod", Unclosed 0)
    ∷ (codes "modu", Unclosed 0)
    ∷ (codes "modul", Unclosed 0)
    ∷ (codes "module", Unclosed 0)
    ∷ (codes "module ", Unclosed 0)
    ∷ (codes "module m", Unclosed 0)
    ∷ (codes "module m ", Unclosed 0)
    ∷ (codes "module m {", Unclosed 9)
    ∷ (codes "module m { ", Unclosed 9)
    ∷ (codes "module m { p", Unclosed 11)
    ∷ (codes "module m { pr", Unclosed 11)
    ∷ (codes "module m { pre", Unclosed 11)
    ∷ (codes "module m { pref", Unclosed 11)
    ∷ (codes "module m { prefi", Unclosed 11)
    ∷ (codes "module m { prefix", Unclosed 11)
    ∷ (codes "module m { prefix ", Unclosed 11)
    ∷ (codes "module m { prefix p", Unclosed 11)
    ∷ (codes "module m { prefix p;", Unclosed 9)
    ∷ (codes "module m { prefix p; ", Unclosed 9)
    ∷ []
