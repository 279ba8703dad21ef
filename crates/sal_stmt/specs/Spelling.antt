-- The grammar of statements, without a reader (RFC 7950 sections 6.1 to 6.3).
-- A relation says that a text begins with some form, and which text follows it. A gap has no rule for its end:
-- after it comes an unquoted string, a quote, a `+`, a `;` or a brace, and none of these begins a separator.
use Rattle.std.specs.Prelude.{◌≡◌, ℕ, zero, suc, ◌<◌, Bool, true, false, not, ◌&&◌, ◌||◌, ◌==◌, List, [], ◌∷◌, ◌++◌, length, take, Option, Some, None, Ok, ◌⊎◌, ⊤, codes}
use Rattle.std.specs.List.{list_all}
use Rattle.sal_stmt.specs.declared.stmt.Stmt.{Stmt}
use Rattle.sal_stmt.specs.Words.{Text, first, is_empty, is_blank, is_control, ends_block_comment, ends_word, is_keyword}
use Rattle.sal_stmt.specs.Quoted.{is_escape, last_columns, content}
use Rattle.sal_stmt.specs.Text.{place, made, read}

-- ---- gaps

-- the text of a line comment
abbrev pub IsLine : List ℕ → Type 0
IsLine text = list_all (λ c. not (is_control c) && not (c == 10)) text ≡ true

-- the text or the line ends here
abbrev pub ends_line : Text → Bool
ends_line t = is_empty t || first t == 10

abbrev pub has_comment_end : List ℕ → Bool
has_comment_end [] = false
has_comment_end (c ∷ t) = ends_block_comment (c ∷ t) || has_comment_end t

-- the text of a block comment
abbrev pub IsComment : List ℕ → Type 0
IsComment text = (list_all (λ c. not (is_control c)) text ≡ true) × (has_comment_end text ≡ false)

-- A line comment does not include its line break.
pub data Separator (t rest : Text) : Type 0 where
  blank : (c : ℕ) → is_blank c ≡ true → t ≡ c ∷ rest → Separator t rest
  line : (text : List ℕ) → IsLine text → ends_line rest ≡ true → t ≡ codes "//" ++ (text ++ rest) → Separator t rest
  comment : (text : List ℕ) → IsComment text → t ≡ codes "/*" ++ (text ++ (codes "*/" ++ rest)) → Separator t rest

-- separators, any number of them
pub data Gap : Text → Text → Type 0 where
  no_gap : (t : Text) → Gap t t
  wider : (t next rest : Text) → Separator t next → Gap next rest → Gap t rest

-- ---- unquoted strings

-- The unquoted string is before `rest`: no byte of it ends the string, and the string ends at `rest`.
abbrev pub IsWord : List ℕ → Text → Type 0
IsWord [] rest = ends_word rest ≡ true
IsWord (c ∷ word) rest = (ends_word (c ∷ word ++ rest) ≡ false) × IsWord word rest

-- ---- strings

-- the text in single quotes
abbrev pub IsSingle : List ℕ → Type 0
IsSingle raw = list_all (λ c. not (is_control c) && not (c == 39)) raw ≡ true

abbrev pub is_plain : ℕ → Bool
is_plain c = (not (is_control c) && not (c == 34)) && not (c == 92)

-- the text in double quotes: plain bytes, and each backslash with the letter of an escape
abbrev pub IsDouble : List ℕ → Type 0
IsDouble [] = ⊤
IsDouble (c ∷ []) = is_plain c ≡ true
IsDouble (c ∷ d ∷ raw) = ((is_plain c ≡ true) × IsDouble (d ∷ raw)) ⊎ ((c ≡ 92) × (is_escape d ≡ true) × IsDouble raw)

module _ (whole : Text) where
  -- a string in quotes, and its value
  pub data IsString (t : Text) (text : List ℕ) (rest : Text) : Type 0 where
    single : IsSingle text → t ≡ codes "'" ++ (text ++ (codes "'" ++ rest)) → IsString t text rest
    double : (raw : List ℕ) → IsDouble raw → t ≡ codes "\"" ++ (raw ++ (codes "\"" ++ rest))
        → text ≡ content (last_columns (take (place whole t) whole)) raw → IsString t text rest

  -- strings, joined by `+`
  pub data AreStrings : Text → List ℕ → Text → Type 0 where
    last_string : (t : Text) (text : List ℕ) (rest : Text) → IsString t text rest → AreStrings t text rest
    joined : (t : Text) (text : List ℕ) (after plus next : Text) (more : List ℕ) (rest : Text)
        → IsString t text after → Gap after (codes "+" ++ plus) → Gap plus next → AreStrings next more rest → AreStrings t (text ++ more) rest

  pub data IsArgument (t : Text) (text : List ℕ) (rest : Text) : Type 0 where
    word : 0 < length text → IsWord text rest → t ≡ text ++ rest → IsArgument t text rest
    strings : AreStrings t text rest → IsArgument t text rest

  -- the text after a keyword, up to the `;` or `{`
  abbrev pub HasArgument : Text → Option (List ℕ) → Text → Type 0
  HasArgument t None rest = Gap t rest
  HasArgument t (Some text) rest = (here : Text) × (after : Text) × Gap t here × IsArgument here text after × Gap after rest

  -- ---- statements

  -- a keyword with its argument
  pub record IsHead (t : Text) (head : List ℕ × Option (List ℕ)) (rest : Text) : Type 0 where
    pub after : Text
    pub keyword : t ≡ head.0 ++ after
    pub is_word : IsWord head.0 after
    pub is_name : is_keyword head.0 ≡ true
    pub argument : HasArgument after head.1 rest

  -- a statement that ends with `;`
  pub record IsPlain (t : Text) (stmt : Stmt) (rest : Text) : Type 0 where
    pub head : List ℕ × Option (List ℕ)
    pub is_head : IsHead t head (codes ";" ++ rest)
    pub same : stmt ≡ made (place whole t) head []

  -- statements of one kind, and the `}` after them
  pub data AreStatements (IsOne : Text → Stmt → Text → Type 0) : Text → List Stmt → Text → Type 0 where
    no_statement : (t rest : Text) → Gap t (codes "}" ++ rest) → AreStatements IsOne t [] rest
    one_statement : (t here : Text) (stmt : Stmt) (after : Text) (stmts : List Stmt) (rest : Text)
        → Gap t here → IsOne here stmt after → AreStatements IsOne after stmts rest → AreStatements IsOne t (stmt ∷ stmts) rest

  -- a statement with a block of statements of that kind
  pub record IsBlock (IsOne : Text → Stmt → Text → Type 0) (t : Text) (stmt : Stmt) (rest : Text) : Type 0 where
    pub head : List ℕ × Option (List ℕ)
    pub block : Text
    pub subs : List Stmt
    pub is_head : IsHead t head (codes "{" ++ block)
    pub are_subs : AreStatements IsOne block subs rest
    pub same : stmt ≡ made (place whole t) head subs

  -- a statement, with at most this many nested blocks
  abbrev pub IsStatement : ℕ → Text → Stmt → Text → Type 0
  IsStatement zero t stmt rest = IsPlain t stmt rest
  IsStatement (suc levels) t stmt rest = IsPlain t stmt rest ⊎ IsBlock (IsStatement levels) t stmt rest

-- The text is this statement, with gaps before and after it.
pub record Spells (text : Text) (stmt : Stmt) : Type 0 where
  pub here : Text
  pub after : Text
  pub before : Gap text here
  pub statement : IsStatement text 64 here stmt after
  pub behind : Gap after []

-- ---- how the grammar and the reader agree

abbrev pub ReadIsSpelled : Type 0
ReadIsSpelled = (text : Text) (stmt : Stmt) → read text ≡ Ok stmt → Spells text stmt

abbrev pub SpelledIsRead : Type 0
SpelledIsRead = (text : Text) (stmt : Stmt) → Spells text stmt → read text ≡ Ok stmt

abbrev pub SpelledOnce : Type 0
SpelledOnce = (text : Text) (a b : Stmt) → Spells text a → Spells text b → a ≡ b
