-- From a text to its one statement, or to the first fault with its place (RFC 7950 section 6).
-- A definition takes the remaining text, and gives what it read and the text after it. The offset of a fault is the length of the
-- whole text minus that of the remaining text, so no definition counts bytes.
use Rattle.std.specs.Prelude.{ℕ, zero, suc, ◌-◌, Bool, not, ◌||◌, ◌==◌, if◌then◌else◌, List, [], ◌∷◌, length, take, drop, Option, Some, None, Result, Ok, Err}
use Rattle.sal_stmt.specs.declared.fault.StmtFault.{StmtFault}
use Rattle.sal_stmt.specs.declared.fault.StmtFault.TheVariants.{BadToken, BadEscape, Unclosed, TooDeep, TextAfter, NoMemory}
use Rattle.sal_stmt.specs.declared.stmt.Stmt.{Stmt, roll-Stmt}
use Rattle.sal_types.specs.Reading.{◌>>=◌, with_front, GivesUnless}
use Rattle.sal_stmt.specs.Words.{Text, ◌∈◌, first, is_empty, is_blank, is_control, starts_line_comment, starts_block_comment, ends_block_comment, word, after_word, is_keyword}
use Rattle.sal_stmt.specs.Quoted.{is_escape, last_columns, content}

-- a value and the text after it, or the first fault
abbrev pub Read : Type 0 → Type 0
Read A = Result (A × Text) StmtFault

abbrev pub is_quote : Text → Bool
is_quote t = first t ∈ "'\""

-- `;` or `{`
abbrev pub is_end : Text → Bool
is_end t = first t ∈ ";{"

abbrev pub starts_token : Text → Bool
starts_token t = first t ∈ ";{}'\"" || not (is_empty (word t))

-- the largest number of strings that can be joined in a text, and one more
abbrev pub turns : Text → ℕ
turns t = suc (length t)

-- a keyword and an argument
abbrev pub Head : Type 0
Head = List ℕ × Option (List ℕ)

abbrev pub made : ℕ → List ℕ × Option (List ℕ) → List Stmt → Stmt
made at head subs = roll-Stmt (record { keyword = head.0; arg = head.1; at = at; subs = subs })

module _ (whole : Text) where
  -- the byte offset of the remaining text
  abbrev pub place : Text → ℕ
  place t = length whole - length t

  -- ---- separators

  -- the text after a line comment, from inside it
  unfoldable pub line_comment : Text → Result Text StmtFault
  line_comment [] = Ok []
  line_comment (c ∷ t) =
      if c == 10 then Ok (c ∷ t)
      else if is_control c then Err (BadToken (place (c ∷ t)))
      else line_comment t

  -- the text after a block comment that was opened at this offset
  unfoldable pub block_comment : ℕ → Text → Result Text StmtFault
  block_comment opening [] = Err (Unclosed opening)
  block_comment opening (c ∷ t) =
      if ends_block_comment (c ∷ t) then Ok (drop 2 (c ∷ t))
      else if is_control c then Err (BadToken (place (c ∷ t)))
      else block_comment opening t

  -- After at most n separators. The length of the text is always enough.
  unfoldable pub separators : ℕ → Text → Result Text StmtFault
  separators zero t = Ok t
  separators (suc n) t =
      if is_blank (first t) then separators n (drop 1 t)
      else if starts_line_comment t then (line_comment (drop 2 t) >>= separators n)
      else if starts_block_comment t then (block_comment (place t) (drop 2 t) >>= separators n)
      else Ok t

  abbrev pub skip : Text → Result Text StmtFault
  skip t = separators (length t) t

  -- after separators inside the statement at this offset
  unfoldable pub within : ℕ → Text → Result Text StmtFault
  within statement t = do
    here ← skip t
    if is_empty here then Err (Unclosed statement) else Ok here

  -- ---- strings

  -- the raw text before the closing quote
  unfoldable pub single : ℕ → Text → Read (List ℕ)
  single opening [] = Err (Unclosed opening)
  single opening (c ∷ t) =
      if c == 39 then Ok ([], t)
      else if is_control c then Err (BadToken (place (c ∷ t)))
      else with_front (c ∷ []) (single opening t)

  unfoldable pub double : ℕ → Text → Read (List ℕ)
  double opening [] = Err (Unclosed opening)
  double opening (c ∷ []) =
      if c == 34 then Ok ([], [])
      else if is_control c then Err (BadToken (place (c ∷ [])))
      else Err (Unclosed opening)
  double opening (c ∷ d ∷ t) =
      if c == 34 then Ok ([], d ∷ t)
      else if is_control c then Err (BadToken (place (c ∷ d ∷ t)))
      else if not (c == 92) then with_front (c ∷ []) (double opening (d ∷ t))
      else if is_escape d then with_front (c ∷ d ∷ []) (double opening t)
      else Err (BadEscape (place (c ∷ d ∷ t)))

  -- a string, at its quote
  unfoldable pub quoted : Text → Read (List ℕ)
  quoted t =
      if first t == 39 then single (place t) (drop 1 t) else (do
        (raw, after) ← double (place t) (drop 1 t)
        Ok (content (last_columns (take (place t) whole)) raw, after))

  -- After a string: at most n more, each after a `+`.
  unfoldable pub joined : ℕ → ℕ → Text → Read (List ℕ)
  joined statement zero t = Err (BadToken (place t))
  joined statement (suc n) t = do
    here ← within statement t
    if not (first here == 43) then Ok ([], here) else (do
      next ← within statement (drop 1 here)
      if not (is_quote next) then Err (BadToken (place next)) else (do
        (text, after) ← quoted next
        with_front text (joined statement n after)))

  -- an argument, and the separators after it
  unfoldable pub argument : ℕ → Text → Read (List ℕ)
  argument statement t =
      if is_quote t then (do
        (text, after) ← quoted t
        with_front text (joined statement (turns after) after))
      else if is_empty (word t) then Err (BadToken (place t))
      else (do
        here ← within statement (after_word t)
        Ok (word t, here))

  -- ---- statements

  -- a keyword and its argument, up to the `;` or `{`
  unfoldable pub header : Text → Read (List ℕ × Option (List ℕ))
  header t =
      if not (is_keyword (word t)) then Err (BadToken (place t)) else (do
        here ← within (place t) (after_word t)
        if is_end here then Ok ((word t, None), here) else (do
          (text, rest) ← argument (place t) here
          if is_end rest then Ok ((word t, Some text), rest) else Err (BadToken (place rest))))

  -- The statements of the block that was opened at this offset, and its `}`. At most n of them: the length of the text is always enough.
  unfoldable pub statements : (Text → Read Stmt) → ℕ → ℕ → Text → Read (List Stmt)
  statements statement opening zero t = Err (Unclosed opening)
  statements statement opening (suc n) t = do
    here ← skip t
    if is_empty here then Err (Unclosed opening)
        else if first here == 125 then Ok ([], drop 1 here)
        else (do
          (s, after) ← statement here
          (others, rest) ← statements statement opening n after
          Ok (s ∷ others, rest))

  -- a statement, with at most this many nested blocks
  unfoldable pub statement : ℕ → Text → Read Stmt
  unfolding statements
  statement zero t = do
    (head, rest) ← header t
    if first rest == 59 then Ok (made (place t) head [], drop 1 rest) else Err (TooDeep (place rest))
  statement (suc levels) t = do
    (head, rest) ← header t
    if first rest == 59 then Ok (made (place t) head [], drop 1 rest) else (do
      (subs, after) ← statements (statement levels) (place rest) (turns (drop 1 rest)) (drop 1 rest)
      Ok (made (place t) head subs, after))

-- a text, which is one statement
unfoldable pub read : Text → Result Stmt StmtFault
read whole = do
  here ← skip whole whole
  if is_empty here then Err (BadToken 0) else (do
    (s, after) ← statement whole 64 here
    rest ← skip whole after
    if is_empty rest then Ok s
        else if starts_token rest then Err (TextAfter (place whole rest))
        else Err (BadToken (place whole rest)))

-- The result, seen by `view`, equals the definition's value or fault, unless memory ran out.
abbrev pub Gives : {X Y : Type 0} → (X → Y) → Result X StmtFault → Result Y StmtFault → Type 0
Gives = GivesUnless NoMemory
