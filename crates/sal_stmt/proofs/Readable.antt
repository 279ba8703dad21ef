-- What a text spells is read from it, piece by piece.
use Rattle.std.proofs.Common.{◌≡◌, ℕ, zero, suc, ◌-◌, ◌<◌, ◌≤◌, Bool, true, false, not, ◌&&◌, ◌||◌, ◌==◌, List, [], ◌∷◌, ◌++◌, length, take, drop, Some, None, Ok, Err, inl, inr, refl, sym, ap, ◌∙◌, subst, arith, length-append, append-nil, if◌then◌else◌}
use Rattle.std.specs.Prelude.{Option, codes}
use Rattle.std.specs.List.{list_all}
use Rattle.std.proofs.Math.Seq.{take-append_seam, drop-append_seam}
use Rattle.std.proofs.lemmas.Bool.{and_parts, and_right, or_parts, not-true}
use Rattle.std.proofs.lemmas.Bool.Decides.{nat_tests}
use Rattle.sal_stmt.specs.declared.fault.StmtFault.{StmtFault}
use Rattle.sal_stmt.specs.declared.stmt.Stmt.{Stmt}
use Rattle.sal_types.specs.Reading.{◌>>=◌}
use Rattle.sal_stmt.specs.Words.{Text, first, is_empty, is_blank, is_control, starts_line_comment, starts_block_comment, ends_block_comment, ends_word, word_len, word, after_word, is_keyword}
use Rattle.sal_stmt.specs.Quoted.{is_escape, last_columns, content}
use Rattle.sal_stmt.specs.Text.{Read, is_quote, is_end, turns, Head, place, line_comment, block_comment, separators, within, single, double, quoted, joined, argument, header, statements, statement, read}
use Rattle.sal_stmt.specs.Spelling.{IsLine, ends_line, has_comment_end, IsComment, Separator, Gap, no_gap, wider, IsWord, IsSingle, is_plain, IsDouble, IsString, AreStrings, last_string, IsArgument, HasArgument, IsHead, AreStatements, no_statement, one_statement, IsStatement, Spells}
use Rattle.sal_stmt.proofs.Separators.{separators_at}
use Rattle.sal_stmt.proofs.Spelled.{failed}

-- ---- gaps

-- no separator begins here
abbrev starts_separator : Text → Bool
starts_separator t = (is_blank (first t) || starts_line_comment t) || starts_block_comment t

ends_line-more : (c : ℕ) (rest : Text) → ends_line (c ∷ rest) ≡ true → (c == 10) ≡ true
ends_line-more c rest h = grind (arith, nat_tests)

line_read : (whole : Text) (text rest : List ℕ) → IsLine text → ends_line rest ≡ true → line_comment whole (text ++ rest) ≡ Ok rest
unfolding line_comment
line_read whole [] [] is_line ended = refl
line_read whole [] (c ∷ rest) is_line ended = let stop = ends_line-more c rest ended in rw stop refl
line_read whole (c ∷ text) rest is_line ended =
    let parts = and_parts (not (is_control c) && not (c == 10)) (list_all (λ d. not (is_control d) && not (d == 10)) text) is_line in
    let here = and_parts (not (is_control c)) (not (c == 10)) parts.0 in
    let known = not-true (is_control c) here.0 in
    let other = not-true (c == 10) here.1 in
    rw (known, other) (line_read whole text rest parts.1 ended)

no_end_in_all : (c : ℕ) (text rest : List ℕ) → ends_block_comment (c ∷ text) ≡ false → ends_block_comment (c ∷ text ++ (codes "*/" ++ rest)) ≡ false
no_end_in_all c [] rest h = and_right (c == 42) (42 == 47) refl
no_end_in_all c (d ∷ text) rest h = h

comment_read : (whole : Text) (opening : ℕ) (text rest : List ℕ) → IsComment text → block_comment whole opening (text ++ (codes "*/" ++ rest)) ≡ Ok rest
unfolding block_comment
comment_read whole opening [] rest h = refl
comment_read whole opening (c ∷ text) rest h =
    let parts = and_parts (not (is_control c)) (list_all (λ d. not (is_control d)) text) h.0 in
    let ends = or_parts (ends_block_comment (c ∷ text)) (has_comment_end text) h.1 in
    let known = not-true (is_control c) parts.0 in
    let goes_on = no_end_in_all c text rest ends.0 in
    rw (goes_on, known) (comment_read whole opening text rest (parts.1, ends.1))

-- one separator is passed over
separator_read : (whole t next : Text) (n : ℕ) → Separator t next → length t ≤ n → (separators whole n t ≡ separators whole (n - 1) next) × (length next < length t)
separator_read whole t next n (Separator.blank c is same) le =
    let step = separators_at whole (c ∷ next) n (subst (λ x. length x ≤ n) same le) in
    let turn : separators whole n (c ∷ next) ≡ separators whole (n - 1) next = rw is at step in
    (ap (separators whole n) same ∙ turn, subst (λ x. length next < length x) (sym same) (omega arith))
separator_read whole t next n (Separator.line text is ended same) le =
    let step = separators_at whole (47 ∷ 47 ∷ (text ++ next)) n (subst (λ x. length x ≤ n) same le) in
    let end = line_read whole text next is ended in
    let turn : separators whole n (47 ∷ 47 ∷ (text ++ next)) ≡ separators whole (n - 1) next = rw end at step in
    (ap (separators whole n) same ∙ turn, subst (λ x. length next < length x) (sym same) (omega (arith, length-append text next)))
separator_read whole t next n (Separator.comment text is same) le =
    let step = separators_at whole (47 ∷ 42 ∷ (text ++ (codes "*/" ++ next))) n (subst (λ x. length x ≤ n) same le) in
    let end = comment_read whole (place whole (47 ∷ 42 ∷ (text ++ (codes "*/" ++ next)))) text next is in
    let turn : separators whole n (47 ∷ 42 ∷ (text ++ (codes "*/" ++ next))) ≡ separators whole (n - 1) next = rw end at step in
    (ap (separators whole n) same ∙ turn, subst (λ x. length next < length x) (sym same) (omega (arith, length-append text (42 ∷ 47 ∷ next))))

gap_shorter : (t rest : Text) → Gap t rest → length rest ≤ length t
gap_shorter t rest (no_gap u) = omega arith
gap_shorter t rest (wider u next v one more) =
    let less = (separator_read [] t next (length t) one (omega arith)).1 in
    let later = gap_shorter next rest more in
    omega arith

gap_read : (whole t rest : Text) → Gap t rest → starts_separator rest ≡ false → (n : ℕ) → length t ≤ n → separators whole n t ≡ Ok rest
gap_read whole t rest (no_gap u) stop n le =
    let parts = or_parts (is_blank (first u) || starts_line_comment u) (starts_block_comment u) stop in
    let front = or_parts (is_blank (first u)) (starts_line_comment u) parts.0 in
    let step = separators_at whole u n le in
    rw (front.0, front.1, parts.1) at step
gap_read whole t rest (wider u next v one more) stop n le =
    let (same, less) = separator_read whole t next n one le in
    same ∙ gap_read whole next rest more stop (n - 1) (omega arith)

within_read : (whole : Text) (at : ℕ) (t rest : Text) → Gap t rest → starts_separator rest ≡ false → is_empty rest ≡ false → within whole at t ≡ Ok rest
unfolding within
within_read whole at t rest gap stop some = rw (gap_read whole t rest gap stop (length t) (omega arith), some) refl

-- ---- words

word_len_read : (w : List ℕ) (rest : Text) → IsWord w rest → word_len (w ++ rest) ≡ length w
unfolding word_len
word_len_read [] [] is = refl
word_len_read [] (c ∷ rest) is = rw is refl
word_len_read (c ∷ w) rest is = rw is.0 (ap suc (word_len_read w rest is.1))

word_read : (w : List ℕ) (rest : Text) → IsWord w rest → word (w ++ rest) ≡ w
word_read w rest is = rw (word_len_read w rest is) (take-append_seam w rest)

after_word_read : (w : List ℕ) (rest : Text) → IsWord w rest → after_word (w ++ rest) ≡ rest
after_word_read w rest is = rw (word_len_read w rest is) (drop-append_seam w rest)

-- a word begins no separator
word_no_separator : (t : Text) → ends_word t ≡ false → starts_separator t ≡ false
word_no_separator t h = grind (arith, nat_tests)

word_no_quote : (t : Text) → ends_word t ≡ false → is_quote t ≡ false
word_no_quote t h = grind (arith, nat_tests)

word_no_end : (t : Text) → ends_word t ≡ false → is_end t ≡ false
word_no_end t h = grind (arith, nat_tests)

-- ---- strings

single_read : (whole : Text) (opening : ℕ) (text rest : List ℕ) → IsSingle text → single whole opening (text ++ (codes "'" ++ rest)) ≡ Ok (text, rest)
unfolding single
single_read whole opening [] rest is = refl
single_read whole opening (c ∷ text) rest is =
    let parts = and_parts (not (is_control c) && not (c == 39)) (list_all (λ d. not (is_control d) && not (d == 39)) text) is in
    let here = and_parts (not (is_control c)) (not (c == 39)) parts.0 in
    let known = not-true (is_control c) here.0 in
    let other = not-true (c == 39) here.1 in
    rw (other, known, single_read whole opening text rest parts.1) refl

some_left : (c : ℕ) (t : Text) → is_empty (c ∷ t) ≡ false
some_left c t = grind (arith, nat_tests)

double-end : (whole : Text) (opening : ℕ) (rest : Text) → double whole opening (34 ∷ rest) ≡ Ok ([], rest)
unfolding double
double-end whole opening [] = refl
double-end whole opening (c ∷ rest) = refl

-- the reader at a byte that is read as itself, and at an escaped pair
double-plain : (whole : Text) (opening c : ℕ) (t : Text) (p : List ℕ × Text) → is_plain c ≡ true → double whole opening t ≡ Ok p → double whole opening (c ∷ t) ≡ Ok (c ∷ p.0, p.1)
unfolding double
double-plain whole opening c [] p plain h = failed _ h
double-plain whole opening c (d ∷ t) p plain h =
    let parts = and_parts (not (is_control c) && not (c == 34)) (not (c == 92)) plain in
    let here = and_parts (not (is_control c)) (not (c == 34)) parts.0 in
    let known = not-true (is_control c) here.0 in
    let other = not-true (c == 34) here.1 in
    let byte = not-true (c == 92) parts.1 in
    rw (other, known, byte, h) refl

double-pair : (whole : Text) (opening d : ℕ) (t : Text) (p : List ℕ × Text) → is_escape d ≡ true → double whole opening t ≡ Ok p → double whole opening (92 ∷ d ∷ t) ≡ Ok (92 ∷ d ∷ p.0, p.1)
unfolding double
double-pair whole opening d t p escape h = rw (escape, h) refl

double_read : (whole : Text) (opening : ℕ) (raw rest : List ℕ) → IsDouble raw → double whole opening (raw ++ (codes "\"" ++ rest)) ≡ Ok (raw, rest)
double_read whole opening [] rest is = double-end whole opening rest
double_read whole opening (c ∷ []) rest is = double-plain whole opening c _ _ is (double-end whole opening rest)
double_read whole opening (c ∷ d ∷ raw) rest is = elim is [
  | inl w ↦ double-plain whole opening c _ _ w.0 (double_read whole opening (d ∷ raw) rest w.1)
  | inr w ↦ ap (λ b. double whole opening (b ∷ d ∷ raw ++ (codes "\"" ++ rest))) w.0 ∙ double-pair whole opening d _ _ w.1 (double_read whole opening raw rest w.2) ∙ ap (λ b. Ok (b ∷ d ∷ raw, rest)) (sym w.0)
]

string_read : (whole t : Text) (text : List ℕ) (rest : Text) → IsString whole t text rest → quoted whole t ≡ Ok (text, rest)
unfolding quoted
string_read whole t text rest (IsString.single is same) =
    subst (λ x. (if first x == 39 then single whole (place whole t) (drop 1 x) else (double whole (place whole t) (drop 1 x) >>= λ y. Ok (content (last_columns (take (place whole t) whole)) y.0, y.1))) ≡ Ok (text, rest)) (sym same)
    (single_read whole (place whole t) text rest is)
string_read whole t text rest (IsString.double raw is same stands) =
    subst (λ x. (if first x == 39 then single whole (place whole t) (drop 1 x) else (double whole (place whole t) (drop 1 x) >>= λ y. Ok (content (last_columns (take (place whole t) whole)) y.0, y.1))) ≡ Ok (text, rest)) (sym same)
    (rw (double_read whole (place whole t) raw rest is) (ap (λ x. Ok (x, rest)) (sym stands)))

string_shorter : (whole t : Text) (text : List ℕ) (rest : Text) → IsString whole t text rest → length rest < length t
string_shorter whole t text rest (IsString.single is same) = subst (λ x. length rest < length x) (sym same) (omega (arith, length-append text (39 ∷ rest)))
string_shorter whole t text rest (IsString.double raw is same stands) = subst (λ x. length rest < length x) (sym same) (omega (arith, length-append raw (34 ∷ rest)))

string_starts : (whole t : Text) (text : List ℕ) (rest : Text) → IsString whole t text rest → (is_quote t ≡ true) × (starts_separator t ≡ false) × (is_empty t ≡ false)
string_starts whole t text rest (IsString.single is same) = subst (λ x. (is_quote x ≡ true) × (starts_separator x ≡ false) × (is_empty x ≡ false)) (sym same) (refl, refl, some_left 39 _)
string_starts whole t text rest (IsString.double raw is same stands) = subst (λ x. (is_quote x ≡ true) × (starts_separator x ≡ false) × (is_empty x ≡ false)) (sym same) (refl, refl, some_left 34 _)

-- a token begins here, and no `+`
pub record Starts (t : Text) : Type 0 where
  pub stop : starts_separator t ≡ false
  pub some : is_empty t ≡ false
  pub other : (first t == 43) ≡ false

joined-end : (whole : Text) (at : ℕ) (t rest : Text) → Gap t rest → Starts rest → (n : ℕ) → length t < n → joined whole at n t ≡ Ok ([], rest)
unfolding joined
joined-end whole at t rest gap starts zero room = absurd (omega arith)
joined-end whole at t rest gap starts (suc n) room =
    let behind = within_read whole at t rest gap starts.stop starts.some in
    let other = starts.other in
    rw (behind, other) refl

-- the first of some strings, and how the others are read
pub record AreRead (whole : Text) (at : ℕ) (t : Text) (text : List ℕ) (rest : Text) : Type 0 where
  pub one : List ℕ
  pub after : Text
  pub others : List ℕ
  pub first_read : IsString whole t one after
  pub text_is : text ≡ one ++ others
  pub others_read : (n : ℕ) → length after < n → joined whole at n after ≡ Ok (others, rest)

joined-more : (whole : Text) (at : ℕ) (t plus next : Text) (text : List ℕ) (rest : Text) → Gap t (43 ∷ plus) → Gap plus next → AreRead whole at next text rest → (n : ℕ) → length t < n → joined whole at n t ≡ Ok (text, rest)
unfolding joined
joined-more whole at t plus next text rest before behind read zero room = absurd (omega arith)
joined-more whole at t plus next text rest before behind read (suc n) room =
    let (quote, stop, some) = string_starts whole next read.one read.after read.first_read in
    let le_front = gap_shorter t (43 ∷ plus) before in
    let le_back = gap_shorter plus next behind in
    let le_string = string_shorter whole next read.one read.after read.first_read in
    let front = within_read whole at t (43 ∷ plus) before refl (some_left 43 plus) in
    let back = within_read whole at plus next behind stop some in
    let string = string_read whole next read.one read.after read.first_read in
    let later = read.others_read n (omega arith) in
    rw (front, back, quote, string, later) (ap (λ x. Ok (x, rest)) (sym read.text_is))

strings_read : (whole : Text) (at : ℕ) (t : Text) (text : List ℕ) (end rest : Text) → AreStrings whole t text end → Gap end rest → Starts rest
    → AreRead whole at t text rest
strings_read whole at t text end rest (last_string u v w is) gap starts = record {
  one = text;
  after = end;
  others = [];
  first_read = is;
  text_is = sym (append-nil text);
  others_read = joined-end whole at end rest gap starts;
}
strings_read whole at t text end rest (AreStrings.joined u one after plus next more v is before behind strings) gap starts =
    let later = strings_read whole at next more end rest strings gap starts in
    record {
      one = one;
      after = after;
      others = more;
      first_read = is;
      text_is = refl;
      others_read = λ n room. joined-more whole at after plus next more rest before behind later n room;
    }

quote_no_end : (t : Text) → is_quote t ≡ true → is_end t ≡ false
quote_no_end t h = grind (arith, nat_tests)

argument_read : (whole : Text) (at : ℕ) (t : Text) (text : List ℕ) (end rest : Text) → IsArgument whole t text end → Gap end rest → Starts rest
    → argument whole at t ≡ Ok (text, rest)
unfolding argument
argument_read whole at t [] end rest (IsArgument.word some is same) gap starts = absurd (omega arith)
argument_read whole at t (c ∷ text) end rest (IsArgument.word some is same) gap starts =
    let quote = word_no_quote (c ∷ text ++ end) is.0 in
    let same_word = word_read (c ∷ text) end is in
    let same_after = after_word_read (c ∷ text) end is in
    let behind = within_read whole at end rest gap starts.stop starts.some in
    let full = some_left c text in
    rw (same, quote, same_word, same_after, behind, full) refl
argument_read whole at t text end rest (IsArgument.strings are) gap starts =
    let read = strings_read whole at t text end rest are gap starts in
    let (quote, none, some) = string_starts whole t read.one read.after read.first_read in
    let string = string_read whole t read.one read.after read.first_read in
    let later = read.others_read (turns read.after) (omega arith) in
    rw (quote, string, later) (ap (λ x. Ok (x, rest)) (sym read.text_is))

argument_starts : (whole t : Text) (text : List ℕ) (end : Text) → IsArgument whole t text end → (starts_separator t ≡ false) × (is_empty t ≡ false) × (is_end t ≡ false)
argument_starts whole t [] end (IsArgument.word some is same) = absurd (omega arith)
argument_starts whole t (c ∷ text) end (IsArgument.word some is same) =
    subst (λ x. (starts_separator x ≡ false) × (is_empty x ≡ false) × (is_end x ≡ false)) (sym same)
    (word_no_separator (c ∷ text ++ end) is.0, some_left c (text ++ end), word_no_end (c ∷ text ++ end) is.0)
argument_starts whole t text end (IsArgument.strings (last_string u v w is)) = let (quote, stop, some) = string_starts whole t text end is in (stop, some, quote_no_end t quote)
argument_starts whole t text end (IsArgument.strings (AreStrings.joined u one after plus next more v is before behind strings)) =
    let (quote, stop, some) = string_starts whole t one after is in (stop, some, quote_no_end t quote)

strings_shorter : (whole t : Text) (text : List ℕ) (end : Text) → AreStrings whole t text end → length end < length t
strings_shorter whole t text end (last_string u v w is) = string_shorter whole t text end is
strings_shorter whole t text end (AreStrings.joined u one after plus next more v is before behind strings) =
    let le_one = string_shorter whole t one after is in
    let le_front = gap_shorter after (43 ∷ plus) before in
    let le_back = gap_shorter plus next behind in
    let le_more = strings_shorter whole next more end strings in
    omega arith

argument_shorter : (whole t : Text) (text : List ℕ) (end : Text) → IsArgument whole t text end → length end < length t
argument_shorter whole t text end (IsArgument.word some is same) = subst (λ x. length end < length x) (sym same) (omega (arith, some, length-append text end))
argument_shorter whole t text end (IsArgument.strings are) = strings_shorter whole t text end are

-- ---- statements

-- a keyword with its argument, apart from its record
module _ (whole t : Text) (keyword : List ℕ) (after rest : Text) (same : t ≡ keyword ++ after) (is : IsWord keyword after) (name : is_keyword keyword ≡ true) (starts : Starts rest) (ends : is_end rest ≡ true) where
  head-argument : (arg : Option (List ℕ)) → HasArgument whole after arg rest → header whole t ≡ Ok ((keyword, arg), rest)
  unfolding header
  head-argument None gap =
      let own = word_read keyword after is in
      let own_after = after_word_read keyword after is in
      let behind = within_read whole (place whole (keyword ++ after)) after rest gap starts.stop starts.some in
      rw (same, own, own_after, name, behind, ends) refl
  head-argument (Some text) (here, end, front, arg, back) =
      let own = word_read keyword after is in
      let own_after = after_word_read keyword after is in
      let (stop, some, more) = argument_starts whole here text end arg in
      let behind = within_read whole (place whole (keyword ++ after)) after here front stop some in
      let read = argument_read whole (place whole (keyword ++ after)) here text end rest arg back starts in
      rw (same, own, own_after, name, behind, more, read, ends) refl

head_read : (whole t : Text) (head : Head) (rest : Text) → IsHead whole t head rest → Starts rest → is_end rest ≡ true → header whole t ≡ Ok (head, rest)
head_read whole t head rest is starts ends = head-argument whole t head.0 is.after rest is.keyword is.is_word is.is_name starts ends head.1 is.argument

has_argument_shorter : (whole t : Text) (arg : Option (List ℕ)) (rest : Text) → HasArgument whole t arg rest → length rest ≤ length t
has_argument_shorter whole t None rest gap = gap_shorter t rest gap
has_argument_shorter whole t (Some text) rest (here, end, front, arg, back) =
    let le_front = gap_shorter t here front in
    let le_arg = argument_shorter whole here text end arg in
    let le_back = gap_shorter end rest back in
    omega arith

-- what a statement begins with
pub record Begins (t : Text) : Type 0 where
  pub stop : starts_separator t ≡ false
  pub some : is_empty t ≡ false
  pub other : (first t == 125) ≡ false

word_no_brace : (t : Text) → ends_word t ≡ false → (first t == 125) ≡ false
word_no_brace t h = grind (arith, nat_tests)

no_empty_name : is_keyword [] ≡ true → ⊥
unfolding is_keyword
no_empty_name h = cc

head-begins : (t : Text) (keyword : List ℕ) (after : Text) → t ≡ keyword ++ after → IsWord keyword after → is_keyword keyword ≡ true → Begins t × (length after < length t)
head-begins t [] after same is name = absurd (no_empty_name name)
head-begins t (c ∷ word) after same is name =
    subst (λ x. Begins x × (length after < length x)) (sym same) (
      record {
        stop = word_no_separator (c ∷ word ++ after) is.0;
        some = some_left c (word ++ after);
        other = word_no_brace (c ∷ word ++ after) is.0;
      },
      omega (arith, length-append word after),
    )

head_begins : (whole t : Text) (head : Head) (rest : Text) → IsHead whole t head rest → Begins t × (length rest < length t)
head_begins whole t head rest is =
    let (begins, less) = head-begins t head.0 is.after is.keyword is.is_word is.is_name in
    let le = has_argument_shorter whole is.after head.1 rest is.argument in
    (begins, omega arith)

-- a statement is read, and what it begins with
pub record IsRead (reader : Text → Read Stmt) (t : Text) (stmt : Stmt) (rest : Text) : Type 0 where
  pub read : reader t ≡ Ok (stmt, rest)
  pub begins : Begins t
  pub shorter : length rest < length t

module _ (whole : Text) (inner : Text → Read Stmt) (IsOne : Text → Stmt → Text → Type 0) (one : (t : Text) (stmt : Stmt) (rest : Text) → IsOne t stmt rest → IsRead inner t stmt rest) where
  statements_shorter : (t : Text) (stmts : List Stmt) (rest : Text) → AreStatements whole IsOne t stmts rest → length rest < length t
  statements_shorter t stmts rest (no_statement u v gap) = let le = gap_shorter u (125 ∷ v) gap in omega arith
  statements_shorter t stmts rest (one_statement u here stmt after others v gap is more) =
      let le_gap = gap_shorter u here gap in
      let le_one = (one here stmt after is).shorter in
      let le_more = statements_shorter after others v more in
      omega arith

  statements_read : (opening : ℕ) (t : Text) (stmts : List Stmt) (rest : Text) → AreStatements whole IsOne t stmts rest → (n : ℕ) → length t < n → statements whole inner opening n t ≡ Ok (stmts, rest)
  unfolding statements
  statements_read opening t stmts rest are zero room = absurd (omega arith)
  statements_read opening t stmts rest (no_statement u v gap) (suc n) room =
      let behind = gap_read whole u (125 ∷ v) gap refl (length u) (omega arith) in
      let some = some_left 125 v in
      rw (behind, some) refl
  statements_read opening t stmts rest (one_statement u here stmt after others v gap is more) (suc n) room =
      let first_read = one here stmt after is in
      let le_gap = gap_shorter u here gap in
      let less = first_read.shorter in
      let behind = gap_read whole u here gap first_read.begins.stop (length u) (omega arith) in
      let some = first_read.begins.some in
      let other = first_read.begins.other in
      let read = first_read.read in
      let later = statements_read opening after others v more n (omega arith) in
      rw (behind, some, other, read, later) refl

end_starts : (rest : Text) → Starts (59 ∷ rest)
end_starts rest = record { stop = refl; some = some_left 59 rest; other = refl }

block_starts : (rest : Text) → Starts (123 ∷ rest)
block_starts rest = record { stop = refl; some = some_left 123 rest; other = refl }

statement_read : (whole : Text) (levels : ℕ) (t : Text) (stmt : Stmt) (rest : Text) → IsStatement whole levels t stmt rest → IsRead (statement whole levels) t stmt rest
unfolding statement
statement_read whole zero t stmt rest is =
    let read = head_read whole t is.head (59 ∷ rest) is.is_head (end_starts rest) refl in
    let (begins, less) = head_begins whole t is.head (59 ∷ rest) is.is_head in
    record { read = rw read (ap (λ x. Ok (x, rest)) (sym is.same)); begins = begins; shorter = omega arith }
statement_read whole (suc levels) t stmt rest (inl is) =
    let read = head_read whole t is.head (59 ∷ rest) is.is_head (end_starts rest) refl in
    let (begins, less) = head_begins whole t is.head (59 ∷ rest) is.is_head in
    record { read = rw read (ap (λ x. Ok (x, rest)) (sym is.same)); begins = begins; shorter = omega arith }
statement_read whole (suc levels) t stmt rest (inr is) =
    let read = head_read whole t is.head (123 ∷ is.block) is.is_head (block_starts is.block) refl in
    let (begins, less) = head_begins whole t is.head (123 ∷ is.block) is.is_head in
    let le = statements_shorter whole (statement whole levels) (IsStatement whole levels) (statement_read whole levels) is.block is.subs rest is.are_subs in
    let block = statements_read whole (statement whole levels) (IsStatement whole levels) (statement_read whole levels) (place whole (123 ∷ is.block)) is.block is.subs rest is.are_subs (turns is.block) (omega arith) in
    record { read = rw (read, block) (ap (λ x. Ok (x, rest)) (sym is.same)); begins = begins; shorter = omega arith }

pub spelled_is_read : (text : Text) (stmt : Stmt) → Spells text stmt → read text ≡ Ok stmt
unfolding read
spelled_is_read text stmt is =
    let one = statement_read text 64 is.here stmt is.after is.statement in
    let front = gap_read text text is.here is.before one.begins.stop (length text) (omega arith) in
    let some = one.begins.some in
    let value = one.read in
    let back = gap_read text is.after [] is.behind refl (length is.after) (omega arith) in
    rw (front, some, value, back) refl

pub spelled_once : (text : Text) (a b : Stmt) → Spells text a → Spells text b → a ≡ b
spelled_once text a b is_a is_b = let one = spelled_is_read text a is_a in let two = spelled_is_read text b is_b in cc

pub spells_none : (text : Text) (e : StmtFault) → read text ≡ Err e → (stmt : Stmt) → Spells text stmt → ⊥
spells_none text e fault stmt is = let one = spelled_is_read text stmt is in cc
