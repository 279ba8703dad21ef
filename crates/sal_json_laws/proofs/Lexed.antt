-- The strings among the tokens of a text of bytes are bytes.
use Rattle.std.proofs.Common.{ℕ, ◌-◌, Bool, true, false, cond, ◌&&◌, ◌==◌, nat_eq, List, [], ◌∷◌, length, take, drop, Option, Some, None}
use Rattle.std.specs.Prelude.{⊤}
use Rattle.std.specs.List.{starts_with}
use Rattle.json.specs.Token.{Token, begin_object, end_object, begin_array, end_array, key, string, number, boolean, null, bad}
use Rattle.json.specs.Text.{content, plain}
use Rattle.json.specs.Word.{head, ends_word, after_number, number_before, literal, word}
use Rattle.json.specs.Ascii as ascii
use Rattle.json.specs.Lex.{Lexeme, token, comma, colon, Class, quote, backslash, operator, space, other, class, operator_lexeme, string_token, Mode, between, in_word, in_string, in_escape, lex_byte, lex, Place, fresh, after_value, after_comma, after_key, begins_colon, may_begin, may_close, if_allowed, place_token, punctuate, tokens}
use Rattle.sal_json_laws.proofs.Bytes.{Bytes}
use Rattle.sal_json_laws.proofs.Contents.{IfBytes, content-bytes}

abbrev pub HasText : Token → Type 0
HasText begin_object = ⊤
HasText end_object = ⊤
HasText begin_array = ⊤
HasText end_array = ⊤
HasText (key s) = ⊤
HasText (string s) = Bytes s
HasText (number s) = ⊤
HasText (boolean b) = ⊤
HasText null = ⊤
HasText bad = ⊤

abbrev pub HaveTexts : List Token → Type 0
HaveTexts [] = ⊤
HaveTexts (t ∷ ts) = HasText t × HaveTexts ts

abbrev IsLexed : Lexeme → Type 0
IsLexed (token t) = HasText t
IsLexed comma = ⊤
IsLexed colon = ⊤

abbrev AreLexed : List Lexeme → Type 0
AreLexed [] = ⊤
AreLexed (l ∷ ls) = IsLexed l × AreLexed ls

-- ---- one lexeme

text_cond : (b : Bool) (s t : Token) → HasText s → HasText t → HasText (cond b s t)
text_cond true s t if_so if_not = if_so
text_cond false s t if_so if_not = if_not

lexed_cond : (b : Bool) (s t : Lexeme) → IsLexed s → IsLexed t → IsLexed (cond b s t)
lexed_cond true s t if_so if_not = if_so
lexed_cond false s t if_so if_not = if_not

operator_lexed : (x : ℕ) → IsLexed (operator_lexeme x)
operator_lexed x =
    lexed_cond (x == 123) (token begin_object) _ tt (lexed_cond (x == 125) (token end_object) _ tt (lexed_cond (x == 91) (token begin_array) _ tt (lexed_cond (x == 93) (token end_array) _ tt (lexed_cond (x == 44) comma colon tt tt))))

string_text : (o : Option (List ℕ)) → IfBytes o → HasText (string_token o)
string_text None is = tt
string_text (Some s) is = is

literal_text : (name : List ℕ) (t : Token) (xs : List ℕ) → HasText t → HasText (literal name t xs)
literal_text name t xs is = text_cond (starts_with nat_eq xs name && ends_word (drop (length name) xs)) t bad is tt

number_text : (xs : List ℕ) (o : Option (List ℕ)) → HasText (number_before xs o)
number_text xs None = tt
number_text xs (Some rest) = text_cond (ends_word rest) (number (take (length xs - length rest) xs)) bad tt tt

word_text : (xs : List ℕ) → HasText (word xs)
unfolding word
word_text xs =
    text_cond (head xs == 116) _ _ (literal_text ascii.true_text (boolean true) xs tt)
    (text_cond (head xs == 102) _ _ (literal_text ascii.false_text (boolean false) xs tt)
    (text_cond (head xs == 110) _ _ (literal_text ascii.null_text null xs tt) (number_text xs (after_number xs))))

-- ---- lexemes

byte_lexed : (m : Mode) (c : Class) (x : ℕ) (xs : List ℕ) (k : Mode → List Lexeme) → Bytes xs → ((next : Mode) → AreLexed (k next)) → AreLexed (lex_byte m c x xs k)
byte_lexed between quote x xs k is more = (string_text (content plain xs) (content-bytes plain xs tt is), more in_string)
byte_lexed between backslash x xs k is more = (tt, more in_word)
byte_lexed between operator x xs k is more = (operator_lexed x, more between)
byte_lexed between space x xs k is more = more between
byte_lexed between other x xs k is more = (word_text (x ∷ xs), more in_word)
byte_lexed in_word quote x xs k is more = more in_word
byte_lexed in_word backslash x xs k is more = more in_word
byte_lexed in_word operator x xs k is more = (operator_lexed x, more between)
byte_lexed in_word space x xs k is more = more between
byte_lexed in_word other x xs k is more = more in_word
byte_lexed in_string quote x xs k is more = more between
byte_lexed in_string backslash x xs k is more = more in_escape
byte_lexed in_string operator x xs k is more = more in_string
byte_lexed in_string space x xs k is more = more in_string
byte_lexed in_string other x xs k is more = more in_string
byte_lexed in_escape c x xs k is more = more in_string

lex_lexed : (m : Mode) (xs : List ℕ) → Bytes xs → AreLexed (lex m xs)
unfolding lex
lex_lexed m [] is = tt
lex_lexed m (x ∷ xs) is = byte_lexed m (class x) x xs (λ next. lex next xs) is.1 (λ next. lex_lexed next xs is.1)

-- ---- tokens

allowed_texts : (b : Bool) (t : Token) (k : Place → List Token) (next : Place) → HasText t → HaveTexts (k next) → HaveTexts (if_allowed b t k next)
allowed_texts true t k next is more = (is, more)
allowed_texts false t k next is more = (tt, tt)

placed_texts : (p : Place) (t : Token) (b : Bool) (k : Place → List Token) → HasText t → ((next : Place) → HaveTexts (k next)) → HaveTexts (place_token p t b k)
placed_texts p begin_object b k is more = allowed_texts (may_begin p) begin_object k fresh tt (more fresh)
placed_texts p end_object b k is more = allowed_texts (may_close p) end_object k after_value tt (more after_value)
placed_texts p begin_array b k is more = allowed_texts (may_begin p) begin_array k fresh tt (more fresh)
placed_texts p end_array b k is more = allowed_texts (may_close p) end_array k after_value tt (more after_value)
placed_texts p (key s) b k is more = (tt, tt)
placed_texts p (string s) true k is more = allowed_texts (may_begin p) (key s) k after_key tt (more after_key)
placed_texts p (string s) false k is more = allowed_texts (may_begin p) (string s) k after_value is (more after_value)
placed_texts p (number s) b k is more = allowed_texts (may_begin p) (number s) k after_value tt (more after_value)
placed_texts p (boolean x) b k is more = allowed_texts (may_begin p) (boolean x) k after_value tt (more after_value)
placed_texts p null b k is more = allowed_texts (may_begin p) null k after_value tt (more after_value)
placed_texts p bad b k is more = (tt, tt)

punctuated_texts : (p : Place) (ls : List Lexeme) → AreLexed ls → HaveTexts (punctuate p ls)
unfolding punctuate
punctuated_texts fresh [] is = tt
punctuated_texts after_value [] is = tt
punctuated_texts after_comma [] is = (tt, tt)
punctuated_texts after_key [] is = (tt, tt)
punctuated_texts fresh (token t ∷ ls) is = placed_texts fresh t (begins_colon ls) (λ next. punctuate next ls) is.0 (λ next. punctuated_texts next ls is.1)
punctuated_texts after_value (token t ∷ ls) is = placed_texts after_value t (begins_colon ls) (λ next. punctuate next ls) is.0 (λ next. punctuated_texts next ls is.1)
punctuated_texts after_comma (token t ∷ ls) is = placed_texts after_comma t (begins_colon ls) (λ next. punctuate next ls) is.0 (λ next. punctuated_texts next ls is.1)
punctuated_texts after_key (token t ∷ ls) is = placed_texts after_key t (begins_colon ls) (λ next. punctuate next ls) is.0 (λ next. punctuated_texts next ls is.1)
punctuated_texts fresh (comma ∷ ls) is = (tt, tt)
punctuated_texts after_value (comma ∷ ls) is = punctuated_texts after_comma ls is.1
punctuated_texts after_comma (comma ∷ ls) is = (tt, tt)
punctuated_texts after_key (comma ∷ ls) is = (tt, tt)
punctuated_texts fresh (colon ∷ ls) is = (tt, tt)
punctuated_texts after_value (colon ∷ ls) is = (tt, tt)
punctuated_texts after_comma (colon ∷ ls) is = (tt, tt)
punctuated_texts after_key (colon ∷ ls) is = punctuated_texts fresh ls is.1

pub tokens_texts : (text : List ℕ) → Bytes text → HaveTexts (tokens text)
tokens_texts text is = punctuated_texts fresh (lex between text) (lex_lexed between text is)
