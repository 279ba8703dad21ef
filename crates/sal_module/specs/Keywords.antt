-- The keywords of the profile and their spellings.
use Rattle.std.specs.Prelude.{ℕ, Bool, nat_eq, List, [], map, find, filter, Option, option_map, unwrap_or}
use Rattle.std.specs.Borrow.{Bor}
use lib.Pointwise.{pointwise}
use Rattle.sal_stmt.specs.Words.{first}
use Rattle.sal_module.specs.declared.keyword.Keyword.{Keyword}
use Rattle.sal_module.specs.declared.keyword.TheConstants.{WORDS}
use Rattle.sal_module.specs.contracts.keyword.KeywordPartialEq.TheImpl as keyword_partial_eq

-- two texts are the same
abbrev pub same : List ℕ → List ℕ → Bool
same a b = pointwise nat_eq a b

abbrev pub same_keyword : Keyword → Keyword → Bool
same_keyword = (keyword_partial_eq.ghosts).eq

-- a spelling and its keyword
abbrev pub Word : Type 0
Word = List ℕ × Keyword

abbrev pub word_view : Bor (List ℕ) × Keyword → Word
word_view w = (w.0.now, w.1)

abbrev pub keyword_among : List Word → List ℕ → Option Keyword
keyword_among words text = option_map (λ (w : Word). w.1) (find (λ (w : Word). same w.0 text) words)

abbrev pub word_among : List Word → Keyword → List ℕ
word_among words keyword = unwrap_or (option_map (λ (w : Word). w.0) (find (λ (w : Word). same_keyword w.1 keyword) words)) []

unfoldable pub words : List Word
words = map (λ w. (w.0.now, w.1)) WORDS

-- the spellings that begin with this byte
abbrev pub with_first : ℕ → List Word → List Word
with_first c some = filter (λ (w : Word). nat_eq (first w.0) c) some

abbrev pub words_with : ℕ → List Word
words_with c = with_first c words

-- the keyword with this spelling: none for a text with a prefix, and for a keyword that the profile does not have
unfoldable pub keyword_of : List ℕ → Option Keyword
unfolding words
keyword_of text = keyword_among words text

unfoldable pub word_of : Keyword → List ℕ
unfolding words
word_of keyword = word_among words keyword
