-- The keywords of leafs and types.
use Rattle.std.proofs.Common.{◌≡◌, ℕ, List, Some, Bool, true, not, is_some, ◌&&◌, ◌||◌, codes, refl, sym, ap, ◌∙◌, inl, inr}
use Rattle.std.proofs.lemmas.Bool.{cases_Bool}
use Rattle.sal_module.specs.declared.keyword.Keyword.TheVariants.{Leaf, Extension}
use Rattle.sal_module.specs.Keywords.{same, words, keyword_of, word_of}
use Rattle.sal_module.proofs.Initials.{same-text}

leaf-is : Some Leaf ≡ keyword_of (codes "leaf")
unfolding words keyword_of
leaf-is = refl

pub leaf-word : (text : List ℕ) → same text (codes "leaf") ≡ true → Some Leaf ≡ keyword_of text
leaf-word text e = leaf-is ∙ ap keyword_of (sym (same-text text (codes "leaf") e))

-- whether substatements of a statement with this keyword have a meaning
abbrev pub is_read_word : List ℕ → Bool
is_read_word text = is_some (keyword_of text) && not (same text (word_of Extension))

leaf-read : true ≡ is_read_word (codes "leaf")
unfolding words keyword_of word_of
leaf-read = refl

type-read : true ≡ is_read_word (codes "type")
unfolding words keyword_of word_of
type-read = refl

pub read-word : (text : List ℕ) → (same text (codes "leaf") || same text (codes "type")) ≡ true → true ≡ is_read_word text
read-word text e = elim (cases_Bool (same text (codes "leaf"))) [
  | inl leaf ↦ leaf-read ∙ ap is_read_word (sym (same-text text (codes "leaf") leaf))
  | inr other ↦ (let type = rw other at e in type-read ∙ ap is_read_word (sym (same-text text (codes "type") type)))
]
