-- The words that begin with the first byte of a text are enough to look for it.
use Rattle.std.proofs.Common.{◌≡◌, ℕ, List, [], ◌∷◌, Bool, true, false, nat_eq, refl, sym, ap, ◌∙◌, inl, inr, arith}
use Rattle.std.proofs.lemmas.Bool.{cases_Bool}
use Rattle.std.proofs.lemmas.Bool.Decides.{nat_tests}
use Rattle.sal_stmt.specs.Words.{first}
use Rattle.sal_module.specs.Keywords.{same, Word, words, with_first, words_with, keyword_among, keyword_of}

pub same-text : (a b : List ℕ) → same a b ≡ true → a ≡ b
same-text [] [] e = refl
same-text [] (y ∷ b) e = cc
same-text (x ∷ a) [] e = cc
same-text (x ∷ a) (y ∷ b) e = elim (cases_Bool (nat_eq x y)) [
  | inl t ↦
      let is : x ≡ y = grind (arith, nat_tests) in
      let rest = rw t at e in λ i. is i ∷ same-text a b rest i
  | inr f ↦ let no = rw f at e in absurd (let wrong : false ≡ true = no in cc)
]

same-number : (n : ℕ) → nat_eq n n ≡ true
same-number n = grind (arith, nat_tests)

same-first : (a b : List ℕ) → same a b ≡ true → nat_eq (first a) (first b) ≡ true
same-first a b e = ap (λ t. nat_eq (first t) (first b)) (same-text a b e) ∙ same-number (first b)

among-first : (some : List Word) (text : List ℕ) → keyword_among (with_first (first text) some) text ≡ keyword_among some text
among-first [] text = refl
among-first (w ∷ some) text = elim (cases_Bool (same w.0 text)) [
  | inl hit ↦ let there = same-first w.0 text hit in rw (there, hit) refl
  | inr miss ↦ elim (cases_Bool (nat_eq (first w.0) (first text))) [
    | inl there ↦ rw (there, miss) (among-first some text)
    | inr other ↦ rw (other, miss) (among-first some text)
  ]
]

pub among-all : (text : List ℕ) → keyword_among (words_with (first text)) text ≡ keyword_of text
unfolding keyword_of words
among-all text = among-first words text
