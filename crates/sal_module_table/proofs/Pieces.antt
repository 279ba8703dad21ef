-- The names in a text, from one to the next.
use Rattle.std.proofs.Common.{◌≡◌, ℕ, ◌+◌, ◌<◌, ◌≤◌, not, List, [], ◌∷◌, ◌++◌, filter, length, take, drop, refl, ap, sym, ◌∙◌, append_assoc, inl, inr, arith}
use Rattle.std.proofs.lemmas.Bool.{cases_Bool}
use Rattle.std.specs.List.{slice_split, prefix_len}
use Rattle.std.proofs.lemmas.List.Splits.{slice_split_first}
use Rattle.sal_stmt.specs.Words.{is_blank, is_empty}
use Rattle.sal_module_table.specs.Lists.{words_of}

abbrev pieces : List ℕ → List (List ℕ)
pieces t = slice_split is_blank t

abbrev pub word_len : List ℕ → ℕ
word_len t = prefix_len (λ c. not (is_blank c)) t

pieces-last : (t : List ℕ) → length t ≤ word_len t → pieces t ≡ t ∷ []
pieces-last [] h = refl
pieces-last (c ∷ t) h = elim (cases_Bool (is_blank c)) [
  | inl e ↦ let h' = rw e at h in absurd (omega arith)
  | inr e ↦ let h' = rw e at h in rw (e, pieces-last t (omega arith)) refl
]

pieces-more : (t : List ℕ) → word_len t < length t → pieces t ≡ take (word_len t) t ∷ pieces (drop (word_len t + 1) t)
pieces-more t h = slice_split_first is_blank t 0 h

abbrev pub kept : List (List ℕ) → List (List ℕ)
kept words = filter (λ w. not (is_empty w)) words

kept-front : (w : List ℕ) (ws : List (List ℕ)) → kept (w ∷ ws) ≡ kept (w ∷ []) ++ kept ws
kept-front w ws = elim (cases_Bool (not (is_empty w))) [ inl e ↦ rw e refl | inr e ↦ rw e refl ]

-- the last word
pub words-last : (done words : List (List ℕ)) (t : List ℕ) → length t ≤ word_len t → words ≡ done ++ kept (t ∷ []) → done ++ words_of t ≡ words
words-last done words t h pushed = ap (λ ws. done ++ kept ws) (pieces-last t h) ∙ sym pushed

-- and another one
pub words-more : (done words : List (List ℕ)) (t w rest : List ℕ) → word_len t < length t → w ≡ take (word_len t) t → rest ≡ drop (word_len t + 1) t → words ≡ done ++ kept (w ∷ [])
    → done ++ words_of t ≡ words ++ words_of rest
words-more done words t w rest h front behind pushed =
    let parts : pieces t ≡ w ∷ pieces rest = pieces-more t h ∙ rw (front, behind) refl in
    ap (λ ws. done ++ kept ws) parts ∙ ap (λ ws. done ++ ws) (kept-front w (pieces rest)) ∙ sym (append_assoc done (kept (w ∷ [])) (words_of rest)) ∙ ap (λ ws. ws ++ words_of rest) (sym pushed)
