-- Words, from one byte to the next.
use Rattle.std.proofs.Common.{◌≡◌, ℕ, suc, ◌+◌, ◌<◌, ◌≤◌, true, false, List, [], ◌∷◌, length, drop, get_or, refl, ◌∙◌, subst, inl, inr, arith, add-zero, get_or-drop}
use Rattle.std.proofs.lemmas.Bool.{cases_Bool, cases_lt}
use Rattle.std.proofs.lemmas.Bool.Decides.{nat_tests}
use Rattle.std.proofs.lemmas.List.{drop_more}
use Rattle.std.proofs.lemmas.Str.{IsCharBoundary-end, IsCharBoundary-before_ascii}
use Rattle.std.specs.Str.{IsCharBoundary}
use Rattle.sal_stmt.specs.Words.{ends_word, word_len}

pub word_len-stop : (t : List ℕ) → ends_word t ≡ true → word_len t ≡ 0
unfolding word_len
word_len-stop [] e = refl
word_len-stop (c ∷ t) e = rw e

pub word_len-go : (c : ℕ) (t : List ℕ) → ends_word (c ∷ t) ≡ false → word_len (c ∷ t) ≡ suc (word_len t)
unfolding word_len
word_len-go c t e = rw e

pub word_len-go_at : (t : List ℕ) (i : ℕ) → i < length t → ends_word (drop i t) ≡ false → word_len (drop i t) ≡ word_len (drop (i + 1) t) + 1
word_len-go_at t i h e =
    let here = drop_more t i 0 h in
    rw here (word_len-go (get_or t i 0) (drop (i + 1) t) (rw here at e) ∙ omega arith)

pub word_len-none : word_len [] ≡ 0
unfolding word_len
word_len-none = refl

pub word_len-le : (t : List ℕ) → word_len t ≤ length t
unfolding word_len
word_len-le [] = omega arith
word_len-le (c ∷ t) = elim (cases_Bool (ends_word (c ∷ t))) [ inl e ↦ rw e (omega arith) | inr e ↦ rw e (omega (arith, word_len-le t)) ]

-- what ends a word is an ASCII byte, or the end of the text
pub ends_word-ascii : (t : List ℕ) → ends_word t ≡ true → get_or t 0 0 < 128
ends_word-ascii t e = grind (arith, nat_tests)

pub word_len-stops : (t : List ℕ) → word_len t < length t → ends_word (drop (word_len t) t) ≡ true
unfolding word_len
word_len-stops [] h = absurd (omega arith)
word_len-stops (c ∷ t) h = elim (cases_Bool (ends_word (c ∷ t))) [
  | inl e ↦ rw (e, e) refl
  | inr e ↦ let h' = rw e at h in rw e (word_len-stops t (omega arith))
]

pub IsCharBoundary-word_len : (t : List ℕ) → IsCharBoundary t (word_len t)
IsCharBoundary-word_len t = elim (cases_lt (word_len t) (length t)) [
  | inl within ↦
      let stop = ends_word-ascii (drop (word_len t) t) (word_len-stops t within) in
      IsCharBoundary-before_ascii t (word_len t) within (rw (get_or-drop (word_len t) t 0 0, add-zero) at stop)
  | inr past ↦ subst (IsCharBoundary t) (omega (arith, word_len-le t)) (IsCharBoundary-end t)
]
