-- Runs of ASCII bytes end at the boundary of a character.
use Rattle.std.proofs.Common.{◌≡◌, ℕ, zero, suc, ◌<◌, Bool, true, List, get_or, refl, subst, arith}
use Rattle.std.proofs.lemmas.Bool.Decides.{nat_tests}
use Rattle.std.proofs.lemmas.Str.{IsCharBoundary-after_ascii, IsCharBoundary-start}
use Rattle.std.proofs.lemmas.List.Sums.{prefix_len_passes, prefix_len-le-length}
use Rattle.std.specs.List.{prefix_len}
use Rattle.std.specs.Str.{IsCharBoundary, IsUtf8}
use Rattle.sal_schema.specs.Valid.{goes_on}
use Rattle.sal_pathtext.specs.Words.{is_blank}

module _ (p : ℕ → Bool) (ascii : (c : ℕ) → p c ≡ true → c < 128) where
  run_ends : (t : List ℕ) (n : ℕ) → IsUtf8 t → n ≡ prefix_len p t → IsCharBoundary t n
  run_ends t zero is e = IsCharBoundary-start t is
  run_ends t (suc n) is e =
      let low : n < prefix_len p t = omega arith in
      let there = prefix_len-le-length p t in
      let here = ascii (get_or t n 0) (prefix_len_passes p t n 0 low) in
      subst (IsCharBoundary t) (omega arith) (IsCharBoundary-after_ascii t n is (omega arith) here)

blank_is_ascii : (c : ℕ) → is_blank c ≡ true → c < 128
blank_is_ascii c h = grind (arith, nat_tests)

word_is_ascii : (c : ℕ) → goes_on c ≡ true → c < 128
word_is_ascii c h = grind (arith, nat_tests)

pub blanks_end : (t : List ℕ) → IsUtf8 t → IsCharBoundary t (prefix_len is_blank t)
blanks_end t is = run_ends is_blank blank_is_ascii t (prefix_len is_blank t) is refl

pub word_ends : (t : List ℕ) → IsUtf8 t → IsCharBoundary t (prefix_len goes_on t)
word_ends t is = run_ends goes_on word_is_ascii t (prefix_len goes_on t) is refl
