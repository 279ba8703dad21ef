-- The byte at which the run of others stops is a blank, so it is ASCII.
use Rattle.std.proofs.Common.{◌≡◌, ◌<◌, ℕ, List, length, slice_index, not, false, sym, subst, arith}
use Rattle.std.proofs.lemmas.Bool.Decides.{nat_tests}
use Rattle.std.proofs.lemmas.List.Sums.{prefix_len_stops}
use Rattle.sal_stmt.specs.Words.{is_blank}
use Rattle.sal_module_table.proofs.Pieces.{word_len}
use Rattle.sal_module_table.proofs.words.blank_at.Goals as goal

low : (c : ℕ) → not (is_blank c) ≡ false → c < 128
low c e = grind (arith, nat_tests)

there : (t : List ℕ) → word_len t < length t → slice_index t (word_len t) < 128
there t less = low (slice_index t (word_len t)) (prefix_len_stops (λ c. not (is_blank c)) t 0 less)

pub returns-then-len-text : goal.returns-then-len-text
returns-then-len-text c =
    let e = c.word_len-len.ensures.value in
    let text = c.args.text.now in
    let less : word_len text < length text = omega arith in
    let P : ℕ → Type 0 = λ n. slice_index text n < 128 in
    (e, omega arith, subst P (sym e) (there text less))
