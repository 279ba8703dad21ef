-- The byte at which the run of others stops is a colon.
use Rattle.std.proofs.Common.{◌≡◌, ◌==◌, ◌<◌, ℕ, List, length, slice_index, not, false, ap, ◌∙◌, arith}
use Rattle.std.proofs.lemmas.Bool.Decides.{nat_tests}
use Rattle.std.proofs.lemmas.List.Sums.{prefix_len_stops}
use Rattle.sal_stmt.specs.Words.{colon_at}
use Rattle.sal_typedefs.proofs.name.colon_at.Goals as goal

stops : (c : ℕ) → not (c == 58) ≡ false → c ≡ 58
stops c e = grind (arith, nat_tests)

there : (t : List ℕ) → colon_at t < length t → slice_index t (colon_at t) ≡ 58
there t less = stops (slice_index t (colon_at t)) (prefix_len_stops (λ c. not (c == 58)) t 0 less)

pub returns-then-len-name : goal.returns-then-len-name
returns-then-len-name c =
    let e = c.len_to_colon-len.ensures.value in
    let name = c.args.name.now in
    let less : colon_at name < length name = omega arith in
    (e, omega arith, ap (slice_index name) e ∙ there name less)
