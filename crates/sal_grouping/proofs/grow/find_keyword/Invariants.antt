use Rattle.std.proofs.Common.{◌≡◌, drop, find}
use Rattle.sal_grouping.specs.Rows.{is_keyword, keyword_at}
use Rattle.sal_grouping.proofs.grow.find_keyword.Given as goal

abbrev pub invariant-loop-k : goal.invariant-loop-k
invariant-loop-k l =
    find (λ k. is_keyword l.keyword (keyword_at l.rows k)) l.block ≡ find (λ k. is_keyword l.keyword (keyword_at l.rows k)) (drop l.k-index l.block)
