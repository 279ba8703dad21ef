use Rattle.std.proofs.Common.{◌≡◌, ◌<◌, ℕ, [], true, get_or, nat_le}
use Rattle.std.specs.List.{list_all}
use Rattle.sal_grouping.specs.Indexes.{lists}
use Rattle.sal_grouping.proofs.reach.is_ranked.Given as goal

abbrev pub invariant-loop-g : goal.invariant-loop-g
invariant-loop-g l = (h : ℕ) → h < l.g → list_all (λ k. nat_le (get_or l.ranks k 0) (get_or l.ranks h 0)) (get_or (lists l.edges) h []) ≡ true
