use Rattle.std.proofs.Common.{◌≡◌, ◌||◌, false, nat_eq, slice_index_or}
use Rattle.std.specs.List.{filter, range_with_len}
use Rattle.sal_report.proofs.mounted.told_numbers.Given as goal

abbrev pub invariant-loop-domain : goal.invariant-loop-domain
invariant-loop-domain l = l.told.items ≡ filter (λ d. nat_eq d 0 || slice_index_or l.marks d false) (range_with_len 0 l.domain)
