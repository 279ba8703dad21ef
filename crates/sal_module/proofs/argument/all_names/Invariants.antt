-- The rest of the path.
use Rattle.std.proofs.Common.{◌≡◌, ◌≤◌, ◌==◌, length}
use Rattle.std.specs.List.{list_all, slice_split}
use Rattle.sal_stmt.specs.Words.{is_keyword}
use Rattle.sal_module.proofs.argument.all_names.Given as goal

abbrev pub invariant-names : goal.invariant-names
invariant-names l =
    (length l.rest ≤ length l.text)
    × (list_all is_keyword (slice_split (λ c. c == 47) l.text) ≡ list_all is_keyword (slice_split (λ c. c == 47) l.rest))

abbrev pub decreases-names : goal.decreases-names
decreases-names l = length l.rest
