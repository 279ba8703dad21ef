-- The spans from the index on are left.
use Rattle.std.proofs.Common.{◌≡◌, drop}
use Rattle.std.specs.Prelude.{find, not}
use Rattle.sal_rows.specs.Commits.{is_unchanged}
use Rattle.sal_graft.specs.Kept.{opening_in, ops_of}
use Rattle.sal_graft.proofs.span.changed_span.Given as goal

abbrev pub invariant-loop-i : goal.invariant-loop-i
invariant-loop-i l =
    find (λ span. not (is_unchanged (opening_in l.commits) (ops_of l.commits) l.store l.steps span)) (drop l.i l.spans)
    ≡ find (λ span. not (is_unchanged (opening_in l.commits) (ops_of l.commits) l.store l.steps span)) l.spans
