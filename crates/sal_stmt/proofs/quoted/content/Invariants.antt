use Rattle.std.proofs.Common.{◌≡◌, ◌++◌, ◌+◌, ◌==◌, length, string_bytes}
use denote.Text.{Utf8}
use denote.Shadow.{shadow}
use Rattle.std.specs.List.{slice_split}
use Rattle.sal_stmt.specs.Quoted.{content, join_lines}
use Rattle.sal_stmt.proofs.quoted.content.Given as goal

abbrev pub invariant-lines : goal.invariant-lines
invariant-lines l = shadow (Utf8 l.rest)
    × (content l.column l.fn.raw ≡ string_bytes l.out ++ join_lines l.indent (l.column + 1) (slice_split (λ c. c == 10) l.rest))

abbrev pub decreases-lines : goal.decreases-lines
decreases-lines l = length l.rest
