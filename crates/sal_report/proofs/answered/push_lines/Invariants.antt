-- The lines before the index.
use Rattle.std.proofs.Common.{◌≡◌, ◌++◌, ℕ, List, take, string_bytes, Bor}
use Rattle.std.specs.List.{flat_map}
use Rattle.sal_report.proofs.answered.push_lines.Given as goal

abbrev pub invariant-loop-line : goal.invariant-loop-line
invariant-loop-line l = string_bytes l.text ≡ string_bytes l.initial.text ++ flat_map (λ (line : Bor (List ℕ)). line.now) (take l.line-index l.lines)
