use Rattle.std.proofs.Common.{◌≡◌, ℕ, ◌<◌, ◌≤◌, length, string_bytes}
use denote.Text.{Utf8}
use denote.Shadow.{shadow}
use Rattle.sal_types.specs.Reading.{with_front}
use Rattle.sal_stmt.specs.Text.{joined, turns}
use Rattle.sal_stmt.proofs.source.Source.joined.Given as goal

abbrev pub invariant-parts : goal.invariant-parts
invariant-parts l =
    shadow (Utf8 l.rest)
    × (length l.rest ≤ length l.s)
    × ((m : ℕ) × (length l.rest < m)
    × (with_front (string_bytes l.fn.front) (joined l.self.text.now l.statement (turns l.s) l.s) ≡ with_front (string_bytes l.out) (joined l.self.text.now l.statement m l.rest)))

abbrev pub decreases-parts : goal.decreases-parts
decreases-parts l = length l.rest
