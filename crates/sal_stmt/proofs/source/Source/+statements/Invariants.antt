use Rattle.std.proofs.Common.{◌≡◌, ℕ, ◌+◌, ◌*◌, ◌<◌, ◌≤◌, length}
use denote.Text.{Utf8}
use denote.Shadow.{shadow}
use Rattle.sal_types.specs.Reading.{with_front}
use Rattle.sal_stmt.specs.Text.{statement, statements, turns}
use Rattle.sal_stmt.proofs.source.Source.+statements.Given as goal

abbrev pub decreases-block : goal.decreases-block
decreases-block l = 2 * l.levels + 1

abbrev pub decreases-statement : goal.decreases-statement
decreases-statement l = 2 * l.levels

abbrev pub invariant-block-statements : goal.invariant-block-statements
invariant-block-statements l =
    let inner = statement l.self.text.now l.levels in
    shadow (Utf8 l.rest)
    × (length l.rest ≤ length l.s)
    × ((m : ℕ) × (length l.rest < m)
    × (statements l.self.text.now inner l.start (turns l.s) l.s ≡ with_front l.subs.items (statements l.self.text.now inner l.start m l.rest)))

abbrev pub decreases-block-statements : goal.decreases-block-statements
decreases-block-statements l = length l.rest
