-- The steps so far are before those that are left.
use Rattle.std.proofs.Common.{◌≡◌, ◌-◌, ◌≤◌, length}
use denote.Text.{Utf8}
use denote.Shadow.{shadow}
use Rattle.sal_pathtext.specs.Read.{top, steps}
use Rattle.sal_pathtext.proofs.Steps.{behind}
use Rattle.sal_pathtext.proofs.read.steps.Given as goal

abbrev pub invariant-steps : goal.invariant-steps
invariant-steps l =
    shadow (Utf8 l.rest)
    × (length l.path ≤ 32)
    × (steps l.reader.schema.now l.reader.text.now 32 top l.reader.text.now ≡ behind l.path (steps l.reader.schema.now l.reader.text.now (32 - length l.path) l.here l.rest))

abbrev pub decreases-steps : goal.decreases-steps
decreases-steps l = 32 - length l.path
