-- The rest of the path.
use Rattle.std.proofs.Common.{◌≡◌, ◌++◌, map, length}
use denote.Text.{Utf8}
use denote.Shadow.{shadow}
use Rattle.sal_grouping.specs.Groupings.{step_of}
use Rattle.sal_module.proofs.Paths.{names}
use Rattle.sal_grouping.proofs.names.steps_of.Given as goal

abbrev pub invariant-steps : goal.invariant-steps
invariant-steps l =
    record {
      text : shadow (Utf8 l.rest);
      path : map (step_of l.modules l.number) (names l.text) ≡ l.path.items ++ map (step_of l.modules l.number) (names l.rest);
    }

abbrev pub decreases-steps : goal.decreases-steps
decreases-steps l = length l.rest
