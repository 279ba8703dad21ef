-- The rest of the text.
use Rattle.std.proofs.Common.{◌≡◌, ◌++◌, length}
use denote.Text.{Utf8}
use denote.Shadow.{shadow}
use Rattle.sal_typedefs.proofs.PathLists.{steps}
use Rattle.sal_typedefs.proofs.path.between_slashes.Given as goal

abbrev pub invariant-steps : goal.invariant-steps
invariant-steps l =
    record {
      text : shadow (Utf8 l.rest);
      steps : steps l.text ≡ l.steps.items ++ steps l.rest;
    }

abbrev pub decreases-steps : goal.decreases-steps
decreases-steps l = length l.rest
