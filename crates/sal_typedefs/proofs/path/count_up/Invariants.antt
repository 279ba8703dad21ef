-- The steps so far, and those that are left.
use Rattle.std.proofs.Common.{◌≡◌, ◌+◌, ◌≤◌, length}
use Rattle.std.specs.List.{prefix_len}
use denote.Text.{Utf8}
use denote.Shadow.{shadow}
use Rattle.sal_typedefs.specs.Names.{is_up, count_up}
use Rattle.sal_typedefs.proofs.PathLists.{steps}
use Rattle.sal_typedefs.proofs.path.count_up.Given as goal

abbrev pub invariant-steps : goal.invariant-steps
invariant-steps l =
    record {
      text : shadow (Utf8 l.rest);
      within : l.count + length l.rest ≤ length l.text;
      steps : count_up l.text ≡ l.count + prefix_len is_up (steps l.rest);
    }

abbrev pub decreases-steps : goal.decreases-steps
decreases-steps l = length l.rest
