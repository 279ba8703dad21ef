use Rattle.std.proofs.Common.{◌≡◌, ◌++◌, take}
use Rattle.std.specs.List.{flat_map}
use Rattle.sal_lint.specs.Lines.{note_line}
use Rattle.sal_lint.specs.Places.{IsSpot}
use Rattle.sal_lint.proofs.lines.push_noted.Given as goal

abbrev pub invariant-loop-noted : goal.invariant-loop-noted
invariant-loop-noted l = record {
  spot : IsSpot l.of.text.now l.spot;
  lines : l.out.items ≡ l.initial.out.items ++ flat_map (note_line l.of.device l.of.number l.of.text.now) (take l.noted-index l.notes);
}
