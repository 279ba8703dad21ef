-- The bytes are those of the frames so far.
use Rattle.std.proofs.Common.{map}
use Rattle.sal_follow.specs.Exporting.{AreBetween}
use Rattle.sal_follow.specs.Framed.{trees_of}
use Rattle.sal_follow.proofs.exports.export_on.Given as goal

abbrev pub invariant-loop-commit : goal.invariant-loop-commit
invariant-loop-commit l = AreBetween l.schema (map trees_of l.commits) l.fn.next.commit l.fn.next.number l.bytes.items l.commit l.number
