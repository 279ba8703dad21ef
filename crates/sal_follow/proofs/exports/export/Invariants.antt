-- The bytes are those of the frames so far.
use Rattle.std.proofs.Common.{map}
use Rattle.sal_follow.specs.Exporting.{AreBetween}
use Rattle.sal_follow.specs.Framed.{trees_of}
use Rattle.sal_follow.proofs.exports.export.Given as goal

abbrev pub invariant-loop-number : goal.invariant-loop-number
invariant-loop-number l = AreBetween l.schema (map trees_of l.commits) 0 0 l.bytes.items l.number l.number
