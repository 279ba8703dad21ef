-- The values so far are before those of the keys that are left.
use Rattle.std.proofs.Common.{◌≡◌, drop}
use Rattle.sal_pathtext.specs.Nodes.{values_given}
use Rattle.sal_pathtext.proofs.Entries.{in_front}
use Rattle.sal_pathtext.proofs.nodes.values_given.Given as goal

abbrev pub invariant-loop-key : goal.invariant-loop-key
invariant-loop-key l = values_given l.given l.keys ≡ in_front l.values.items (values_given l.given (drop l.key-index l.keys))
