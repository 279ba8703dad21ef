-- It begins with the older list exactly if the rest does.
use Rattle.std.proofs.Common.{◌≡◌, drop}
use Rattle.sal_schema.specs.Same.{begins, same_identity}
use Rattle.sal_schema.proofs.versions.identities_begin.Given as goal

abbrev pub invariant-loop-i : goal.invariant-loop-i
invariant-loop-i l = begins same_identity l.older l.newer ≡ begins same_identity (drop l.i l.older) (drop l.i l.newer)
