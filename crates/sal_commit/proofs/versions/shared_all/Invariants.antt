-- The versions so far are shared.
use Rattle.std.proofs.Common.{◌≡◌, take}
use Rattle.sal_commit.specs.Versions.{tables_of}
use Rattle.sal_commit.proofs.versions.shared_all.Given as goal

abbrev pub invariant-loop-version : goal.invariant-loop-version
invariant-loop-version l = tables_of l.list.items ≡ tables_of (take l.version-index l.versions)
