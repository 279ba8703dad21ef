-- The first versions were dropped.
use Rattle.std.proofs.Common.{◌≡◌, ◌-◌, drop}
use Rattle.sal_history.specs.World.{version_from}
use Rattle.sal_commit.specs.Versions.{tables_of}
use Rattle.sal_commit.proofs.anew.drop_versions.Given as goal

abbrev pub invariant-loop : goal.invariant-loop
invariant-loop l = record {
  first : version_from l.first.value (tables_of l.upgrades.items) (l.version - l.counter) ≡ version_from l.fn.first.value (tables_of l.fn.upgrades.items) l.version;
  upgrades : tables_of l.upgrades.items ≡ drop l.counter (tables_of l.fn.upgrades.items);
}
