-- The modules so far.
use Rattle.std.proofs.Common.{◌≡◌, take}
use Rattle.sal_grouping.proofs.Places.{numbered}
use Rattle.sal_module_table.specs.Identities.{seen, identities_in}
use Rattle.sal_module_table.proofs.identities.identities_of.Given as goal

abbrev pub invariant-loop-m : goal.invariant-loop-m
invariant-loop-m l = seen l.all.items ≡ numbered identities_in 0 (take l.m l.stmts)
