-- The requirements of the modules so far.
use Rattle.std.proofs.Common.{◌≡◌, take, []}
use Rattle.sal_typedefs.specs.Spots.{site_in}
use Rattle.sal_grouping.proofs.Places.{numbered}
use Rattle.sal_module_table.specs.Typed.{owns, owns_in}
use Rattle.sal_module_table.proofs.typed.typings_of.Given as goal

abbrev pub invariant-loop-m : goal.invariant-loop-m
invariant-loop-m l = owns l.all.items ≡ numbered (λ m stmt. owns_in l.wanted 64 l.modules (site_in m [] stmt)) 0 (take l.m l.modules)
