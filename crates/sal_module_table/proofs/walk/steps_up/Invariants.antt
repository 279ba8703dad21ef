-- The steps that are left.
use Rattle.std.proofs.Common.{◌≡◌, ◌-◌}
use Rattle.sal_module_table.specs.Leafrefs.{steps_up}
use Rattle.sal_module_table.proofs.walk.steps_up.Given as goal

abbrev pub invariant-loop-i : goal.invariant-loop-i
invariant-loop-i l = steps_up l.up l.paths.modules.now l.paths.forest.now l.initial.place ≡ steps_up (l.up - l._i) l.paths.modules.now l.paths.forest.now l.place
