-- The names that are left.
use Rattle.std.proofs.Common.{◌≡◌, drop}
use Rattle.sal_module_table.specs.Leafrefs.{steps_down}
use Rattle.sal_module_table.proofs.walk.steps_down.Given as goal

abbrev pub invariant-loop-name : goal.invariant-loop-name
invariant-loop-name l =
    steps_down l.paths.modules.now l.paths.forest.now l.origin.message l.origin.owner l.origin.source l.initial.place l.names ≡ steps_down l.paths.modules.now l.paths.forest.now l.origin.message l.origin.owner l.origin.source l.place (drop l.name-index l.names)
