-- The values of the nodes so far.
use Rattle.std.proofs.Common.{◌≡◌, map, take}
use Rattle.sal_typedefs.specs.Leafrefs.{stmt_in}
use Rattle.sal_module_table.specs.Leafrefs.{leafrefs_at}
use Rattle.sal_module_table.specs.Typed.{leafrefs_seen}
use Rattle.sal_module_table.proofs.typed.leafrefs_of_nodes.Given as goal

abbrev pub invariant-loop-branch : goal.invariant-loop-branch
invariant-loop-branch l = leafrefs_seen l.all.items ≡ map (λ b. map stmt_in (leafrefs_at l.modules b)) (take l.branch-index l.forest)
