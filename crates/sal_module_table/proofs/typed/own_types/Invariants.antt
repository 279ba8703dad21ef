-- The values of the nodes so far.
use Rattle.std.proofs.Common.{◌≡◌, map, take}
use Rattle.sal_module_table.specs.Leafrefs.{stated_type, type_of}
use Rattle.sal_module_table.proofs.typed.own_types.Given as goal

abbrev pub invariant-loop-branch : goal.invariant-loop-branch
invariant-loop-branch l = l.all.items ≡ map (λ b. stated_type l.modules (type_of l.modules b)) (take l.branch-index l.forest)
