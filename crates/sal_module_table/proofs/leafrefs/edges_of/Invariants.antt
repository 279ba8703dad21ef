-- The targets of the nodes so far.
use Rattle.std.proofs.Common.{◌≡◌, [], ◌∷◌, take}
use Rattle.sal_grouping.specs.Indexes.{lists}
use Rattle.sal_grouping.proofs.Places.{numbered}
use Rattle.sal_module_table.specs.Leafrefs.{targets_of}
use Rattle.sal_module_table.proofs.leafrefs.edges_of.Given as goal

abbrev pub invariant-loop-k : goal.invariant-loop-k
invariant-loop-k l = lists l.edges.items ≡ numbered (λ k b. targets_of l.paths.modules.now l.paths.forest.now k b ∷ []) 0 (take l.k l.paths.forest.now)
