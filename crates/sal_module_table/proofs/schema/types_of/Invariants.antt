-- The types of the nodes so far, and those that are left.
use Rattle.std.proofs.Common.{◌≡◌, ◌≤◌, ℕ, [], ◌∷◌, take, if◌then◌else◌}
use Rattle.sal_schema.specs.Kinds.{has_type}
use Rattle.sal_grouping.proofs.Places.{numbered}
use Rattle.sal_module_table.specs.Filled.{type_at}
use Rattle.sal_module_table.specs.Nodes.{kind_of}
use Rattle.sal_module_table.specs.Leafrefs.{node_type}
use Rattle.sal_module_table.proofs.schema.types_of.Given as goal

abbrev pub invariant-loop-k : goal.invariant-loop-k
invariant-loop-k l =
    (l.types.items ≡ numbered (λ k b. if has_type (kind_of l.modules b) then node_type l.modules l.forest k ∷ [] else []) 0 (take l.k l.forest))
    × ((j : ℕ) → l.k ≤ j → type_at l.filled.items j ≡ type_at l.initial.filled.items j)
