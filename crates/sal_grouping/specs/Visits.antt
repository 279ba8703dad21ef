-- Visits of blocks, and the nodes that are still to be found there.
use Rattle.std.specs.Prelude.{ℕ, zero, suc, ◌+◌, List, [], ◌∷◌, ◌++◌, drop, Option}
use Rattle.std.specs.List.{flat_map}
use Rattle.sal_grouping.specs.declared.rows.Row.{Row}
use Rattle.sal_grouping.specs.declared.nodes.Visit.{Visit}
use Rattle.sal_grouping.specs.Rows.{inside}
use Rattle.sal_grouping.specs.Growth.{used_by, nodes_at, nodes_within}

-- those of the statements from an index on
abbrev pub left_of : List Row → List (Option ℕ) → Visit → List ℕ
left_of rows named visit = flat_map (nodes_at (nodes_within visit.levels rows named) rows named) (drop visit.next (inside rows visit.block))

-- of the suspended visits, the last one first
abbrev pub all_left : List Row → List (Option ℕ) → List Visit → List ℕ
all_left rows named [] = []
all_left rows named (visit ∷ visits) = all_left rows named visits ++ left_of rows named visit

-- ---- the number of steps

-- each of these in a step and in its own
abbrev pub total : (ℕ → ℕ) → List ℕ → ℕ
total steps [] = 0
total steps (k ∷ ks) = suc (steps k + total steps ks)

-- of a statement: those of the grouping that it names
abbrev pub steps_at : (ℕ → ℕ) → List (Option ℕ) → ℕ → ℕ
steps_at within named k = total within (used_by named k)

-- of a block, with at most n levels of `uses` applied
unfoldable pub steps_within : ℕ → List Row → List (Option ℕ) → ℕ → ℕ
steps_within zero rows named b = 0
steps_within (suc n) rows named b = suc (total (steps_at (steps_within n rows named) named) (inside rows b))

-- of the statements from an index on
abbrev pub steps_of : List Row → List (Option ℕ) → Visit → ℕ
steps_of rows named visit = suc (total (steps_at (steps_within visit.levels rows named) named) (drop visit.next (inside rows visit.block)))

-- of all remaining visits
abbrev pub all_steps : List Row → List (Option ℕ) → List Visit → ℕ
all_steps rows named [] = 0
all_steps rows named (visit ∷ visits) = steps_of rows named visit + all_steps rows named visits
