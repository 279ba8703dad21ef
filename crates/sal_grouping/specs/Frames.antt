-- Nodes that are still to be added, level by level.
use Rattle.std.specs.Prelude.{ℕ, List, [], ◌∷◌, ◌++◌, fold, drop, length, Option, Some}
use Rattle.sal_grouping.specs.declared.rows.Row.{Row}
use Rattle.sal_grouping.specs.declared.node.Node.{Node}
use Rattle.sal_grouping.specs.declared.grow.Frame.{Frame}
use Rattle.sal_grouping.specs.Growth.{Seed, node_of, below, grow}

-- a node, and n levels below it
abbrev pub with_seed : ℕ → List Row → List (Option ℕ) → ℕ → Option ℕ → List Node → Seed → List Node
with_seed n rows named owner parent forest seed = grow n rows named owner (Some (length forest)) (forest ++ node_of owner parent seed ∷ []) (below rows named seed)

-- the remaining nodes of one frame
abbrev pub with_frame : List Row → List (Option ℕ) → ℕ → Frame → List Node → List Node
with_frame rows named owner frame forest = fold (with_seed frame.levels rows named owner frame.parent) forest (drop frame.next frame.seeds.items)

-- of several, the last one first
abbrev pub with_frames : List Row → List (Option ℕ) → ℕ → List Frame → List Node → List Node
with_frames rows named owner [] forest = forest
with_frames rows named owner (frame ∷ frames) forest = with_frame rows named owner frame (with_frames rows named owner frames forest)
