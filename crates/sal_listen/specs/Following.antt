-- The batches of a listener, one after another. `trees` are the trees of its store at the commits, by their numbers.
use Rattle.std.specs.Prelude.{◌≡◌, ℕ, ◌≤◌, Bool, List, [], ◌∷◌, flat_map}
use Rattle.std.specs.List.{fold}
use Rattle.sal_types.specs.declared.value.Step.{Step}
use Rattle.sal_types.specs.declared.row.Row.{Row}
use Rattle.sal_rows.specs.declared.batch.Batch.{Batch}
use Rattle.sal_rows.specs.declared.batch.Part.{Part}
use Rattle.sal_rows.specs.Batches.{batch}
use Rattle.sal_rows.specs.Patch.{with_parts}

-- batches: the first begins at commit k, and each later one at the end of the one before
abbrev pub AreBatches : Bool → (ℕ → List Row) → List Step → ℕ → List Batch → Type 0
AreBatches own trees p k [] = Unit {0}
AreBatches own trees p k (b ∷ bs) = (k ≤ b.to) × (b ≡ batch own trees p k b.to) × AreBatches own trees p b.to bs

-- the commit at which they end
abbrev pub end_of : ℕ → List Batch → ℕ
end_of k [] = k
end_of k (b ∷ bs) = end_of b.to bs

-- their parts, in order
abbrev pub parts_in : List Batch → List Part
parts_in bs = flat_map (λ b. b.lists) bs

-- rows after the batches, in their order
abbrev pub with_batches : List Row → List Batch → List Row
with_batches rows bs = fold (λ rows b. with_parts rows b.lists) rows bs
