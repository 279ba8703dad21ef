-- Worked examples of changes and batches, over the depot, its item and the box of Examples.
use Rattle.std.specs.Prelude.{ℕ, Bool, List, [], ◌∷◌, Option, Some, codes}
use Prim.Native.String.{String}
use Rattle.sal_types.specs.declared.value.Store.TheVariants.{Config}
use Rattle.sal_types.specs.declared.value.Atom.TheVariants.{Text}
use Rattle.sal_types.specs.declared.value.Step.{Step}
use Rattle.sal_types.specs.declared.value.Cell.{Cell}
use Rattle.sal_types.specs.declared.value.Cell.TheVariants.{Leaf}
use Rattle.sal_types.specs.declared.row.Row.{Row}
use Rattle.sal_rows.specs.declared.op.Op.{Op}
use Rattle.sal_rows.specs.declared.change.Change.{Change}
use Rattle.sal_rows.specs.declared.change.CandidateKind.{CandidateKind}
use Rattle.sal_rows.specs.declared.batch.Part.{Part}
use Rattle.sal_rows.specs.Apply.{apply_ops}
use Rattle.sal_rows.specs.Changes.{changes_under}
use Rattle.sal_rows.specs.Commits.{tree_at}
use Rattle.sal_rows.specs.Kinds.{candidate_kind}

-- a leaf with this text
abbrev pub text : String → Option Cell
text t = Some (Leaf (record { member = 0; atom = Text (codes t) }))

abbrev pub changed : List Step → Option Cell → Option Cell → Change
changed p was is = record { path = p; before = was; after = is }

-- a part of a batch with one change
abbrev pub only : ℕ → CandidateKind → Change → List Part → List Part
only k kind change rest = record { commit = k; kind = kind; list = change ∷ [] } ∷ rest

-- the changes that the operations make in the configuration at the path and below it, and the kind
abbrev pub changes_by : List Row → List Op → List Step → List Change
changes_by before ops p = changes_under before (apply_ops before Config ops) p

abbrev pub kind_by : Bool → List Row → List Op → List Step → CandidateKind
kind_by own before ops p = candidate_kind own before (apply_ops before Config ops) p

-- the configuration at each commit
abbrev pub trees_of : List Row → List (List Op) → ℕ → List Row
trees_of before commits k = tree_at (λ s. before) commits Config k
