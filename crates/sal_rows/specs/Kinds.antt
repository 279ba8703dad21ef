-- How the node at a path changed: the modification types of MD-SAL's `DataTreeCandidate`, for rows.
use Rattle.std.specs.Prelude.{Bool, List, [], ◌∷◌, Option, Some, None, if◌then◌else◌}
use Rattle.sal_types.specs.declared.value.Step.{Step}
use Rattle.sal_types.specs.declared.value.Cell.{Cell}
use Rattle.sal_types.specs.declared.row.Row.{Row}
use Rattle.sal_types.specs.Tree.{cell, has}
use Rattle.sal_rows.specs.declared.change.Change.{Change}
use Rattle.sal_rows.specs.declared.change.CandidateKind.{CandidateKind}
use Rattle.sal_rows.specs.declared.change.CandidateKind.TheVariants.{Unmodified, Write, Delete, SubtreeModified, Appeared, Disappeared}
use Rattle.sal_rows.specs.Changes.{same_cell, changes_under}

-- for a node with its own row, by that row
abbrev pub kind_by_cells : Option Cell → Option Cell → CandidateKind
kind_by_cells None None = SubtreeModified
kind_by_cells None (Some d) = Write
kind_by_cells (Some c) None = Delete
kind_by_cells (Some c) (Some d) = if same_cell (Some c) (Some d) then SubtreeModified else Write

-- for a node without one, by whether it was and is present
abbrev pub kind_by_presence : Bool → Bool → CandidateKind
kind_by_presence was is = if was then (if is then SubtreeModified else Disappeared) else Appeared

-- `own`: the node has its own row by its kind
abbrev pub kind_of : Bool → List Row → List Row → List Step → List Change → CandidateKind
kind_of own before after p [] = Unmodified
kind_of own before after p (c ∷ cs) = if own then kind_by_cells (cell before p) (cell after p) else kind_by_presence (has before p) (has after p)

abbrev pub candidate_kind : Bool → List Row → List Row → List Step → CandidateKind
candidate_kind own before after p = kind_of own before after p (changes_under before after p)
