-- Changes in the order of their paths; of those with the same path the last counts.
use Rattle.std.specs.Prelude.{List, [], ◌∷◌, Option}
use Rattle.std.specs.List.{fold}
use Rattle.std.specs.FinMap.{put}
use Rattle.sal_types.specs.declared.value.Step.{Step}
use Rattle.sal_types.specs.declared.value.Cell.{Cell}
use Rattle.sal_types.specs.Order.{path_cmp}
use Rattle.sal_rows.specs.declared.change.Change.{Change}
use Rattle.sal_delta.specs.declared.ordered.Cells.{Cells}

-- each path with both cells
abbrev pub marks : List Change → List (List Step × (Option Cell × Option Cell))
marks [] = []
marks (c ∷ cs) = (c.path, (c.before, c.after)) ∷ marks cs

abbrev pub marks_of : List (List Step × Cells) → List (List Step × (Option Cell × Option Cell))
marks_of [] = []
marks_of (e ∷ es) = (e.0, (e.1.before, e.1.after)) ∷ marks_of es

abbrev pub put_mark : List (List Step × (Option Cell × Option Cell)) → Change → List (List Step × (Option Cell × Option Cell))
put_mark es c = put path_cmp c.path (c.before, c.after) es

abbrev pub in_order : List Change → List (List Step × (Option Cell × Option Cell))
in_order cs = fold put_mark [] cs
