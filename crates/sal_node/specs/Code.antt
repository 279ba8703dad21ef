-- A tree as a list: the children in postfix order.
use Rattle.std.specs.Prelude.{◌≡◌, refl, ℕ, List, [], ◌∷◌, Option, Some, None}
use Rattle.std.proofs.Common.{◌∙◌}
use Rattle.std.specs.Coded.{Coded, code_by, coded×, coded_ℕ, coded_list, coded_option}
use Rattle.sal_types.specs.declared.value.Step.{Step}
use Rattle.sal_types.specs.declared.value.Cell.{Cell}
use Rattle.sal_types.specs.contracts.value.Step as step_type
use Rattle.sal_types.specs.contracts.value.Cell as cell_type
use Rattle.sal_node.specs.Tree.{Forest, bare, grown, Tree}

abbrev Mark : Type 0
Mark = Option (Step × (ℕ × Option Cell))

abbrev marks : Forest → List Mark → List Mark
marks bare after = None ∷ after
marks (grown x s c ks rest) after = marks ks (marks rest (Some (x, (s, c)) ∷ after))

abbrev join : Step × (ℕ × Option Cell) → List Forest → List Forest
join m [] = []
join m (rest ∷ []) = []
join m (rest ∷ ks ∷ stack) = grown m.0 m.1.0 m.1.1 ks rest ∷ stack

abbrev run : List Mark → List Forest → List Forest
run [] stack = stack
run (None ∷ after) stack = run after (bare ∷ stack)
run (Some m ∷ after) stack = run after (join m stack)

abbrev first_of_stack : List Forest → Forest
first_of_stack [] = bare
first_of_stack (f ∷ _) = f

run-marks : (f : Forest) (after : List Mark) (stack : List Forest) → run (marks f after) stack ≡ run after (f ∷ stack)
run-marks bare after stack = refl
run-marks (grown x s c ks rest) after stack = run-marks ks _ stack ∙ run-marks rest _ (ks ∷ stack)

abbrev to : Tree → ℕ × (Option Cell × List Mark)
to t = (t.stamp, (t.cell, marks t.kids []))

abbrev from : ℕ × (Option Cell × List Mark) → Tree
from m = record { stamp = m.0; cell = m.1.0; kids = first_of_stack (run m.1.1 []) }

pub back : (t : Tree) → from (to t) ≡ t
back t = λ i. record { stamp = t.stamp; cell = t.cell; kids = first_of_stack (run-marks t.kids [] [] i) }

abbrev mark_code : Coded Mark
mark_code = coded_option (coded× step_type.the_row.coded (coded× coded_ℕ (coded_option cell_type.the_row.coded)))

abbrev pub tree_code : Coded Tree
tree_code = code_by (ℕ × (Option Cell × List Mark)) (coded× coded_ℕ (coded× (coded_option cell_type.the_row.coded) (coded_list mark_code))) to from back

abbrev pub entries_code : Coded (List (Step × Tree))
entries_code = coded_list (coded× step_type.the_row.coded tree_code)
