-- Results of functions.
use Rattle.std.specs.Prelude.{◌≡◌, ℕ, Bool, true, false, List, None, Some}
use Rattle.sal_script.specs.declared.script.Script.{Script}
use Rattle.sal_order.specs.FirstLines.{told_order}

-- the script has the order on the text's first line, if there is one
abbrev pub IsReordered : List ℕ → Script → Script → Bool → Type 0
IsReordered text old new true = (order : List ℕ) × (told_order text ≡ Some order) × (new ≡ record old { order = order })
IsReordered text old new false = told_order text ≡ None
