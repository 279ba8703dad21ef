-- Paths of a list, of an entry in it, and of a node after it.
use Rattle.std.specs.Prelude.{List, [], ◌∷◌, codes}
use Rattle.sal_types.specs.declared.value.Atom.TheVariants.{Bin, Text}
use Rattle.sal_types.specs.declared.value.Step.{Step}
use Rattle.sal_types.specs.declared.value.Step.TheVariants.{Key, Node}

abbrev pub list : List Step
list = Node 2 ∷ []

-- its keys are a text and bytes
abbrev pub entry : List Step
entry = Node 2 ∷ Key (record { member = 0; atom = Text (codes "b") } ∷ record { member = 1; atom = Bin (1 ∷ 2 ∷ 3 ∷ []) } ∷ []) ∷ []

abbrev pub later : List Step
later = Node 10 ∷ []
