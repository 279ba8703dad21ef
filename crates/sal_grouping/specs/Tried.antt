-- The result of trying an augment.
use Rattle.std.specs.Prelude.{◌≡◌, ◌<◌, ◌≤◌, List, length, Option, Some, None}
use Rattle.sal_grouping.specs.declared.node.Node.{Node}
use Rattle.sal_grouping.specs.declared.augments.Tried.{Tried}
use Rattle.sal_grouping.specs.declared.augments.Tried.TheVariants.{Carried, Left, Past}

abbrev pub IsPast : Option (List Node) → Type 0
IsPast None = ⊥
IsPast (Some forest) = 65536 < length forest

-- the nodes before and after it, with the definition's result
abbrev pub Tells : Tried → Option (List Node) → List Node → List Node → Type 0
Tells Carried given old new = (given ≡ Some new) × (length new ≤ 65536)
Tells Left given old new = (given ≡ None) × (new ≡ old)
Tells Past given old new = IsPast given
