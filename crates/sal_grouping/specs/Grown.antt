-- The checks of the tree of modules after growth.
use Rattle.std.specs.Prelude.{List, map, Result, Ok}
use Rattle.sal_types.specs.Reading.{◌>>=◌}
use Rattle.sal_module.specs.declared.fault.BuildFault.{BuildFault}
use Rattle.sal_grouping.specs.declared.rows.Row.{Row}
use Rattle.sal_grouping.specs.declared.forest.Branch.{Branch}
use Rattle.sal_grouping.specs.Augments.{Progress, target_faults}
use Rattle.sal_grouping.specs.Children.{child_faults}
use Rattle.sal_grouping.specs.Expand.{unless_any, sized, branch_of}

-- the tree of these nodes, if no augment is pending and no two children have one name
abbrev pub closed : List Row → Progress → Result (List Branch) BuildFault
closed rows progress =
    unless_any (target_faults rows progress.1) progress.0
    >>= (λ forest. unless_any (child_faults rows forest) forest)
    >>= (λ forest. Ok (map (branch_of rows) forest))

-- and if it does not exceed the limit
abbrev pub grown : List Row → Progress → Result (List Branch) BuildFault
grown rows progress =
    sized progress >>= (λ p. unless_any (target_faults rows p.1) p.0)
    >>= (λ forest. unless_any (child_faults rows forest) forest)
    >>= (λ forest. Ok (map (branch_of rows) forest))
