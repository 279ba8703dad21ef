-- The forest of the load's module: a list with two leafs.
use Rattle.std.proofs.Common.{◌≡◌, ℕ, List, [], ◌∷◌, Option, None, Some, Ok, codes, refl}
use Rattle.sal_module.specs.declared.keyword.Keyword.TheVariants.{Module, Leaf, List as ListOf}
use Rattle.sal_module.specs.Keywords.{words, keyword_of}
use Rattle.sal_module.specs.Imports.{reaches}
use Rattle.sal_grouping.specs.declared.forest.Branch.{Branch}
use Rattle.sal_grouping.specs.Rows.{rows_of}
use Rattle.sal_grouping.specs.Groupings.{from_block}
use Rattle.sal_grouping.specs.Names.{home}
use Rattle.sal_grouping.specs.Growth.{nodes_within, grow, trees_until}
use Rattle.sal_grouping.specs.Augments.{rounds}
use Rattle.sal_grouping.specs.Children.{data_parent}
use Rattle.sal_grouping.specs.Expand.{expand}
use Rattle.sal_grouping.proofs.Rolled.{with_rows-roll}
use Rattle.sal_versions.proofs.LoadText.{its_stmts}

abbrev pub branch : Option ℕ → ℕ → Branch
branch parent at = record { parent = parent; «module» = 0; source = 0; at = at; implied = None }

abbrev pub its_forest : List Branch
its_forest = branch None 46 ∷ branch (Some 0) 65 ∷ branch (Some 0) 89 ∷ []

its_rows : rows_of its_stmts ≡
    record { «module» = 0; around = None; keyword = Module; name = codes "load"; at = 0 }
    ∷ record { «module» = 0; around = Some 0; keyword = ListOf; name = codes "cell"; at = 46 }
    ∷ record { «module» = 0; around = Some 1; keyword = Leaf; name = codes "k"; at = 65 }
    ∷ record { «module» = 0; around = Some 1; keyword = Leaf; name = codes "v"; at = 89 }
    ∷ []
unfolding words keyword_of
its_rows = simp (with_rows-roll 63, with_rows-roll 62, with_rows-roll 61, with_rows-roll 60)

pub expanded : expand its_stmts ≡ Ok its_forest
unfolding reaches from_block home nodes_within grow trees_until rounds data_parent
expanded = rw its_rows refl
