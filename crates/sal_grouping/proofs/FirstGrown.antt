-- The first growth, by the tables of a plan. Names have no fault.
use Rattle.std.proofs.Common.{◌≡◌, ◌∙◌, ℕ, List, None, Option, map, sym, ap}
use Rattle.std.specs.Prelude.{Result, Ok}
use Rattle.sal_types.specs.Reading.{◌>>=◌}
use Rattle.sal_stmt.specs.declared.stmt.Stmt.{Stmt}
use Rattle.sal_module.specs.declared.fault.BuildFault.{BuildFault}
use Rattle.sal_module.specs.declared.fault.Found.{Found}
use Rattle.sal_module.specs.Faults.{least}
use Rattle.sal_grouping.specs.declared.rows.Row.{Row}
use Rattle.sal_grouping.specs.declared.node.Node.{Node}
use Rattle.sal_grouping.specs.Rows.{rows_of}
use Rattle.sal_grouping.specs.Groupings.{named_of}
use Rattle.sal_grouping.specs.Names.{name_faults}
use Rattle.sal_grouping.specs.Augments.{target_faults}
use Rattle.sal_grouping.specs.Children.{child_faults}
use Rattle.sal_grouping.specs.Expand.{judged, unless_any, sized, built, branch_of, expanded, expand}
use Rattle.sal_grouping.specs.Grown.{grown}
use Rattle.sal_grouping.specs.Versions.{judged_on}

module _ (stmts : List Stmt) (none : least None (name_faults stmts (rows_of stmts)) ≡ None) where
  whole : judged_on (rows_of stmts) (built stmts (rows_of stmts) (named_of stmts (rows_of stmts))) ≡ expanded stmts (rows_of stmts)
  whole =
      ap (λ (first : Option Found). judged (built stmts (rows_of stmts) (named_of stmts (rows_of stmts))) first >>= sized >>= (λ p. unless_any (target_faults (rows_of stmts) p.1) p.0)
      >>= (λ forest. unless_any (child_faults (rows_of stmts) forest) forest)) (sym none)

  module _ (rows : List Row) (named : List (Option ℕ)) (rows-is : rows ≡ rows_of stmts) (named-is : named ≡ named_of stmts (rows_of stmts)) where
    -- the nodes
    pub first-nodes : judged_on rows (built stmts rows named) ≡ expanded stmts (rows_of stmts)
    first-nodes = ap (λ (rs : List Row). judged_on rs (built stmts rs named)) rows-is ∙ ap (λ (us : List (Option ℕ)). judged_on (rows_of stmts) (built stmts (rows_of stmts) us)) named-is ∙ whole

    -- the tree
    pub first-tree : grown rows (built stmts rows named) ≡ expand stmts
    first-tree =
        ap (λ (rs : List Row). grown rs (built stmts rs named)) rows-is ∙ ap (λ (us : List (Option ℕ)). grown (rows_of stmts) (built stmts (rows_of stmts) us)) named-is
        ∙ ap (λ (nodes : Result (List Node) BuildFault). nodes >>= (λ forest. Ok (map (branch_of (rows_of stmts)) forest))) whole
