-- Evaluation of statements from the last one to the first.
use Rattle.std.specs.Prelude.{List, [], ◌∷◌, take, drop}
use Rattle.sal_stmt.specs.declared.stmt.Stmt.{Stmt}
use Rattle.sal_typedefs.specs.Types.{Judged, judged, base_of}
use Rattle.sal_typedefs.specs.Walks.{Node}

-- Each takes the results of the statements below it, which are the last ones.
unfoldable pub run : List Stmt → List Node → List Judged
run modules [] = []
run modules (node ∷ nodes) =
    judged modules node.site (base_of node.site (take node.below (run modules nodes))) (take node.below (run modules nodes)) ∷ drop node.below (run modules nodes)
