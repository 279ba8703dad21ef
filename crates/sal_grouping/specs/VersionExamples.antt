-- Versions for the examples: each module has a container, and adds a leaf to it.
use Rattle.std.specs.Prelude.{ℕ, List, [], ◌∷◌, ◌++◌, Option, None, Result}
use Rattle.sal_types.specs.Reading.{◌>>=◌}
use Rattle.sal_stmt.specs.declared.stmt.Stmt.{Stmt}
use Rattle.sal_module.specs.Examples.{plain}
use Rattle.sal_module.specs.declared.fault.BuildFault.{BuildFault}
use Rattle.sal_grouping.specs.declared.node.Node.{Node}
use Rattle.sal_grouping.specs.Examples.{leaf}
use Rattle.sal_grouping.specs.Expand.{expanded}
use Rattle.sal_grouping.specs.Rows.{rows_of}
use Rattle.sal_grouping.specs.Versions.{expanded_on}

-- a container, and a leaf that the module adds to it
abbrev pub first : List Stmt
first = plain "module" 0 "a" (plain "container" 10 "c" [] ∷ plain "augment" 20 "/c" (leaf 30 "x" ∷ []) ∷ []) ∷ []

-- and a module of the same kind
abbrev pub second : Stmt
second =
    plain "module" 0 "b"
    (plain "container" 10 "d" [] ∷ plain "augment" 20 "/d" (leaf 30 "y" ∷ []) ∷ [])

abbrev pub both : List Stmt
both = first ++ second ∷ []

abbrev pub node : Option ℕ → ℕ → ℕ → Node
node parent m row = record { parent = parent; «module» = m; row = row; implied = None }

-- the nodes of both modules at once, and those of a second version after the first
abbrev pub at_once : Result (List Node) BuildFault
at_once = expanded both (rows_of both)

abbrev pub later : Result (List Node) BuildFault
later = expanded first (rows_of first) >>= expanded_on both 1
