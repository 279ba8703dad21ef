-- A delete, the merge of a mark, and a put without rows; and rows at a path.
use Rattle.std.specs.Prelude.{ℕ, List, [], ◌∷◌, codes}
use Prim.Native.String.{String}
use Rattle.sal_types.specs.declared.value.Atom.TheVariants.{Text}
use Rattle.sal_types.specs.declared.value.Cell.TheVariants.{Leaf, Mark}
use Rattle.sal_types.specs.declared.value.Step.{Step}
use Rattle.sal_types.specs.declared.value.Step.TheVariants.{Node}
use Rattle.sal_types.specs.declared.value.Store.TheVariants.{Config}
use Rattle.sal_types.specs.declared.row.Row.{Row}
use Rattle.sal_rows.specs.declared.op.Act.{Act}
use Rattle.sal_rows.specs.declared.op.Act.TheVariants.{Delete, Merge, Put}
use Rattle.sal_rows.specs.declared.op.Op.{Op}

-- the path of two nodes
abbrev pub at : ℕ → ℕ → List Step
at m n = Node m ∷ Node n ∷ []

abbrev pub text : List Step → String → Row
text path value = record { path = path; cell = Leaf (record { member = 0; atom = Text (codes value) }) }

abbrev pub on : List Step → Act → Op
on path act = record { store = Config; path = path; act = act }

abbrev pub operations : List Op
operations =
    on (Node 1 ∷ []) Delete
    ∷ on (at 2 5) (Merge (record { path = at 2 5; cell = Mark } ∷ []))
    ∷ on (at 2 6) (Put [])
    ∷ []

-- the put of a leaf
abbrev pub put : Op
put = on (at 0 1) (Put (text (at 0 1) "x" ∷ []))
