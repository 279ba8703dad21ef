-- The leafs of a `unique` statement in a list of nodes.
use Rattle.std.specs.Prelude.{◌≡◌, List, [], ◌∷◌, ◌++◌, Some, is_some, if◌then◌else◌}
use Rattle.std.specs.List.{list_any}
use Rattle.std.specs.Cmp.Lexicographic.{slice_cmp}
use Rattle.std.specs.BTreeSet.{BTreeSet, contains}
use Rattle.std.specs.declared.cmp.Ordering.{Ordering}
use Rattle.std.specs.Option.{option_to_list}
use Rattle.std.specs.Borrow.{Bor}
use Rattle.std.specs.declared.alloc.Global.{Global}
use Rattle.std.specs.declared.vec.Vec.{Vec}
use Rattle.sal_types.specs.declared.value.Step.{Step}
use Rattle.sal_types.specs.declared.value.Cell.{Cell}
use Rattle.sal_node.specs.Tree.{Tree}
use Rattle.sal_check.specs.Nodes.{seen_in}
use Rattle.sal_types.specs.Order.{cell_cmp}
use Rattle.sal_rules.specs.Rules.{cells_at, same_cells}

-- the cells as values, without references
abbrev pub cells_in : List (Bor Cell) → List Cell
cells_in [] = []
cells_in (c ∷ cs) = c.now ∷ cells_in cs

abbrev pub all_cells_in : List (Vec (Bor Cell) Global) → List (List Cell)
all_cells_in [] = []
all_cells_in (v ∷ vs) = cells_in v.items ∷ all_cells_in vs

abbrev pub ways_in : List (Vec Step Global) → List (List Step)
ways_in [] = []
ways_in (v ∷ vs) = v.items ∷ ways_in vs

-- the cells at these paths in an entry, if it is one and has them all
abbrev pub combination : List (List Step) → Step × Tree → List (List Cell)
combination ways e = if is_some e.1.cell then option_to_list (cells_at (seen_in (Some e.1)) ways) else []

abbrev pub all_combinations : List (List Step) → List (Step × Tree) → List (List Cell)
all_combinations ways [] = []
all_combinations ways (e ∷ es) = combination ways e ++ all_combinations ways es

-- ---- sets of cells

abbrev pub Key : Type 0
Key = Bor (List (Bor Cell))

abbrev pub key_cmp : Key → Key → Ordering
key_cmp x y = slice_cmp (λ (a b : Bor Cell). cell_cmp a.now b.now) x.now y.now

-- the set has exactly those
abbrev pub Holds : BTreeSet Key → List (List Cell) → Type 0
Holds set xs = (q : Key) → contains key_cmp set q ≡ list_any (same_cells (cells_in q.now)) xs
