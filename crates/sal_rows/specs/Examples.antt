-- Worked examples: a depot, which is a presence container, its name, its items, and a container box with two leafs.
use Rattle.std.specs.Prelude.{ℕ, List, [], ◌∷◌, Option, None, Some, codes}
use Prim.Native.String.{String}
use Rattle.sal_types.specs.declared.value.Store.{Store}
use Rattle.sal_types.specs.declared.value.Atom.TheVariants.{Text, Unsigned}
use Rattle.sal_types.specs.declared.value.Step.{Step}
use Rattle.sal_types.specs.declared.value.Step.TheVariants.{Node, Key}
use Rattle.sal_types.specs.declared.value.Cell.TheVariants.{Mark, Leaf}
use Rattle.sal_types.specs.declared.row.Row.{Row}
use Rattle.sal_rows.specs.declared.op.Act.TheVariants.{Put, Merge, Delete, Read}
use Rattle.sal_rows.specs.declared.op.Op.{Op}
use Rattle.sal_rows.specs.declared.outcome.ClashKind.{ClashKind}
use Rattle.sal_rows.specs.declared.clash.Clash.{Clash}
use Rattle.sal_rows.specs.declared.clash.Rules.{Rules}
use Rattle.sal_rows.specs.declared.clash.Rules.TheVariants.{One, Two}
use Rattle.sal_rows.specs.Clash.{clash}

-- ---- paths and rows

abbrev pub depot : List Step
depot = Node 0 ∷ []

abbrev pub name : List Step
name = Node 0 ∷ Node 1 ∷ []

-- the item with the key 1, and a leaf of it
abbrev pub item : List Step
item = Node 0 ∷ Node 2 ∷ Key (record { member = 0; atom = Unsigned 1 } ∷ []) ∷ []

abbrev pub code : List Step
code = Node 0 ∷ Node 2 ∷ Key (record { member = 0; atom = Unsigned 1 } ∷ []) ∷ Node 3 ∷ []

abbrev pub box : List Step
box = Node 4 ∷ []

abbrev pub a : List Step
a = Node 4 ∷ Node 5 ∷ []

abbrev pub b : List Step
b = Node 4 ∷ Node 6 ∷ []

abbrev pub mark : List Step → Row
mark path = record { path = path; cell = Mark }

abbrev pub leaf : List Step → String → Row
leaf path text = record { path = path; cell = Leaf (record { member = 0; atom = Text (codes text) }) }

-- ---- operations

abbrev pub put : Store → List Step → List Row → Op
put s path rows = record { store = s; path = path; act = Put rows }

abbrev pub merge : Store → List Step → List Row → Op
merge s path rows = record { store = s; path = path; act = Merge rows }

abbrev pub delete : Store → List Step → Op
delete s path = record { store = s; path = path; act = Delete }

abbrev pub read : Store → List Step → Op
read s path = record { store = s; path = path; act = Read }

-- ---- decisions

-- the same rows in each store
abbrev pub both : List Row → Store → List Row
both rows s = rows

-- the conflict of a transaction with the opening as its base, after these commits of others
abbrev pub after_by : Rules → List Row → List (List Op) → ℕ → List Op → Option Clash
after_by rules opening commits newest ops = clash (both opening) commits rules (both opening) (record { from = 0; to = newest } ∷ []) ops

-- by version rules 1, and by version rules 2
abbrev pub after : List Row → List (List Op) → ℕ → List Op → Option Clash
after opening commits newest ops = after_by One opening commits newest ops

abbrev pub after_two : List Row → List (List Op) → ℕ → List Op → Option Clash
after_two opening commits newest ops = after_by Two opening commits newest ops

-- a conflict at the path of an operation, and one at the path of a row of its data
abbrev pub found : ℕ → ℕ → ClashKind → ℕ → Option Clash
found op depth kind commit = Some (record { op = op; row = None; depth = depth; kind = kind; commit = commit })

abbrev pub found_in : ℕ → ℕ → ℕ → ClashKind → ℕ → Option Clash
found_in op row depth kind commit = Some (record { op = op; row = Some row; depth = depth; kind = kind; commit = commit })
