-- The result of a binary search among rows.
use Rattle.std.specs.Prelude.{◌≡◌, ℕ, List, Result, Ok, Err, get_or}
use Rattle.std.specs.List.Sorted.{IsPartitionPoint}
use Rattle.std.specs.declared.cmp.Ordering.TheVariants.{Less, Equal, Greater}
use Rattle.sal_types.specs.declared.value.Step.{Step}
use Rattle.sal_types.specs.declared.row.Row.{Row}
use Rattle.sal_types.specs.Order.{path_cmp}

-- the paths of the rows before index i are less than q, and those from i on are greater
abbrev pub Parted : List Row → List Step → ℕ → Type 0
Parted rows q i = IsPartitionPoint (λ (y : Row). path_cmp y.path q ≡ Less) (λ (y : Row). path_cmp y.path q ≡ Greater) rows i

-- the row at the index has the path, or the path would be inserted there
abbrev pub IsFound : List Row → List Step → Result ℕ ℕ → Type 0
IsFound rows q (Ok i) = (d : Row) → path_cmp (get_or rows i d).path q ≡ Equal
IsFound rows q (Err i) = Parted rows q i
