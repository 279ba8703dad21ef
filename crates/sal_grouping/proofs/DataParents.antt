-- The closest data node, from one node to the one above it.
use Rattle.std.proofs.Common.{◌≡◌, ℕ, zero, suc, ◌-◌, ◌<◌, List, Option, Some, None, refl, arith}
use Rattle.sal_grouping.specs.declared.rows.Row.{Row}
use Rattle.sal_grouping.specs.declared.node.Node.{Node}
use Rattle.sal_grouping.specs.Children.{passed, data_parent}

pub data-zero : (rows : List Row) (forest : List Node) (place : Option ℕ) → data_parent 0 rows forest place ≡ place
unfolding data_parent
data-zero rows forest place = refl

pub data-stop : (n : ℕ) (rows : List Row) (forest : List Node) (place : Option ℕ) → passed rows forest place ≡ None → data_parent n rows forest place ≡ place
unfolding data_parent
data-stop zero rows forest place e = refl
data-stop (suc n) rows forest place e = rw e refl

data-suc : (n : ℕ) (rows : List Row) (forest : List Node) (place above : Option ℕ) → passed rows forest place ≡ Some above → data_parent (suc n) rows forest place ≡ data_parent n rows forest above
unfolding data_parent
data-suc n rows forest place above e = rw e refl

pub data-step : (n : ℕ) (rows : List Row) (forest : List Node) (place above : Option ℕ) → 0 < n → passed rows forest place ≡ Some above
    → data_parent n rows forest place ≡ data_parent (n - 1) rows forest above
data-step zero rows forest place above h e = absurd (omega arith)
data-step (suc n) rows forest place above h e = let less : suc n - 1 ≡ n = omega arith in rw less (data-suc n rows forest place above e)
