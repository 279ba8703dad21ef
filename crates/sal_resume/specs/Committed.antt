-- The trees of a domain, from its opening to its newest commit.
use Rattle.std.specs.Prelude.{ℕ, ◌+◌, List, length, map}
use Rattle.std.specs.List.{range_with_len}
use Rattle.sal_types.specs.declared.value.Store.TheVariants.{Config, Oper}
use Rattle.sal_history.specs.History.{commits, history, trees_at}
use Rattle.sal_hub.specs.HubHistory.{HubHistory}
use Rattle.sal_follow.specs.Framed.{Trees}

-- the trees of domain n at its commit of number k
abbrev pub trees_by : HubHistory → ℕ → ℕ → Trees
trees_by known n k = record { config = trees_at known.world (history known.world known.log) n Config k; oper = trees_at known.world (history known.world known.log) n Oper k }

-- those at its opening, and at each of its commits
abbrev pub committed : HubHistory → ℕ → List Trees
committed known n = map (trees_by known n) (range_with_len 0 (length (commits (history known.world known.log) n) + 1))
