-- Worked examples: what a commit of domain 0 touched in the configuration, and what was there.
use Rattle.std.specs.Prelude.{ℕ, Bool, List, [], map, take}
use Rattle.std.specs.Option.{option_map_or}
use Rattle.sal_types.specs.declared.value.Store.TheVariants.{Config}
use Rattle.sal_types.specs.declared.value.Step.{Step}
use Rattle.sal_types.specs.declared.row.Row.{Row}
use Rattle.sal_types.specs.Tree.{has}
use Rattle.sal_rows.specs.declared.op.Op.{Op}
use Rattle.sal_rows.specs.Commits.{touches_at}
use Rattle.sal_history.specs.declared.call.Entry.{Entry}
use Rattle.sal_history.specs.History.{began_at, commits, history, sents, trees_at}
use Rattle.sal_history.specs.World.{Domain, opening_of}
use Rattle.sal_isolation_laws.specs.Isolation.{own_after}
use Rattle.sal_isolation_laws.specs.IsolationLaws.{differs}

-- commit k touched the path
abbrev pub touched : List Domain → List Entry → List Step → ℕ → Bool
touched world log path k = touches_at (opening_of world 0) (commits (history world log) 0) Config path k

-- a row is at the path or below it at commit k
abbrev pub present : List Domain → List Entry → List Step → ℕ → Bool
present world log path k = has (trees_at world (history world log) 0 Config k) path

-- at the row's path the trees at two commits have different cells
abbrev pub differs_between : List Domain → List Entry → ℕ → ℕ → Row → Bool
differs_between world log j k row = differs (λ s. trees_at world (history world log) 0 s j) (λ s. trees_at world (history world log) 0 s k) Config row

-- the base commit of the transaction that began at the index
abbrev pub base_commit : List Domain → List Entry → ℕ → ℕ
base_commit world log place = option_map_or (λ b. b.commit) (began_at (history world log) place) 0

-- the operations of its chain's submissions after the first n receipts, when it began
abbrev pub own_before : List Domain → List Entry → ℕ → ℕ → List (List Op)
own_before world log place n = map (λ t. t.ops) (option_map_or (λ b. own_after b n (sents (take place (history world log)))) (began_at (history world log) place) [])
