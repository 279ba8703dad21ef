-- The frames of a domain lead to its newest trees.
use Rattle.std.specs.Prelude.{◌≡◌, ℕ, List, length, Some, None, Ok}
use Rattle.std.specs.List.{All}
use Rattle.sal_types.specs.declared.value.Store.TheVariants.{Config, Oper}
use Rattle.sal_schema.specs.declared.table.SchemaTable.{SchemaTable}
use Rattle.sal_history.specs.History.{commits, history, newest_tree}
use Rattle.sal_hub.specs.HubHistory.{HubHistory}
use Rattle.sal_follow.specs.Framed.{Trees, Exports}
use Rattle.sal_follow.specs.Laws.{AreFollowed, trees_held}
use Rattle.sal_follow.specs.Stream.{Held, followed, fresh}
use Rattle.sal_resume.specs.Committed.{committed}

-- the newest trees of domain n
abbrev pub newest : HubHistory → ℕ → Trees
newest known n = record { config = newest_tree known.world known.log n Config; oper = newest_tree known.world known.log n Oper }

-- The state has the newest commit of domain n, with its trees, and no fault.
pub record HoldsTheNewest (known : HubHistory) (n : ℕ) (h : Held) : Type 0 where
  pub version : h.version ≡ Some (length (commits (history known.world known.log) n))
  pub trees : trees_held h ≡ newest known n
  pub fault : h.fault ≡ None

-- A follower of the frames of a domain, with the schema that wrote them, has its newest commit. Premises: the trees of each commit are
-- closed, the configuration has no state data, and the values are read as they were written.
abbrev pub FramesLeadToTheNewest : Type 0
FramesLeadToTheNewest =
    (known : HubHistory) (n : ℕ) (table : SchemaTable) (bytes : List ℕ) → All (AreFollowed table) (committed known n) → Exports table (committed known n) (Ok bytes)
    → HoldsTheNewest known n (followed table fresh bytes)
