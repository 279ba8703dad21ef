-- The effect of feeding a stream.
use Rattle.std.specs.Prelude.{◌≡◌, ℕ, List, [], ◌∷◌, Some, None, Result, Ok, Err, ⊤}
use Rattle.sal_schema.specs.declared.table.SchemaTable.{SchemaTable}
use Rattle.sal_follow.specs.declared.fault.FollowFault.{FollowFault}
use Rattle.sal_follow.specs.declared.fault.FollowFault.TheVariants.{NoMemory}
use Rattle.sal_follow.specs.States.{Following}
use Rattle.sal_follow.specs.Stream.{Held, followed, fresh}
use Rattle.sal_script.specs.Report.{tree_line}
use Rattle.sal_prepare.specs.declared.status.Status.{Status}
use Rattle.sal_prepare.specs.declared.status.Status.TheVariants as status
use Rattle.sal_follow_script.specs.Follows.{fault_status, unfinished}

-- The whole stream was taken without a fault, or its first fault is this one; `NoMemory` has no condition.
abbrev pub IsTaken : List ℕ → Following → Following → Result ⊤ FollowFault → Type 0
IsTaken stream old new (Ok done) = (new ≡ record { schema = old.schema; held = followed old.schema fresh stream }) × (new.held.fault ≡ None)
IsTaken stream old new (Err NoMemory) = ⊤
IsTaken stream old new (Err fault) = (followed old.schema fresh stream).fault ≡ Some fault

-- ---- the report

-- the line of domain 0 with the follower's trees
abbrev pub line_held : SchemaTable → Held → ℕ → List ℕ
line_held table h commit = tree_line (table ∷ []) (record { domain = 0; commits = commit; config = h.config; oper = h.oper })

-- the status of this fault, unless memory ran out
abbrev pub IsFaultStatus : FollowFault → Status → Type 0
IsFaultStatus fault status.NoMemory = Unit {0}
IsFaultStatus fault (status.BadStream text) = fault_status fault ≡ status.BadStream text
IsFaultStatus fault other = ⊥

-- the status of a stream that is not finished, unless memory ran out
abbrev pub IsUnfinished : ℕ → Status → Type 0
IsUnfinished at status.NoMemory = Unit {0}
IsUnfinished at (status.BadStream text) = unfinished at ≡ status.BadStream text
IsUnfinished at other = ⊥
