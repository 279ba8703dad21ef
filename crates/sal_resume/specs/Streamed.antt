-- A follower of a whole stream.
use Rattle.std.specs.Prelude.{◌≡◌, ◌⊎◌, ℕ, List, Result, Ok, Err}
use Rattle.sal_schema.specs.declared.table.SchemaTable.{SchemaTable}
use Rattle.sal_follow.specs.declared.fault.FollowFault.{FollowFault}
use Rattle.sal_follow.specs.declared.fault.FollowFault.TheVariants.{NoMemory}
use Rattle.sal_follow.specs.States.{Following}
use Rattle.sal_follow.specs.Stream.{answer, followed, fresh}

-- before the stream
abbrev pub before_of : SchemaTable → Following
before_of table = record { schema = table; held = fresh }

-- It has taken the stream, which has no fault; or the result is the stream's first fault, or that memory ran out.
abbrev pub IsFollowerOf : SchemaTable → List ℕ → Result Following FollowFault → Type 0
IsFollowerOf table stream (Ok f) = (f ≡ record { schema = table; held = followed table fresh stream }) × (answer f.held ≡ Ok f.held.version)
IsFollowerOf table stream (Err fault) = (fault ≡ NoMemory) ⊎ (answer (followed table fresh stream) ≡ Err fault)
