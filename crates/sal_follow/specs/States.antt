-- The code's state of a follower, as its definition.
use Rattle.std.specs.Prelude.{◌≡◌, ◌⊎◌, ℕ, ◌+◌, ◌≤◌, Option, Some, None, List, [], length, drop, Result, Err, true, if◌then◌else◌}
use Rattle.sal_rows.specs.declared.rows.patch.Patch.{Patch}
use Rattle.sal_rows.specs.Patch.{patched}
use Rattle.sal_schema.specs.declared.table.SchemaTable.{SchemaTable}
use Rattle.sal_follow.specs.declared.fault.FollowFault.{FollowFault}
use Rattle.sal_follow.specs.declared.fault.FollowFault.TheVariants.{NoMemory}
use Rattle.sal_follow.specs.declared.front.Front.TheVariants.{Part}
use Rattle.sal_follow.specs.declared.state.State.{State}
use Rattle.sal_follow.specs.declared.trees.Both.{Both}
use Rattle.sal_follow.specs.declared.frame.Frame.{Frame}
use Rattle.sal_near.specs.Near.{patches_fit}
use Rattle.sal_follow.specs.Front.{front}
use Rattle.sal_follow.specs.Stream.{Held, next, are_trees, followed, answer}

-- with these bytes of an unfinished frame
abbrev pub held : State → List ℕ → Held
held s rest = record { first = s.first; version = s.version; config = s.config; oper = s.oper; at = s.at; rest = rest; fault = s.fault }

-- the trees after a frame, if they are trees of the schema
abbrev pub trees_after : SchemaTable → Both → List Patch → List Patch → Option Both
trees_after table b config oper = if are_trees table (patched b.config config) (patched b.oper oper) then Some (record { config = patched b.config config; oper = patched b.oper oper }) else None

-- the paths of a frame fit, and its cells are of the kinds of their nodes
pub record FrameFits (table : SchemaTable) (f : Frame) : Type 0 where
  pub config : patches_fit table f.config ≡ true
  pub oper : patches_fit table f.oper ≡ true

-- each frame has at least ten bytes, so the numbers of commits, counted from that of the first frame, are below the offsets of their frames
abbrev pub IsWithin : State → Type 0
IsWithin s = next (held s []) ≤ s.first + s.at

-- the trees are trees of the schema
abbrev pub HasTrees : SchemaTable → State → Type 0
HasTrees table s = are_trees table s.config s.oper ≡ true

-- both trees of a state
abbrev pub both_in : State → Both
both_in s = record { config = s.config; oper = s.oper }

-- the invariant of a follower
pub record IsSound (table : SchemaTable) (s : State) : Type 0 where
  pub within : IsWithin s
  pub trees : HasTrees table s

-- a state that is sound stays so
abbrev pub StaysSound : State → State → Type 0
StaysSound old new = (table : SchemaTable) → IsSound table old → IsSound table new

-- before a stream that begins with the frame of this number
abbrev pub nothing_held : ℕ → State
nothing_held first = record { first = first; version = None; config = []; oper = []; at = 0; fault = None }

-- after `used` of these bytes the state is s, and the remaining bytes are those of an incomplete frame
pub record IsStepped (table : SchemaTable) (start : State) (bytes : List ℕ) (s : State) (used : ℕ) : Type 0 where
  pub state : held s (drop used bytes) ≡ followed table (held start []) bytes
  pub part : front (drop used bytes) ≡ Part
  pub inside : used ≤ length bytes
  pub within : IsWithin s

-- after these bytes the state is s, and these of them remain
abbrev pub IsJudged : SchemaTable → State → List ℕ → State → List ℕ → Type 0
IsJudged table start bytes s left = (used : ℕ) × IsStepped table start bytes s used × (left ≡ drop used bytes)

-- after a piece after these bytes of an unfinished frame the state is s, with those
pub record IsGained (table : SchemaTable) (start : State) (before piece : List ℕ) (s : State) (rest : List ℕ) : Type 0 where
  pub state : held s rest ≡ followed table (held start before) piece
  pub part : front rest ≡ Part
  pub within : IsWithin s

-- a follower: its schema and its state
pub record Following : Type 0 where
  pub schema : SchemaTable
  pub held : Held

-- The effect of a piece: the state is that after its bytes, and the answer is that of the new state; or there was no fault before, memory ran out,
-- and nothing of it was taken. So after a fault nothing is taken, and each answer is this fault.
abbrev pub Feeds : List ℕ → Following → Following → Result (Option ℕ) FollowFault → Type 0
Feeds piece old new result =
    ((new ≡ record { schema = old.schema; held = followed old.schema old.held piece }) × (result ≡ answer new.held)) ⊎ ((result ≡ Err NoMemory) × (new ≡ old) × (old.held.fault ≡ None))
