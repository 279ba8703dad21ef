-- What holds of the pictures of all logs: the points of their commits, and the lines of conflicts.
use Rattle.std.specs.Prelude.{◌≡◌, ℕ, ◌+◌, ◌-◌, List, [], ◌∷◌, ◌++◌, map, Option, None, Some, if◌then◌else◌, nat_eq}
use Rattle.std.specs.List.{flat_map, range_with_len}
use Rattle.sal_rows.specs.declared.outcome.Outcome.{Outcome}
use Rattle.sal_rows.specs.declared.outcome.Outcome.TheVariants.{Conflict}
use Rattle.sal_history.specs.declared.call.Call.{Call}
use Rattle.sal_history.specs.declared.reply.Reply.{Reply}
use Rattle.sal_history.specs.declared.reply.Reply.TheVariants as reply
use Rattle.sal_shapes.specs.declared.scene.Act.{Act}
use Rattle.sal_shapes.specs.declared.scene.Act.TheVariants.{Joins, Sets}
use Rattle.sal_shapes.specs.declared.scene.Made.{Made}
use Rattle.sal_shapes.specs.declared.scene.Pin.TheVariants.{Commit}
use Rattle.sal_shapes.specs.declared.scene.Style.TheVariants.{Clash}
use Rattle.sal_draw.specs.Acts.{Track, decided_upto, entry_acts, new_track, track_after}

abbrev pub commit_at : ℕ → ℕ → Made
commit_at domain number = record { domain = domain; number = number }

-- ---- conflicts

-- the commit from which an act draws the line of a conflict
abbrev pub clash_of : Act → List Made
clash_of (Joins Clash (Commit domain number)) = commit_at domain number ∷ []
clash_of a = []

-- the commit that a conflict names
abbrev pub named_by : ℕ → Outcome → List Made
named_by domain (Conflict store path kind commit) = commit_at domain commit ∷ []
named_by domain o = []

-- that of the conflict that a reply returns
abbrev pub returned : Reply → List Made
returned (reply.Settled domain o) = named_by domain o
returned (reply.Decided receipt domain o) = named_by domain o
returned r = []

-- An entry that returns a conflict has one line of a conflict, from the commit that the conflict names; another entry has none.
abbrev pub ConflictsHaveOneLine : Type 0
ConflictsHaveOneLine = (made : ℕ → Option Made) (t : Track) (place : ℕ) (c : Call) (r : Reply) → flat_map clash_of (entry_acts made t place c r) ≡ returned r

-- ---- commits

-- the commit whose point an act draws; number 0 is an opening
abbrev pub point_of : Act → List Made
point_of (Sets (Commit domain number)) = if nat_eq number 0 then [] else commit_at domain number ∷ []
point_of a = []

-- the commit of a receipt, if it made one
abbrev pub commit_in : Option Made → List Made
commit_in None = []
commit_in (Some m) = if nat_eq m.number 0 then [] else m ∷ []

-- the state after these calls with their replies
abbrev pub track_along : Track → List (Call × Reply) → Track
track_along t [] = t
track_along t ((c, r) ∷ more) = track_along (track_after t c r) more

-- what their entries show, from this place on
abbrev pub acts_along : (ℕ → Option Made) → Track → ℕ → List (Call × Reply) → List Act
acts_along made t place [] = []
acts_along made t place ((c, r) ∷ more) = entry_acts made t place c r ++ acts_along made (track_after t c r) (place + 1) more

-- The entries of a log have one point for the commit of each receipt up to the last that they decide, in the order of the receipts.
abbrev pub CommitsHaveOnePoint : Type 0
CommitsHaveOnePoint =
    (made : ℕ → Option Made) (place : ℕ) (said : List (Call × Reply))
    → flat_map point_of (acts_along made new_track place said) ≡ flat_map commit_in (map made (range_with_len 0 (track_along new_track said).decided))

-- The entry that decides receipts has the points of their commits, and no other one.
abbrev pub PointsStandWhereDecided : Type 0
PointsStandWhereDecided =
    (made : ℕ → Option Made) (t : Track) (place : ℕ) (c : Call) (r : Reply)
    → flat_map point_of (entry_acts made t place c r) ≡ flat_map commit_in (map made (range_with_len t.decided (decided_upto c r t.decided - t.decided)))
