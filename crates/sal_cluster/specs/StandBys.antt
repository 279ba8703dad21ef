-- A stand-by: followers of the domains of a script, each by the last version of its schema, that can become the leader.
use Rattle.std.specs.Prelude.{◌≡◌, ◌⊎◌, ◌&&◌, ℕ, ◌+◌, Bool, true, false, List, [], ◌∷◌, ◌++◌, drop, length, map, slice_index_or, unwrap_or, Option, Some, None, Result, Ok, Err, is_ok, ⊤, codes}
use Rattle.std.specs.List.{All}
use Rattle.sal_types.specs.Reading.{◌>>=◌}
use Rattle.sal_schema.specs.declared.table.SchemaTable.{SchemaTable}
use Rattle.sal_history.specs.World.{Domain, no_table}
use Rattle.sal_history.specs.declared.opening.Opening.{Opening}
use Rattle.sal_client.specs.Lists.{begun_with}
use Rattle.sal_script.specs.Reading.{parts}
use Rattle.sal_follow.specs.declared.fault.FollowFault.{FollowFault}
use Rattle.sal_follow.specs.declared.fault.FollowFault.TheVariants as follow
use Rattle.sal_follow.specs.Framed.{Trees, stream_of, streamed, too_long, AreTexts}
use Rattle.sal_follow.specs.Laws.{AreFollowed, HoldsOneOf}
use Rattle.sal_follow.specs.States.{Feeds, Following}
use Rattle.sal_follow.specs.Stream.{fresh, fresh_at, followed}
use Rattle.sal_prepare.specs.declared.resumed.Ground.{Ground}
use Rattle.sal_prepare.specs.declared.status.Status.{Status}
use Rattle.sal_prepare.specs.Resumed as spec
use Rattle.sal_prepare.specs.Resumed.{are_of_version, devices_fit, resumed_with}
use Rattle.sal_prepare.specs.Scripted.{IsStatusOf}
use Rattle.sal_embed.specs.Opening.{IsBegun, without}
use Rattle.sal_cluster.specs.declared.leader.Leader.{Leader}
use Rattle.sal_cluster.specs.declared.standby.LeadFault.{LeadFault}
use Rattle.sal_cluster.specs.declared.standby.LeadFault.TheVariants.{Empty, BadVersion, Refused}
use Rattle.sal_cluster.specs.declared.standby.Standing.{Standing}
use Rattle.sal_cluster.specs.Leaders.{base_of}

-- a script with its versions, in the code's form
abbrev pub seen : Ground → spec.Ground
seen it = record { parts = parts it.script; tables = it.readers }

-- the same, if the script has no clients and no order, as one from which a broker is opened
abbrev pub bare : spec.Ground → Result spec.Ground Status
bare it = without (codes "clients") it.parts.clients (without (codes "order") it.parts.order (Ok it))

-- The script of the bytes with its versions, or the status of the first fault: of all faults of a script, then its clients, then its order. The
-- opening trees are not read.
abbrev pub grounded : List ℕ → Result spec.Ground Status
grounded bytes = spec.ground bytes >>= bare

-- ---- its followers

-- no follower: its domain is none of the script
abbrev pub nobody : Following
nobody = record { schema = no_table; held = fresh }

-- the follower of domain n
abbrev pub follower_at : List Following → ℕ → Following
follower_at fs n = slice_index_or fs n nobody

-- the number of the first frame of domain n, 0 if none is given
abbrev pub first_of : List ℕ → ℕ → ℕ
first_of firsts n = slice_index_or firsts n 0

-- a follower by each of these schemas, of the domains from number n on, before its first frame
abbrev pub before_from : List ℕ → ℕ → List SchemaTable → List Following
before_from firsts n [] = []
before_from firsts n (table ∷ tables) = record { schema = table; held = fresh_at (first_of firsts n) } ∷ before_from firsts (n + 1) tables

-- ---- a piece of a stream

-- the effect of a piece, without the follower's number; after a fault each answer is this fault
abbrev pub Takes : List ℕ → Following → Following → Result ⊤ FollowFault → Type 0
Takes piece old new (Ok done) = (v : Option ℕ) × Feeds piece old new (Ok v)
Takes piece old new (Err fault) = Feeds piece old new (Err fault) ⊎ ((fault ≡ follow.NoMemory) × (new ≡ old) × (old.held.fault ≡ None))

-- nothing is taken, whatever the piece is
abbrev pub Stays : Following → FollowFault → Type 0
Stays f fault = (piece : List ℕ) → Takes piece f f (Err fault)

-- If the bytes so far, with the piece, are a prefix of a stream of a leader's commits by the follower's schema, it has no fault, and the leader's trees
-- at its number, unless memory ran out. The stream begins with the number that the follower begins with.
abbrev pub KeepsUp : List ℕ → Following → Following → Result ⊤ FollowFault → Type 0
KeepsUp piece old new result =
    (first : ℕ) (trees : List Trees) (before more : List ℕ) → All (AreFollowed old.schema) trees → AreTexts old.schema (stream_of first trees) → too_long old.schema (stream_of first trees) ≡ None
    → old.held ≡ followed old.schema (fresh_at first) before → (before ++ piece) ++ more ≡ streamed old.schema first trees
    → (result ≡ Err follow.NoMemory) ⊎ (HoldsOneOf first trees new.held × (is_ok result ≡ true))

-- The follower of domain n takes the piece, and the others are as they were.
pub record FeedsAt (old new : List Following) (n : ℕ) (piece : List ℕ) (result : Result ⊤ FollowFault) : Type 0 where
  pub taken : Takes piece (follower_at old n) (follower_at new n) result
  pub leader : KeepsUp piece (follower_at old n) (follower_at new n) result
  pub others : (k : ℕ) → (k ≡ n → ⊥) → follower_at new k ≡ follower_at old k
  pub many : length new ≡ length old

-- ---- how it leads

-- the number of a follower's last frame, 0 before the first one
abbrev pub number_held : Following → ℕ
number_held f = unwrap_or f.held.version 0

-- its trees, as an opening
abbrev pub opening_held : Following → Opening
opening_held f = record { config = f.held.config; oper = f.held.oper }

-- its trees, if a frame came
abbrev pub trees_by : Option ℕ → Following → Option Opening
trees_by None f = None
trees_by (Some number) f = Some (opening_held f)

abbrev pub trees_given : Following → Option Opening
trees_given f = trees_by f.held.version f

-- those of the devices, in order
abbrev pub devices_given : List Following → List (Option Opening)
devices_given fs = map trees_given (drop 1 fs)

-- The world of the script that goes on with these trees, by this version: a device without a frame begins with the opening trees of the script.
abbrev pub world_led : Standing → ℕ → Result (List Domain) Status
world_led it version =
    resumed_with it.ground.script.rules (parts it.ground.script).devices (begun_with version it.ground.readers) (opening_held (follower_at it.followers.items 0)) (devices_given it.followers.items)

-- the trees of domain 0 are trees of this version, and those of the devices of their schemas
abbrev pub are_led_by : Standing → ℕ → Bool
are_led_by it version =
    are_of_version it.ground.readers version (opening_held (follower_at it.followers.items 0)) && devices_fit it.ground.readers (devices_given it.followers.items)

-- A leader that goes on with the stand-by's numbers: no step was made, and its world has the stand-by's trees, by this version.
pub record GoesOn (it : Standing) (v : ℕ) (leader : Leader) : Type 0 where
  pub some : (follower_at it.followers.items 0).held.version ≡ Some (base_of leader.bases 0)
  pub bases : (n : ℕ) → base_of leader.bases n ≡ number_held (follower_at it.followers.items n)
  pub version : leader.version ≡ v
  pub world : world_led it v ≡ Ok leader.broker.hub.world
  pub begun : IsBegun leader.broker

-- The leader. Or there is no frame of domain 0 yet, the trees are no trees of this version, or the opening is refused with this status.
abbrev pub Leads : Standing → ℕ → Result Leader LeadFault → Type 0
Leads it version (Ok leader) = GoesOn it version leader
Leads it version (Err Empty) = (follower_at it.followers.items 0).held.version ≡ None
Leads it version (Err BadVersion) = are_led_by it version ≡ false
Leads it version (Err (Refused status)) = IsStatusOf (world_led it version) status
