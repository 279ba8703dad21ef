-- The effect of C's calls on a handle, which has a session or none.
use Rattle.std.specs.Prelude.{◌≡◌, ℕ, Bool, false, true, List, []}
use Rattle.std.specs.declared.option.Option.{Option}
use Rattle.std.specs.declared.option.Option.TheVariants.{None, Some}
use Rattle.sal_session.specs.declared.role.Role.{Role}
use Rattle.sal_session.specs.declared.session.Session.{Session}
use Rattle.sal_session.specs.Sessions as session
use Rattle.sal_session.specs.Streams as streams
use Rattle.sal_session.specs.Texts.{told}

-- the handle has a broker or a stand-by
abbrev pub is_open : Option Session → Bool
is_open None = false
is_open (Some it) = session.is_open it.role

-- the text of the last call
abbrev pub reply_of : Option Session → List ℕ
reply_of None = []
reply_of (Some it) = told it.text

-- a broker is opened if none is; if memory runs out the handle may have none
abbrev pub Opens : List ℕ → Option Session → ℕ → Type 0
Opens bytes (Some it) n = session.Opens bytes it.role (told it.text) n
Opens bytes None n = n ≡ 10

-- an open handle stays, and nothing is changed
abbrev pub OpensBy : Bool → List ℕ → Option Session → Option Session → ℕ → Type 0
OpensBy true bytes old new n = (n ≡ 22) × (new ≡ old)
OpensBy false bytes old new n = Opens bytes new n

abbrev pub OpensIf : List ℕ → Option Session → Option Session → ℕ → Type 0
OpensIf bytes old new n = OpensBy (is_open old) bytes old new n

-- the same for a stand-by
abbrev pub Follows : List ℕ → List ℕ → Option Session → ℕ → Type 0
Follows bytes firsts (Some it) n = streams.Follows bytes firsts it.role (told it.text) n
Follows bytes firsts None n = n ≡ 10

abbrev pub FollowsBy : Bool → List ℕ → List ℕ → Option Session → Option Session → ℕ → Type 0
FollowsBy true bytes firsts old new n = (n ≡ 22) × (new ≡ old)
FollowsBy false bytes firsts old new n = Follows bytes firsts new n

abbrev pub FollowsIf : List ℕ → List ℕ → Option Session → Option Session → ℕ → Type 0
FollowsIf bytes firsts old new n = FollowsBy (is_open old) bytes firsts old new n

-- a call of the session, if the handle has one
abbrev pub Calls : (Session → Session → ℕ → Type 0) → Option Session → Option Session → ℕ → Type 0
Calls call None new n = (n ≡ 21) × (new ≡ None)
Calls call (Some old) None n = ⊥
Calls call (Some old) (Some new) n = call old new n

abbrev pub StepsIf : Option Session → ℕ → List ℕ → Option Session → ℕ → Type 0
StepsIf old c bytes new n = Calls (λ it. session.StepsIf it.role c bytes) old new n

abbrev pub ReportsIf : Option Session → Option Session → ℕ → Type 0
ReportsIf old new n = Calls (λ it. session.ReportsIf it.role) old new n

-- of domain d
abbrev pub FramesIf : Option Session → ℕ → ℕ → Option Session → ℕ → Type 0
FramesIf old d above new n = Calls (λ it. streams.FramesIf it.role d above) old new n

abbrev pub SnapshotsIf : Option Session → ℕ → Option Session → ℕ → Type 0
SnapshotsIf old d new n = Calls (λ it. streams.SnapshotsIf it.role d) old new n

abbrev pub EpochIf : Option Session → List ℕ → Option Session → ℕ → Type 0
EpochIf old newest new n = Calls (λ it. streams.EpochIf it.role newest) old new n

abbrev pub LooksIf : Option Session → ℕ → ℕ → List ℕ → Option Session → ℕ → Type 0
LooksIf old d store path new n = Calls (λ it. streams.LooksIf it.role d store path) old new n

abbrev pub FeedsIf : Option Session → ℕ → List ℕ → Option Session → ℕ → Type 0
FeedsIf old d piece new n = Calls (λ it. streams.FeedsIf it.role d piece) old new n

abbrev pub LeadsIf : Option Session → ℕ → Option Session → ℕ → Type 0
LeadsIf old version new n = Calls (λ it. streams.LeadsIf it.role version) old new n

-- a number of the session; 0 if the handle has none
abbrev pub in_role : (Role → ℕ) → Option Session → ℕ
in_role f None = 0
in_role f (Some it) = f it.role

abbrev pub number_in : Option Session → ℕ → ℕ
number_in held d = in_role (λ role. streams.number_in role d) held

abbrev pub domains_in : Option Session → ℕ
domains_in held = in_role streams.domains_in held

abbrev pub version_in : Option Session → ℕ
version_in held = in_role streams.version_in held

abbrev pub left_in : Option Session → ℕ
left_in held = in_role streams.left_in held

-- what waits for client c at this number of its slots, as bits
abbrev pub WaitsIf : Option Session → ℕ → ℕ → ℕ → Type 0
WaitsIf None c slot n = n ≡ 0
WaitsIf (Some it) c slot n = session.WaitsIn it.role c slot n
