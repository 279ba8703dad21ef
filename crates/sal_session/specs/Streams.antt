-- The calls of a session for streams: a broker sends the commits of each domain as frames, a stand-by takes them and can become the broker.
use Rattle.std.specs.Prelude.{◌≡◌, ℕ, ◌-◌, ◌^◌, nat_eq, nat_lt, if◌then◌else◌, Bool, true, false, List, [], length, map, Option, Some, None, Result, Ok, Err, ⊤}
use Rattle.sal_types.specs.declared.value.Store.{Store}
use Rattle.sal_types.specs.declared.value.Store.TheVariants.{Config, Oper}
use Rattle.sal_prepare.specs.Scripted.{IsStatusOf}
use Rattle.sal_prepare.specs.Statuses.{line_of, number_of as status_number}
use Rattle.sal_prepare.specs.declared.status.Status.{Status}
use Rattle.sal_prepare.specs.declared.status.Status.TheVariants.{BadExport}
use Rattle.sal_history.specs.History.{newest_tree}
use Rattle.sal_script.specs.Tables.{last_among, last_in, tables_of}
use Rattle.sal_follow.specs.declared.fault.ExportFault.{ExportFault}
use Rattle.sal_follow.specs.declared.fault.ExportFault.TheVariants as export
use Rattle.sal_follow.specs.declared.fault.FollowFault.{FollowFault}
use Rattle.sal_follow.specs.declared.fault.FollowFault.TheVariants as follow
use Rattle.sal_follow.specs.Framed.{IsSnapshot, IsSnapshotAt}
use Rattle.sal_follow.specs.Laws.{trees_held}
use Rattle.sal_follow.specs.States.{Following}
use Rattle.sal_follow.specs.Stream.{rows_held}
use Rattle.sal_resume.specs.Newest.{newest}
use Rattle.sal_hub.specs.Answers.{limit}
use Rattle.sal_cluster.specs.declared.fault.EpochFault.{EpochFault}
use Rattle.sal_cluster.specs.declared.fault.EpochFault.TheVariants as epoch
use Rattle.sal_cluster.specs.declared.fault.FramesFault.{FramesFault}
use Rattle.sal_cluster.specs.declared.fault.FramesFault.TheVariants as frames
use Rattle.sal_cluster.specs.declared.look.LookFault.{LookFault}
use Rattle.sal_cluster.specs.declared.look.LookFault.TheVariants as look
use Rattle.sal_cluster.specs.declared.leader.Leader.{Leader}
use Rattle.sal_cluster.specs.declared.standby.LeadFault.{LeadFault}
use Rattle.sal_cluster.specs.declared.standby.LeadFault.TheVariants.{Empty, BadVersion, Refused}
use Rattle.sal_cluster.specs.declared.standby.Standing.{Standing}
use Rattle.sal_cluster.specs.Leaders.{Begins, Sends, base_of, is_domain, number_of, present, table_sent}
use Rattle.sal_cluster.specs.Looks.{Looks}
use Rattle.sal_cluster.specs.StandBys.{FeedsAt, Leads, before_from, follower_at, grounded, number_held, seen}
use Rattle.sal_session.specs.declared.answer.Answer.{Answer}
use Rattle.sal_session.specs.declared.role.Role.{Role}
use Rattle.sal_session.specs.declared.role.Role.TheVariants.{Closed, Broker, StandBy}
use Rattle.sal_session.specs.declared.session.Session.{Session}
use Rattle.sal_session.specs.Sessions.{Leaves}
use Rattle.sal_session.specs.Texts.{IsLine, feed_line, told}

-- a call that changes no role: the status and the text of its answer
abbrev pub Answers : (ℕ → List ℕ → Type 0) → Role → Session → ℕ → Type 0
Answers answer role new n = (new.role ≡ role) × answer n (told new.text)

-- a status without a text
abbrev pub IsBare : ℕ → ℕ → List ℕ → Type 0
IsBare number n text = (n ≡ number) × (text ≡ [])

-- the status and the text of a call of a domain, if there is it; else its number is bad
abbrev pub InDomain : Bool → (ℕ → List ℕ → Type 0) → ℕ → List ℕ → Type 0
InDomain true answer n text = answer n text
InDomain false answer n text = IsBare 35 n text

-- a leader has domain d
abbrev pub leads_domain : Leader → ℕ → Bool
leads_domain it d = is_domain d (length it.broker.hub.world)

-- and a stand-by follows it
abbrev pub follows_domain : Standing → ℕ → Bool
follows_domain it d = is_domain d (length it.followers.items)

-- ---- frames of a broker's commits

-- the status and the text of an export: the frames, or the line of the commit whose frame is too long
abbrev pub IsFrames : Result (List ℕ) FramesFault → ℕ → List ℕ → Type 0
IsFrames (Ok bytes) n text = (n ≡ 0) × (text ≡ bytes)
IsFrames (Err (frames.TooLong number)) n text = (n ≡ 13) × IsLine (line_of (BadExport number)) text
IsFrames (Err frames.Gone) n text = IsBare 30 n text
IsFrames (Err frames.NoMemory) n text = IsBare 10 n text

abbrev pub LeaderFrames : Leader → ℕ → ℕ → ℕ → List ℕ → Type 0
LeaderFrames it d above n text = (result : Result (List ℕ) FramesFault) × Sends it.broker.hub d (base_of it.bases d) above result × IsFrames result n text

-- those of domain d
abbrev pub FramesOf : Role → ℕ → ℕ → ℕ → List ℕ → Type 0
FramesOf Closed d above n text = IsBare 21 n text
FramesOf (StandBy it) d above n text = IsBare 29 n text
FramesOf (Broker it) d above n text = InDomain (leads_domain it d) (LeaderFrames it d above) n text

abbrev pub FramesIf : Role → ℕ → ℕ → Session → ℕ → Type 0
FramesIf role d above new n = Answers (FramesOf role d above) role new n

-- ---- a snapshot, of a broker or a stand-by

abbrev pub IsExport : Result (List ℕ) ExportFault → ℕ → List ℕ → Type 0
IsExport (Ok bytes) n text = (n ≡ 0) × (text ≡ bytes)
IsExport (Err (export.TooLong commit)) n text = (n ≡ 13) × IsLine (line_of (BadExport commit)) text
IsExport (Err export.NoMemory) n text = IsBare 10 n text

-- the frame with all rows of the newest commit of domain d
abbrev pub LeaderSnapshot : Leader → ℕ → ℕ → List ℕ → Type 0
LeaderSnapshot it d n text =
    (result : Result (List ℕ) ExportFault) × IsSnapshot (table_sent it.broker.hub d) (number_of it.broker.hub it.bases d) (newest it.broker.hub d) result × IsExport result n text

-- a snapshot, if there is one
abbrev pub IsExportIf : Option (Result (List ℕ) ExportFault) → ℕ → List ℕ → Type 0
IsExportIf None n text = IsBare 33 n text
IsExportIf (Some result) n text = IsExport result n text

-- that of the last frame's commit; none before the first one
abbrev pub StandBySnapshot : Following → ℕ → List ℕ → Type 0
StandBySnapshot f n text = (result : Option (Result (List ℕ) ExportFault)) × IsSnapshotAt f.schema f.held.version (trees_held f.held) result × IsExportIf result n text

abbrev pub SnapshotOf : Role → ℕ → ℕ → List ℕ → Type 0
SnapshotOf Closed d n text = IsBare 21 n text
SnapshotOf (Broker it) d n text = InDomain (leads_domain it d) (LeaderSnapshot it d) n text
SnapshotOf (StandBy it) d n text = InDomain (follows_domain it d) (StandBySnapshot (follower_at it.followers.items d)) n text

abbrev pub SnapshotsIf : Role → ℕ → Session → ℕ → Type 0
SnapshotsIf role d new n = Answers (SnapshotOf role d) role new n

-- ---- a look at a newest tree

abbrev pub store_of : ℕ → Option Store
store_of number = if nat_eq number 0 then Some Config else (if nat_eq number 1 then Some Oper else None)

abbrev pub IsLook : Result (List ℕ) LookFault → ℕ → List ℕ → Type 0
IsLook (Ok it) n text = (n ≡ 0) × (text ≡ it)
IsLook (Err look.BadText) n text = IsBare 23 n text
IsLook (Err look.NoMemory) n text = IsBare 10 n text

-- a look at a store, if the number is that of one
abbrev pub LooksAt : (Store → Result (List ℕ) LookFault → Type 0) → Option Store → ℕ → List ℕ → Type 0
LooksAt looks None n text = IsBare 23 n text
LooksAt looks (Some store) n text = (result : Result (List ℕ) LookFault) × looks store result × IsLook result n text

abbrev pub LeaderLook : Leader → ℕ → List ℕ → Store → Result (List ℕ) LookFault → Type 0
LeaderLook it d path store result = Looks (tables_of it.broker.hub.world) (table_sent it.broker.hub d) d (newest_tree it.broker.hub.world it.broker.hub.log d store) path result

abbrev pub StandByLook : Standing → ℕ → List ℕ → Store → Result (List ℕ) LookFault → Type 0
StandByLook it d path store result =
    Looks (map last_among it.ground.readers) (last_in it.ground.readers d) d (rows_held (follower_at it.followers.items d).held store) path result

abbrev pub LeaderLooks : Leader → ℕ → ℕ → List ℕ → ℕ → List ℕ → Type 0
LeaderLooks it d store path n text = LooksAt (LeaderLook it d path) (store_of store) n text

abbrev pub StandByLooks : Standing → ℕ → ℕ → List ℕ → ℕ → List ℕ → Type 0
StandByLooks it d store path n text = LooksAt (StandByLook it d path) (store_of store) n text

-- once there is a frame of the domain
abbrev pub LooksOnce : Option ℕ → Standing → ℕ → ℕ → List ℕ → ℕ → List ℕ → Type 0
LooksOnce None it d store path n text = IsBare 33 n text
LooksOnce (Some number) it d store path n text = StandByLooks it d store path n text

abbrev pub LooksIn : Standing → ℕ → ℕ → List ℕ → ℕ → List ℕ → Type 0
LooksIn it d store path n text = LooksOnce (follower_at it.followers.items d).held.version it d store path n text

abbrev pub LookOf : Role → ℕ → ℕ → List ℕ → ℕ → List ℕ → Type 0
LookOf Closed d store path n text = IsBare 21 n text
LookOf (Broker it) d store path n text = InDomain (leads_domain it d) (LeaderLooks it d store path) n text
LookOf (StandBy it) d store path n text = InDomain (follows_domain it d) (LooksIn it d store path) n text

abbrev pub LooksIf : Role → ℕ → ℕ → List ℕ → Session → ℕ → Type 0
LooksIf role d store path new n = Answers (LookOf role d store path) role new n

-- ---- the next epoch

abbrev pub epoch_fault : EpochFault → ℕ
epoch_fault epoch.Pending = 31
epoch_fault epoch.NotNewest = 32

-- the leader after a compare-and-begin, and its number
abbrev pub Became : Result Leader (Leader × EpochFault) → Leader → ℕ → Type 0
Became (Ok it) new n = (new ≡ it) × (n ≡ 0)
Became (Err why) new n = (new ≡ why.0) × (n ≡ epoch_fault why.1)

abbrev pub Began : Leader → List ℕ → Leader → ℕ → Type 0
Began old newest new n = (result : Result Leader (Leader × EpochFault)) × Begins old newest result × Became result new n

-- by the numbers of the newest commits of the first domains
abbrev pub EpochIf : Role → List ℕ → Session → ℕ → Type 0
EpochIf Closed newest new n = Leaves 21 Closed new n
EpochIf (StandBy it) newest new n = Leaves 29 (StandBy it) new n
EpochIf (Broker old) newest new n = (it : Leader) × Began old newest it n × (new.role ≡ Broker it) × (told new.text ≡ [])

-- ---- a stand-by

-- The stand-by of the script is open, before the frames of these numbers, of domain 0 first; or none is, with the status of the script's first fault.
abbrev pub Follows : List ℕ → List ℕ → Role → List ℕ → ℕ → Type 0
Follows bytes firsts Closed text n = (status : Status) × (n ≡ status_number status) × IsStatusOf (grounded bytes) status × IsLine (line_of status) text
Follows bytes firsts (Broker it) text n = ⊥
Follows bytes firsts (StandBy it) text n =
    (n ≡ 0) × (text ≡ []) × (grounded bytes ≡ Ok (seen it.ground)) × (it.followers.items ≡ before_from firsts 0 (map last_among it.ground.readers))

-- the status and the text of a stream's fault
abbrev pub IsFeed : FollowFault → ℕ → List ℕ → Type 0
IsFeed follow.NoMemory n text = IsBare 10 n text
IsFeed (follow.BadFrame at) n text = (n ≡ 12) × IsLine (feed_line (follow.BadFrame at)) text
IsFeed (follow.Gap want got) n text = (n ≡ 12) × IsLine (feed_line (follow.Gap want got)) text

abbrev pub IsFed : Result ⊤ FollowFault → ℕ → List ℕ → Type 0
IsFed (Ok done) n text = IsBare 0 n text
IsFed (Err fault) n text = IsFeed fault n text

-- a piece of the stream of domain d, if the stand-by follows it
abbrev pub FedOne : Standing → ℕ → List ℕ → Standing → ℕ → List ℕ → Type 0
FedOne old d piece it n text = (result : Result ⊤ FollowFault) × FeedsAt old.followers.items it.followers.items d piece result × (it.ground ≡ old.ground) × IsFed result n text

abbrev pub Fed : Bool → Standing → ℕ → List ℕ → Standing → ℕ → List ℕ → Type 0
Fed false old d piece it n text = (it ≡ old) × IsBare 35 n text
Fed true old d piece it n text = FedOne old d piece it n text

-- the same, if there is a stand-by
abbrev pub FeedsIf : Role → ℕ → List ℕ → Session → ℕ → Type 0
FeedsIf Closed d piece new n = Leaves 21 Closed new n
FeedsIf (Broker it) d piece new n = Leaves 22 (Broker it) new n
FeedsIf (StandBy old) d piece new n = (it : Standing) × Fed (follows_domain old d) old d piece it n (told new.text) × (new.role ≡ StandBy it)

-- the status and the text of a refusal
abbrev pub IsRefused : Status → ℕ → List ℕ → Type 0
IsRefused status n text = (n ≡ status_number status) × IsLine (line_of status) text

abbrev pub IsLead : LeadFault → ℕ → List ℕ → Type 0
IsLead Empty n text = IsBare 33 n text
IsLead BadVersion n text = IsBare 34 n text
IsLead (Refused status) n text = IsRefused status n text

-- what the stand-by becomes; it stays if it does not lead
abbrev pub LeadsTo : Standing → Result Leader LeadFault → Session → ℕ → Type 0
LeadsTo old (Ok it) new n = Leaves 0 (Broker it) new n
LeadsTo old (Err fault) new n = (new.role ≡ StandBy old) × IsLead fault n (told new.text)

-- it becomes the broker, if there is one
abbrev pub LeadsIf : Role → ℕ → Session → ℕ → Type 0
LeadsIf Closed version new n = Leaves 21 Closed new n
LeadsIf (Broker it) version new n = Leaves 22 (Broker it) new n
LeadsIf (StandBy old) version new n = (result : Result Leader LeadFault) × Leads old version result × LeadsTo old result new n

-- the leader that the role becomes, or the answer why there is none
abbrev pub IsLed : Role → ℕ → Result Leader Answer → Type 0
IsLed Closed version (Ok it) = ⊥
IsLed Closed version (Err answer) = IsBare 21 answer.number (told answer.text)
IsLed (Broker old) version (Ok it) = ⊥
IsLed (Broker old) version (Err answer) = IsBare 22 answer.number (told answer.text)
IsLed (StandBy old) version (Ok it) = Leads old version (Ok it)
IsLed (StandBy old) version (Err answer) = (fault : LeadFault) × Leads old version (Err fault) × IsLead fault answer.number (told answer.text)

-- ---- numbers

-- entries left of the log
abbrev pub left_in : Role → ℕ
left_in Closed = 0
left_in (Broker it) = limit - length it.broker.hub.log
left_in (StandBy it) = 0

-- the number, or 0 if it has more than 64 bits
abbrev pub short : ℕ → ℕ
short number = if nat_lt number (2 ^ 64) then number else 0

-- that of the newest commit of domain d; 0 if there is no such domain
abbrev pub leader_number : Bool → Leader → ℕ → ℕ
leader_number true it d = short (number_of it.broker.hub it.bases d)
leader_number false it d = 0

-- the number of the newest commit of domain d, or of its last frame
abbrev pub number_in : Role → ℕ → ℕ
number_in Closed d = 0
number_in (Broker it) d = leader_number (leads_domain it d) it d
number_in (StandBy it) d = number_held (follower_at it.followers.items d)

-- the number of domains
abbrev pub domains_in : Role → ℕ
domains_in Closed = 0
domains_in (Broker it) = length it.broker.hub.world
domains_in (StandBy it) = length it.followers.items

-- the present version of the script's schema
abbrev pub version_in : Role → ℕ
version_in Closed = 0
version_in (Broker it) = present it
version_in (StandBy it) = 0
