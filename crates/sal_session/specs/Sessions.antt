-- A session, as a host sees it: by numbers and texts. The calls of a broker.
use Rattle.std.specs.Prelude.{◌≡◌, ℕ, Bool, true, false, if◌then◌else◌, List, [], Result, Ok, Err}
use Rattle.sal_types.specs.declared.memory.NoMemory.{NoMemory as Wanting}
use Rattle.sal_prepare.specs.Scripted.{IsStatusOf}
use Rattle.sal_prepare.specs.Statuses.{line_of, number_of as status_number}
use Rattle.sal_prepare.specs.declared.status.Status.{Status}
use Rattle.sal_embed.specs.declared.clients.Clients.{Clients}
use Rattle.sal_embed.specs.declared.fault.StepFault.{StepFault}
use Rattle.sal_embed.specs.declared.fault.StepFault.TheVariants.{BadStep, BadClient, Full, Lost, NoMemory, Untold, Broken}
use Rattle.sal_embed.specs.Opening.{IsBegun, opened, world_of}
use Rattle.sal_embed.specs.Outcomes.{Reports, Steps}
use Rattle.sal_embed.specs.Waiting.{Waits, bits}
use Rattle.sal_embed.specs.declared.waiting.Waiting.{Waiting}
use Rattle.sal_cluster.specs.declared.leader.Leader.{Leader}
use Rattle.sal_cluster.specs.Leaders.{IsFirst}
use Rattle.sal_session.specs.declared.role.Role.{Role}
use Rattle.sal_session.specs.declared.role.Role.TheVariants.{Closed, Broker, StandBy}
use Rattle.sal_session.specs.declared.session.Session.{Session}
use Rattle.sal_session.specs.Texts.{IsLine, told}

-- ---- numbers and texts

abbrev pub number_of : StepFault → ℕ
number_of NoMemory = 10
number_of BadStep = 23
number_of BadClient = 24
number_of Full = 25
number_of Lost = 26
number_of Untold = 27
number_of Broken = 28

abbrev pub step_number : Result (List ℕ) StepFault → ℕ
step_number (Ok text) = 0
step_number (Err fault) = number_of fault

abbrev pub report_number : Result (List ℕ) Wanting → ℕ
report_number (Ok text) = 0
report_number (Err wanting) = 10

-- a call without a reply has the empty text
abbrev pub text_of : {E : Type 0} → Result (List ℕ) E → List ℕ
text_of (Ok text) = text
text_of (Err why) = []

-- ---- calls

-- there is a broker or a stand-by
abbrev pub is_open : Role → Bool
is_open Closed = false
is_open (Broker it) = true
is_open (StandBy it) = true

-- a leader that begins its streams with this broker
abbrev pub IsNew : Clients → Role → Type 0
IsNew broker Closed = ⊥
IsNew broker (StandBy it) = ⊥
IsNew broker (Broker it) = (it.broker ≡ broker) × IsFirst it

-- The broker of the bytes is open, with no step made; or none is, and the number and the text are those of the status: the text may be missing, if
-- memory ran out.
abbrev pub Opens : List ℕ → Role → List ℕ → ℕ → Type 0
Opens bytes Closed text n = (status : Status) × (n ≡ status_number status) × IsStatusOf (world_of (opened bytes)) status × IsLine (line_of status) text
Opens bytes (Broker it) text n =
    (n ≡ 0) × (text ≡ []) × (world_of (opened bytes) ≡ Ok it.broker.hub.world) × IsBegun it.broker × IsFirst it
Opens bytes (StandBy it) text n = ⊥

-- a broken broker is dropped
abbrev pub kept : Result (List ℕ) StepFault → Leader → Role
kept (Err Broken) it = Closed
kept result it = Broker it

abbrev pub is_broken : StepFault → Bool
is_broken Broken = true
is_broken fault = false

-- the number of a fault, which drops a broken broker
pub record Fails (fault : StepFault) (old new : Session) (n : ℕ) : Type 0 where
  pub number : n ≡ number_of fault
  pub role : new.role ≡ (if is_broken fault then Closed else old.role)
  pub text : new.text ≡ old.text

-- the call has this number and no text, and leaves this
abbrev pub Leaves : ℕ → Role → Session → ℕ → Type 0
Leaves number role new n = (n ≡ number) × (new.role ≡ role) × (told new.text ≡ [])

-- the broker after a call, with the numbers that it had
abbrev pub as_now : Leader → Clients → Leader
as_now old it = record old { broker = it }

-- a step of the broker, if there is one
abbrev pub StepsIf : Role → ℕ → List ℕ → Session → ℕ → Type 0
StepsIf Closed c bytes new n = Leaves 21 Closed new n
StepsIf (StandBy it) c bytes new n = Leaves 29 (StandBy it) new n
StepsIf (Broker old) c bytes new n =
    (result : Result (List ℕ) StepFault) × (it : Clients) × Steps old.broker it c bytes result
    × (new.role ≡ kept result (as_now old it)) × (n ≡ step_number result) × (told new.text ≡ text_of result)

-- a report of the broker, if there is one
abbrev pub ReportsIf : Role → Session → ℕ → Type 0
ReportsIf Closed new n = Leaves 21 Closed new n
ReportsIf (StandBy it) new n = Leaves 29 (StandBy it) new n
ReportsIf (Broker old) new n =
    (result : Result (List ℕ) Wanting) × (it : Clients) × Reports old.broker it result
    × (new.role ≡ Broker (as_now old it)) × (n ≡ report_number result) × (told new.text ≡ text_of result)

-- what waits for client c of a broker at this number of its slots, as bits; 0 without a broker
abbrev pub WaitsIn : Role → ℕ → ℕ → ℕ → Type 0
WaitsIn Closed c slot n = n ≡ 0
WaitsIn (StandBy it) c slot n = n ≡ 0
WaitsIn (Broker it) c slot n = (what : Waiting) × Waits it.broker c slot what × (n ≡ bits what)
