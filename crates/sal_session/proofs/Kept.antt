-- What a session holds, by what a call of its broker or its stand-by returned.
use Rattle.std.proofs.Common.{◌≡◌, ℕ, zero, suc, ◌≤◌, Bool, true, false, List, [], if◌then◌else◌, length, Result, Ok, Err, refl, ap, sym, ◌∙◌, subst, arith}
use Rattle.std.specs.Prelude.{nat_lt}
use Rattle.std.proofs.lemmas.Bool.Decides.{nat_tests}
use Rattle.std.specs.Bool.{⊤}
use Rattle.sal_types.specs.declared.memory.NoMemory.{NoMemory as Wanting}
use Rattle.sal_embed.specs.declared.clients.Clients.{Clients}
use Rattle.sal_embed.specs.declared.fault.StepFault.{StepFault}
use Rattle.sal_embed.specs.declared.fault.StepFault.TheVariants.{BadStep, BadClient, Full, Lost, NoMemory, Untold, Broken}
use Rattle.sal_embed.specs.Opening.{IsBegun, opened, world_of}
use Rattle.sal_embed.specs.Outcomes.{Reports, Steps}
use Rattle.sal_embed.specs.Waiting.{Waits, bits}
use Rattle.sal_embed.specs.declared.waiting.Waiting.{Waiting}
use Rattle.sal_follow.specs.States.{Following}
use Rattle.sal_follow.specs.declared.fault.FollowFault.{FollowFault}
use Rattle.sal_cluster.specs.declared.leader.Leader.{Leader}
use Rattle.sal_cluster.specs.declared.standby.Standing.{Standing}
use Rattle.sal_cluster.specs.Leaders.{is_domain, number_of}
use Rattle.sal_cluster.specs.StandBys.{follower_at, number_held}
use Rattle.sal_cluster.proofs.Followed.{past_all}
use Rattle.sal_session.specs.declared.answer.Answer.{Answer}
use Rattle.sal_session.specs.declared.role.Role.{Role}
use Rattle.sal_session.specs.declared.role.Role.TheVariants.{Broker, Closed, StandBy}
use Rattle.sal_session.specs.declared.session.Session.{Session}
use Rattle.sal_session.specs.declared.text.Text.{Text}
use Rattle.sal_session.specs.Sessions.{IsNew, Opens, ReportsIf, StepsIf, WaitsIn, as_now, is_broken, kept, report_number, step_number, text_of}
use Rattle.sal_session.specs.Streams.{Began, EpochIf, Fed, FedOne, FeedsIf, InDomain, IsBare, IsFed, follows_domain, leader_number, short}
use Rattle.sal_session.specs.Texts.{told}

-- ---- a new broker

pub opens_new : (bytes : List ℕ) (broker : Clients) (role : Role) (text : List ℕ) → IsNew broker role → text ≡ [] → world_of (opened bytes) ≡ Ok broker.hub.world → IsBegun broker → Opens bytes role text 0
opens_new bytes broker Closed text is empty world begun = absurd is
opens_new bytes broker (StandBy it) text is empty world begun = absurd is
opens_new bytes broker (Broker it) text is empty world begun =
    (refl, empty, world ∙ ap (λ (e : Clients). Ok e.hub.world) (sym is.0), subst IsBegun (sym is.0) begun, is.1)

-- ---- a step

pub steps_open : (old : Role) (c : ℕ) (bytes : List ℕ) (new : Session) (n : ℕ) (was : Leader) (it : Clients) (result : Result (List ℕ) StepFault) → old ≡ Broker was → Steps was.broker it c bytes result
    → new.role ≡ kept result (as_now was it) → n ≡ step_number result → told new.text ≡ text_of result → StepsIf old c bytes new n
steps_open old c bytes new n was it result is steps role number text = subst (λ (r : Role). StepsIf r c bytes new n) (sym is) (result, it, steps, role, number, text)

-- the broker after a fault
pub kept_by : (fault : StepFault) (it : Leader) → kept (Err fault) it ≡ (if is_broken fault then Closed else Broker it)
kept_by Broken it = refl
kept_by BadStep it = refl
kept_by BadClient it = refl
kept_by Full it = refl
kept_by Lost it = refl
kept_by NoMemory it = refl
kept_by Untold it = refl

-- ---- a report

pub reports_open : (old : Role) (new : Session) (n : ℕ) (was : Leader) (it : Clients) (result : Result (List ℕ) Wanting) → old ≡ Broker was → Reports was.broker it result
    → new.role ≡ Broker (as_now was it) → n ≡ report_number result → told new.text ≡ text_of result → ReportsIf old new n
reports_open old new n was it result is reports role number text = subst (λ (r : Role). ReportsIf r new n) (sym is) (result, it, reports, role, number, text)

-- ---- what waits for a client

pub waits_open : (role : Role) (c slot n : ℕ) (it : Leader) (what : Waiting) → role ≡ Broker it → Waits it.broker c slot what → n ≡ bits what → WaitsIn role c slot n
waits_open role c slot n it what is waits number = subst (λ (r : Role). WaitsIn r c slot n) (sym is) (what, waits, number)

-- ---- a domain

-- there is no such domain
pub no_domain : (answer : ℕ → List ℕ → Type 0) (there found : Bool) (n : ℕ) (text : List ℕ) → found ≡ there → found ≡ false → IsBare 35 n text → InDomain there answer n text
no_domain answer true found n text is not_there bare = cc
no_domain answer false found n text is not_there bare = bare

-- there is
pub in_domain : (answer : ℕ → List ℕ → Type 0) (there found : Bool) (n : ℕ) (text : List ℕ) → found ≡ there → found ≡ true → answer n text → InDomain there answer n text
in_domain answer true found n text is there_is told = told
in_domain answer false found n text is there_is told = cc

-- its number
pub numbered : (it : Leader) (d n : ℕ) (there found : Bool) → found ≡ there → found ≡ true → n ≡ short (number_of it.broker.hub it.bases d) → n ≡ leader_number there it d
numbered it d n true found is there_is number = number
numbered it d n false found is there_is number = cc

pub unnumbered : (it : Leader) (d : ℕ) (there found : Bool) → found ≡ there → found ≡ false → 0 ≡ leader_number there it d
unnumbered it d true found is not_there = cc
unnumbered it d false found is not_there = refl

pub none_held : (fs : List Following) (d : ℕ) (found : Bool) → found ≡ is_domain d (length fs) → found ≡ false → 0 ≡ number_held (follower_at fs d)
none_held fs zero found is not_there = cc
none_held fs (suc d) found is not_there =
    let test : nat_lt (suc d) (length fs) ≡ false = sym is ∙ not_there in
    let past : length fs ≤ suc d = grind (arith, nat_tests, test) in
    ap number_held (sym (past_all fs (suc d) past))

-- ---- a piece of a stream

module _ (old it : Standing) (d : ℕ) (piece : List ℕ) (n : ℕ) (text : List ℕ) (found : Bool) where
  pub not_fed : (there : Bool) → found ≡ there → found ≡ false → it ≡ old → IsBare 35 n text → Fed there old d piece it n text
  not_fed true is not_there same bare = cc
  not_fed false is not_there same bare = (same, bare)

  pub is_fed : (there : Bool) → found ≡ there → found ≡ true → FedOne old d piece it n text → Fed there old d piece it n text
  is_fed true is there_is fed = fed
  is_fed false is there_is fed = cc

pub feeds_open : (old : Role) (d : ℕ) (piece : List ℕ) (new : Session) (n : ℕ) (was it : Standing) (answer : Answer) → old ≡ StandBy was
    → Fed (follows_domain was d) was d piece it answer.number (told answer.text) → n ≡ answer.number → new.text ≡ answer.text → new.role ≡ StandBy it → FeedsIf old d piece new n
feeds_open old d piece new n was it answer is fed number text role =
    subst (λ (r : Role). FeedsIf r d piece new n) (sym is)
    (it, subst (λ (m : ℕ). Fed (follows_domain was d) was d piece it m (told new.text)) (sym number) (subst (λ (t : Text). Fed (follows_domain was d) was d piece it answer.number (told t)) (sym text) fed), role)

-- ---- the next epoch

pub begun_open : (old : Role) (newest : List ℕ) (new : Session) (n : ℕ) (was it : Leader) → Broker was ≡ old → Began was newest it n → new.role ≡ Broker it → told new.text ≡ [] → EpochIf old newest new n
begun_open old newest new n was it is began role text = subst (λ (r : Role). EpochIf r newest new n) is (it, began, role, text)
