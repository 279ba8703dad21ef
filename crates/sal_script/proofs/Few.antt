-- A client makes at most one shared call for each of its steps, so what few clients leave is short.
use Rattle.std.proofs.Common.{◌≡◌, ℕ, zero, suc, ◌+◌, ◌*◌, ◌<◌, ◌≤◌, Bool, true, false, List, [], ◌∷◌, ◌++◌, length, Option, None, Some, IsTrue, if◌then◌else◌, nat_le, refl, ap, sym, ◌∙◌, arith, leb-true, true≢false}
use Rattle.std.specs.Prelude.{⊤, nat_eq, slice_get}
use Rattle.std.specs.List.{list_all}
use Rattle.std.proofs.lemmas.Bool.{and_parts, eqb-true, eq-eqb}
use Rattle.std.proofs.lemmas.List.Sums.{sum_by-cons}
use Rattle.std.proofs.lemmas.Option.{same_Some, slice_get_within}
use Rattle.sal_history.specs.declared.call.Entry.{Entry}
use Rattle.sal_history.specs.World.{Domain}
use Rattle.sal_history.specs.History.{entries_of}
use Rattle.sal_script.specs.declared.reply.StepReply.{StepReply}
use Rattle.sal_script.specs.Limits.{within_limits}
use Rattle.sal_script.specs.Moves.{Move}
use Rattle.sal_script.specs.Play.{Arrival, Client, Made, Meeting, Run, arrive, arrive_by, calls, ended, go, local, make, meet, replied, shared}
use Rattle.sal_script.specs.Tables.{Versions, versions_of}
use Rattle.sal_script.specs.Along.{PerformsAlong, IsAt, along, new_run}
use Rattle.sal_script.specs.OneOrder.{LeftIsShort}
use Rattle.sal_script.proofs.Along.{along_from, made_of}
use Rattle.sal_script.proofs.Left.{last_log, no_end}
use Rattle.sal_script.proofs.Listed.{get_some}

-- ---- one client

-- after a shared call there are fewer steps than these
abbrev Shorter : ℕ → Arrival → Type 0
Shorter n (ended client) = ⊤
Shorter n (calls call step run) = length run.steps < n

shorter_than : (m n : ℕ) (a : Arrival) → m ≤ n → Shorter m a → Shorter n a
shorter_than m n (ended client) h was = tt
shorter_than m n (calls call step run) h was = omega (arith, h, was)

-- one of as many entries, where it is the client's own
abbrev counted : Bool → ℕ
counted own = if own then 1 else 0

count_more : (c : ℕ) (e : Entry) (log : List Entry) → entries_of (e ∷ log) c ≡ counted (nat_eq e.client c) + entries_of log c
count_more c e log = sum_by-cons (λ (x : Entry). if nat_eq x.client c then 1 else 0) e log

module _ (tables : List Versions) (world : List Domain) (c : ℕ) where
  shorter_by : (log : List Entry) (step : Move) (client : Client) (rest : List Move) (m : Meeting) → ((next : Client) → Shorter (length rest) (arrive tables world log next rest))
      → Shorter (suc (length rest)) (arrive_by (λ next. arrive tables world log next rest) (λ call. calls call step (record { client = client; steps = rest })) m)
  shorter_by log step client rest (local r next) more = shorter_than (length rest) (suc (length rest)) (arrive tables world log (replied r next) rest) (omega arith) (more (replied r next))
  shorter_by log step client rest (shared call) more = omega arith

  arrives_shorter : (log : List Entry) (steps : List Move) (client : Client) → Shorter (length steps) (arrive tables world log client steps)
  arrives_shorter log [] client = tt
  arrives_shorter log (step ∷ rest) client = shorter_by log step client rest (meet tables world log client step) (arrives_shorter log rest)

  made_shorter : (log : List Entry) (a : Arrival) (made : Made) (n : ℕ) → Shorter n a → make tables world log c a ≡ Some made → length made.run.steps < n
  made_shorter log (ended client) made n short is = cc
  made_shorter log (calls call step run) made n short is =
      let left : length run.steps ≡ length made.run.steps = ap steps_left is in
      omega (arith, short, left)
    where
      steps_left : Option Made → ℕ
      steps_left None = 0
      steps_left (Some m) = length m.run.steps

  -- the entries of the client, and the steps that are left
  few_along : (rest : List Entry) (made last : Made) → along_from tables world c (Some made) rest ≡ Some last → entries_of rest c + length last.run.steps ≤ length made.run.steps
  few_along [] made last is = let same : made ≡ last = same_Some made last is in let left : length made.run.steps ≡ length last.run.steps = ap (λ (m : Made). length m.run.steps) same in omega (arith, left)
  few_along (e ∷ rest) made last is = by (nat_eq e.client c) (count_more c e rest) (λ next on. few_along rest next last on) is
    where
      more : (o : Option Made) → (n : ℕ) → ((next : Made) → o ≡ Some next → n + length next.run.steps ≤ length made.run.steps) → ((next : Made) → along_from tables world c (Some next) rest ≡ Some last → entries_of rest c + length last.run.steps ≤ length next.run.steps) → along_from tables world c o rest ≡ Some last
          → n + (entries_of rest c + length last.run.steps) ≤ length made.run.steps
      more None n h later on = absurd (no_end tables world c rest last on)
      more (Some next) n h later on = let one = h next refl in let others = later next on in omega (arith, one, others)

      by : (own : Bool) → entries_of (e ∷ rest) c ≡ counted own + entries_of rest c → ((next : Made) → along_from tables world c (Some next) rest ≡ Some last → entries_of rest c + length last.run.steps ≤ length next.run.steps)
          → along_from tables world c (if own then go tables world made.log c made.run else Some (made_of (made.log ++ e ∷ []) made.run)) rest ≡ Some last
          → entries_of (e ∷ rest) c + length last.run.steps ≤ length made.run.steps
      by true count later on =
          let all = more (go tables world made.log c made.run) 1 (λ next went. let one = made_shorter made.log (arrive tables world made.log made.run.client made.run.steps) next (length made.run.steps) (arrives_shorter made.log made.run.steps made.run.client) went in omega (arith, one)) later on in
          omega (arith, count, all)
      by false count later on =
          let all = more (Some (made_of (made.log ++ e ∷ []) made.run)) 0 (λ next went. let left : length made.run.steps ≡ length next.run.steps = ap (λ (m : Made). length m.run.steps) (same_Some (made_of (made.log ++ e ∷ []) made.run) next went) in omega (arith, left)) later on in
          omega (arith, count, all)

  -- a client that is on its way, or at its end
  pub few_at : (steps : List Move) (log : List Entry) (now : Run) → IsAt tables world c steps log now → entries_of log c ≤ length steps
  few_at steps log now was = let few = few_along log (made_of [] (new_run steps)) (made_of log was.called) was.follows in omega (arith, few)

  pub few_finish : (steps : List Move) (log : List Entry) (rs : List StepReply) → PerformsAlong tables world c log steps rs → entries_of log c ≤ length steps
  few_finish steps log rs is =
      let last = last_log tables world c (along tables world c log (new_run steps)) (record { log = log; replies = rs }) is in
      let few = few_along log (made_of [] (new_run steps)) last.0 last.1 in
      omega (arith, few)

-- ---- all clients

-- the entries of the first n clients
abbrev total : ℕ → List Entry → ℕ
total zero log = 0
total (suc n) log = entries_of log n + total n log

total_none : (n : ℕ) → total n [] ≡ 0
total_none zero = refl
total_none (suc n) = let rest = total_none n in omega (arith, rest)

total_more : (n : ℕ) (e : Entry) (log : List Entry) → (e.client < n → total n (e ∷ log) ≡ 1 + total n log) × (n ≤ e.client → total n (e ∷ log) ≡ total n log)
total_more zero e log = (λ h. absurd (omega (arith, h)), λ h. refl)
total_more (suc n) e log = by (nat_eq e.client n) refl (count_more n e log) (total_more n e log)
  where
    by : (own : Bool) → nat_eq e.client n ≡ own → entries_of (e ∷ log) n ≡ counted own + entries_of log n
        → (e.client < n → total n (e ∷ log) ≡ 1 + total n log) × (n ≤ e.client → total n (e ∷ log) ≡ total n log)
        → (e.client < suc n → total (suc n) (e ∷ log) ≡ 1 + total (suc n) log) × (suc n ≤ e.client → total (suc n) (e ∷ log) ≡ total (suc n) log)
    by true is count so_far =
        let same : e.client ≡ n = eqb-true e.client n is in
        (λ h. let others = so_far.1 (omega (arith, same)) in omega (arith, count, others), λ h. absurd (omega (arith, h, same)))
    by false is count so_far =
        let differ : e.client ≡ n → ⊥ = λ same. true≢false (sym (eq-eqb e.client n same) ∙ is) in
        (λ h. let others = so_far.0 (below e.client n h differ) in omega (arith, count, others), λ h. let others = so_far.1 (omega (arith, h)) in omega (arith, count, others))
      where
        below : (a b : ℕ) → a < suc b → (a ≡ b → ⊥) → a < b
        below a b h other = omega (arith, h, other)

all_counted : (n : ℕ) (log : List Entry) → ((i : ℕ) (e : Entry) → slice_get log i ≡ Some e → e.client < n) → length log ≡ total n log
all_counted n [] known = sym (total_none n)
all_counted n (e ∷ log) known =
    let one = (total_more n e log).0 (known zero e refl) in
    let others = all_counted n log (λ i x at. known (suc i) x at) in
    omega (arith, one, others)

total_few : (n : ℕ) (log : List Entry) → ((c : ℕ) → c < n → entries_of log c ≤ 60000) → total n log ≤ n * 60000
total_few zero log few = omega arith
total_few (suc n) log few =
    let one = few n (omega arith) in
    let others = total_few n log (λ c h. few c (omega (arith, h))) in
    omega (arith, one, others)

short_at : (clients : List (List Move)) (c : ℕ) (steps : List Move) → IsTrue (list_all (λ xs. nat_le (length xs) 60000) clients) → slice_get clients c ≡ Some steps → length steps ≤ 60000
short_at [] c steps h at = cc
short_at (xs ∷ clients) zero steps h at =
    let parts = and_parts (nat_le (length xs) 60000) (list_all (λ ys. nat_le (length ys) 60000) clients) h in
    let same : length xs ≡ length steps = ap length (same_Some xs steps at) in
    let small : length xs ≤ 60000 = leb-true (length xs) 60000 parts.0 in
    omega (arith, same, small)
short_at (xs ∷ clients) (suc c) steps h at = short_at clients c steps (and_parts (nat_le (length xs) 60000) (list_all (λ ys. nat_le (length ys) 60000) clients) h).1 at

-- a log in which each client of a script has at most as many entries as steps
pub log_is_short : (clients : List (List Move)) (log : List Entry) → IsTrue (within_limits clients) → ((i : ℕ) (e : Entry) → slice_get log i ≡ Some e → e.client < length clients)
    → ((c : ℕ) (steps : List Move) → slice_get clients c ≡ Some steps → entries_of log c ≤ length steps) → length log ≤ 960000
log_is_short clients log within known few =
    let parts = and_parts (nat_le (length clients) 16) (list_all (λ xs. nat_le (length xs) 60000) clients) within in
    let small : length clients ≤ 16 = leb-true (length clients) 16 parts.0 in
    let all = all_counted (length clients) log known in
    let each = total_few (length clients) log (λ c h. let own = get_some clients c h in let count = few c own.0 own.1 in let short = short_at clients c own.0 parts.1 own.1 in omega (arith, count, short)) in
    omega (arith, small, all, each)

pub what_is_left_is_short : LeftIsShort
what_is_left_is_short world clients log replies left within =
    log_is_short clients log within left.known
    (λ c steps at. let own = get_some replies c (omega (arith, left.all, slice_get_within clients c steps at)) in few_finish (versions_of world) world c steps log own.0 (left.each c steps own.0 at own.1))
