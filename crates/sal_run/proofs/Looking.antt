-- The looks of a client, turn by turn.
use Rattle.std.proofs.Common.{◌≡◌, ◌⊎◌, ⊎_elim, ℕ, ◌+◌, ◌*◌, ◌≤◌, Bool, true, false, List, [], ◌∷◌, ◌++◌, length, Option, None, Some, if◌then◌else◌, suc, refl, ap, sym, ◌∙◌, subst, arith, append-nil, append_assoc, true≢false, flat_map}
use Rattle.std.specs.Prelude.{nat_eq, unwrap_or, ◌&&◌}
use Rattle.std.proofs.lemmas.Bool.{and_parts, eq-eqb}
use Rattle.std.proofs.lemmas.Grind.{flat_map-append}
use Rattle.std.proofs.lemmas.List.Sums.{fold-append, length-filter, sum_by-cons}
use Rattle.std.proofs.lemmas.Option.{same_Some}
use mathlib.Core.List.{IsPrefix}
use Rattle.sal_history.specs.declared.call.Call.{Call}
use Rattle.sal_history.specs.declared.call.Call.TheVariants as called
use Rattle.sal_history.specs.declared.call.Entry.{Entry}
use Rattle.sal_history.specs.declared.reply.Reply.{Reply}
use Rattle.sal_history.specs.declared.reply.Reply.TheVariants.{Found, Late}
use Rattle.sal_history.specs.World.{Domain}
use Rattle.sal_history.specs.History.{Answered, answer as answer_more, answered_as, entries_of, history, is_marked, reply}
use Rattle.sal_turn.specs.Entries.{entries_by}
use Rattle.sal_turn.specs.Seats.{TableId}
use Rattle.sal_turn.specs.Views.{SameRights}
use Rattle.sal_broker.specs.Seats.{Holding, SeatView, client_of as maker_of, known}
use Rattle.sal_broker.specs.Turns.{TurnOf}
use Rattle.sal_hub.specs.HubHistory.{HubHistory, more}
use Rattle.sal_hub.specs.Marks.{has_mark}
use Rattle.sal_hub.proofs.Histories.{marked}
use Rattle.sal_script.specs.declared.reply.StepReply.{StepReply}
use Rattle.sal_script.specs.declared.script.ScriptStep.{ScriptStep}
use Rattle.sal_script.specs.Moves.{Move, Pump, moves_of}
use Rattle.sal_script.specs.Orders.{Exchange, Kind, exchange_by, exchanges_in, exchanges_of, kind_of_call, kind_of_step, looks_after}
use Rattle.sal_script.specs.Play.{Arrival, Client, Made, Run, arrive, calls, ended, go, make}
use Rattle.sal_script.specs.Tables.{Versions}
use Rattle.sal_script.proofs.Arriving.{Reaches, exchanges-other, reaches}
use Rattle.sal_client.specs.declared.mounts.MountWish.{MountWish}
use Rattle.sal_client.specs.declared.mounts.MountWish.TheVariants as mounts
use Rattle.sal_client.specs.declared.notes.NoteWish.{NoteWish}
use Rattle.sal_client.specs.declared.notes.NoteWish.TheVariants as notes
use Rattle.sal_client.specs.declared.rpcs.RpcWish.{RpcWish}
use Rattle.sal_client.specs.declared.rpcs.RpcWish.TheVariants as rpcs
use Rattle.sal_client.specs.declared.run.ClientRun.{ClientRun as CodeRun}
use Rattle.sal_client.specs.declared.wish.Wish.{Wish}
use Rattle.sal_client.specs.declared.wish.Wish.TheVariants.{Begin, Submit, Cancel, Settle, OpenChain, ChainBegin, CloseChain, Pump as PumpWish, Listen, Take, Unlisten, Rpc, Note, Mount, Mark, After, Upgrade}
use Rattle.sal_client.specs.Clients.{client_of}
use Rattle.sal_client.specs.Runs.{MakesNext, asking, replies_in}
use Rattle.sal_client.specs.Wishes.{GrowsBy, move_by}
use Rattle.sal_run.specs.Looked.{Looked, LooksFor, is_late, is_late_look, is_look, late_in, late_looks}
use Rattle.sal_run.specs.Stands.{Enters, HasEnded, Stands}
use Rattle.sal_run.proofs.Answered.{answered_at}
use Rattle.sal_run.proofs.Going.{none_behind}

same_le : (turns late : ℕ) → turns + 4194304 * late ≤ turns + 4194304 * late
same_le turns late = omega arith

then_le : (a b c x y z : ℕ) → a + 4194304 * y ≤ b + 4194304 * x → b + 4194304 * z ≤ c + 4194304 * y → a + 4194304 * z ≤ c + 4194304 * x
then_le a b c x y z first second = omega (arith, first, second)

none_more : (before there behind was is : ℕ) → is ≡ was + 0 → before ≤ there → behind ≡ there + 1 → before + 4194304 * is ≤ behind + 4194304 * was
none_more before there behind was is same fewer turn = omega (arith, same, fewer, turn)

one_more : (before there behind was is : ℕ) → is ≡ was + 1 → there + 1 ≡ before + 4194304 → behind ≡ there + 1 → before + 4194304 * is ≤ behind + 4194304 * was
one_more before there behind was is more all turn = omega (arith, more, all, turn)

from_none : (before behind count was is : ℕ) → count ≡ is → was ≡ 0 → before + 4194304 * is ≤ behind + 4194304 * was → before + 4194304 * count ≤ behind
from_none before behind count was is same none looked = omega (arith, same, none, looked)

pub looked_same : (v : SeatView) → Looked v v
looked_same v = same_le v.turns (late_in v)

pub looked_on : (u v w : SeatView) → Looked u v → Looked v w → Looked u w
looked_on u v w first second = then_le u.turns v.turns w.turns (late_in u) (late_in v) (late_in w) first second

-- ---- the calls of a client in a longer log

at_end : (a b : ℕ) → a ≡ b → a + 0 ≡ 0 + b
at_end a b is = omega (arith, is)

regroup : (a l b : ℕ) → a + (l + b) ≡ (a + l) + b
regroup a l b = omega arith

late_push : (xs : List Exchange) (x : Exchange) (b : Bool) → is_late_look x ≡ b → late_looks (xs ++ x ∷ []) ≡ late_looks xs + (if b then 1 else 0)
late_push [] x b is = at_end (if is_late_look x then 1 else 0) (if b then 1 else 0) (ap (λ (late : Bool). let n : ℕ = if late then 1 else 0 in n) is)
late_push (y ∷ xs) x b is =
    ap (λ (n : ℕ). (let one : ℕ = if is_late_look y then 1 else 0 in one) + n) (late_push xs x b is)
    ∙ regroup (if is_late_look y then 1 else 0) (late_looks xs) (if b then 1 else 0)

module _ (world : List Domain) (c : ℕ) where
  same_behind : (rest log : List Entry) → entries_of rest c ≡ 0 → exchanges_in world (log ++ rest) c ≡ exchanges_in world log c
  same_behind [] log none = ap (λ (l : List Entry). exchanges_in world l c) (append-nil log)
  same_behind (e ∷ rest) log none =
      ap (λ (l : List Entry). exchanges_in world l c) (sym (append_assoc log (e ∷ []) rest))
      ∙ first (nat_eq e.client c) refl (sym (sum_by-cons (λ (x : Entry). if nat_eq x.client c then 1 else 0) e rest) ∙ none) (λ none'. same_behind rest (log ++ e ∷ []) none')
    where
      first : (own : Bool) → nat_eq e.client c ≡ own → (if own then 1 else 0) + entries_of rest c ≡ 0
          → (entries_of rest c ≡ 0 → exchanges_in world ((log ++ e ∷ []) ++ rest) c ≡ exchanges_in world (log ++ e ∷ []) c) → exchanges_in world ((log ++ e ∷ []) ++ rest) c ≡ exchanges_in world log c
      first true is none' more = absurd (omega (arith, none'))
      first false is none' more = more (omega (arith, none')) ∙ exchanges-other world log e c (λ own. true≢false (sym (eq-eqb e.client c own) ∙ is))

  abbrev exchange : List Entry → Entry → Exchange
  exchange log e = record { kind = Some (kind_of_call e.call); reply = reply world log e }

  one_own : (log : List Entry) (e : Entry) → e.client ≡ c → exchanges_in world (log ++ e ∷ []) c ≡ exchanges_in world log c ++ exchange log e ∷ []
  one_own log e own =
      ap (flat_map (exchange_by c)) (fold-append (answer_more world) [] log (e ∷ []))
      ∙ flat_map-append (exchange_by c) (history world log) (answered_as world (history world log) e (reply world log e) ∷ [])
      ∙ ap (λ (es : List Exchange). exchanges_in world log c ++ es) (append-nil (exchange_by c (answered_as world (history world log) e (reply world log e))))
      ∙ ap (λ (is : Bool). exchanges_in world log c ++ (let es : List Exchange = if is then exchange log e ∷ [] else [] in es)) (eq-eqb e.client c own)

-- ---- the call of a step

abbrev log_in : Option Made → List Entry
log_in None = []
log_in (Some m) = m.log

abbrev steps_in : Option Made → List Move
steps_in None = []
steps_in (Some m) = m.run.steps

abbrev last_or : Move → List Move → Move
last_or d [] = d
last_or d (x ∷ xs) = last_or x xs

last_push : (xs : List Move) (d x : Move) → last_or d (xs ++ x ∷ []) ≡ x
last_push [] d x = refl
last_push (y ∷ xs) d x = last_push xs y x

-- one step for each reply
abbrev steps_for : List StepReply → List Move
steps_for [] = []
steps_for (r ∷ rs) = Pump ∷ steps_for rs

as_many : (rs : List StepReply) → length rs ≡ length (steps_for rs)
as_many [] = refl
as_many (r ∷ rs) = ap suc (as_many rs)

record IsMadeBy (c : ℕ) (step : Move) (log left : List Entry) : Type 0 where
  pub call : Call
  pub kind : kind_of_step step ≡ Some (kind_of_call call)
  pub grown : left ≡ log ++ (let e : Entry = record { client = c; number = entries_of log c; call = call } in e) ∷ []

module _ (tables : List Versions) (world : List Domain) (log : List Entry) (c : ℕ) (step : Move) where
  by_arrival : (done : List Move) (es : List Exchange) (a : Arrival) (made : Made) → Reaches (done ++ step ∷ []) es a → make tables world log c a ≡ Some made → made.run.steps ≡ [] → IsMadeBy c step log made.log
  by_arrival done es (ended client) made reached is none = cc
  by_arrival done es (calls call s run) made (before, parts, long, so_far, kind) is none =
      let no_more : run.steps ≡ [] = ap steps_in is ∙ none in
      let same : step ≡ s = sym (last_push done step step) ∙ ap (last_or step) (parts ∙ (λ k. before ++ s ∷ no_more k)) ∙ last_push before step s in
      record { call = call; kind = ap kind_of_step same ∙ kind; grown = sym (ap log_in is) }

  made_by : (client : Client) (made : Made) → go tables world log c (record { client = client; steps = step ∷ [] }) ≡ Some made → made.run.steps ≡ [] → IsMadeBy c step log made.log
  made_by client made is none =
      let done = steps_for client.replies in
      by_arrival done (exchanges_of done client.replies) (arrive tables world log client (step ∷ [])) made
      (reaches tables world log (step ∷ []) done client (exchanges_of done client.replies) (as_many client.replies) refl) is none

-- ---- looks among calls and wishes

look_call : (call : Call) → is_look (Some (kind_of_call call)) ≡ true → (mark : ℕ) × (call ≡ called.After mark)
look_call (called.Begin domain mode) is = cc
look_call (called.Submit place ops) is = cc
look_call (called.Cancel place) is = cc
look_call (called.Settle receipt) is = cc
look_call (called.OpenChain domain) is = cc
look_call (called.ChainBegin chain mode) is = cc
look_call (called.CloseChain chain) is = cc
look_call called.Pump is = cc
look_call (called.Listen domain store path) is = cc
look_call (called.Take id) is = cc
look_call (called.Unlisten id) is = cc
look_call (called.Provide rpc context) is = cc
look_call (called.Withdraw rpc context) is = cc
look_call (called.Invoke rpc context input) is = cc
look_call called.NextCall is = cc
look_call (called.Answer id output) is = cc
look_call (called.Collect id) is = cc
look_call (called.Subscribe note) is = cc
look_call (called.Offer note rows) is = cc
look_call called.TakeNotes is = cc
look_call (called.Mount path device) is = cc
look_call (called.Unmount domain) is = cc
look_call (called.MountAt path) is = cc
look_call (called.Mark mark) is = cc
look_call (called.After mark) is = (mark, refl)
look_call (called.Upgrade version) is = cc

-- a turn for a call that is a look is one for a look for its mark
abbrev mark_of : Option Kind → ℕ
mark_of (Some (looks_after mark)) = mark
mark_of kind = 0

module _ (v : SeatView) (h : Holding) where
  abbrev IsForMark : ℕ → Type 0
  IsForMark mark = (has_mark h.found.log mark ≡ true) ⊎ (h.view.turns + 1 ≡ v.turns + 4194304)

  look_wish : (wish : Wish) (mark : ℕ) → kind_of_step (move_by wish) ≡ Some (looks_after mark) → LooksFor wish v h → IsForMark mark
  look_wish (After m) mark is turned = subst IsForMark (ap mark_of is) turned.2
  look_wish (Begin slot domain mode) mark is turned = cc
  look_wish (Submit slot) mark is turned = cc
  look_wish (Cancel slot) mark is turned = cc
  look_wish (Settle slot) mark is turned = cc
  look_wish (OpenChain chain domain) mark is turned = cc
  look_wish (ChainBegin chain slot mode) mark is turned = cc
  look_wish (CloseChain chain) mark is turned = cc
  look_wish PumpWish mark is turned = cc
  look_wish (Listen slot target) mark is turned = cc
  look_wish (Take slot) mark is turned = cc
  look_wish (Unlisten slot) mark is turned = cc
  look_wish (Mark m) mark is turned = cc
  look_wish (Upgrade version) mark is turned = cc
  look_wish (Rpc (rpcs.Provide service)) mark is turned = cc
  look_wish (Rpc (rpcs.Withdraw service)) mark is turned = cc
  look_wish (Rpc (rpcs.Invoke slot ask)) mark is turned = cc
  look_wish (Rpc (rpcs.NextCall slot)) mark is turned = cc
  look_wish (Rpc (rpcs.Answer slot answer)) mark is turned = cc
  look_wish (Rpc (rpcs.Collect slot)) mark is turned = cc
  look_wish (Note (notes.Subscribe name note)) mark is turned = cc
  look_wish (Note (notes.Offer name value note rows)) mark is turned = cc
  look_wish (Note notes.TakeNotes) mark is turned = cc
  look_wish (Mount (mounts.Mount device text path)) mark is turned = cc
  look_wish (Mount (mounts.Unmount domain)) mark is turned = cc
  look_wish (Mount (mounts.MountAt text path)) mark is turned = cc

  same_or_more : h.view.turns ≡ v.turns → v.turns ≤ h.view.turns
  same_or_more same = omega (arith, same)

  no_fewer : (wish : Wish) → LooksFor wish v h → v.turns ≤ h.view.turns
  no_fewer (After m) turned = turned.0
  no_fewer (Begin slot domain mode) turned = same_or_more turned
  no_fewer (Submit slot) turned = same_or_more turned
  no_fewer (Cancel slot) turned = same_or_more turned
  no_fewer (Settle slot) turned = same_or_more turned
  no_fewer (OpenChain chain domain) turned = same_or_more turned
  no_fewer (ChainBegin chain slot mode) turned = same_or_more turned
  no_fewer (CloseChain chain) turned = same_or_more turned
  no_fewer PumpWish turned = same_or_more turned
  no_fewer (Listen slot target) turned = same_or_more turned
  no_fewer (Take slot) turned = same_or_more turned
  no_fewer (Unlisten slot) turned = same_or_more turned
  no_fewer (Mark m) turned = same_or_more turned
  no_fewer (Upgrade version) turned = same_or_more turned
  no_fewer (Rpc service) turned = same_or_more turned
  no_fewer (Note service) turned = same_or_more turned
  no_fewer (Mount service) turned = same_or_more turned

late_mark : (b : Bool) → is_late (if b then Found else Late) ≡ true → b ≡ false
late_mark true is = cc
late_mark false is = refl

-- ---- a turn in which a call was made

module _ (tables : List Versions) (steps : List ScriptStep) (lock : TableId) (v w : SeatView) (h : Holding) (left : HubHistory) (wish : Wish) (old : CodeRun) (now : Run) (new : Client)
    (enters : Enters lock v h) (turned : LooksFor wish v h) (rights : SameRights h.view w) (turns : w.turns ≡ h.view.turns + 1) (turn : TurnOf h.view h.view.number h.found left w)
    (was : Stands tables steps v old now) (makes : MakesNext tables v.number h.found wish (client_of old.client) left new) where
  abbrev c : ℕ
  c = v.number

  abbrev world : List Domain
  world = h.found.world

  abbrev log : List Entry
  log = h.found.log

  by_client : IsMadeBy c (move_by wish) log left.log
  by_client = made_by tables world log c (move_by wish) (client_of old.client) (record { log = left.log; run = record { client = new; steps = [] } }) (makes.0 []) refl

  grown : GrowsBy c h.found left
  grown = makes.1

  abbrev entry : Entry
  entry = record { client = c; number = entries_of log c; call = by_client.call }

  -- the log seen before has the client's calls that its turn found
  before : exchanges_in (known v).world v.seen c ≡ exchanges_in world log c
  before =
      ap (λ (o : Option (List Domain)). exchanges_in (unwrap_or o []) v.seen c) enters.world
      ∙ sym (same_behind world c enters.seen.0 v.seen (none_behind c v.seen log v.own enters.seen was.whole enters.mine))
      ∙ ap (λ (l : List Entry). exchanges_in world l c) enters.seen.1

  -- and one more after it
  behind : exchanges_in (known w).world w.seen w.number ≡ exchanges_in world log c ++ exchange world c log entry ∷ []
  behind =
      (λ k. exchanges_in (turn.now k).world (turn.now k).log ((rights.0 ∙ enters.rights.0) k))
      ∙ (λ k. exchanges_in (grown.2 k).world (by_client.grown k) c)
      ∙ one_own world c log entry refl

  counted : (b : Bool) → is_late_look (exchange world c log entry) ≡ b → late_in w ≡ late_in v + (if b then 1 else 0)
  counted b is = ap late_looks behind ∙ late_push (exchanges_in world log c) (exchange world c log entry) b is ∙ ap (λ (es : List Exchange). late_looks es + (let n : ℕ = if b then 1 else 0 in n)) (sym before)

  by : (b : Bool) → is_late_look (exchange world c log entry) ≡ b → Looked v w
  by false is = none_more v.turns h.view.turns w.turns (late_in v) (late_in w) (counted false is) (no_fewer v h wish turned) turns
  by true is =
      let parts = and_parts (is_look (Some (kind_of_call by_client.call))) (is_late (reply world log entry)) is in
      let look = look_call by_client.call parts.0 in
      let kind : kind_of_step (move_by wish) ≡ Some (looks_after look.0) = by_client.kind ∙ ap (λ (call : Call). Some (kind_of_call call)) look.1 in
      let late : is_late (if is_marked (history world log) look.0 then Found else Late) ≡ true =
      subst (λ (call : Call). is_late (reply world log (record { client = c; number = entries_of log c; call = call })) ≡ true) look.1 parts.1 in
      let no_mark : has_mark log look.0 ≡ false = sym (marked world log look.0) ∙ late_mark (is_marked (history world log) look.0) late in
      ⊎_elim
      (λ (has : has_mark log look.0 ≡ true). absurd (true≢false (sym has ∙ no_mark)))
      (λ (all : h.view.turns + 1 ≡ v.turns + 4194304). one_more v.turns h.view.turns w.turns (late_in v) (late_in w) (counted true is) all turns)
      (look_wish v h wish look.0 kind turned)

  pub looked_once : Looked v w
  looked_once = by (is_late_look (exchange world c log entry)) refl

-- ---- at the beginning and at the end

pub none_late : (v : SeatView) → entries_by maker_of v.number v.seen ≡ [] → late_in v ≡ 0
none_late v none = ap late_looks (same_behind (known v).world v.number v.seen [] (sym (length-filter (λ (e : Entry). nat_eq e.client v.number) v.seen) ∙ ap length none))

moves_long : (steps : List ScriptStep) → length (moves_of steps) ≡ length steps
moves_long [] = refl
moves_long (step ∷ steps) = ap suc (moves_long steps)

pub all_replied : (tables : List Versions) (steps : List ScriptStep) (w : SeatView) (r : CodeRun) → HasEnded tables steps w r → length (replies_in r) ≡ length steps
all_replied tables steps w r at_its_end = (answered_at tables (known w).world w.number (moves_of steps) w.seen (client_of r.client) at_its_end.at).answered ∙ moves_long steps

pub all_looked : (tables : List Versions) (steps : List ScriptStep) (v w : SeatView) (r : CodeRun) → late_in v ≡ 0 → HasEnded tables steps w r → Looked v w → v.turns + 4194304 * late_looks (exchanges_of (moves_of steps) (replies_in r)) ≤ w.turns
all_looked tables steps v w r none at_its_end looked =
    from_none v.turns w.turns (late_looks (exchanges_of (moves_of steps) (replies_in r))) (late_in v) (late_in w)
    (ap late_looks (answered_at tables (known w).world w.number (moves_of steps) w.seen (client_of r.client) at_its_end.at).called) none looked
