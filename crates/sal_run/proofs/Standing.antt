-- The client of a seat, through its turns.
use Rattle.std.proofs.Common.{◌≡◌, ◌⊎◌, ⊎_elim, inl, inr, ℕ, ◌+◌, ◌<◌, ◌≤◌, List, [], ◌∷◌, ◌++◌, Bool, length, drop, Option, refl, ap, sym, ◌∙◌, subst, arith, append-nil, length-append}
use Rattle.std.specs.Prelude.{nat_eq, unwrap_or, cond}
use Rattle.std.specs.List.{filter}
use Rattle.std.proofs.lemmas.Bool.{eq-eqb}
use Rattle.std.proofs.lemmas.List.Elements.{filter-append}
use Rattle.sal_history.specs.declared.call.Entry.{Entry}
use Rattle.sal_history.specs.World.{Domain}
use Rattle.sal_turn.specs.Entries.{entries_by}
use Rattle.sal_turn.specs.Seats.{TableId}
use Rattle.sal_turn.specs.Views.{SameRights}
use Rattle.sal_broker.specs.Seats.{Holding, SeatView, client_of as maker_of, known}
use Rattle.sal_broker.specs.Turns.{OneMoreAtMost, TurnOf}
use Rattle.sal_hub.specs.HubHistory.{HubHistory, more}
use Rattle.sal_script.specs.declared.script.ScriptStep.{ScriptStep}
use Rattle.sal_script.specs.Play.{Run}
use Rattle.sal_script.specs.Tables.{Versions}
use Rattle.sal_client.specs.declared.run.ClientRun.{ClientRun as CodeRun}
use Rattle.sal_client.specs.declared.wish.Wish.{Wish}
use Rattle.sal_client.specs.Clients.{IsSound, client_of}
use Rattle.sal_client.specs.Runs.{MakesNext, asking, run_of}
use Rattle.sal_client.specs.Wishes.{GrowsAtMost, GrowsBy}
use Rattle.sal_client.proofs.Soundness.{TokensLast}
use Rattle.sal_run.specs.Stands.{Enters, Stands, StandsIn}
use Rattle.sal_run.proofs.Going.{stands_found, stands_made}

-- the entry that a turn may add has the seat's number
pub one_more : (v : SeatView) (n : ℕ) (found hub left : HubHistory) → n ≡ v.number → hub ≡ found → GrowsAtMost n hub left → OneMoreAtMost v found left
one_more v n found hub left same start grows = ⊎_elim
    (λ (h : left ≡ hub). let o : OneMoreAtMost v found left = inl (h ∙ start) in o)
    (λ (h : GrowsBy n hub left). let o : OneMoreAtMost v found left = inr (h.0, h.1 ∙ same, h.2 ∙ ap (λ (k : HubHistory). more k h.0) start) in o)
    grows

-- the entries after those of a list
pub behind : {X : Type 0} (xs ys : List X) → drop (length xs) (xs ++ ys) ≡ ys
behind [] ys = refl
behind (x ∷ xs) ys = behind xs ys

-- the own entries, after one more
mine_more : (c : ℕ) (log own : List Entry) (e : Entry) → e.client ≡ c → entries_by maker_of c log ≡ own → entries_by maker_of c (log ++ e ∷ []) ≡ own ++ e ∷ []
mine_more c log own e is was =
    filter-append (λ (x : Entry). nat_eq x.client c) log (e ∷ [])
    ∙ (λ k. was k ++ one k)
  where
    one : filter (λ (x : Entry). nat_eq x.client c) (e ∷ []) ≡ e ∷ []
    one = ap (λ (b : Bool). let kept : List Entry = cond b (e ∷ []) [] in kept) (eq-eqb e.client c is)

-- the own entries are at most one more
pub few_more : (v w : SeatView) (client : ℕ) (found left : HubHistory) → OneMoreAtMost v found left → TurnOf v client found left w → length w.own ≤ length v.own + 1
few_more v w client found left added turn =
    let own : length w.own ≡ length v.own + length (drop (length found.log) left.log) = ap length turn.own ∙ length-append v.own (drop (length found.log) left.log) in
    ⊎_elim
    (λ (h : left ≡ found). let none = nothing (h) in omega (arith, own, none))
    (λ (h : (e : Entry) × (e.client ≡ v.number) × (left ≡ more found e)). let one = something h.0 h.2 in omega (arith, own, one))
    added
  where
    nothing : left ≡ found → length (drop (length found.log) left.log) ≡ 0
    nothing h = ap (λ (k : HubHistory). length (drop (length found.log) k.log)) h ∙ ap (λ (l : List Entry). length (drop (length found.log) l)) (sym (append-nil found.log)) ∙ ap length (behind found.log (let none : List Entry = [] in none))

    something : (e : Entry) → left ≡ more found e → length (drop (length found.log) left.log) ≡ 1
    something e h = ap (λ (k : HubHistory). length (drop (length found.log) k.log)) h ∙ ap length (behind found.log (e ∷ []))

-- after a turn with a call, the own entries are fewer than the answered steps, including the call's
pub few_left : (lock : TableId) (v w : SeatView) (h : Holding) (n at : ℕ) (hub left : HubHistory) → Enters lock v h → n ≡ v.number → hub ≡ h.hub → GrowsAtMost n hub left → TurnOf h.view h.view.number h.found left w → length v.own < at → length w.own ≤ at
few_left lock v w h n at hub left enters number same grows turn room =
    let more = one_more h.view n h.found hub left (number ∙ sym enters.rights.0) (same ∙ enters.hub) grows in
    let few = few_more h.view w h.view.number h.found left more turn in
    let own = ap length enters.own in
    omega (arith, few, own, room)

module _ (lasts : TokensLast) (tables : List Versions) (steps : List ScriptStep) (v : SeatView) where
  -- the turn's hub, for the client
  pub found_stands : (lock : TableId) (h : Holding) (r : CodeRun) (now : Run) → Enters lock v h → Stands tables steps v r now → StandsIn tables steps v.number h.found v.own r now
  found_stands lock h r now enters was =
      stands_found lasts tables steps v.number (known v) h.found v.own r now (ap (λ (g : Option (List Domain)). unwrap_or g []) enters.world) enters.seen enters.mine was

  -- after a turn in which the client made its call
  pub left_stands : (lock : TableId) (h : Holding) (left : HubHistory) (w : SeatView) (wish : Wish) (old new : CodeRun) → Enters lock v h → SameRights h.view w → TurnOf h.view h.view.number h.found left w
      → MakesNext tables old.client.number h.hub wish (client_of old.client) left (client_of new.client) → IsSound left new.client → new.at ≡ old.at → new.client.number ≡ old.client.number
      → Stands tables steps v old (asking wish steps old) → Stands tables steps w new (run_of steps new)
  left_stands lock h left w wish old new enters rights turn makes sound at number was =
      let found = found_stands lock h old (asking wish steps old) enters was in
      let makes' : MakesNext tables v.number h.found wish (client_of old.client) left (client_of new.client) =
      subst (λ (k : HubHistory). MakesNext tables v.number k wish (client_of old.client) left (client_of new.client)) enters.hub
      (subst (λ (n : ℕ). MakesNext tables n h.hub wish (client_of old.client) left (client_of new.client)) was.number makes) in
      let grown = makes'.1 in
      let e : Entry = grown.0 in
      let own' : w.own ≡ v.own ++ e ∷ [] =
      turn.own ∙ (λ k. enters.own k ++ drop (length h.found.log) (grown.2 k).log) ∙ ap (λ (l : List Entry). v.own ++ l) (behind h.found.log (e ∷ [])) in
      let mine : entries_by maker_of v.number left.log ≡ v.own ++ e ∷ [] =
      ap (λ (k : HubHistory). entries_by maker_of v.number k.log) grown.2 ∙ mine_more v.number h.found.log v.own e grown.1 enters.mine in
      let same : left.world ≡ h.found.world = ap (λ (k : HubHistory). k.world) grown.2 in
      let made = stands_made lasts tables steps v.number h.found left v.own (v.own ++ e ∷ []) wish old new same makes' sound at number mine found in
      subst (λ (n : ℕ). StandsIn tables steps n (known w) w.own new (run_of steps new)) (sym (rights.0 ∙ enters.rights.0))
      (subst (λ (k : HubHistory). StandsIn tables steps v.number k w.own new (run_of steps new)) (sym turn.now)
      (subst (λ (own : List Entry). StandsIn tables steps v.number left own new (run_of steps new)) (sym own') made))
