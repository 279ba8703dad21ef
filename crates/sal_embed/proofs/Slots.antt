-- What waits for a client: by its slots alone, and by its state in the play.
use Rattle.std.proofs.Common.{◌≡◌, ℕ, zero, suc, ◌<◌, ◌≤◌, Bool, true, false, List, [], ◌∷◌, length, Option, None, Some, refl, ap, sym, ◌∙◌, subst, arith}
use Rattle.std.specs.Prelude.{MatchOption, ⊤, not, slice_get}
use Rattle.std.specs.Option.{is_some, option_map, option_map_or}
use Rattle.sal_history.specs.declared.call.Call.TheVariants as called
use Rattle.sal_history.specs.declared.call.Entry.{Entry}
use Rattle.sal_script.specs.declared.reply.StepReply.{StepReply}
use Rattle.sal_script.specs.Along.{IsAt, new_run}
use Rattle.sal_script.specs.Moves.{Move, Collect, NextCall, Take, TakeNotes}
use Rattle.sal_script.specs.Play.{Client, Listener, ask, new_client, take_batch}
use Rattle.sal_script.specs.Services.{collect}
use Rattle.sal_script.specs.Tables.{versions_of}
use Rattle.sal_script.proofs.Along.{at_others, at_start}
use Rattle.sal_hub.specs.HubHistory.{HubHistory}
use Rattle.sal_hub.specs.Waiting.{would_give}
use Rattle.sal_client.specs.declared.run.ClientRun.{ClientRun}
use Rattle.sal_client.specs.Clients.{client_of}
use Rattle.sal_embed.specs.declared.caller.Caller.{Caller}
use Rattle.sal_embed.specs.declared.clients.Clients.{Clients}
use Rattle.sal_embed.specs.declared.waiting.Waiting.{Waiting}
use Rattle.sal_embed.specs.Broker.{answering}
use Rattle.sal_embed.specs.Scripts.{Programs, Replies}
use Rattle.sal_embed.specs.Waiting.{Waits, WaitsUnless, gives_in, is_decided, nothing, step_gives, waiting, waiting_for}
use Rattle.sal_embed.proofs.Script.{none_in}

-- ---- by the slots

module _ (known : HubHistory) (c : ℕ) (client : Client) where
  -- the call of a collect
  pub by_request : (id : Option ℕ) → gives_in known c (ask (collect id) client) ≡ option_map_or (λ n. would_give known c (called.Collect n)) id false
  by_request None = refl
  by_request (Some n) = refl

  -- and of a take
  pub by_listener : (listener : Option Listener) → gives_in known c (take_batch client listener) ≡ option_map_or (λ (l : Listener). would_give known c (called.Take l.id)) listener false
  by_listener None = refl
  by_listener (Some l) = refl

module _ (known : HubHistory) (c : ℕ) (rs : List StepReply) (client : Client) (slot : ℕ) where
  abbrev shown : Bool → Bool → Waiting
  shown answer changes = record {
    request = would_give known c called.NextCall;
    notes = would_give known c called.TakeNotes;
    answer = answer;
    decided = option_map_or (is_decided known) (client.receipts slot) false;
    changes = changes;
  }

  -- the replies do not matter
  pub same_waiting : waiting known c (answering rs client) slot ≡ waiting known c client slot
  same_waiting =
      let answer : step_gives known c (answering rs client) (Collect slot) ≡ step_gives known c client (Collect slot) = by_request known c (answering rs client) (client.invoked slot) ∙ sym (by_request known c client (client.invoked slot)) in
      let changes : step_gives known c (answering rs client) (Take slot) ≡ step_gives known c client (Take slot) = by_listener known c (answering rs client) (client.listeners slot) ∙ sym (by_listener known c client (client.listeners slot)) in
      ap (λ (b : Bool). shown b (step_gives known c (answering rs client) (Take slot))) answer ∙ ap (λ (b : Bool). shown (step_gives known c client (Collect slot)) b) changes

-- by its bits
pub bit_by_bit : (r n a d g : Bool) (it : Waiting) → r ≡ it.request → n ≡ it.notes → a ≡ it.answer → d ≡ it.decided → g ≡ it.changes
    → (let made : Waiting = record { request = r; notes = n; answer = a; decided = d; changes = g } in made) ≡ it
bit_by_bit r n a d g it request notes answer decided changes = λ i. record { request = request i; notes = notes i; answer = answer i; decided = decided i; changes = changes i }

-- ---- by the play

none_beyond : {X : Type 0} (xs : List X) (i : ℕ) → length xs ≤ i → slice_get xs i ≡ None
none_beyond [] zero out = refl
none_beyond [] (suc i) out = refl
none_beyond (x ∷ xs) zero out = absurd (omega arith)
none_beyond (x ∷ xs) (suc i) out = none_beyond xs i (omega arith)

abbrev lost_at : Option Caller → Bool
lost_at found = option_map_or (λ (caller : Caller). not (is_some caller.run)) found false

abbrev slots_of : Client → Option ClientRun → Type 0
slots_of client run = MatchOption run ⊤ (λ (it : ClientRun). client ≡ answering client.replies (client_of it.client))

module _ (it : Clients) (c slot : ℕ) (result : Waiting) where
  by_run : (caller : Caller) → slice_get it.callers.items c ≡ Some caller → caller.number ≡ c → (run : Option ClientRun) → caller.run ≡ run
      → result ≡ option_map_or (λ (r : ClientRun). waiting it.hub caller.number (client_of r.client) slot) run nothing → WaitsUnless (not (is_some run)) it c slot result
  by_run caller at number None e is = is
  by_run caller at number (Some run) e is = λ programs replies was.
      let stands = was.stands c caller at in
      let client = stands.through.client in
      let slots : client ≡ answering client.replies (client_of run.client) = subst (slots_of client) e stands.keeps.slots in
      (stands.through, is ∙ ap (λ (n : ℕ). waiting it.hub n (client_of run.client) slot) number ∙ sym (same_waiting it.hub c client.replies (client_of run.client) slot) ∙ ap (λ (k : Client). waiting it.hub c k slot) (sym slots))

  -- a client that is kept
  pub waits_for : (caller : Caller) → slice_get it.callers.items c ≡ Some caller → caller.number ≡ c → result ≡ waiting_for it.hub caller slot → Waits it c slot result
  waits_for caller at number is = subst (λ (found : Option Caller). WaitsUnless (lost_at found) it c slot result) (sym at) (by_run caller at number caller.run refl is)

  -- one that has made no step
  pub waits_before : length it.callers.items ≤ c → result ≡ waiting it.hub c new_client slot → Waits it c slot result
  waits_before out is = subst (λ (found : Option Caller). WaitsUnless (lost_at found) it c slot result) (sym (none_beyond it.callers.items c out)) (λ programs replies was.
      let none = was.beyond c out in
      let other : (i : ℕ) (e : Entry) → slice_get it.hub.log i ≡ Some e → e.client ≡ c → ⊥ = λ i e found own. let placed = was.placed i e found in omega (arith, placed, own, out) in
      let tables = versions_of it.hub.world in (
        record {
          client = new_client;
          at = subst (λ (steps : List Move). IsAt tables it.hub.world c steps it.hub.log (record { client = new_client; steps = [] })) (sym none.0)
              (at_others tables it.hub.world c [] it.hub.log [] (new_run []) (none_in it.hub.log c other) (at_start tables it.hub.world c []));
          replies = sym none.1;
        },
        is,
      ))
