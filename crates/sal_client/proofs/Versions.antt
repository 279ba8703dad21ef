-- Which entries move the version of a listener: those of its own client that take from it, and no other.
use Rattle.std.proofs.Common.{◌≡◌, ℕ, ◌+◌, ◌<◌, Bool, true, false, List, [], ◌∷◌, ◌++◌, length, Option, None, Some, if◌then◌else◌, refl, ap, sym, ◌∙◌, arith}
use Rattle.std.specs.Prelude.{not, ◌&&◌, nat_eq, unwrap_or}
use Rattle.std.specs.Option.{option_map_or}
use Rattle.std.proofs.lemmas.Bool.{and_parts, eqb-true, ne_eqb}
use Rattle.sal_types.specs.declared.value.Store.{Store}
use Rattle.sal_types.specs.declared.value.Step.{Step}
use Rattle.sal_rows.specs.declared.outcome.CallFault.{CallFault}
use Rattle.sal_rows.specs.declared.outcome.CallFault.TheVariants.{NoListener}
use Rattle.sal_history.specs.declared.call.Call.{Call}
use Rattle.sal_history.specs.declared.call.Call.TheVariants.{Upgrade, After, Answer, Begin, Cancel, ChainBegin, CloseChain, Collect, Invoke, Listen, Mark, Mount, MountAt, NextCall, Offer, OpenChain, Provide, Pump, Settle, Submit, Subscribe, Take, TakeNotes, Unlisten, Unmount, Withdraw}
use Rattle.sal_history.specs.declared.call.Entry.{Entry}
use Rattle.sal_history.specs.declared.reply.Reply.TheVariants.{Refused}
use Rattle.sal_history.specs.Listeners.{Listening, brings_to, has_listener, is_removed, listener_at, listeners, version}
use Rattle.sal_history.specs.World.{Domain}
use Rattle.sal_history.specs.History.{Answered, batch_of, commits, history, listen_refusal, listening, refused_or, reply_to, taken}
use Rattle.sal_history.proofs.Numbered.{numbered-within}
use Rattle.sal_hub.proofs.Listened.{version-push}

module _ (world : List Domain) (log : List Entry) (e : Entry) (id : ℕ) (l : Listening) (made : listener_at (history world log) id ≡ Some l) (other : e.client ≡ l.client → e.call ≡ Take id → ⊥) where
  abbrev so_far : List Answered
  so_far = history world log

  -- a new listener has a number of its own
  not_new : nat_eq (length (listeners so_far) + 1) id ≡ false
  not_new = ne_eqb (length (listeners so_far) + 1) id (λ same. absurd (omega (arith, (numbered-within (listeners so_far) id l made).1, same)))

  listened : (domain : ℕ) (store : Store) (path : List Step) (o : Option CallFault) → brings_to (Listen domain store path) (refused_or o (listening world so_far domain store path)) id ≡ None
  listened domain store path None = ap (λ b. if b then Some (length (commits so_far domain)) else None) not_new
  listened domain store path (Some fault) = refl

  told : (n : ℕ) → e.call ≡ Take n → has_listener so_far e.client n ≡ true → (o : Option Listening) → brings_to (Take n) (option_map_or (batch_of world so_far n) o (Refused (NoListener n))) id ≡ None
  told n is has None = refl
  told n is has (Some x) = by (nat_eq n id) refl
    where
      by : (b : Bool) → nat_eq n id ≡ b → (if b then Some (length (commits so_far x.domain)) else None) ≡ None
      by false at = refl
      by true at =
          let same : n ≡ id = eqb-true n id at in
          let own : (nat_eq l.client e.client && not (is_removed so_far id)) ≡ true =
          ap (λ (found : Option Listening). option_map_or (λ (y : Listening). nat_eq y.client e.client && not (is_removed so_far id)) found false) (sym made) ∙ ap (has_listener so_far e.client) (sym same) ∙ has in
          let mine : nat_eq l.client e.client ≡ true = (and_parts (nat_eq l.client e.client) (not (is_removed so_far id)) own).0 in
          absurd (other (sym (eqb-true l.client e.client mine)) (is ∙ ap Take same))

  owned : (n : ℕ) → e.call ≡ Take n → (b : Bool) → has_listener so_far e.client n ≡ b → brings_to (Take n) (if b then taken world so_far n else Refused (NoListener n)) id ≡ None
  owned n is false has = refl
  owned n is true has = told n is has (listener_at so_far n)

  not_brought : (call : Call) → e.call ≡ call → brings_to call (reply_to world so_far e.client call) id ≡ None
  not_brought (Listen domain store path) is = listened domain store path (listen_refusal world so_far domain)
  not_brought (Take n) is = owned n is (has_listener so_far e.client n) refl
  not_brought (Begin domain mode) is = refl
  not_brought (OpenChain domain) is = refl
  not_brought (ChainBegin chain mode) is = refl
  not_brought (CloseChain chain) is = refl
  not_brought (Submit place ops) is = refl
  not_brought (Cancel place) is = refl
  not_brought (Settle receipt) is = refl
  not_brought Pump is = refl
  not_brought (Unlisten n) is = refl
  not_brought (Provide rpc context) is = refl
  not_brought (Withdraw rpc context) is = refl
  not_brought (Invoke rpc context input) is = refl
  not_brought NextCall is = refl
  not_brought (Answer id output) is = refl
  not_brought (Collect id) is = refl
  not_brought (Subscribe note) is = refl
  not_brought (Offer note rows) is = refl
  not_brought TakeNotes is = refl
  not_brought (Mount path device) is = refl
  not_brought (Unmount domain) is = refl
  not_brought (MountAt path) is = refl
  not_brought (Mark mark) is = refl
  not_brought (After mark) is = refl
  not_brought (Upgrade version) is = refl

  pub brings_nothing : brings_to e.call (reply_to world (history world log) e.client e.call) id ≡ None
  brings_nothing = not_brought e.call refl

-- an entry that brings it nowhere
pub version_stays : (world : List Domain) (log : List Entry) (e : Entry) (id : ℕ) → brings_to e.call (reply_to world (history world log) e.client e.call) id ≡ None → version (history world (log ++ e ∷ [])) id ≡ version (history world log) id
version_stays world log e id none = version-push world log e id ∙ ap (λ (o : Option ℕ). unwrap_or o (version (history world log) id)) none
