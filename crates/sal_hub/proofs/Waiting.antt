-- What waits for a client, by the replies of the log.
use Rattle.std.proofs.Common.{◌≡◌, ℕ, zero, suc, ◌-◌, ◌<◌, Bool, true, false, List, [], ◌∷◌, length, get_or, Some, refl, ap, sym, ◌∙◌, arith, nat_lt, nat_le}
use Rattle.std.specs.Prelude.{◌&&◌, is_some, slice_get}
use Rattle.std.proofs.lemmas.Bool.Decides.{nat_tests}
use Rattle.sal_rows.specs.declared.outcome.Outcome.{Outcome}
use Rattle.sal_rpc.specs.declared.call.RpcCall.TheVariants as rpcs
use Rattle.sal_rpc.specs.declared.call.RpcReply.{RpcReply}
use Rattle.sal_rpc.specs.declared.call.RpcReply.TheVariants as routed
use Rattle.sal_rpc.specs.Answers as router
use Rattle.sal_rpc.specs.Routes.{Routes}
use Rattle.sal_rpc.specs.Routing as routing
use Rattle.sal_note.specs.declared.call.NoteCall.TheVariants as notes
use Rattle.sal_note.specs.declared.call.NoteReply.{NoteReply}
use Rattle.sal_note.specs.declared.call.NoteReply.TheVariants as noted
use Rattle.sal_note.specs.Answers as boxes
use Rattle.sal_note.specs.Boxes.{Boxes}
use Rattle.sal_note.specs.Queues as queues
use Rattle.sal_commit.specs.declared.domain.Domain.{Domain}
use Rattle.sal_history.specs.declared.call.Call.TheVariants.{Collect, NextCall, Take, TakeNotes}
use Rattle.sal_history.specs.History.{Answered, history}
use Rattle.sal_history.specs.Numbered.{numbered}
use Rattle.sal_history.specs.Services.{by_router, note_calls, note_reply, rpc_calls, rpc_of, rpc_reply}
use Rattle.sal_hub.specs.declared.listener.Listener.{Listener}
use Rattle.sal_hub.specs.declared.listeners.Listeners.{Listeners}
use Rattle.sal_hub.specs.declared.pipeline.Pipeline.{Pipeline}
use Rattle.sal_hub.specs.Current.{IsKept, known_of}
use Rattle.sal_hub.specs.HubHistory.{HubHistory}
use Rattle.sal_hub.specs.Journals.{Noted}
use Rattle.sal_hub.specs.Listeners.{AreListeners, has_in}
use Rattle.sal_hub.specs.Notified.{AreNoted}
use Rattle.sal_hub.specs.Routed.{AreRouted}
use Rattle.sal_hub.specs.Waiting.{gives, would_give}
use Rattle.sal_hub.proofs.Telling.{told_reply, untold_reply}
use Rattle.std.specs.Prelude.{unwrap_or}

-- ---- a service's reply gives what the shared one does

routed_gives : (rpc : ℕ) (r : RpcReply) → routing.gives r ≡ gives (rpc_reply rpc r)
routed_gives rpc routed.Accepted = refl
routed_gives rpc (routed.CallMade id) = refl
routed_gives rpc (routed.Handed request) = refl
routed_gives rpc (routed.Output rows) = refl
routed_gives rpc routed.Nothing = refl
routed_gives rpc (routed.Refused fault) = refl

noted_gives : (r : NoteReply) → queues.gives r ≡ gives (note_reply r)
noted_gives noted.Accepted = refl
noted_gives (noted.Offered count) = refl
noted_gives (noted.Notes list) = refl
noted_gives (noted.Refused fault) = refl

module _ (known : HubHistory) where
  abbrev answered : List Answered
  answered = history known.world known.log

  pub request_waits : (r : Routes) (client : ℕ) (b : Bool) → AreRouted known r → router.Gives r client rpcs.NextCall b → b ≡ would_give known client NextCall
  request_waits r client b are says = says (rpc_calls answered) are ∙ routed_gives 0 (by_router answered client rpcs.NextCall)

  pub answer_waits : (r : Routes) (client id : ℕ) (b : Bool) → AreRouted known r → router.Gives r client (rpcs.Collect id) b → b ≡ would_give known client (Collect id)
  answer_waits r client id b are says = says (rpc_calls answered) are ∙ routed_gives (unwrap_or (rpc_of answered id) 0) (by_router answered client (rpcs.Collect id))

  pub notes_wait : (ns : Boxes) (client : ℕ) (b : Bool) → AreNoted known ns → boxes.Gives ns client notes.TakeNotes b → b ≡ would_give known client TakeNotes
  notes_wait ns client b are says = says (note_calls answered) are ∙ noted_gives (queues.reply_to (queues.made_of (note_calls answered)) client notes.TakeNotes)

-- ---- the commits that a listener's client has not taken

module _ (journal : Noted) (p : Pipeline) (is : IsKept journal p) (ls : Listeners) (are : AreListeners (known_of journal p) ls) (client n : ℕ) (l : Listener) (low : 0 < n) (here : slice_get ls.list.items (n - 1) ≡ Some l) where
  pub none_wait : has_in ls.list.items client (n - 1) ≡ false → false ≡ would_give (known_of journal p) client (Take n)
  none_wait no_one = ap gives (sym (untold_reply journal p is ls are client n l low here no_one))

  pub commits_wait : (d : Domain) → l.domain < length p.domains.items → d ≡ get_or p.domains.items l.domain d → has_in ls.list.items client (n - 1) ≡ true
      → nat_lt l.version (length d.commits.items - 1) ≡ would_give (known_of journal p) client (Take n)
  commits_wait d h at some = ap gives (sym (told_reply journal p is ls are client n l low here d h at some))

-- ---- receipts

counted_in : (os : List Outcome) (i : ℕ) → nat_lt i (length os) ≡ is_some (slice_get os i)
counted_in [] i = let none : nat_lt i 0 ≡ false = grind (arith, nat_tests) in none
counted_in (o ∷ os) zero = let one : nat_lt 0 (suc (length os)) ≡ true = grind (arith, nat_tests) in one
counted_in (o ∷ os) (suc i) = one_less (nat_lt i (length os)) refl ∙ counted_in os i
  where
    one_less : (b : Bool) → nat_lt i (length os) ≡ b → nat_lt (suc i) (suc (length os)) ≡ nat_lt i (length os)
    one_less true e = let yes : nat_lt (suc i) (suc (length os)) ≡ true = grind (arith, nat_tests) in yes ∙ sym e
    one_less false e = let no : nat_lt (suc i) (suc (length os)) ≡ false = grind (arith, nat_tests) in no ∙ sym e

pub decided_is : (os : List Outcome) (n : ℕ) → (nat_lt 0 n && nat_le n (length os)) ≡ is_some (numbered os n)
decided_is os zero = refl
decided_is os (suc i) = let some : nat_lt 0 (suc i) ≡ true = grind (arith, nat_tests) in ap (λ b. b && nat_le (suc i) (length os)) some ∙ counted_in os i
