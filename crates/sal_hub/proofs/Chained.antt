-- The state of chains stays that of the log with each call.
use Rattle.std.proofs.Common.{◌≡◌, ℕ, zero, suc, ◌+◌, Bool, true, false, List, [], ◌∷◌, ◌++◌, length, Option, None, Some, refl, ap, sym, ◌∙◌, arith, append-nil, length-append, if◌then◌else◌, nat_eq}
use Rattle.std.specs.Prelude.{slice_get, ◌||◌}
use Rattle.std.specs.Option.{option_map_or, option_or, option_to_list}
use Rattle.std.proofs.lemmas.Bool.Decides.{nat_tests}
use Rattle.sal_rows.specs.Spans.{is_of_chain}
use Rattle.sal_history.specs.declared.call.Entry.{Entry}
use Rattle.sal_history.specs.declared.reply.Reply.{Reply}
use Rattle.sal_history.specs.World.{Domain}
use Rattle.sal_history.specs.History.{Answered, began_at, began_by, begins_in, closes, history, opened_chain, reply_to, sent_by, sents}
use Rattle.sal_history.specs.Submissions.{Base, Sent, is_in, last_receipt}
use Rattle.sal_hub.specs.declared.chains.Chains.{Chains}
use Rattle.sal_hub.specs.Chains.{Adds, AreChains, AreEven, AreSame, IsInPlace}
use Rattle.sal_hub.specs.Failures.{IsWithin, flag_in, noted_in}
use Rattle.sal_hub.specs.HubHistory.{HubHistory, more}
use Rattle.sal_hub.proofs.Histories.{begun-push, chains-push, closed-push, now_of, sents-push}
use Rattle.sal_hub.proofs.Keeping.{or_false}
use Rattle.sal_history.proofs.Logs.{last_from-push}
use Rattle.sal_hub.proofs.Members.{last_from-some}
use Rattle.sal_hub.proofs.Noted.{noted_within}
use Rattle.sal_hub.proofs.Placed.{places_now}

-- the last receipt of a chain after a submission
abbrev pub sent_in : ℕ → ℕ → Option Sent → Option ℕ
sent_in count id None = None
sent_in count id (Some s) = if is_in (Some id) s then Some (count + 1) else None

receipt-push : (ss : List Sent) (o : Option Sent) (id : ℕ) → last_receipt (ss ++ option_to_list o) (Some id) ≡ option_or (sent_in (length ss) id o) (last_receipt ss (Some id))
receipt-push ss None id = ap (λ (xs : List Sent). last_receipt xs (Some id)) (append-nil ss)
receipt-push ss (Some s) id =
    let next : 1 + length ss ≡ length ss + 1 = omega arith in
    last_from-push 1 (is_in (Some id)) ss s ∙ ap (λ n. option_or (if is_in (Some id) s then Some n else None) (last_receipt ss (Some id))) next

-- ---- one entry more

module _ (known : HubHistory) (e : Entry) (cs : Chains) (are : AreChains known cs) where
  abbrev w : List Domain
  w = known.world

  abbrev answered : List Answered
  answered = history w known.log

  abbrev r : Reply
  r = reply_to w answered e.client e.call

  pub chains_now : (cs' : Chains) → AreEven cs' → cs'.domains.items ≡ cs.domains.items ++ option_to_list (opened_chain e.call (reply_to known.world (history known.world known.log) e.client e.call))
      → ((id : ℕ) → flag_in cs'.closed.items id ≡ (flag_in cs.closed.items id || closes e.call (reply_to known.world (history known.world known.log) e.client e.call) id))
      → ((id : ℕ) → noted_in cs'.begun.items id ≡ option_or (if begins_in id (now_of known.world (history known.world known.log) e) then Some (length known.log) else None) (noted_in cs.begun.items id))
      → ((id : ℕ) → noted_in cs'.sent.items id ≡ option_or (sent_in (length (sents (history known.world known.log))) id (sent_by (history known.world known.log) e.call (reply_to known.world (history known.world known.log) e.client e.call))) (noted_in cs.sent.items id))
      → ((b : Base) → began_by known.world (history known.world known.log) e.call (reply_to known.world (history known.world known.log) e.client e.call) ≡ Some b → IsInPlace (history known.world known.log) b)
      → AreChains (more known e) cs'
  chains_now cs' even domains closed begun sent begins = record {
    even = even;
    domains = domains ∙ ap (λ (ds : List ℕ). ds ++ option_to_list (opened_chain e.call r)) are.domains ∙ sym (chains-push w known.log e);
    closed = λ id. closed id ∙ ap (λ b. b || closes e.call r id) (are.closed id) ∙ sym (closed-push w known.log e id);
    begun = λ id. begun id ∙ ap (option_or (if begins_in id (now_of w answered e) then Some (length known.log) else None)) (are.begun id) ∙ sym (begun-push w known.log e id);
    sent = λ id.
        sent id ∙ ap (option_or (sent_in (length (sents answered)) id (sent_by answered e.call r))) (are.sent id)
        ∙ sym (receipt-push (sents answered) (sent_by answered e.call r) id) ∙ ap (λ (ss : List Sent). last_receipt ss (Some id)) (sym (sents-push w known.log e));
    places = places_now w known.log e are.places begins;
  }

  -- a call that does not open, close, begin or submit in a chain
  pub steady : (cs' : Chains) → AreSame cs cs' → opened_chain e.call (reply_to known.world (history known.world known.log) e.client e.call) ≡ None
      → ((id : ℕ) → closes e.call (reply_to known.world (history known.world known.log) e.client e.call) id ≡ false)
      → ((id : ℕ) → begins_in id (now_of known.world (history known.world known.log) e) ≡ false)
      → sent_by (history known.world known.log) e.call (reply_to known.world (history known.world known.log) e.client e.call) ≡ None
      → AreChains (more known e) cs'
  steady cs' same unopened unclosed unbegun unsent =
      chains_now cs'
      (record {
        closed = ap length same.closed ∙ are.even.closed ∙ sym (ap length same.domains);
        begun = ap length same.begun ∙ are.even.begun ∙ sym (ap length same.domains);
        sent = ap length same.sent ∙ are.even.sent ∙ sym (ap length same.domains);
      })
      (same.domains ∙ sym (append-nil cs.domains.items) ∙ ap (λ (o : Option ℕ). cs.domains.items ++ option_to_list o) (sym unopened))
      (λ id. ap (λ xs. flag_in xs id) same.closed ∙ sym (or_false (flag_in cs.closed.items id)) ∙ ap (λ b. flag_in cs.closed.items id || b) (sym (unclosed id)))
      (λ id. ap (λ xs. noted_in xs id) same.begun ∙ ap (λ b. option_or (if b then Some (length known.log) else None) (noted_in cs.begun.items id)) (sym (unbegun id)))
      (λ id. ap (λ xs. noted_in xs id) same.sent ∙ ap (λ (o : Option Sent). option_or (sent_in (length (sents answered)) id o) (noted_in cs.sent.items id)) (sym unsent))
      (λ b began id of_chain. let none : nat_eq id id ≡ false = (λ i. of_one id (sym of_chain i)) ∙ (λ i. option_map_or (λ (x : Base). is_of_chain (Some id) x.chain) (sym began i) false) ∙ unbegun id in let own : nat_eq id id ≡ true = grind (arith, nat_tests) in cc)
    where
      of_one : ℕ → Option ℕ → Bool
      of_one id chain = is_of_chain (Some id) chain

-- unchanged
pub same_chains : (cs : Chains) → AreSame cs cs
same_chains cs = record { domains = refl; closed = refl; begun = refl; sent = refl }

-- the chains are the log's still
pub chains_as : (known : HubHistory) (cs cs' : Chains) → AreSame cs cs' → AreChains known cs → AreChains known cs'
chains_as known cs cs' same are = record {
  even = record {
    closed = ap length same.closed ∙ are.even.closed ∙ sym (ap length same.domains);
    begun = ap length same.begun ∙ are.even.begun ∙ sym (ap length same.domains);
    sent = ap length same.sent ∙ are.even.sent ∙ sym (ap length same.domains);
  };
  domains = same.domains ∙ are.domains;
  closed = λ id. ap (λ xs. flag_in xs id) same.closed ∙ are.closed id;
  begun = λ id. ap (λ xs. noted_in xs id) same.begun ∙ are.begun id;
  sent = λ id. ap (λ xs. noted_in xs id) same.sent ∙ are.sent id;
  places = are.places;
}

-- ---- members

-- the entry that began it
entry_at : (xs : List Answered) (k : ℕ) (c : Base) → began_at xs k ≡ Some c → (a : Answered) × (slice_get xs k ≡ Some a) × (a.began ≡ Some c)
entry_at [] k c e = cc
entry_at (x ∷ xs) zero c e = (x, refl, e)
entry_at (x ∷ xs) (suc k) c e = entry_at xs k c e

-- the chain of a transaction that was begun was opened
pub member_within : (known : HubHistory) (cs : Chains) → AreChains known cs → (place : ℕ) (b : Base) → began_at (history known.world known.log) place ≡ Some b → IsWithin (length cs.domains.items) b.chain
member_within known cs are place b began = λ id of_chain.
    let a = entry_at (history known.world known.log) place b began in
    let mine : begins_in id a.0 ≡ true = (λ i. begun_in id (a.2 i)) ∙ (λ i. is_of_chain (Some id) (of_chain i)) ∙ own id in
    let last = last_from-some 0 (begins_in id) (history known.world known.log) place a.0 a.1 mine in
    let within = noted_within cs.begun.items id last.0 (are.begun id ∙ last.1) in
    (within.0, omega (arith, within.1, are.even.begun))
  where
    begun_in : ℕ → Option Base → Bool
    begun_in id o = option_map_or (λ (x : Base). is_of_chain (Some id) x.chain) o false

    own : (id : ℕ) → nat_eq id id ≡ true
    own id = grind (arith, nat_tests)

-- ---- a chain more, a transaction begun, a submission, and a chain closed

pub adds_even : (old new : Chains) (domain : ℕ) → Adds old domain new → AreEven old → AreEven new
adds_even old new domain adds even =
    let long : length new.domains.items ≡ length old.domains.items + 1 = ap length adds.domains ∙ length-append old.domains.items (domain ∷ []) in
    record {
      closed = omega (arith, long, ap length adds.closed, length-append old.closed.items (false ∷ []), even.closed);
      begun = omega (arith, long, ap length adds.begun, length-append old.begun.items (None ∷ []), even.begun);
      sent = omega (arith, long, ap length adds.sent, length-append old.sent.items (None ∷ []), even.sent);
    }
