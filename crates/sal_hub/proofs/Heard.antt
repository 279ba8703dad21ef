-- The calls of listeners: what is kept of them stays the log's.
use Rattle.std.proofs.Common.{◌≡◌, ℕ, ◌+◌, ◌-◌, ◌<◌, ◌≤◌, Bool, true, false, not, cond, List, [], ◌∷◌, ◌++◌, length, map, get_or, set, Option, None, Some, refl, ap, sym, ◌∙◌, subst, arith, append-nil, inl, inr, if◌then◌else◌, nat_eq}
use Rattle.std.specs.Prelude.{◌&&◌, ◌||◌, slice_get, sum_by, unwrap_or}
use Rattle.std.specs.Option.{option_map, option_map_or, option_to_list}
use Rattle.std.proofs.lemmas.Bool.Decides.{nat_tests}
use Rattle.std.proofs.lemmas.List.{length-map, length-set, map-append}
use Rattle.std.proofs.lemmas.List.Sums.{get_or-le-sum_by, sum_by-append, sum_by-set}
use Rattle.std.proofs.lemmas.Option.{get_or_from_slice_get, same_Some, slice_get_within}
use Rattle.std.proofs.Math.Seq.{map-set_same}
use Rattle.sal_rows.specs.declared.batch.Batch.{Batch}
use Rattle.sal_rows.specs.declared.batch.Opened.{Opened}
use Rattle.sal_history.specs.declared.call.Call.TheVariants.{Take, Unlisten}
use Rattle.sal_history.specs.declared.call.Entry.{Entry}
use Rattle.sal_history.specs.declared.reply.Reply.{Reply}
use Rattle.sal_history.specs.declared.reply.Reply.TheVariants.{Accepted, Batch as Told, Listener as Made}
use Rattle.sal_history.specs.History.{Answered, commits, history, is_live, listen_refusal, reply_to}
use Rattle.sal_history.specs.Listeners.{Listening, brings_to, has_listener, is_removed, listener_at, listeners, listens, live_listeners, removes, removes_one, version}
use Rattle.sal_history.specs.Numbered.{numbered}
use Rattle.sal_history.proofs.Numbered.{numbered-at, numbered-map, numbered-within}
use Rattle.sal_hub.specs.declared.listener.Listener.{Listener}
use Rattle.sal_hub.specs.declared.listener.ListenerId.{ListenerId}
use Rattle.sal_hub.specs.declared.listener_calls.Ask.{Ask}
use Rattle.sal_hub.specs.declared.listeners.Listeners.{Listeners}
use Rattle.sal_hub.specs.HubHistory.{HubHistory, more}
use Rattle.sal_hub.specs.Listeners.{Adds, AreListeners, AreSame, IsListened, Removes, Tells, call_of, has_in, listening_of, live_in, new_of, refusal_by}
use Rattle.sal_hub.specs.Tokens.{IsListener}
use Rattle.sal_hub.proofs.Keeping.{or_false, or_true}
use Rattle.sal_hub.proofs.Listed.{last_or_before, slice_get-set, slice_get_some}
use Rattle.sal_hub.proofs.Listened.{commits-grow, listeners_now, removals, removed-push, still_listened, version-push}

-- whether the listener counts as live, as a number
abbrev live_one : Listener → ℕ
live_one l = cond l.live 1 0

-- ---- look-ups

module _ (known : HubHistory) (ls : Listeners) (are : AreListeners known ls) where
  abbrev answered : List Answered
  answered = history known.world known.log

  live_is : ls.live ≡ live_listeners answered
  live_is = omega (arith, are.all)

  pub refusal_is : (live : Bool) (domain : ℕ) → live ≡ is_live known.world (history known.world known.log) domain → refusal_by live domain ls.live ≡ listen_refusal known.world (history known.world known.log) domain
  refusal_is live domain is = λ i. refusal_by (is i) domain (live_is i)

  pub listener_is : (number : ℕ) (l : Listener) → 0 < number → slice_get ls.list.items (number - 1) ≡ Some l → listener_at (history known.world known.log) number ≡ Some (listening_of l)
  listener_is number l low at =
      ap (λ (xs : List Listening). numbered xs number) (sym are.made) ∙ numbered-map listening_of ls.list.items number ∙ ap (option_map listening_of) (numbered-at ls.list.items number l low at)

  -- the listener of this number, by what the log gives
  pub listened_is : (number : ℕ) (l : Listener) → 0 < number → slice_get ls.list.items (number - 1) ≡ Some l → IsListened known number l
  listened_is number l low at = let back : number - 1 + 1 ≡ number = omega (arith, low) in subst (λ n. IsListened known n l) back (are.each (number - 1) l at)

  pub has_is : (client number : ℕ) (l : Listener) → 0 < number → slice_get ls.list.items (number - 1) ≡ Some l → has_in ls.list.items client (number - 1) ≡ has_listener (history known.world known.log) client number
  has_is client number l low at =
      ap (λ (o : Option Listener). option_map_or (λ (x : Listener). nat_eq x.client client && x.live) o false) at
      ∙ ap (λ b. nat_eq l.client client && b) (listened_is number l low at).live
      ∙ ap (λ (o : Option Listening). option_map_or (λ (x : Listening). nat_eq x.client client && not (is_removed answered number)) o false) (sym (listener_is number l low at))

  -- one that a token names
  pub number_within : (id : ListenerId) → IsListener known id → id.number ≤ length ls.list.items
  number_within id token = named (listener_at answered id.number) refl token.1
    where
      named : (o : Option Listening) → listener_at answered id.number ≡ o → option_map (λ (l : Listening). l.domain) o ≡ Some id.domain → id.number ≤ length ls.list.items
      named None is at = cc
      named (Some l) is at =
          let high : id.number ≤ length (listeners answered) = (numbered-within (listeners answered) id.number l is).1 in
          omega (arith, high, ap length are.made, length-map ls.list.items listening_of)

  pub named_at : (id : ListenerId) → IsListener known id → (l : Listener) × (slice_get ls.list.items (id.number - 1) ≡ Some l)
  named_at id token = let high : id.number ≤ length ls.list.items = number_within id token in slice_get_some ls.list.items (id.number - 1) (omega (arith, high, token.0))

  pub domain_named : (id : ListenerId) (l : Listener) → IsListener known id → slice_get ls.list.items (id.number - 1) ≡ Some l → l.domain ≡ id.domain
  domain_named id l token at = same_Some l.domain id.domain (ap (option_map (λ (x : Listening). x.domain)) (sym (listener_is id.number l token.0 at)) ∙ token.1)

  -- if one listener is live, the count is not 0
  pub some_live : (i : ℕ) (l : Listener) → slice_get ls.list.items i ≡ Some l → l.live ≡ true → 0 < ls.live
  some_live i l at live =
      let one : live_one (get_or ls.list.items i l) ≡ 1 = ap live_one (get_or_from_slice_get ls.list.items i l l at) ∙ ap (λ b. cond b 1 0) live in
      let within : i < length ls.list.items = slice_get_within ls.list.items i l at in
      omega (arith, are.counted, one, get_or-le-sum_by live_one ls.list.items i l within)

-- ---- one more

module _ (known : HubHistory) (ls : Listeners) (are : AreListeners known ls) (ask : Ask) (number : ℕ) (o : Opened)
    (reply : reply_to known.world (history known.world known.log) ask.client (call_of ask) ≡ Made (length (listeners (history known.world known.log)) + 1) ask.domain ask.path.now o)
    (there : ask.domain < length known.world) (reached : o.version ≤ length (commits (history known.world known.log) ask.domain))
    (ls' : Listeners) (adds : Adds ls (new_of ask o.version) ls') where
  abbrev so_far : List Answered
  so_far = history known.world known.log

  abbrev entry : Entry
  entry = record { client = ask.client; number = number; call = call_of ask }

  abbrev r : Reply
  r = reply_to known.world so_far ask.client (call_of ask)

  long : length (listeners so_far) ≡ length ls.list.items
  long = sym (ap length are.made) ∙ length-map ls.list.items listening_of

  stays : (id : ℕ) → removes (call_of ask) r id ≡ false
  stays id = ap (λ x. removes (call_of ask) x id) reply

  tells : (id : ℕ) → brings_to (call_of ask) r id ≡ (if nat_eq (length (listeners so_far) + 1) id then Some o.version else None)
  tells id = ap (λ x. brings_to (call_of ask) x id) reply

  old_one : (i : ℕ) (l : Listener) → slice_get ls.list.items i ≡ Some l → IsListened (more known entry) (i + 1) l
  old_one i l at =
      let within : i < length ls.list.items = slice_get_within ls.list.items i l at in
      let other : nat_eq (length (listeners so_far) + 1) (i + 1) ≡ false = grind (arith, nat_tests, within, long) in
      still_listened known entry ls are (i + 1) l (are.each i l at) (stays (i + 1)) (tells (i + 1) ∙ ap (λ b. if b then Some o.version else None) other)

  new_one : IsListened (more known entry) (length ls.list.items + 1) (new_of ask o.version)
  new_one =
      let id : ℕ = length ls.list.items + 1 in
      let far : length ls.list.items < length ls.list.items + 1 = omega arith in
      let own : nat_eq (length (listeners so_far) + 1) (length ls.list.items + 1) ≡ true = grind (arith, nat_tests, long) in
      record {
        domain = there;
        live = ap not (sym (removed-push known.world known.log entry id ∙ (λ i. are.unmade id far i || stays id i)));
        version = sym (version-push known.world known.log entry id ∙ ap (λ (x : Option ℕ). unwrap_or x (version so_far id)) (tells id ∙ ap (λ b. if b then Some o.version else None) own));
        reached = omega (arith, reached, commits-grow known.world known.log entry ask.domain);
      }

  pub made_listeners : AreListeners (more known entry) ls'
  made_listeners =
      listeners_now known entry ls are ls'
      (ap (map listening_of) adds.list ∙ map-append listening_of ls.list.items (new_of ask o.version ∷ [])
      ∙ ap (λ (x : Option Listening). map listening_of ls.list.items ++ option_to_list x) (sym (ap (listens ask.client (call_of ask)) reply)))
      (λ i l at. elim (last_or_before ls.list.items (new_of ask o.version) l i (ap (λ (xs : List Listener). slice_get xs i) (sym adds.list) ∙ at)) [
        | inl old ↦ old_one i l old
        | inr w ↦ subst (λ n. IsListened (more known entry) (n + 1) l) (sym w.0) (subst (λ (x : Listener). IsListened (more known entry) (length ls.list.items + 1) x) w.1 new_one)
      ])
      (λ id far. stays id)
      (let one : sum_by live_one (new_of ask o.version ∷ []) ≡ 1 = refl in
      omega (arith, adds.live, are.counted, ap live_in adds.list, sum_by-append live_one ls.list.items (new_of ask o.version ∷ []), one))
      ((λ i. adds.live i + cond (removes_one (call_of ask) (reply i)) 1 0) ∙ (let none : ls.live + 1 + 0 ≡ ls.live + 1 = omega arith in none)
      ∙ (λ i. ls.live + length (option_to_list (listens ask.client (call_of ask) (sym reply i)))))

-- ---- a listener that took a batch

module _ (known : HubHistory) (ls : Listeners) (are : AreListeners known ls) (client count n : ℕ) (l : Listener) (low : 0 < n) (at : slice_get ls.list.items (n - 1) ≡ Some l) (b : Batch)
    (reply : reply_to known.world (history known.world known.log) client (Take n) ≡ Told l.domain b) (reached : b.to ≤ length (commits (history known.world known.log) l.domain))
    (ls' : Listeners) (told : Tells ls (n - 1) b.to ls') where
  abbrev earlier : List Answered
  earlier = history known.world known.log

  abbrev take_entry : Entry
  take_entry = record { client = client; number = count; call = Take n }

  abbrev later_one : Listener
  later_one = record l { version = b.to }

  abbrev take_reply : Reply
  take_reply = reply_to known.world earlier client (Take n)

  kept : (id : ℕ) → removes (Take n) take_reply id ≡ false
  kept id = refl

  brought : (id : ℕ) → brings_to (Take n) take_reply id ≡ (if nat_eq n id then Some b.to else None)
  brought id = ap (λ x. brings_to (Take n) x id) reply

  other_one : (i : ℕ) (x : Listener) → (i ≡ n - 1 → ⊥) → slice_get ls.list.items i ≡ Some x → IsListened (more known take_entry) (i + 1) x
  other_one i x differs here =
      let other : nat_eq n (i + 1) ≡ false = grind (arith, nat_tests, differs, low) in
      still_listened known take_entry ls are (i + 1) x (are.each i x here) (kept (i + 1)) (brought (i + 1) ∙ ap (λ t. if t then Some b.to else None) other)

  this_one : IsListened (more known take_entry) n later_one
  this_one =
      let was : IsListened known n l = listened_is known ls are n l low at in
      let own : nat_eq n n ≡ true = grind (arith, nat_tests) in
      record {
        domain = was.domain;
        live = was.live ∙ ap not (sym (removed-push known.world known.log take_entry n ∙ or_false (is_removed earlier n)));
        version = sym (version-push known.world known.log take_entry n ∙ ap (λ (x : Option ℕ). unwrap_or x (version earlier n)) (brought n ∙ ap (λ t. if t then Some b.to else None) own));
        reached = omega (arith, reached, commits-grow known.world known.log take_entry l.domain);
      }

  pub told_listeners : AreListeners (more known take_entry) ls'
  told_listeners =
      let within : n - 1 < length ls.list.items = slice_get_within ls.list.items (n - 1) l at in
      let list : ls'.list.items ≡ set ls.list.items (n - 1) later_one = told.list l at in
      let was : get_or ls.list.items (n - 1) l ≡ l = get_or_from_slice_get ls.list.items (n - 1) l l at in
      listeners_now known take_entry ls are ls'
      (ap (map listening_of) list ∙ map-set_same listening_of ls.list.items (n - 1) later_one l (ap listening_of (sym was)) ∙ sym (append-nil (map listening_of ls.list.items)))
      (λ i x here. elim (slice_get-set ls.list.items (n - 1) later_one i x (ap (λ (xs : List Listener). slice_get xs i) (sym list) ∙ here)) [
        | inl w ↦ let id : n ≡ i + 1 = omega (arith, w.0, low) in subst (λ k. IsListened (more known take_entry) k x) id (subst (λ (y : Listener). IsListened (more known take_entry) n y) w.1 this_one)
        | inr w ↦ other_one i x w.0 w.1
      ])
      (λ id far. kept id)
      (omega (arith, told.live, are.counted, ap live_in list, sum_by-set live_one ls.list.items (n - 1) later_one l within, ap live_one was))
      (let none : ls'.live + 0 ≡ ls.live + 0 = omega (arith, told.live) in none)

-- ---- one that was removed

module _ (known : HubHistory) (ls : Listeners) (are : AreListeners known ls) (client count n : ℕ) (l : Listener) (low : 0 < n) (at : slice_get ls.list.items (n - 1) ≡ Some l) (live : l.live ≡ true)
    (reply : reply_to known.world (history known.world known.log) client (Unlisten n) ≡ Accepted)
    (ls' : Listeners) (gone : Removes ls (n - 1) ls') where
  abbrev up_to_now : List Answered
  up_to_now = history known.world known.log

  abbrev last_entry : Entry
  last_entry = record { client = client; number = count; call = Unlisten n }

  abbrev dead_one : Listener
  dead_one = record l { live = false }

  abbrev last_reply : Reply
  last_reply = reply_to known.world up_to_now client (Unlisten n)

  goes : (id : ℕ) → removes (Unlisten n) last_reply id ≡ nat_eq n id
  goes id = ap (λ x. removes (Unlisten n) x id) reply

  rest_one : (i : ℕ) (x : Listener) → (i ≡ n - 1 → ⊥) → slice_get ls.list.items i ≡ Some x → IsListened (more known last_entry) (i + 1) x
  rest_one i x differs here =
      let other : nat_eq n (i + 1) ≡ false = grind (arith, nat_tests, differs, low) in
      still_listened known last_entry ls are (i + 1) x (are.each i x here) (goes (i + 1) ∙ other) refl

  gone_one : IsListened (more known last_entry) n dead_one
  gone_one =
      let was : IsListened known n l = listened_is known ls are n l low at in
      let own : nat_eq n n ≡ true = grind (arith, nat_tests) in
      record {
        domain = was.domain;
        live = ap not (sym (removed-push known.world known.log last_entry n ∙ ap (λ b. is_removed up_to_now n || b) (goes n ∙ own) ∙ or_true (is_removed up_to_now n)));
        version = was.version ∙ sym (version-push known.world known.log last_entry n);
        reached = omega (arith, was.reached, commits-grow known.world known.log last_entry l.domain);
      }

  pub gone_listeners : AreListeners (more known last_entry) ls'
  gone_listeners =
      let within : n - 1 < length ls.list.items = slice_get_within ls.list.items (n - 1) l at in
      let list : ls'.list.items ≡ set ls.list.items (n - 1) dead_one = gone.list l at in
      let was : get_or ls.list.items (n - 1) l ≡ l = get_or_from_slice_get ls.list.items (n - 1) l l at in
      let some : 0 < ls.live = some_live known ls are (n - 1) l at live in
      let one : live_one (get_or ls.list.items (n - 1) l) ≡ 1 = ap live_one was ∙ ap (λ b. cond b 1 0) live in
      listeners_now known last_entry ls are ls'
      (ap (map listening_of) list ∙ map-set_same listening_of ls.list.items (n - 1) dead_one l (ap listening_of (sym was)) ∙ sym (append-nil (map listening_of ls.list.items)))
      (λ i x here. elim (slice_get-set ls.list.items (n - 1) dead_one i x (ap (λ (xs : List Listener). slice_get xs i) (sym list) ∙ here)) [
        | inl w ↦ let id : n ≡ i + 1 = omega (arith, w.0, low) in subst (λ k. IsListened (more known last_entry) k x) id (subst (λ (y : Listener). IsListened (more known last_entry) n y) w.1 gone_one)
        | inr w ↦ rest_one i x w.0 w.1
      ])
      (λ id far. let other : nat_eq n id ≡ false = grind (arith, nat_tests, within, low, far, ap length list, length-set ls.list.items (n - 1) dead_one) in goes id ∙ other)
      (omega (arith, gone.live, are.counted, ap live_in list, sum_by-set live_one ls.list.items (n - 1) dead_one l within, one))
      (ap (λ x. ls'.live + cond (removes_one (Unlisten n) x) 1 0) reply ∙ (let back : ls'.live + 1 ≡ ls.live + 0 = omega (arith, gone.live, some) in back))

-- ---- unchanged

pub same_listeners : (known : HubHistory) (ls ls' : Listeners) → AreSame ls ls' → AreListeners known ls → AreListeners known ls'
same_listeners known ls ls' same are = record {
  made = ap (map listening_of) same.list ∙ are.made;
  each = λ i l at. are.each i l (ap (λ (xs : List Listener). slice_get xs i) (sym same.list) ∙ at);
  unmade = λ id far. are.unmade id (omega (arith, far, ap length same.list));
  counted = same.live ∙ are.counted ∙ sym (ap live_in same.list);
  all = ap (λ n. n + removals (history known.world known.log)) same.live ∙ are.all;
}
