-- The state of listeners stays that of the log with each call.
use Rattle.std.proofs.Common.{◌≡◌, ℕ, ◌+◌, ◌<◌, ◌≤◌, Bool, true, false, not, cond, List, [], ◌∷◌, ◌++◌, length, map, count_by, Option, None, Some, refl, ap, sym, ◌∙◌, subst, arith, append-nil, length-append}
use Rattle.std.specs.Prelude.{slice_get, unwrap_or, ◌||◌}
use Rattle.std.specs.Option.{option_map, option_to_list}
use Rattle.std.proofs.lemmas.List.{length-map}
use Rattle.std.proofs.lemmas.List.Elements.{filter_map-append}
use Rattle.std.proofs.lemmas.List.Folds.{list_any-append}
use Rattle.std.proofs.lemmas.List.Sums.{fold-append, sum_by-append}
use Rattle.sal_rows.specs.declared.outcome.CallFault.{CallFault}
use Rattle.sal_history.specs.declared.call.Call.{Call}
use Rattle.sal_history.specs.declared.call.Call.TheVariants.{Listen, Take, Unlisten}
use Rattle.sal_history.specs.declared.call.Entry.{Entry}
use Rattle.sal_history.specs.declared.reply.Reply.{Reply}
use Rattle.sal_history.specs.declared.reply.Reply.TheVariants.{Refused}
use Rattle.sal_history.specs.World.{Domain}
use Rattle.sal_history.specs.History.{Answered, commits, history, reply_to}
use Rattle.sal_history.specs.Listeners.{Listening, brings_to, is_removed, listener_at, listeners, listens, removes, removes_one, version}
use Rattle.sal_history.specs.Numbered.{numbered}
use Rattle.sal_history.proofs.Numbered.{numbered-more}
use Rattle.sal_hub.specs.declared.listener.Listener.{Listener}
use Rattle.sal_hub.specs.declared.listener.ListenerId.{ListenerId}
use Rattle.sal_hub.specs.declared.listeners.Listeners.{Listeners}
use Rattle.sal_hub.specs.HubHistory.{HubHistory, more}
use Rattle.sal_hub.specs.Listeners.{AreListeners, IsListened, listening_of, live_in}
use Rattle.sal_hub.specs.Tokens.{IsListener}
use Rattle.sal_hub.proofs.Histories.{history-push, listed, now_of}
use Rattle.sal_hub.proofs.Keeping.{or_false}
use Rattle.sal_hub.proofs.Standing.{commits-more}

-- ---- calls that neither make, remove nor answer a listener

abbrev pub is_listening : Call → Bool
is_listening (Listen domain s path) = true
is_listening (Take id) = true
is_listening (Unlisten id) = true
is_listening call = false

pub record IsQuiet (client : ℕ) (call : Call) (r : Reply) : Type 0 where
  pub made : listens client call r ≡ None
  pub removed : (id : ℕ) → removes call r id ≡ false
  pub fewer : removes_one call r ≡ false
  pub brought : (id : ℕ) → brings_to call r id ≡ None

pub quiet_refused : (client : ℕ) (call : Call) (f : CallFault) → IsQuiet client call (Refused f)
quiet_refused client (Listen domain s path) f = record { made = refl; removed = λ id. refl; fewer = refl; brought = λ id. refl }
quiet_refused client (Take id) f = record { made = refl; removed = λ id. refl; fewer = refl; brought = λ id. refl }
quiet_refused client (Unlisten id) f = record { made = refl; removed = λ id. refl; fewer = refl; brought = λ id. refl }
quiet_refused client call f = record { made = refl; removed = λ id. refl; fewer = refl; brought = λ id. refl }

pub quiet_other : (client : ℕ) (call : Call) (r : Reply) → is_listening call ≡ false → IsQuiet client call r
quiet_other client (Listen domain s path) r e = cc
quiet_other client (Take id) r e = cc
quiet_other client (Unlisten id) r e = cc
quiet_other client call r e = record { made = refl; removed = λ id. refl; fewer = refl; brought = λ id. refl }

-- ---- one entry more

-- how many listeners were removed
abbrev pub removals : List Answered → ℕ
removals answered = count_by (λ (a : Answered). removes_one a.entry.call a.reply) answered

module _ (world : List Domain) (log : List Entry) (e : Entry) where
  abbrev before : List Answered
  before = history world log

  abbrev r : Reply
  r = reply_to world before e.client e.call

  pub made-push : listeners (history world (log ++ e ∷ [])) ≡ listeners (history world log) ++ option_to_list (listens e.client e.call (reply_to world (history world log) e.client e.call))
  made-push =
      ap listeners (history-push world log e) ∙ filter_map-append (λ (a : Answered). listens a.entry.client a.entry.call a.reply) before (now_of world before e ∷ [])
      ∙ listed (listeners before) (listens e.client e.call r)

  pub removed-push : (id : ℕ) → is_removed (history world (log ++ e ∷ [])) id ≡ (is_removed (history world log) id || removes e.call (reply_to world (history world log) e.client e.call) id)
  removed-push id =
      ap (λ (answered : List Answered). is_removed answered id) (history-push world log e)
      ∙ list_any-append (λ (a : Answered). removes a.entry.call a.reply id) before (now_of world before e ∷ [])
      ∙ elim (removes e.call r id) as (λ b. (is_removed before id || (b || false)) ≡ (is_removed before id || b)) [ true ↦ refl | false ↦ refl ]

  pub removals-push : removals (history world (log ++ e ∷ [])) ≡ removals (history world log) + cond (removes_one e.call (reply_to world (history world log) e.client e.call)) 1 0
  removals-push =
      ap removals (history-push world log e) ∙ sum_by-append (λ (a : Answered). cond (removes_one a.entry.call a.reply) 1 0) before (now_of world before e ∷ [])
      ∙ ap (λ n. removals before + n) (let one : 0 + cond (removes_one e.call r) 1 0 ≡ cond (removes_one e.call r) 1 0 = omega arith in one)

  pub version-push : (id : ℕ) → version (history world (log ++ e ∷ [])) id ≡ unwrap_or (brings_to e.call (reply_to world (history world log) e.client e.call) id) (version (history world log) id)
  version-push id =
      ap (λ (answered : List Answered). version answered id) (history-push world log e)
      ∙ fold-append (λ v (a : Answered). unwrap_or (brings_to a.entry.call a.reply id) v) 0 before (now_of world before e ∷ [])

  pub commits-grow : (n : ℕ) → length (commits (history world log) n) ≤ length (commits (history world (log ++ e ∷ [])) n)
  commits-grow n = subst (λ (answered : List Answered). length (commits before n) ≤ length (commits answered n)) (sym (history-push world log e)) (commits-more world before e n)

-- ---- tokens last

pub made_last : (known : HubHistory) (e : Entry) (n : ℕ) (l : Listening) → listener_at (history known.world known.log) n ≡ Some l → listener_at (history known.world (known.log ++ e ∷ [])) n ≡ Some l
made_last known e n l was =
    ap (λ (xs : List Listening). numbered xs n) (made-push known.world known.log e)
    ∙ numbered-more (listeners (history known.world known.log)) (option_to_list (listens e.client e.call (reply_to known.world (history known.world known.log) e.client e.call))) n l was

pub named_last : (known : HubHistory) (e : Entry) (id : ListenerId) → IsListener known id → IsListener (more known e) id
named_last known e id was = (was.0, last (listener_at (history known.world known.log) id.number) refl was.1)
  where
    last : (o : Option Listening) → listener_at (history known.world known.log) id.number ≡ o → option_map (λ (l : Listening). l.domain) o ≡ Some id.domain
        → option_map (λ (l : Listening). l.domain) (listener_at (history known.world (known.log ++ e ∷ [])) id.number) ≡ Some id.domain
    last None at is = cc
    last (Some l) at is = ap (option_map (λ (x : Listening). x.domain)) (made_last known e id.number l at) ∙ is

-- ---- the state of listeners

module _ (known : HubHistory) (e : Entry) (ls : Listeners) (are : AreListeners known ls) where
  abbrev answered : List Answered
  answered = history known.world known.log

  abbrev reply : Reply
  reply = reply_to known.world answered e.client e.call

  -- one that neither is removed nor takes a batch
  pub still_listened : (id : ℕ) (l : Listener) → IsListened known id l → removes e.call (reply_to known.world (history known.world known.log) e.client e.call) id ≡ false
      → brings_to e.call (reply_to known.world (history known.world known.log) e.client e.call) id ≡ None → IsListened (more known e) id l
  still_listened id l was stays untold = record {
    domain = was.domain;
    live = was.live ∙ ap not (sym (removed-push known.world known.log e id ∙ ap (λ b. is_removed answered id || b) stays ∙ or_false (is_removed answered id)));
    version = was.version ∙ sym (version-push known.world known.log e id ∙ ap (λ (o : Option ℕ). unwrap_or o (version answered id)) untold);
    reached = omega (arith, was.reached, commits-grow known.world known.log e l.domain);
  }

  pub listeners_now : (ls' : Listeners)
      → map listening_of ls'.list.items ≡ map listening_of ls.list.items ++ option_to_list (listens e.client e.call (reply_to known.world (history known.world known.log) e.client e.call))
      → ((i : ℕ) (l : Listener) → slice_get ls'.list.items i ≡ Some l → IsListened (more known e) (i + 1) l)
      → ((id : ℕ) → length ls'.list.items < id → removes e.call (reply_to known.world (history known.world known.log) e.client e.call) id ≡ false)
      → ls'.live ≡ live_in ls'.list.items
      → ls'.live + cond (removes_one e.call (reply_to known.world (history known.world known.log) e.client e.call)) 1 0 ≡ ls.live + length (option_to_list (listens e.client e.call (reply_to known.world (history known.world known.log) e.client e.call)))
      → AreListeners (more known e) ls'
  listeners_now ls' made each stays counted all =
      let fresh : List Listening = option_to_list (listens e.client e.call reply) in
      let wider : length ls'.list.items ≡ length ls.list.items + length fresh =
      sym (length-map ls'.list.items listening_of) ∙ ap length made ∙ length-append (map listening_of ls.list.items) fresh ∙ ap (λ n. n + length fresh) (length-map ls.list.items listening_of) in
      record {
        made = made ∙ ap (λ (xs : List Listening). xs ++ fresh) are.made ∙ sym (made-push known.world known.log e);
        each = each;
        unmade = λ id far.
            let high : length ls.list.items < id = omega (arith, far, wider) in
            removed-push known.world known.log e id ∙ (λ i. are.unmade id high i || stays id far i);
        counted = counted;
        all = omega (arith, all, are.all, removals-push known.world known.log e, ap length (made-push known.world known.log e), length-append (listeners answered) fresh);
      }

  pub listeners_steady : IsQuiet e.client e.call (reply_to known.world (history known.world known.log) e.client e.call) → AreListeners (more known e) ls
  listeners_steady quiet =
      listeners_now ls
      (sym (append-nil (map listening_of ls.list.items)) ∙ ap (λ (o : Option Listening). map listening_of ls.list.items ++ option_to_list o) (sym quiet.made))
      (λ i l at. still_listened (i + 1) l (are.each i l at) (quiet.removed (i + 1)) (quiet.brought (i + 1)))
      (λ id far. quiet.removed id) are.counted
      ((λ i. ls.live + cond (quiet.fewer i) 1 0) ∙ (λ i. ls.live + length (option_to_list (sym quiet.made i))))

-- ---- the first

pub listeners_empty : (world : List Domain) (ls : Listeners) → ls.list.items ≡ [] → ls.live ≡ 0 → AreListeners (record { world = world; log = [] }) ls
listeners_empty world ls none unheard = record {
  made = ap (map listening_of) none;
  each = λ i l at. let nowhere : slice_get [] i ≡ Some l = ap (λ (xs : List Listener). slice_get xs i) (sym none) ∙ at in cc;
  unmade = λ id far. refl;
  counted = unheard ∙ sym (ap live_in none);
  all = let none : ls.live + 0 ≡ 0 = omega (arith, unheard) in none;
}
