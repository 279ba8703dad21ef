-- What stays where a log grows: its commits, and so the trees at them, and its listeners.
use Rattle.std.proofs.Common.{◌≡◌, ℕ, zero, suc, ◌+◌, ◌-◌, ◌≤◌, Bool, List, [], ◌∷◌, ◌++◌, length, map, take, Option, None, Some, refl, ap, sym, ◌∙◌, subst, arith, append_assoc, append-nil, length-append}
use Rattle.std.specs.Prelude.{slice_get}
use Rattle.std.specs.List.{fold}
use Rattle.std.proofs.lemmas.Grind.{flat_map-append}
use Rattle.std.proofs.lemmas.List.{map-append, take-append-le}
use Rattle.std.proofs.lemmas.List.Elements.{filter_map-append}
use Rattle.std.proofs.lemmas.List.Sums.{fold-append}
use Rattle.std.proofs.lemmas.Option.{slice_get_within}
use Rattle.sal_types.specs.declared.value.Store.{Store}
use Rattle.sal_rows.specs.declared.op.Op.{Op}
use Rattle.sal_rows.specs.declared.outcome.Outcome.{Outcome}
use Rattle.sal_rows.specs.Commits.{tree_after}
use Rattle.sal_history.specs.declared.call.Call.{Call}
use Rattle.sal_history.specs.declared.call.Call.TheVariants.{Begin, OpenChain, ChainBegin, CloseChain, Submit, Cancel, Settle, Pump, Listen, Take, Unlisten, Provide, Withdraw, Invoke, NextCall, Answer, Collect, Subscribe, Offer, TakeNotes, Mount, Unmount, MountAt, Mark, After, Upgrade}
use Rattle.sal_history.specs.declared.call.Entry.{Entry}
use Rattle.sal_history.specs.Listeners.{Listening, listener_at, listeners, listens}
use Rattle.sal_history.specs.Numbered.{numbered}
use Rattle.sal_history.specs.Submissions.{Sent, done, done_ops}
use Rattle.sal_schema.specs.declared.table.SchemaTable.{SchemaTable}
use Rattle.sal_history.specs.Versions.{tables_now}
use Rattle.sal_history.specs.World.{Domain, opening_of}
use Rattle.sal_history.specs.History.{Answered, answer, answered_as, commits, decide_front, decide_next, decided_by, history, is_live, outcome, outcomes, reply_to, sents, trees_at}
use Rattle.sal_history.proofs.Numbered.{numbered-more}
use Rattle.sal_history.proofs.Waiting.{added}

-- ---- lists

pub get_front : {X : Type 0} (xs ys : List X) (i : ℕ) (x : X) → slice_get xs i ≡ Some x → slice_get (xs ++ ys) i ≡ Some x
get_front [] ys i x at = cc
get_front (y ∷ xs) ys zero x at = at
get_front (y ∷ xs) ys (suc i) x at = get_front xs ys i x at

-- ---- commits of submissions

-- more outcomes take no commit back
done_grows : (domain : ℕ) (ss : List Sent) (os ps : List Outcome) → (more : List Sent) × (done domain ss (os ++ ps) ≡ done domain ss os ++ more)
done_grows domain [] os ps = ([], refl)
done_grows domain (s ∷ ss) [] ps = (done domain (s ∷ ss) ps, refl)
done_grows domain (s ∷ ss) (o ∷ os) ps =
    let rest = done_grows domain ss os ps in
    (rest.0, ap (λ (ds : List Sent). added domain s o ++ ds) rest.1 ∙ sym (append_assoc (added domain s o) (done domain ss os) rest.0))

-- submissions without an outcome are no commits
done_front : (domain : ℕ) (ss new : List Sent) (os : List Outcome) → length os ≤ length ss → done domain (ss ++ new) os ≡ done domain ss os
done_front domain [] [] [] few = refl
done_front domain [] (s ∷ new) [] few = refl
done_front domain [] new (o ∷ os) few = absurd (omega (arith, few))
done_front domain (s ∷ ss) new [] few = refl
done_front domain (s ∷ ss) new (o ∷ os) few = ap (λ (ds : List Sent). added domain s o ++ ds) (done_front domain ss new os (omega (arith, few)))

module _ (world : List Domain) (tables : ℕ → SchemaTable) (live : ℕ → Bool) where
  -- no more receipts are decided than were given
  decided_few : (ss : List Sent) (os : List Outcome) (n : ℕ) → length os ≤ length ss → length (os ++ decide_next world tables live ss os n) ≤ length ss
  decided_few ss os zero few = subst (λ (ps : List Outcome). length ps ≤ length ss) (sym (append-nil os)) few
  decided_few ss os (suc n) few = front (slice_get ss (length os)) refl (λ qs le. decided_few ss qs n le)
    where
      front : (s : Option Sent) → slice_get ss (length os) ≡ s → ((qs : List Outcome) → length qs ≤ length ss → length (qs ++ decide_next world tables live ss qs n) ≤ length ss)
          → length (os ++ (decide_front world tables live ss os s ++ decide_next world tables live ss (os ++ decide_front world tables live ss os s) n)) ≤ length ss
      front None at more = subst (λ (qs : List Outcome). length (os ++ decide_next world tables live ss qs n) ≤ length ss) (sym (append-nil os)) (more os few)
      front (Some s) at more =
          let one : List Outcome = outcome world tables live ss os s ∷ [] in
          subst (λ (qs : List Outcome). length qs ≤ length ss) (append_assoc os one (decide_next world tables live ss (os ++ one) n))
          (more (os ++ one) (omega (arith, slice_get_within ss (length os) s at, length-append os one)))

-- ---- entries

-- no more receipts were decided than given
abbrev pub Few : List Answered → Type 0
Few answered = length (outcomes answered) ≤ length (sents answered)

module _ (world : List Domain) where
  -- no outcome more
  none_more : (answered : List Answered) → Few answered → length (outcomes answered ++ []) ≤ length (sents answered)
  none_more answered few = subst (λ (ps : List Outcome). length ps ≤ length (sents answered)) (sym (append-nil (outcomes answered))) few

  decided_by_few : (answered : List Answered) (call : Call) → Few answered → length (outcomes answered ++ decided_by world answered call) ≤ length (sents answered)
  decided_by_few answered (Settle receipt) few = decided_few world (tables_now world answered) (is_live world answered) (sents answered) (outcomes answered) (receipt - length (outcomes answered)) few
  decided_by_few answered Pump few = decided_few world (tables_now world answered) (is_live world answered) (sents answered) (outcomes answered) 1 few
  decided_by_few answered (Begin domain mode) few = none_more answered few
  decided_by_few answered (OpenChain domain) few = none_more answered few
  decided_by_few answered (ChainBegin chain mode) few = none_more answered few
  decided_by_few answered (CloseChain chain) few = none_more answered few
  decided_by_few answered (Submit place ops) few = none_more answered few
  decided_by_few answered (Cancel place) few = none_more answered few
  decided_by_few answered (Listen domain store path) few = none_more answered few
  decided_by_few answered (Take id) few = none_more answered few
  decided_by_few answered (Unlisten id) few = none_more answered few
  decided_by_few answered (Provide rpc context) few = none_more answered few
  decided_by_few answered (Withdraw rpc context) few = none_more answered few
  decided_by_few answered (Invoke rpc context input) few = none_more answered few
  decided_by_few answered NextCall few = none_more answered few
  decided_by_few answered (Answer id output) few = none_more answered few
  decided_by_few answered (Collect id) few = none_more answered few
  decided_by_few answered (Subscribe note) few = none_more answered few
  decided_by_few answered (Offer note rows) few = none_more answered few
  decided_by_few answered TakeNotes few = none_more answered few
  decided_by_few answered (Mount path device) few = none_more answered few
  decided_by_few answered (Unmount domain) few = none_more answered few
  decided_by_few answered (MountAt path) few = none_more answered few
  decided_by_few answered (Mark mark) few = none_more answered few
  decided_by_few answered (After mark) few = none_more answered few
  decided_by_few answered (Upgrade version) few = none_more answered few

  pub few_next : (answered : List Answered) (e : Entry) → Few answered → Few (answer world answered e)
  few_next answered e few =
      let now : Answered = answered_as world answered e (reply_to world answered e.client e.call) in
      let given : length (sents (answered ++ now ∷ [])) ≡ length (sents answered) + length (sents (now ∷ [])) =
      ap length (filter_map-append (λ (a : Answered). a.sent) answered (now ∷ [])) ∙ length-append (sents answered) (sents (now ∷ [])) in
      let told : length (outcomes (answered ++ now ∷ [])) ≡ length (outcomes answered ++ decided_by world answered e.call) =
      ap length (flat_map-append (λ (a : Answered). a.decided) answered (now ∷ []) ∙ ap (λ (ps : List Outcome). outcomes answered ++ ps) (append-nil (decided_by world answered e.call))) in
      omega (arith, decided_by_few answered e.call few, given, told)

  few_fold : (answered : List Answered) (log : List Entry) → Few answered → Few (fold (answer world) answered log)
  few_fold answered [] few = few
  few_fold answered (e ∷ log) few = few_fold (answer world answered e) log (few_next answered e few)

  few_in : (log : List Entry) → Few (history world log)
  few_in log = few_fold [] log (omega arith)

  -- the entries of a longer log begin with those of the shorter one
  grows_fold : (answered : List Answered) (more : List Entry) → (rest : List Answered) × (fold (answer world) answered more ≡ answered ++ rest)
  grows_fold answered [] = ([], sym (append-nil answered))
  grows_fold answered (e ∷ more) =
      let now : Answered = answered_as world answered e (reply_to world answered e.client e.call) in
      let grown = grows_fold (answer world answered e) more in
      (now ∷ grown.0, grown.1 ∙ append_assoc answered (now ∷ []) grown.0)

  pub history_grows : (log more : List Entry) → (rest : List Answered) × (history world (log ++ more) ≡ history world log ++ rest)
  history_grows log more =
      let grown = grows_fold (history world log) more in
      (grown.0, fold-append (answer world) [] log more ∙ grown.1)

-- ---- commits of a log

pub commits_left : (answered rest : List Answered) (domain : ℕ) → Few answered → (later : List (List Op)) × (commits (answered ++ rest) domain ≡ commits answered domain ++ later)
commits_left answered rest domain few =
    let ss : List Sent = sents answered in
    let os : List Outcome = outcomes answered in
    let all : List Sent = ss ++ sents rest in
    let grown = done_grows domain all os (outcomes rest) in
    let given : sents (answered ++ rest) ≡ all = filter_map-append (λ (a : Answered). a.sent) answered rest in
    let told : outcomes (answered ++ rest) ≡ os ++ outcomes rest = flat_map-append (λ (a : Answered). a.decided) answered rest in
    let ops : List Sent → List (List Op) = map (λ (s : Sent). s.ops) in (
      ops grown.0,
      (λ i. done_ops domain (given i) (told i)) ∙ ap ops (grown.1 ∙ ap (λ (ds : List Sent). ds ++ grown.0) (done_front domain ss (sents rest) os few))
          ∙ map-append (λ (s : Sent). s.ops) (done domain ss os) grown.0,
    )

-- the trees at the commits stay
pub trees_left : (world : List Domain) (answered rest : List Answered) (domain : ℕ) (store : Store) (k : ℕ) → Few answered → k ≤ length (commits answered domain) → trees_at world (answered ++ rest) domain store k ≡ trees_at world answered domain store k
trees_left world answered rest domain store k few within =
    let later = commits_left answered rest domain few in
    ap (λ (ops : List (List Op)). tree_after store (opening_of world domain store) (take k ops)) later.1
    ∙ ap (tree_after store (opening_of world domain store)) (take-append-le k (commits answered domain) later.0 within)

module _ (world : List Domain) (log more : List Entry) (domain : ℕ) where
  pub commits_later : (later : List (List Op)) × (commits (history world (log ++ more)) domain ≡ commits (history world log) domain ++ later)
  commits_later =
      let grown = history_grows world log more in
      let left = commits_left (history world log) grown.0 domain (few_in world log) in
      (left.0, ap (λ (answered : List Answered). commits answered domain) grown.1 ∙ left.1)

  pub more_commits : length (commits (history world log) domain) ≤ length (commits (history world (log ++ more)) domain)
  more_commits =
      let later = commits_later in
      omega (arith, ap length later.1, length-append (commits (history world log) domain) later.0)

  -- the trees at its commits stay
  pub trees_later : (store : Store) (k : ℕ) → k ≤ length (commits (history world log) domain) → trees_at world (history world (log ++ more)) domain store k ≡ trees_at world (history world log) domain store k
  trees_later store k within =
      let grown = history_grows world log more in
      ap (λ (answered : List Answered). trees_at world answered domain store k) grown.1
      ∙ trees_left world (history world log) grown.0 domain store k (few_in world log) within

-- ---- listeners

listener_left : (answered rest : List Answered) (id : ℕ) (l : Listening) → listener_at answered id ≡ Some l → listener_at (answered ++ rest) id ≡ Some l
listener_left answered rest id l at =
    ap (λ (ls : List Listening). numbered ls id) (filter_map-append (λ (a : Answered). listens a.entry.client a.entry.call a.reply) answered rest)
    ∙ numbered-more (listeners answered) (listeners rest) id l at

-- a listener stays what it is
pub listener_later : (world : List Domain) (log more : List Entry) (id : ℕ) (l : Listening) → listener_at (history world log) id ≡ Some l → listener_at (history world (log ++ more)) id ≡ Some l
listener_later world log more id l at =
    let grown = history_grows world log more in
    ap (λ (answered : List Answered). listener_at answered id) grown.1 ∙ listener_left (history world log) grown.0 id l at
