-- What a client that took everything has of a listener: one answer more, and so any log.
use Rattle.std.proofs.Common.{◌≡◌, ℕ, zero, suc, ◌+◌, ◌-◌, ◌≤◌, Bool, true, false, List, [], ◌∷◌, ◌++◌, length, take, Option, None, Some, if◌then◌else◌, refl, ap, sym, ◌∙◌, subst, arith, append-nil, length-append}
use Rattle.std.specs.Prelude.{nat_eq, slice_get, unwrap_or}
use Rattle.std.specs.List.{cons_option, fold}
use Rattle.std.specs.Option.{option_map_or}
use Rattle.std.proofs.lemmas.Bool.{eqb-true, eq-eqb}
use Rattle.std.proofs.lemmas.List.Elements.{filter_map-append}
use Rattle.std.proofs.lemmas.List.Sums.{fold-append}
use Rattle.std.proofs.lemmas.Option.{same_Some}
use Rattle.sal_types.specs.declared.value.Store.{Store}
use Rattle.sal_types.specs.declared.value.Step.{Step}
use Rattle.sal_types.specs.declared.row.Row.{Row}
use Rattle.sal_types.specs.Tree.{under, IsAscending}
use Rattle.sal_rows.specs.declared.op.Op.{Op}
use Rattle.sal_rows.specs.declared.batch.Part.{Part}
use Rattle.sal_rows.specs.declared.outcome.CallFault.{CallFault}
use Rattle.sal_rows.specs.declared.outcome.CallFault.TheVariants.{NoListener}
use Rattle.sal_rows.specs.Apply.{apply_ops}
use Rattle.sal_rows.specs.Batches.{part, parts_after}
use Rattle.sal_rows.specs.Commits.{tree_after}
use Rattle.sal_rows.specs.Patch.{with_parts}
use Rattle.sal_rows.proofs.Applied.{IsAscending-apply_ops}
use Rattle.sal_rows.proofs.Patched.{parts-append, with-after}
use Rattle.sal_schema.specs.Fitting.{has_own_row}
use Rattle.sal_history.specs.declared.call.Call.{Call}
use Rattle.sal_history.specs.declared.call.Call.TheVariants.{Begin, OpenChain, ChainBegin, CloseChain, Submit, Cancel, Settle, Pump, Listen, Take, Unlisten, Provide, Withdraw, Invoke, NextCall, Answer, Collect, Subscribe, Offer, TakeNotes, Mount, Unmount, MountAt, Mark, After, Upgrade}
use Rattle.sal_history.specs.declared.call.Entry.{Entry}
use Rattle.sal_history.specs.declared.reply.Reply.{Reply}
use Rattle.sal_history.specs.declared.reply.Reply.TheVariants.{Refused}
use Rattle.sal_history.specs.Listeners.{Listening, brings_to, has_listener, listener_at, listeners, listens, version}
use Rattle.sal_history.specs.Numbered.{numbered}
use Rattle.sal_history.specs.World.{Domain, opening_of, last_of}
use Rattle.sal_history.specs.History.{Answered, answer, answered_as, batch_of, commits, history, listen_refusal, listening, refused_or, reply_to, taken, trees_at}
use Rattle.sal_history.proofs.Numbered.{numbered-at, numbered-is}
use Rattle.sal_script.specs.Followed.{AreTrees, IsFollowed, followed, follows, opened_at, opens_at, parts_of, tells, told}
use Rattle.sal_script.proofs.Growing.{Few, commits_left, few_next, trees_left}

-- ---- lists

pub get_last : {X : Type 0} (xs : List X) (x : X) → slice_get (xs ++ x ∷ []) (length xs) ≡ Some x
get_last [] x = refl
get_last (y ∷ xs) x = get_last xs x

get_before : {X : Type 0} (xs : List X) (x y : X) (i : ℕ) → (i ≡ length xs → ⊥) → slice_get (xs ++ x ∷ []) i ≡ Some y → slice_get xs i ≡ Some y
get_before [] x y zero other at = absurd (other refl)
get_before [] x y (suc i) other at = cc
get_before (z ∷ xs) x y zero other at = at
get_before (z ∷ xs) x y (suc i) other at = get_before xs x y i (λ same. other (ap suc same)) at

-- ---- trees at the commits

ascending_after : (s : Store) (tree : List Row) (ops : List (List Op)) → IsAscending tree → IsAscending (tree_after s tree ops)
ascending_after s tree [] h = h
ascending_after s tree (o ∷ ops) h = ascending_after s (apply_ops tree s o) ops (IsAscending-apply_ops tree s o)

-- ---- parts

-- parts look at no tree after their last commit
parts_same : (own : Bool) (trees more : ℕ → List Row) (p : List Step) (n k last : ℕ) → k + n ≤ last → ((j : ℕ) → j ≤ last → trees j ≡ more j) → parts_after own trees p k n ≡ parts_after own more p k n
parts_same own trees more p zero k last within same = refl
parts_same own trees more p (suc n) k last within same =
    let here : trees k ≡ more k = same k (omega (arith, within)) in
    let next : trees (k + 1) ≡ more (k + 1) = same (k + 1) (omega (arith, within)) in
    let rest : parts_after own trees p (k + 1) n ≡ parts_after own more p (k + 1) n = parts_same own trees more p n (k + 1) last (omega (arith, within)) same in
    λ i. part own (here i) (next i) p (k + 1) ++ rest i

-- the parts of two batches, one after the other
parts_joined : (own : Bool) (trees : ℕ → List Row) (p : List Step) (k v to : ℕ) → k ≤ v → v ≤ to → parts_after own trees p k (v - k) ++ parts_after own trees p v (to - v) ≡ parts_after own trees p k (to - k)
parts_joined own trees p k v to first second =
    let at : v ≡ k + (v - k) = omega (arith, first) in
    let sum : (v - k) + (to - v) ≡ to - k = omega (arith, first, second) in
    ap (λ j. parts_after own trees p k (v - k) ++ parts_after own trees p j (to - v)) at ∙ parts-append own trees p (v - k) (to - v) k ∙ ap (parts_after own trees p k) sum

-- ---- one answer more

-- what an answer does to a listener: the commit of its opening and its version, where they are new, and then its rows and parts
record Telling : Type 0 where
  opening : Option ℕ
  to : Option ℕ
  rows : List Row
  parts : List Part

abbrev tell : List Answered → ℕ → Call → Reply → Telling
tell answered id call reply =
    record { opening = opens_at call reply id; to = brings_to call reply id; rows = follows call reply id (followed answered id); parts = tells call reply id (told answered id) }

-- a listener after such an answer, said of the commits before
record Next (world : List Domain) (answered : List Answered) (id : ℕ) (l : Listening) (t : Telling) : Type 0 where
  reached : unwrap_or t.to (version answered id) ≤ length (commits answered l.domain)
  begun : unwrap_or t.opening (opened_at answered id) ≤ unwrap_or t.to (version answered id)
  parts : t.parts ≡ parts_of world answered l (unwrap_or t.opening (opened_at answered id)) (unwrap_or t.to (version answered id) - unwrap_or t.opening (opened_at answered id))
  rows : t.rows ≡ under (trees_at world answered l.domain l.store (unwrap_or t.to (version answered id))) l.path

-- where it is left as it was
abbrev same_as : List Answered → ℕ → Telling
same_as answered id = record { opening = None; to = None; rows = followed answered id; parts = told answered id }

module _ (world : List Domain) (answered : List Answered) (trees : AreTrees world) (id : ℕ) (some : 1 ≤ id) where
  stays : (l : Listening) → IsFollowed world answered id l → Next world answered id l (same_as answered id)
  stays l was = record { reached = was.reached; begun = was.begun; parts = was.parts; rows = was.rows }

  -- the listener was there before, where the answer made none
  no_more : (l : Listening) → numbered (listeners answered ++ []) id ≡ Some l → listener_at answered id ≡ Some l
  no_more l at = ap (λ (ls : List Listening). numbered ls id) (sym (append-nil (listeners answered))) ∙ at

  -- ---- a listen

  module _ (l : Listening) (was : listener_at answered id ≡ Some l → IsFollowed world answered id l) (client domain : ℕ) (s : Store) (p : List Step) where
    abbrev made : Listening
    made = record { client = client; domain = domain; store = s; path = p }

    abbrev newest : ℕ
    newest = length (commits answered domain)

    -- what the listener is given, if it is this one or another
    abbrev opening_of_it : Bool → Telling
    opening_of_it b = record {
      opening = if b then Some newest else None;
      to = if b then Some newest else None;
      rows = if b then under (trees_at world answered domain s newest) p else followed answered id;
      parts = if b then [] else told answered id;
    }

    opens : (b : Bool) → nat_eq (length (listeners answered) + 1) id ≡ b → numbered (listeners answered ++ made ∷ []) id ≡ Some l
        → Next world answered id l (opening_of_it b)
    opens true is at =
        let place : id - 1 ≡ length (listeners answered) = omega (arith, eqb-true (length (listeners answered) + 1) id is) in
        let same : made ≡ l = same_Some made l (sym (get_last (listeners answered) made) ∙ ap (slice_get (listeners answered ++ made ∷ [])) (sym place) ∙ numbered-is (listeners answered ++ made ∷ []) id l at) in
        let none : 0 ≡ newest - newest = omega arith in
        let one : Next world answered id made (opening_of_it true) = record { reached = omega arith; begun = omega arith; parts = ap (parts_of world answered made newest) none; rows = refl } in
        subst (λ (x : Listening). Next world answered id x (opening_of_it true)) same one
    opens false is at = stays l (was (numbered-at (listeners answered) id l (omega (arith, some)) (get_before (listeners answered) made l (id - 1) other (numbered-is (listeners answered ++ made ∷ []) id l at))))
      where
        other : id - 1 ≡ length (listeners answered) → ⊥
        other place =
            let same : length (listeners answered) + 1 ≡ id = omega (arith, some, place) in
            let yes : nat_eq (length (listeners answered) + 1) id ≡ true = eq-eqb (length (listeners answered) + 1) id same in cc

    listened : (o : Option CallFault) → numbered (listeners answered ++ cons_option (listens client (Listen domain s p) (refused_or o (listening world answered domain s p))) []) id ≡ Some l
        → Next world answered id l (tell answered id (Listen domain s p) (refused_or o (listening world answered domain s p)))
    listened (Some fault) at = stays l (was (no_more l at))
    listened None at = opens (nat_eq (length (listeners answered) + 1) id) refl at

  -- ---- a take

  module _ (l : Listening) (made : listener_at answered id ≡ Some l) (was : IsFollowed world answered id l) (n : ℕ) where
    -- the parts after the version of a listener
    abbrev parts_behind : ℕ → Listening → List Part
    parts_behind m x = parts_of world answered x (version answered m) (length (commits answered x.domain) - version answered m)

    -- what the listener is given, if the batch is its own or another's
    abbrev batch_of_it : Bool → ℕ → Listening → Telling
    batch_of_it b m x = record {
      opening = None;
      to = if b then Some (length (commits answered x.domain)) else None;
      rows = if b then with_parts (followed answered id) (parts_behind m x) else followed answered id;
      parts = if b then told answered id ++ parts_behind m x else told answered id;
    }

    moved : Next world answered id l (batch_of_it true id l)
    moved =
        let own : Bool = has_own_row (last_of world l.domain) l.path in
        let at : ℕ → List Row = trees_at world answered l.domain l.store in
        let from : ℕ = version answered id in
        let to : ℕ = length (commits answered l.domain) in
        let rise : (k : ℕ) → IsAscending (at k) = λ k. ascending_after l.store (opening_of world l.domain l.store) (take k (commits answered l.domain)) (trees l.domain l.store) in
        let sum : from + (to - from) ≡ to = omega (arith, was.reached) in
        let reached : from ≤ to = was.reached in
        record {
          reached = omega arith;
          begun = omega (arith, was.begun, reached);
          parts = ap (λ (parts : List Part). parts ++ parts_after own at l.path from (to - from)) was.parts ∙ parts_joined own at l.path (opened_at answered id) from to was.begun reached;
          rows = ap (λ (rows : List Row). with_parts rows (parts_after own at l.path from (to - from))) was.rows ∙ with-after own at l.path rise (to - from) from ∙ ap (λ k. under (at k) l.path) sum;
        }

    by_number : (x : Listening) → listener_at answered n ≡ Some x → (b : Bool) → nat_eq n id ≡ b
        → Next world answered id l (batch_of_it b n x)
    by_number x there false is = stays l was
    by_number x there true is =
        let same : n ≡ id = eqb-true n id is in
        let mine : l ≡ x = same_Some l x (sym made ∙ ap (listener_at answered) (sym same) ∙ there) in
        subst (λ (m : ℕ). Next world answered id l (batch_of_it true m x)) (sym same) (subst (λ (y : Listening). Next world answered id l (batch_of_it true id y)) mine moved)

    by_listener : (o : Option Listening) → listener_at answered n ≡ o
        → Next world answered id l (tell answered id (Take n) (option_map_or (batch_of world answered n) o (Refused (NoListener n))))
    by_listener None there = stays l was
    by_listener (Some x) there = by_number x there (nat_eq n id) refl

    took : (b : Bool) → Next world answered id l (tell answered id (Take n) (if b then taken world answered n else Refused (NoListener n)))
    took false = stays l was
    took true = by_listener (listener_at answered n) refl

  -- ---- any call

  module _ (l : Listening) (was : listener_at answered id ≡ Some l → IsFollowed world answered id l) (client : ℕ) where
    abbrev MadeBy : Call → Type 0
    MadeBy call = numbered (listeners answered ++ cons_option (listens client call (reply_to world answered client call)) []) id ≡ Some l

    abbrev NextBy : Call → Type 0
    NextBy call = Next world answered id l (tell answered id call (reply_to world answered client call))

    next_by : (call : Call) → MadeBy call → NextBy call
    next_by (Listen domain s p) at = listened l was client domain s p (listen_refusal world answered domain) at
    next_by (Take n) at = took l (no_more l at) (was (no_more l at)) n (has_listener answered client n)
    next_by (Begin domain mode) at = stays l (was (no_more l at))
    next_by (OpenChain domain) at = stays l (was (no_more l at))
    next_by (ChainBegin chain mode) at = stays l (was (no_more l at))
    next_by (CloseChain chain) at = stays l (was (no_more l at))
    next_by (Submit place ops) at = stays l (was (no_more l at))
    next_by (Cancel place) at = stays l (was (no_more l at))
    next_by (Settle receipt) at = stays l (was (no_more l at))
    next_by Pump at = stays l (was (no_more l at))
    next_by (Unlisten n) at = stays l (was (no_more l at))
    next_by (Provide rpc context) at = stays l (was (no_more l at))
    next_by (Withdraw rpc context) at = stays l (was (no_more l at))
    next_by (Invoke rpc context input) at = stays l (was (no_more l at))
    next_by NextCall at = stays l (was (no_more l at))
    next_by (Answer n output) at = stays l (was (no_more l at))
    next_by (Collect n) at = stays l (was (no_more l at))
    next_by (Subscribe note) at = stays l (was (no_more l at))
    next_by (Offer note rows) at = stays l (was (no_more l at))
    next_by TakeNotes at = stays l (was (no_more l at))
    next_by (Mount path device) at = stays l (was (no_more l at))
    next_by (Unmount domain) at = stays l (was (no_more l at))
    next_by (MountAt path) at = stays l (was (no_more l at))
    next_by (Mark mark) at = stays l (was (no_more l at))
    next_by (After mark) at = stays l (was (no_more l at))
    next_by (Upgrade version) at = stays l (was (no_more l at))

-- ---- any log

-- what holds of all answers so far
record IsSound (world : List Domain) (answered : List Answered) : Type 0 where
  few : Few answered
  each : (id : ℕ) (l : Listening) → 1 ≤ id → listener_at answered id ≡ Some l → IsFollowed world answered id l

module _ (world : List Domain) (trees : AreTrees world) where
  answered_next : (answered : List Answered) (e : Entry) → IsSound world answered → (id : ℕ) (l : Listening) → 1 ≤ id → listener_at (answer world answered e) id ≡ Some l → IsFollowed world (answer world answered e) id l
  answered_next answered e was id l some made =
      let reply : Reply = reply_to world answered e.client e.call in
      let now : Answered = answered_as world answered e reply in
      let at = sym (ap (λ (ls : List Listening). numbered ls id) (filter_map-append (λ (a : Answered). listens a.entry.client a.entry.call a.reply) answered (now ∷ []))) ∙ made in
      let next : Next world answered id l (tell answered id e.call reply) = next_by world answered trees id some l (was.each id l some) e.client e.call at in
      let to : ℕ = unwrap_or (brings_to e.call reply id) (version answered id) in
      let from : ℕ = unwrap_or (opens_at e.call reply id) (opened_at answered id) in
      let brought : version (answered ++ now ∷ []) id ≡ to = fold-append (λ (v : ℕ) (a : Answered). unwrap_or (brings_to a.entry.call a.reply id) v) 0 answered (now ∷ []) in
      let begun : opened_at (answered ++ now ∷ []) id ≡ from = fold-append (λ (v : ℕ) (a : Answered). unwrap_or (opens_at a.entry.call a.reply id) v) 0 answered (now ∷ []) in
      let given : followed (answered ++ now ∷ []) id ≡ follows e.call reply id (followed answered id) = fold-append (λ (rows : List Row) (a : Answered). follows a.entry.call a.reply id rows) [] answered (now ∷ []) in
      let told_now : told (answered ++ now ∷ []) id ≡ tells e.call reply id (told answered id) = fold-append (λ (parts : List Part) (a : Answered). tells a.entry.call a.reply id parts) [] answered (now ∷ []) in
      let later = commits_left answered (now ∷ []) l.domain was.few in
      let stay : (k : ℕ) → k ≤ length (commits answered l.domain) → trees_at world answered l.domain l.store k ≡ trees_at world (answered ++ now ∷ []) l.domain l.store k =
      λ k within. sym (trees_left world answered (now ∷ []) l.domain l.store k was.few within) in
      let within : from + (to - from) ≤ length (commits answered l.domain) = omega (arith, next.reached, next.begun) in
      record {
        reached = omega (arith, next.reached, brought, ap length later.1, length-append (commits answered l.domain) later.0);
        begun = omega (arith, next.begun, begun, brought);
        parts =
            told_now
            ∙ next.parts
            ∙ parts_same (has_own_row (last_of world l.domain) l.path) (trees_at world answered l.domain l.store) (trees_at world (answered ++ now ∷ []) l.domain l.store) l.path (to - from) from (length (commits answered l.domain)) within stay
            ∙ (λ i. parts_of world (answered ++ now ∷ []) l (sym begun i) (sym brought i - sym begun i));
        rows = given ∙ next.rows ∙ ap (λ (rows : List Row). under rows l.path) (stay to next.reached) ∙ ap (λ k. under (trees_at world (answered ++ now ∷ []) l.domain l.store k) l.path) (sym brought);
      }

  IsSound-fold : (answered : List Answered) (log : List Entry) → IsSound world answered → IsSound world (fold (answer world) answered log)
  IsSound-fold answered [] was = was
  IsSound-fold answered (e ∷ log) was = IsSound-fold (answer world answered e) log (record { few = few_next world answered e was.few; each = answered_next answered e was })

  IsSound-history : (log : List Entry) → IsSound world (history world log)
  IsSound-history log = IsSound-fold [] log (record { few = omega arith; each = λ id l some made. absurd (none (id - 1) l (numbered-is (listeners []) id l made)) })
    where
      none : (i : ℕ) (l : Listening) → slice_get (listeners []) i ≡ Some l → ⊥
      none zero l made = cc
      none (suc i) l made = cc

  pub followed-in : (log : List Entry) (id : ℕ) (l : Listening) → 1 ≤ id → listener_at (history world log) id ≡ Some l → IsFollowed world (history world log) id l
  followed-in log id l some made = (IsSound-history log).each id l some made
