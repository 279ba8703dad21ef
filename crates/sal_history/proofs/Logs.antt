-- The invariants of each log: its receipts, and the open transactions of its chains.
use Rattle.std.proofs.Common.{◌≡◌, ℕ, suc, ◌+◌, ◌-◌, Bool, true, false, List, [], ◌∷◌, ◌++◌, length, Option, None, Some, refl, ap, sym, ◌∙◌, subst, cond, arith, inl, inr, ◌⊎◌, append-nil}
use Rattle.std.specs.Prelude.{not, slice_get, unwrap_or, option_and_then, if◌then◌else◌, nat_eq, nat_lt}
use Rattle.std.specs.List.{cons_option, fold, list_any}
use Rattle.std.specs.Option.{option_map, option_map_or, option_or, option_to_list}
use Rattle.std.proofs.lemmas.Bool.{cond_both, eq-eqb, eqb-true, or_parts}
use Rattle.std.proofs.lemmas.Grind.{flat_map-append}
use Rattle.std.proofs.lemmas.List.Elements.{filter_map-append}
use Rattle.std.proofs.lemmas.List.Folds.{list_any-append}
use Rattle.std.proofs.lemmas.Option.{none-some, same_Some, option_and_then_some}
use Rattle.sal_rows.specs.declared.op.Op.{Op}
use Rattle.sal_rows.specs.declared.outcome.CallFault.{CallFault}
use Rattle.sal_rows.specs.declared.outcome.CallFault.TheVariants.{ChainClosed, ChainFailed, NoDomain, PipelineFull, PreviousOpen, TxSpent}
use Rattle.sal_rows.specs.declared.outcome.Outcome.{Outcome}
use Rattle.sal_rows.specs.Spans.{is_of_chain}
use Rattle.sal_rows.proofs.Applied.{or_assoc}
use Rattle.sal_history.specs.declared.call.Call.{Call}
use Rattle.sal_history.specs.declared.call.Call.TheVariants.{Begin, ChainBegin, Pump, Settle, Submit}
use Rattle.sal_history.specs.declared.call.Entry.{Entry}
use Rattle.sal_history.specs.declared.reply.Reply.{Reply}
use Rattle.sal_history.specs.declared.reply.Reply.TheVariants.{Begun, Receipt, Refused}
use Rattle.sal_history.specs.Versions.{tables_now}
use Rattle.sal_history.specs.World.{Domain, opening_of}
use Rattle.sal_history.specs.Numbered.{numbered}
use Rattle.sal_history.specs.Submissions.{Base, Sent, done, is_in, last_from}
use Rattle.sal_history.specs.History.{Answered, answer, answered_as, base_on, began_at, began_by, begins_in, chain_refusal, chained_base, commits, decide_next, decided_by, domain_of, failed_by, fault_if, has_open, history, is_closed, is_live, is_spent, last_begun, newest_base, nowhere, outcomes, pending, refused_or, reply_to, sent_by, sents, spends, stands_on, submitted}
use Rattle.sal_history.proofs.Bases.{over_newest, same_chain}
use Rattle.sal_history.proofs.Versions.{fault_none, or_none}
use Rattle.sal_history.proofs.Receipts.{Known, Known-next, Known-open, Known-submit, Stands, StandsOn, last_or_before}
use Rattle.sal_history.proofs.Waiting.{pending_waits, waiting, waiting_plain}

-- ---- lists

-- the last element at which a test gives true, of a list with one more
pub last_from-push : {X : Type 0} (n : ℕ) (test : X → Bool) (xs : List X) (x : X) → last_from n test (xs ++ x ∷ []) ≡ option_or (if test x then Some (n + length xs) else None) (last_from n test xs)
last_from-push n test [] x =
    let here : n ≡ n + 0 = omega arith in
    elim (test x) as (λ b. option_or None (if b then Some n else None) ≡ option_or (if b then Some (n + 0) else None) None) [ true ↦ ap Some here | false ↦ refl ]
last_from-push n test (y ∷ xs) x =
    let next : n + 1 + length xs ≡ n + suc (length xs) = omega arith in
    ap (λ o. option_or o (if test y then Some n else None)) (last_from-push (n + 1) test xs x ∙ ap (λ k. option_or (if test x then Some k else None) (last_from (n + 1) test xs)) next)
    ∙ or_assoc (if test x then Some (n + suc (length xs)) else None) (last_from (n + 1) test xs) (if test y then Some n else None)

or_else : (b : Bool) (n : ℕ) (o : Option ℕ) → option_or (if b then Some n else None) o ≡ cond b (Some n) o
or_else true n o = refl
or_else false n o = refl

-- ---- open transactions

-- a transaction began with this base, and is neither submitted nor cancelled
abbrev pub IsOpen : List Answered → Base → Type 0
IsOpen answered b = (place : ℕ) × (began_at answered place ≡ Some b) × (is_spent answered place ≡ false)

-- of the entries of a log: its receipts, and that the open transaction of a chain is the last that it began
pub record IsSound (world : List Domain) (answered : List Answered) : Type 0 where
  pub known : Known world (IsOpen answered) (sents answered) (outcomes answered)
  pub last : (place : ℕ) (b : Base) (chain : ℕ) → began_at answered place ≡ Some b → b.chain ≡ Some chain → is_spent answered place ≡ false → last_begun answered chain ≡ Some place

module _ (world : List Domain) (answered : List Answered) (was : IsSound world answered) where
  abbrev ss : List Sent
  ss = sents answered

  abbrev os : List Outcome
  os = outcomes answered

  abbrev reply : ℕ → Call → Reply
  reply client call = reply_to world answered client call

  -- open before the call with this answer, and not spent by it; or begun by it
  abbrev OpenWith : Call → Reply → Base → Type 0
  OpenWith call r b =
      ((place : ℕ) × (began_at answered place ≡ Some b) × (is_spent answered place ≡ false) × (spends call r place ≡ false)) ⊎ (began_by world answered call r ≡ Some b)

  abbrev OpenAfter : ℕ → Call → Base → Type 0
  OpenAfter client call b = OpenWith call (reply client call) b

  -- ---- transactions that a call begins

  -- a base at the newest commit, without a chain
  plain_stands : (domain : ℕ) → Stands world ss os ss (newest_base world answered domain None)
  plain_stands domain = λ sound.
      subst (λ (w : Option Sent). StandsOn world ss os w (newest_base world answered domain None)) (sym (waiting_plain ss os))
      (inl (over_newest (opening_of world domain) (done domain ss os) domain None))

  on_waiting : (chain : ℕ) (w : Option Sent) → StandsOn world ss os w (base_on world answered chain w) × ((base_on world answered chain w).chain ≡ Some chain)
  on_waiting chain None = (
    inl (over_newest (opening_of world (domain_of answered chain)) (done (domain_of answered chain) ss os) (domain_of answered chain) (Some chain)),
    refl,
  )
  on_waiting chain (Some s) = ((refl, refl, λ t. refl), refl)

  -- the submission that a chain's next transaction builds on
  abbrev before : ℕ → Option Sent
  before chain = option_and_then (λ n. numbered ss n) (stands_on answered chain)

  chained_stands : (chain : ℕ) → Stands world ss os ss (chained_base world answered chain)
  chained_stands chain = λ sound.
      let there = on_waiting chain (before chain) in
      let waits : before chain ≡ waiting (chained_base world answered chain).chain ss os =
      pending_waits (Some chain) ss os ∙ ap (λ (c : Option ℕ). waiting c ss os) (sym there.1) in
      subst (λ (w : Option Sent). StandsOn world ss os w (chained_base world answered chain)) waits there.0

  begun_stands : (client : ℕ) (call : Call) (b : Base) → began_by world answered call (reply client call) ≡ Some b → Stands world ss os ss b
  begun_stands client (Begin domain mode) b =
      cond_both (is_live world answered domain) (Begun (length (commits answered domain)) None) (Refused (NoDomain domain)) (λ r. began_by world answered (Begin domain mode) r ≡ Some b → Stands world ss os ss b)
      (λ live e. subst (Stands world ss os ss) (same_Some (newest_base world answered domain None) b e) (plain_stands domain))
      (λ dead e. absurd (none-some b e))
  begun_stands client (ChainBegin chain mode) b =
      elim (chain_refusal world answered chain) as (λ (o : Option CallFault). began_by world answered (ChainBegin chain mode) (refused_or o (Begun (chained_base world answered chain).commit (stands_on answered chain))) ≡ Some b → Stands world ss os ss b) [
        | None ↦ λ e. subst (Stands world ss os ss) (same_Some (chained_base world answered chain) b e) (chained_stands chain)
        | Some fault ↦ λ e. absurd (none-some b e)
      ]
  begun_stands client call b = λ e. absurd (none-some b e)

  -- ---- submissions and decisions of a call

  -- the base of what is submitted at a place
  abbrev base_at : ℕ → Base
  base_at place = unwrap_or (began_at answered place) nowhere

  base_stands : (place : ℕ) (o : Option Base) → began_at answered place ≡ o → is_spent answered place ≡ false → Stands world ss os ss (unwrap_or o nowhere)
  base_stands place None at unspent = λ sound. subst (λ (w : Option Sent). StandsOn world ss os w nowhere) (sym (waiting_plain ss os)) (inr refl)
  base_stands place (Some b) at unspent = was.known.open_on b (place, at, unspent)

  -- two open transactions of one chain are one
  same_place : (place other : ℕ) (o : Option Base) (b : Base) → began_at answered place ≡ o → is_spent answered place ≡ false → began_at answered other ≡ Some b → is_spent answered other ≡ false
      → is_of_chain b.chain (unwrap_or o nowhere).chain ≡ true → place ≡ other
  same_place place other o b at unspent there free own = chained b.chain refl
    where
      chained : (c : Option ℕ) → b.chain ≡ c → place ≡ other
      chained None e = let none : false ≡ true = ap (λ (d : Option ℕ). is_of_chain d (unwrap_or o nowhere).chain) (sym e) ∙ own in cc
      chained (Some chain) e = begun o at (sym (same_chain b.chain (unwrap_or o nowhere).chain own) ∙ e)
        where
          begun : (p : Option Base) → began_at answered place ≡ p → (unwrap_or p nowhere).chain ≡ Some chain → place ≡ other
          begun None f g = absurd (none-some chain g)
          begun (Some x) f g = same_Some place other (sym (was.last place x chain f g unspent) ∙ was.last other b chain there e free)

  apart : (b : Bool) → (b ≡ true → ⊥) → b ≡ false
  apart true no_way = absurd (no_way refl)
  apart false no_way = refl

  module _ (IsNow : Base → Type 0) where
    unsent : Known world IsNow ss os → Known world IsNow (ss ++ []) (os ++ [])
    unsent known = subst (λ (ts : List Sent). Known world IsNow ts (os ++ [])) (sym (append-nil ss)) (subst (Known world IsNow ss) (sym (append-nil os)) known)

    -- after a call that submits nothing and decides nothing
    reopened : (client : ℕ) (call : Call) → ((b : Base) → IsNow b → OpenAfter client call b) → Known world IsNow (ss ++ []) (os ++ [])
    reopened client call from =
        unsent (Known-open world (IsOpen answered) IsNow ss os was.known (λ b is. elim (from b is) [
          | inl w ↦ inl (w.0, w.1, w.2)
          | inr new ↦ inr (begun_stands client call b new)
        ]))

    -- after a settle or a pump
    decided_more : (n : ℕ) → ((b : Base) → IsNow b → IsOpen answered b) → Known world IsNow (ss ++ []) (os ++ decide_next world (tables_now world answered) (is_live world answered) ss os n)
    decided_more n from =
        subst (λ (ts : List Sent). Known world IsNow ts (os ++ decide_next world (tables_now world answered) (is_live world answered) ss os n)) (sym (append-nil ss))
        (Known-open world (IsOpen answered) IsNow ss (os ++ decide_next world (tables_now world answered) (is_live world answered) ss os n) (Known-next world (IsOpen answered) (tables_now world answered) (is_live world answered) n ss os was.known) (λ b is. inl (from b is)))

    -- after a submit with this answer
    abbrev Submitted : ℕ → List Op → Reply → Type 0
    Submitted place ops r = ((b : Base) → IsNow b → OpenWith (Submit place ops) r b) → Known world IsNow (ss ++ option_to_list (sent_by answered (Submit place ops) r)) (os ++ [])

    receipt_given : (place : ℕ) (ops : List Op) (n : ℕ) → is_spent answered place ≡ false → Submitted place ops (Receipt n)
    receipt_given place ops n unspent from =
        let s : Sent = record { base = base_at place; ops = ops } in
        subst (Known world IsNow (ss ++ s ∷ [])) (sym (append-nil os))
        (Known-submit world (IsOpen answered) IsNow ss os s was.known (base_stands place (began_at answered place) refl unspent) (λ b is. elim (from b is) [
          | inl w ↦ (
            (w.0, w.1, w.2),
            apart (is_in b.chain s) (λ own.
                let same : place ≡ w.0 = same_place place w.0 (began_at answered place) b refl unspent w.1 w.2 own in
                let both : true ≡ false = sym (eq-eqb place w.0 same) ∙ w.3 in
                cc),
          )
          | inr new ↦ absurd (none-some b new)
        ]))

    not_sent : (place : ℕ) (ops : List Op) (fault : CallFault) → Submitted place ops (Refused fault)
    not_sent place ops fault from =
        unsent (Known-open world (IsOpen answered) IsNow ss os was.known (λ b is. elim (from b is) [
          | inl w ↦ inl (w.0, w.1, w.2)
          | inr new ↦ absurd (none-some b new)
        ]))

    after_submit : (place : ℕ) (ops : List Op) → Submitted place ops (submitted answered place)
    after_submit place ops =
        cond_both (nat_lt (pending answered) 4096) (if is_spent answered place then Refused TxSpent else Receipt (length ss + 1)) (Refused PipelineFull) (Submitted place ops)
        (λ few. cond_both (is_spent answered place) (Refused TxSpent) (Receipt (length ss + 1)) (Submitted place ops) (λ spent. not_sent place ops TxSpent) (λ unspent. receipt_given place ops (length ss + 1) unspent))
        (λ many. not_sent place ops PipelineFull)

    still_open : (client : ℕ) (call : Call) → ((b : Base) → began_by world answered call (reply client call) ≡ Some b → ⊥) → ((b : Base) → IsNow b → OpenAfter client call b) → (b : Base) → IsNow b → IsOpen answered b
    still_open client call nothing from b is = elim (from b is) [ inl w ↦ (w.0, w.1, w.2) | inr new ↦ absurd (nothing b new) ]

    after_call : (client : ℕ) (call : Call) → ((b : Base) → IsNow b → OpenAfter client call b) → Known world IsNow (ss ++ option_to_list (sent_by answered call (reply client call))) (os ++ decided_by world answered call)
    after_call client (Submit place ops) from = after_submit place ops from
    after_call client (Settle receipt) from = decided_more (receipt - length os) (still_open client (Settle receipt) (λ b e. none-some b e) from)
    after_call client Pump from = decided_more 1 (still_open client Pump (λ b e. none-some b e) from)
    after_call client call from = reopened client call from

  -- ---- the last transaction of a chain

  open_not : (chain : ℕ) → chain_refusal world answered chain ≡ None → has_open answered chain ≡ false
  open_not chain e =
      let dead = fault_if (not (is_live world answered (domain_of answered chain))) (NoDomain (domain_of answered chain)) in
      let third = option_or (fault_if (has_open answered chain) PreviousOpen) dead in
      let second = option_or (option_map ChainFailed (failed_by answered chain)) third in
      fault_none (has_open answered chain) PreviousOpen
      (or_none (fault_if (has_open answered chain) PreviousOpen) dead
      (or_none (option_map ChainFailed (failed_by answered chain)) third
      (or_none (fault_if (is_closed answered chain) ChainClosed) second e).1).1).0

  -- the base is of the chain
  abbrev is_base_of : ℕ → Option Base → Bool
  is_base_of chain o = option_map_or (λ b. is_of_chain (Some chain) b.chain) o false

  -- while a transaction of a chain is open, no call begins one
  no_begin : (client : ℕ) (call : Call) (chain place : ℕ) → last_begun answered chain ≡ Some place → is_spent answered place ≡ false → is_base_of chain (began_by world answered call (reply client call)) ≡ false
  no_begin client (Begin domain mode) chain place at free =
      elim (is_live world answered domain) as (λ b. is_base_of chain (began_by world answered (Begin domain mode) (if b then Begun (length (commits answered domain)) None else Refused (NoDomain domain))) ≡ false) [
        | true ↦ refl
        | false ↦ refl
      ]
  no_begin client (ChainBegin other mode) chain place at free =
      let based = chained_base world answered other in
      elim (chain_refusal world answered other) as (λ (o : Option CallFault). chain_refusal world answered other ≡ o
      → is_base_of chain (began_by world answered (ChainBegin other mode) (refused_or o (Begun based.commit (stands_on answered other)))) ≡ false) [
        | None ↦ λ e. apart (is_of_chain (Some chain) based.chain) (λ own.
            let named : is_of_chain (Some chain) (Some other) ≡ true = ap (is_of_chain (Some chain)) (sym (on_waiting other (before other)).1) ∙ own in
            let same : chain ≡ other = eqb-true chain other named in
            let open_there : has_open answered other ≡ true =
            ap (λ k. option_map_or (λ p. not (is_spent answered p)) (last_begun answered k) false) (sym same)
            ∙ ap (λ (o : Option ℕ). option_map_or (λ p. not (is_spent answered p)) o false) at
            ∙ ap not free in
            let both : true ≡ false = sym open_there ∙ open_not other e in
            cc)
        | Some fault ↦ λ e. refl
      ] refl
  no_begin client call chain place at free = refl

  -- ---- one entry more

  module _ (e : Entry) where
    abbrev now : Answered
    now = answered_as world answered e (reply e.client e.call)

    sents-now : sents (answered ++ now ∷ []) ≡ ss ++ option_to_list (sent_by answered e.call (reply e.client e.call))
    sents-now =
        filter_map-append (λ (a : Answered). a.sent) answered (now ∷ [])
        ∙ elim (sent_by answered e.call (reply e.client e.call)) as (λ (o : Option Sent). ss ++ cons_option o [] ≡ ss ++ option_to_list o) [ None ↦ refl | Some s ↦ refl ]

    outcomes-now : outcomes (answered ++ now ∷ []) ≡ os ++ decided_by world answered e.call
    outcomes-now = flat_map-append (λ (a : Answered). a.decided) answered (now ∷ []) ∙ ap (λ (ps : List Outcome). os ++ ps) (append-nil (decided_by world answered e.call))

    -- a transaction that is not spent now was not spent before, and is not spent by the call
    unspent-now : (place : ℕ) → is_spent (answered ++ now ∷ []) place ≡ false → (is_spent answered place ≡ false) × (spends e.call (reply e.client e.call) place ≡ false)
    unspent-now place free =
        let test : Answered → Bool = λ a. spends a.entry.call a.reply place in
        let parts = or_parts (is_spent answered place) (list_any test (now ∷ [])) (sym (list_any-append test answered (now ∷ [])) ∙ free) in
        (parts.0, (or_parts (test now) false parts.1).0)

    begun_before : (place : ℕ) (b : Base) → began_at (answered ++ now ∷ []) place ≡ Some b → (began_at answered place ≡ Some b) ⊎ ((place ≡ length answered) × (began_by world answered e.call (reply e.client e.call) ≡ Some b))
    begun_before place b at =
        option_and_then_some (λ (a : Answered). a.began) (slice_get (answered ++ now ∷ []) place) b at (λ a found is.
        elim (last_or_before answered now a place found) [
          | inl old ↦ inl (ap (option_and_then (λ (x : Answered). x.began)) old ∙ is)
          | inr w ↦ inr (w.0, ap (λ (x : Answered). x.began) w.1 ∙ is)
        ])

    last_begun-now : (chain : ℕ) → last_begun (answered ++ now ∷ []) chain ≡ cond (begins_in chain now) (Some (0 + length answered)) (last_begun answered chain)
    last_begun-now chain = last_from-push 0 (begins_in chain) answered now ∙ or_else (begins_in chain now) (0 + length answered) (last_begun answered chain)

    pub IsSound-answer : IsSound world (answer world answered e)
    IsSound-answer =
        record {
          known =
              subst (λ (ts : List Sent). Known world (IsOpen (answered ++ now ∷ [])) ts (outcomes (answered ++ now ∷ []))) (sym sents-now)
              (subst (Known world (IsOpen (answered ++ now ∷ [])) (ss ++ option_to_list (sent_by answered e.call (reply e.client e.call)))) (sym outcomes-now)
              (after_call (IsOpen (answered ++ now ∷ [])) e.client e.call (λ b is. elim (begun_before is.0 b is.1) [
                | inl old ↦ let free = unspent-now is.0 is.2 in inl (is.0, old, free.0, free.1)
                | inr new ↦ inr new.1
              ])));
          last = λ place b chain at of free.
              let earlier = unspent-now place free in
              elim (begun_before place b at) [
                | inl old ↦
                    let there = was.last place b chain old of earlier.0 in
                    last_begun-now chain ∙ ap (λ c. cond c (Some (0 + length answered)) (last_begun answered chain)) (no_begin e.client e.call chain place there earlier.0) ∙ there
                | inr new ↦
                    let itself : nat_eq chain chain ≡ true = eq-eqb chain chain refl in
                    let here : begins_in chain now ≡ true = ap (is_base_of chain) new.1 ∙ ap (is_of_chain (Some chain)) of ∙ itself in
                    let start : 0 + length answered ≡ place = omega (arith, new.0) in
                    last_begun-now chain ∙ ap (λ c. cond c (Some (0 + length answered)) (last_begun answered chain)) here ∙ ap Some start
              ];
        }

-- ---- all logs

module _ (world : List Domain) where
  IsSound-fold : (answered : List Answered) (log : List Entry) → IsSound world answered → IsSound world (fold (answer world) answered log)
  IsSound-fold answered [] was = was
  IsSound-fold answered (e ∷ log) was = IsSound-fold (answer world answered e) log (IsSound-answer world answered was e)

  pub IsSound-nothing : IsSound world []
  IsSound-nothing =
      record {
        known =
            record {
              within = omega arith;
              sent = λ i s at. absurd (none-some s at);
              open_on = λ b is. absurd (none-some b is.1);
              conflicts = λ i s store path kind commit at is. absurd (none-some s at);
              based = λ i s at decided. absurd (none-some s at);
              numbers = λ i s commit at is. absurd (none-some s at);
            };
        last = λ place b chain at of free. absurd (none-some b at);
      }

  pub sound : (log : List Entry) → IsSound world (history world log)
  sound log = IsSound-fold [] log IsSound-nothing
