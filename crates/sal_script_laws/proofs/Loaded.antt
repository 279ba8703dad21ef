-- The log of a load: which rounds were submitted, which of them are decided, and who holds the receipts of the others.
use Rattle.std.proofs.Common.{◌≡◌, ℕ, zero, suc, ◌+◌, ◌-◌, ◌<◌, ◌≤◌, Bool, true, false, List, [], ◌∷◌, ◌++◌, length, Option, None, Some, if◌then◌else◌, refl, ap, sym, ◌∙◌, subst, arith, append_assoc, append-nil, ne_eqb, nat_le, leb-true, leb-false, lt-ltb, inl, inr, ◌⊎◌, length-append}
use Rattle.std.specs.Prelude.{◌||◌, slice_get, unwrap_or, option_and_then}
use Rattle.std.specs.Option.{option_to_list}
use Rattle.std.proofs.lemmas.List.{length-map, map-append}
use Rattle.std.proofs.lemmas.Option.{none-some, same_Some, slice_get_within}
use Rattle.sal_rows.specs.declared.op.Op.{Op}
use Rattle.sal_rows.specs.declared.outcome.CallFault.TheVariants.{PipelineFull, TxSpent}
use Rattle.sal_rows.specs.declared.outcome.Mode.TheVariants.{Rw}
use Rattle.sal_rows.specs.Commits.{tree_after}
use Rattle.sal_history.specs.declared.call.Call.{Call}
use Rattle.sal_history.specs.declared.call.Call.TheVariants.{Begin, Submit, Settle}
use Rattle.sal_history.specs.declared.call.Entry.{Entry}
use Rattle.sal_history.specs.declared.reply.Reply.{Reply}
use Rattle.sal_history.specs.declared.reply.Reply.TheVariants.{Receipt, Refused}
use Rattle.sal_history.specs.Submissions.{Base, Sent, done_ops}
use Rattle.sal_history.specs.Versions.{tables_now}
use Rattle.sal_history.specs.History.{Answered, commits, decide_next, is_live, is_spent, newest_base, nowhere, outcomes, pending, reply_to, sent_by, sents, spends, submitted as answer_to_submit}
use Rattle.sal_script.specs.Load.{key_of, value_in}
use Rattle.sal_script.proofs.Listed.{get-push}
use Rattle.sal_script_laws.specs.Rounds.{IsDecided, KeysDiffer, Round, StayDistinct, SumGrows, are_distinct, commit_of, commits_of, has_key, load_world, nothing, round_in, sum_of, sum_to}
use Rattle.sal_script_laws.proofs.Answering.{more_of, now_of, outcomes-more, sents-more, still_free}
use Rattle.sal_script_laws.proofs.Deciding.{AreDecided, Sub, are_decided, base_behind, done_rounds, dones, length-dones, rounds-append, rounds_of, sent_of, sents_of}
use Rattle.sal_script_laws.proofs.Phases.{IsHeld, Phase, Phases, four, four_set, held_few, held_still, put_by, receipt_of, set_grows, set_own, set_phase}

old_or_new : (n m : ℕ) → n ≤ m + 1 → (n ≤ m) ⊎ (n ≡ m + 1)
old_or_new n m h = by (nat_le n m) refl
  where
    by : (b : Bool) → nat_le n m ≡ b → (n ≤ m) ⊎ (n ≡ m + 1)
    by true is = inl (leb-true n m is)
    by false is = let more : m < n = leb-false n m is in inr (omega (arith, h, more))

-- ---- the rounds that were submitted

-- it is a round that its client has submitted
abbrev pub IsPut : Phases → Round → Type 0
IsPut phases x = (c : ℕ) × (round : ℕ) × (c < 4) × (round < 1000000) × (round < put_by (phases c)) × (x.key ≡ key_of c round)

-- the rounds are those that the clients have submitted, each once
pub record ArePut (start : ℕ) (phases : Phases) (rounds : List Round) : Type 0 where
  pub distinct : are_distinct rounds ≡ true
  pub many : length rounds ≡ four (λ c. put_by (phases c))
  pub sum : sum_of rounds ≡ four (λ c. sum_to start c (put_by (phases c)))
  pub known : (i : ℕ) (x : Round) → slice_get rounds i ≡ Some x → IsPut phases x

-- the key of a client's next round is none of theirs
not_put : (differ : KeysDiffer) (phases : Phases) (c round : ℕ) (rounds : List Round) → round ≡ put_by (phases c) → round < 1000000
    → ((i : ℕ) (x : Round) → slice_get rounds i ≡ Some x → IsPut phases x) → has_key rounds (key_of c round) ≡ false
not_put differ phases c round [] next small known = refl
not_put differ phases c round (x ∷ rounds) next small known =
    let first = known zero x refl in
    let other : x.key ≡ key_of c round → ⊥ = λ same.
    let both = differ first.0 first.1 c round first.3 small (sym first.5 ∙ same) in
    let before : first.1 < put_by (phases c) = subst (λ k. first.1 < put_by (phases k)) both.0 first.4 in
    absurd (omega (arith, before, both.1, next)) in
    ap (λ (b : Bool). b || has_key rounds (key_of c round)) (ne_eqb x.key (key_of c round) other)
    ∙ not_put differ phases c round rounds next small (λ i y at. known (suc i) y at)

is_put_still : (phases : Phases) (c : ℕ) (phase : Phase) (x : Round) → put_by (phases c) ≤ put_by phase → IsPut phases x → IsPut (set_phase c phase phases) x
is_put_still phases c phase x grows was =
    let more = set_grows put_by c was.0 phase phases grows in
    (was.0, was.1, was.2, was.3, omega (arith, was.4, more), was.5)

module _ (start : ℕ) (phases : Phases) (rounds : List Round) (was : ArePut start phases rounds) (c : ℕ) (phase : Phase) (within : c < 4) where
  -- the client has submitted no other round
  pub put_still : put_by phase ≡ put_by (phases c) → ArePut start (set_phase c phase phases) rounds
  put_still same =
      let sums : sum_to start c (put_by phase) ≡ sum_to start c (put_by (phases c)) = ap (sum_to start c) same in
      record {
        distinct = was.distinct;
        many = let set = four_set (λ d. put_by) phases c phase within in omega (arith, was.many, set, same);
        sum = let set = four_set (λ d (p : Phase). sum_to start d (put_by p)) phases c phase within in omega (arith, was.sum, set, sums);
        known = λ i x at. is_put_still phases c phase x (omega (arith, same)) (was.known i x at);
      }

  -- it has submitted its next round
  pub put_more : KeysDiffer → StayDistinct → SumGrows → (round : ℕ) → round ≡ put_by (phases c) → round < 1000000 → put_by phase ≡ suc round
      → ArePut start (set_phase c phase phases) (rounds ++ round_in start c round ∷ [])
  put_more differ stay grows round next small now =
      let x : Round = round_in start c round in
      let sums : sum_to start c (put_by phase) ≡ sum_to start c (put_by (phases c)) + value_in start c round =
      ap (sum_to start c) now ∙ ap (λ k. sum_to start c k + value_in start c round) next in
      record {
        distinct = stay rounds x was.distinct (not_put differ phases c round rounds next small was.known);
        many = let set = four_set (λ d. put_by) phases c phase within in omega (arith, was.many, set, next, now, length-append rounds (x ∷ []));
        sum = let set = four_set (λ d (p : Phase). sum_to start d (put_by p)) phases c phase within in omega (arith, was.sum, set, sums, grows rounds x);
        known = λ i y at. elim (get-push rounds x i y at) [
          | inl old ↦ is_put_still phases c phase y (omega (arith, next, now)) (was.known i y old)
          | inr w ↦ (
            c,
            round,
            within,
            small,
            (let own : put_by (set_phase c phase phases c) ≡ suc round = ap put_by (set_own c c phase phases refl) ∙ now in omega (arith, own)),
            sym (ap (λ (r : Round). r.key) w.1),
          )
        ];
      }

-- ---- the log

-- The submissions of the log are those of the rounds, in some order; the first ones are done, and for each of the others a client that
-- is going to settle has its receipt. No transaction of a later place is spent.
pub record IsLoaded (start : ℕ) (answered : List Answered) (phases : Phases) : Type 0 where
  pub dec : List Sub
  pub pend : List Sub
  pub given : sents answered ≡ sents_of (dec ++ pend)
  pub told : outcomes answered ≡ dones 0 dec
  pub put : ArePut start phases (rounds_of (dec ++ pend))
  pub held : (n : ℕ) → length dec < n → n ≤ length (dec ++ pend) → IsHeld phases n
  pub unspent : (place : ℕ) → length answered ≤ place → is_spent answered place ≡ false

-- its commits are the rounds that are decided
pub commits_are : (start : ℕ) (answered : List Answered) (phases : Phases) (was : IsLoaded start answered phases) → commits answered 0 ≡ commits_of (rounds_of was.dec)
commits_are start answered phases was = (λ i. done_ops 0 (was.given i) (was.told i)) ∙ done_rounds 0 was.dec was.pend

-- there are as many receipts as submissions
pub receipts_are : (start : ℕ) (answered : List Answered) (phases : Phases) (was : IsLoaded start answered phases) → length (sents answered) ≡ length (was.dec ++ was.pend)
receipts_are start answered phases was = ap length was.given ∙ length-map (was.dec ++ was.pend) sent_of

-- A transaction of the client that began at this place, after some rounds, and is not spent.
pub record HasBegun (answered : List Answered) (c place : ℕ) : Type 0 where
  pub beginning : Answered
  pub stands : slice_get answered place ≡ Some beginning
  pub by : beginning.entry.client ≡ c
  pub front : List Round
  pub began : beginning.began ≡ Some (base_behind front)
  pub free : is_spent answered place ≡ false

module _ (start : ℕ) (answered : List Answered) (phases : Phases) (was : IsLoaded start answered phases) (c number : ℕ) (phase : Phase) (within : c < 4) where
  abbrev entry : Call → Entry
  entry call = record { client = c; number = number; call = call }

  longer : (e : Entry) → length (more_of answered e) ≡ length answered + 1
  longer e = length-append answered (now_of answered e ∷ [])

  -- a call that spends no transaction
  unspent_still : (e : Entry) → ((place : ℕ) → length answered < place → spends e.call (reply_to load_world answered e.client e.call) place ≡ false)
      → (place : ℕ) → length (more_of answered e) ≤ place → is_spent (more_of answered e) place ≡ false
  unspent_still e kept place behind =
      let far : length answered < place = omega (arith, behind, longer e) in
      still_free answered e place (was.unspent place (omega (arith, far))) (kept place far)

  -- ---- a begin

  pub begins : put_by phase ≡ put_by (phases c) → receipt_of (phases c) ≡ None → IsLoaded start (more_of answered (entry (Begin 0 Rw))) (set_phase c phase phases)
  begins same none =
      let e : Entry = entry (Begin 0 Rw) in
      record {
        dec = was.dec;
        pend = was.pend;
        given = sents-more answered e ∙ append-nil (sents answered) ∙ was.given;
        told = outcomes-more answered e ∙ append-nil (outcomes answered) ∙ was.told;
        put = put_still start phases (rounds_of (was.dec ++ was.pend)) was.put c phase within same;
        held = λ n low high. held_still phases c phase n (λ mine. none-some n (sym none ∙ mine)) (was.held n low high);
        unspent = unspent_still e (λ place far. refl);
      }

  pub base_is : newest_base load_world answered 0 None ≡ base_behind (rounds_of was.dec)
  base_is = ap (λ (cs : List (List Op)). let b : Base = record { domain = 0; commit = length cs; chain = None; trees = λ s. tree_after s (nothing s) cs } in b) (commits_are start answered phases was)

  -- ---- a submit

  few : pending answered < 4096
  few =
      let le : length was.dec ≤ length (was.dec ++ was.pend) = omega (arith, length-append was.dec was.pend) in
      let most = held_few phases (length was.dec) (length (was.dec ++ was.pend)) le was.held in
      let all = receipts_are start answered phases was in
      let told : length (outcomes answered) ≡ length was.dec = ap length was.told ∙ length-dones 0 was.dec in
      omega (arith, most, all, told)

  module _ (place : ℕ) (begun : HasBegun answered c place) where
    pub is_receipt : answer_to_submit answered place ≡ Receipt (length (sents answered) + 1)
    is_receipt =
        ap (λ (b : Bool). if b then (if is_spent answered place then Refused TxSpent else Receipt (length (sents answered) + 1)) else Refused PipelineFull) (lt-ltb (pending answered) 4096 few)
        ∙ ap (λ (b : Bool). if b then Refused TxSpent else Receipt (length (sents answered) + 1)) begun.free

    -- the submission of a round
    abbrev sub_of : Round → Sub
    sub_of round = record { front = begun.front; round = round }

    sent_is : (round : Round) → sent_by answered (Submit place (commit_of round)) (answer_to_submit answered place) ≡ Some (sent_of (sub_of round))
    sent_is round =
        ap (sent_by answered (Submit place (commit_of round))) is_receipt
        ∙ ap (λ (o : Option Base). let s : Sent = record { base = unwrap_or o nowhere; ops = commit_of round } in Some s)
        (ap (option_and_then (λ (a : Answered). a.began)) begun.stands ∙ begun.began)

    spends_not : (ops : List Op) (r : Reply) (later : ℕ) → (place ≡ later → ⊥) → spends (Submit place ops) r later ≡ false
    spends_not ops (Receipt n) later other = ne_eqb place later other
    spends_not ops r later other = refl

    -- it spends no transaction of another client
    pub spends_own : (ops : List Op) (r : Reply) (later : ℕ) (a : Answered) → slice_get answered later ≡ Some a → (a.entry.client ≡ c → ⊥) → spends (Submit place ops) r later ≡ false
    spends_own ops r later a there other =
        spends_not ops r later (λ same.
        let one : begun.beginning ≡ a = same_Some begun.beginning a (sym begun.stands ∙ ap (slice_get answered) same ∙ there) in
        other (ap (λ (x : Answered). x.entry.client) (sym one) ∙ begun.by))

    pub sents_longer : (round : Round) → length (sents (more_of answered (entry (Submit place (commit_of round))))) ≡ length (sents answered) + 1
    sents_longer round =
        ap length (sents-more answered (entry (Submit place (commit_of round))) ∙ ap (λ (o : Option Sent). sents answered ++ option_to_list o) (sent_is round))
        ∙ length-append (sents answered) (sent_of (sub_of round) ∷ [])

    pub submits : KeysDiffer → StayDistinct → SumGrows → (round : ℕ) → round ≡ put_by (phases c) → round < 1000000 → put_by phase ≡ suc round
        → receipt_of (phases c) ≡ None → receipt_of phase ≡ Some (length (sents answered) + 1)
        → IsLoaded start (more_of answered (entry (Submit place (commit_of (round_in start c round))))) (set_phase c phase phases)
    submits differ stay grows round next small now none mine =
        let x : Round = round_in start c round in
        let sub : Sub = sub_of x in
        let e : Entry = entry (Submit place (commit_of x)) in
        let all : (was.dec ++ was.pend) ++ sub ∷ [] ≡ was.dec ++ (was.pend ++ sub ∷ []) = append_assoc was.dec was.pend (sub ∷ []) in
        let more : length (was.dec ++ (was.pend ++ sub ∷ [])) ≡ length (was.dec ++ was.pend) + 1 = ap length (sym all) ∙ length-append (was.dec ++ was.pend) (sub ∷ []) in
        let receipts = receipts_are start answered phases was in
        record {
          dec = was.dec;
          pend = was.pend ++ sub ∷ [];
          given =
              sents-more answered e ∙ ap (λ (o : Option Sent). sents answered ++ option_to_list o) (sent_is x)
              ∙ ap (λ (ss : List Sent). ss ++ sent_of sub ∷ []) was.given
              ∙ sym (map-append sent_of (was.dec ++ was.pend) (sub ∷ [])) ∙ ap sents_of all;
          told = outcomes-more answered e ∙ append-nil (outcomes answered) ∙ was.told;
          put =
              subst (ArePut start (set_phase c phase phases)) (sym (rounds-append (was.dec ++ was.pend) (sub ∷ [])) ∙ ap rounds_of all)
              (put_more start phases (rounds_of (was.dec ++ was.pend)) was.put c phase within differ stay grows round next small now);
          held = λ n low high. elim (old_or_new n (length (was.dec ++ was.pend)) (omega (arith, high, more))) [
            | inl old ↦ held_still phases c phase n (λ own. none-some n (sym none ∙ own)) (was.held n low old)
            | inr new ↦ (c, within, ap receipt_of (set_own c c phase phases refl) ∙ mine ∙ ap Some (let same : length (sents answered) + 1 ≡ n = omega (arith, receipts, new) in same))
          ];
          unspent = unspent_still e (λ later far. spends_not (commit_of x) (answer_to_submit answered place) later (λ same. let at = slice_get_within answered place begun.beginning begun.stands in absurd (omega (arith, at, same, far))));
        }

  -- ---- a settle

  pub settles : IsDecided → (n : ℕ) → n ≤ length (sents answered) → put_by phase ≡ put_by (phases c) → receipt_of (phases c) ≡ Some n
      → IsLoaded start (more_of answered (entry (Settle n))) (set_phase c phase phases)
  settles decided n given same mine =
      let e : Entry = entry (Settle n) in
      let receipts = receipts_are start answered phases was in
      let done : length (outcomes answered) ≡ length was.dec = ap length was.told ∙ length-dones 0 was.dec in
      let count : ℕ = n - length (outcomes answered) in
      let within_pend : count ≤ length was.pend = omega (arith, given, receipts, done, length-append was.dec was.pend) in
      let next : AreDecided decided answered was.dec was.pend count = are_decided decided answered count was.dec was.pend within_pend was.put.distinct in
      let long : length (next.done ++ next.left) ≡ length (was.dec ++ was.pend) = ap length (sym next.same) in
      record {
        dec = next.done;
        pend = next.left;
        given = sents-more answered e ∙ append-nil (sents answered) ∙ was.given ∙ ap sents_of next.same;
        told =
            outcomes-more answered e
            ∙ (λ i. was.told i ++ decide_next load_world (tables_now load_world answered) (is_live load_world answered) (was.given i) (was.told i) count)
            ∙ next.outcomes;
        put = subst (λ (subs : List Sub). ArePut start (set_phase c phase phases) (rounds_of subs)) next.same (put_still start phases (rounds_of (was.dec ++ was.pend)) was.put c phase within same);
        held = λ m low high.
            held_still phases c phase m
            (λ own. let one : n ≡ m = same_Some n m (sym mine ∙ own) in absurd (omega (arith, one, low, next.many, done)))
            (was.held m (omega (arith, low, next.many)) (omega (arith, high, long)));
        unspent = unspent_still e (λ place far. refl);
      }
