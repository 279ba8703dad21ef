-- Submissions of a load: each is decided as the next commit.
use Rattle.std.proofs.Common.{◌≡◌, ℕ, zero, suc, ◌+◌, ◌≤◌, Bool, true, false, not, ◌||◌, List, [], ◌∷◌, ◌++◌, length, map, Option, None, Some, refl, ap, sym, ◌∙◌, subst, arith, append_assoc, append-nil, eq-eqb, ne_eqb, true≢false, length-append}
use Rattle.std.specs.Prelude.{nat_eq, slice_get, unwrap_or}
use Rattle.std.specs.Option.{option_map, option_or}
use Rattle.std.proofs.lemmas.Bool.{and_parts, or_parts}
use Rattle.std.proofs.lemmas.List.{length-map, map-append}
use Rattle.sal_rows.specs.declared.clash.Rules.TheVariants.{One}
use Rattle.sal_rows.specs.declared.op.Op.{Op}
use Rattle.sal_rows.specs.declared.outcome.Outcome.{Outcome}
use Rattle.sal_rows.specs.declared.outcome.Outcome.TheVariants.{Done, ChainFailed}
use Rattle.sal_rows.specs.Spans.{spans}
use Rattle.sal_history.specs.Outcome.{decide}
use Rattle.sal_history.specs.Submissions.{Base, Sent, done_chains, done_ops, failing_from}
use Rattle.sal_schema.specs.declared.table.SchemaTable.{SchemaTable}
use Rattle.sal_history.specs.Versions.{tables_now}
use Rattle.sal_history.specs.History.{Answered, decide_front, decide_next, is_live, outcome, unmounted_of}
use Rattle.sal_script.specs.LoadExamples.{table}
use Rattle.sal_script_laws.specs.Rounds.{IsDecided, Round, are_distinct, commit_of, commits_of, has_key, load_world, nothing, trees_behind}
use Rattle.sal_rows.proofs.Named.{not_true}

-- a base after these rounds
abbrev pub base_behind : List Round → Base
base_behind front = record { domain = 0; commit = length (commits_of front); chain = None; trees = trees_behind front }

-- a submission: its round, and the rounds after which its transaction began
pub record Sub : Type 0 where
  pub front : List Round
  pub round : Round

abbrev pub sent_of : Sub → Sent
sent_of sub = record { base = base_behind sub.front; ops = commit_of sub.round }

abbrev pub sents_of : List Sub → List Sent
sents_of subs = map sent_of subs

abbrev pub rounds_of : List Sub → List Round
rounds_of subs = map (λ (sub : Sub). sub.round) subs

-- each is done, with the next number after n
abbrev pub dones : ℕ → List Sub → List Outcome
dones n [] = []
dones n (sub ∷ subs) = Done (n + 1) ∷ dones (n + 1) subs

dones-push : (n : ℕ) (subs : List Sub) (sub : Sub) → dones n (subs ++ sub ∷ []) ≡ dones n subs ++ Done (n + length subs + 1) ∷ []
dones-push n [] sub = let same : n + 1 ≡ n + 0 + 1 = omega arith in ap (λ (k : ℕ). Done k ∷ []) same
dones-push n (x ∷ subs) sub =
    let same : n + 1 + length subs + 1 ≡ n + length (x ∷ subs) + 1 = omega arith in
    ap (λ (os : List Outcome). Done (n + 1) ∷ os) (dones-push (n + 1) subs sub ∙ ap (λ (k : ℕ). dones (n + 1) subs ++ Done k ∷ []) same)

pub length-dones : (n : ℕ) (subs : List Sub) → length (dones n subs) ≡ length subs
length-dones n [] = refl
length-dones n (sub ∷ subs) = ap suc (length-dones (n + 1) subs)

-- the commits are those that were decided
pub done_rounds : (n : ℕ) (dec pend : List Sub) → done_ops 0 (sents_of (dec ++ pend)) (dones n dec) ≡ commits_of (rounds_of dec)
done_rounds n [] [] = refl
done_rounds n [] (sub ∷ pend) = refl
done_rounds n (sub ∷ dec) pend = ap (λ (cs : List (List Op)). commit_of sub.round ∷ cs) (done_rounds (n + 1) dec pend)

-- a submission without a chain does not fail by a receipt
failing_none : (n : ℕ) (ss : List Sent) (os : List Outcome) → failing_from n None ss os ≡ None
failing_none n [] os = refl
failing_none n (s ∷ ss) [] = refl
failing_none n (s ∷ ss) (o ∷ os) = failing_none (n + 1) ss os

-- the first that is not decided
pub next_sent : (n : ℕ) (dec pend : List Sub) (sub : Sub) → slice_get (sents_of (dec ++ sub ∷ pend)) (length (dones n dec)) ≡ Some (sent_of sub)
next_sent n [] pend sub = refl
next_sent n (x ∷ dec) pend sub = next_sent (n + 1) dec pend sub

-- ---- entries that differ

-- a round further on has another key
other_key : (rounds rest : List Round) (round : Round) (key : ℕ) → has_key (rounds ++ round ∷ rest) key ≡ false → nat_eq round.key key ≡ false
other_key [] rest round key none = (or_parts (nat_eq round.key key) (has_key rest key) none).0
other_key (x ∷ rounds) rest round key none = other_key rounds rest round key (or_parts (nat_eq x.key key) (has_key (rounds ++ round ∷ rest) key) none).1

eq_other : (a b : ℕ) → nat_eq a b ≡ false → nat_eq b a ≡ false
eq_other a b differ = ne_eqb b a (λ same. true≢false (sym (subst (λ k. nat_eq k b ≡ true) same (eq_itself b)) ∙ differ))
  where
    eq_itself : (k : ℕ) → nat_eq k k ≡ true
    eq_itself k = eq-eqb k k refl

-- among rounds that differ, no earlier one has the key of a later one
new_key : (rounds rest : List Round) (round : Round) → are_distinct (rounds ++ round ∷ rest) ≡ true → has_key rounds round.key ≡ false
new_key [] rest round distinct = refl
new_key (x ∷ rounds) rest round distinct =
    let parts = and_parts (not (has_key (rounds ++ round ∷ rest) x.key)) (are_distinct (rounds ++ round ∷ rest)) distinct in
    let here : nat_eq x.key round.key ≡ false = eq_other round.key x.key (other_key rounds rest round x.key (not_true (has_key (rounds ++ round ∷ rest) x.key) parts.0)) in
    ap (λ (b : Bool). b || has_key rounds round.key) here ∙ new_key rounds rest round parts.1

pub rounds-append : (subs more : List Sub) → rounds_of (subs ++ more) ≡ rounds_of subs ++ rounds_of more
rounds-append subs more = map-append (λ (sub : Sub). sub.round) subs more

-- ---- outcomes

module _ (decided : IsDecided) (answered : List Answered) where
  abbrev live : ℕ → Bool
  live domain = is_live load_world answered domain

  abbrev tables : ℕ → SchemaTable
  tables = tables_now load_world answered

  -- the next submission is done
  outcome_is : (dec pend : List Sub) (sub : Sub) → has_key (rounds_of dec) sub.round.key ≡ false
      → outcome load_world tables live (sents_of (dec ++ sub ∷ pend)) (dones 0 dec) (sent_of sub) ≡ Done (length dec + 1)
  outcome_is dec pend sub new =
      let ss : List Sent = sents_of (dec ++ sub ∷ pend) in
      let os : List Outcome = dones 0 dec in
      let its_spans = spans (length (commits_of sub.front)) None (done_chains 0 ss os) in
      let long : length (rounds_of dec) + 1 ≡ length dec + 1 = ap (λ (k : ℕ). k + 1) (length-map dec (λ (x : Sub). x.round)) in
      ap (λ (o : Option ℕ). unwrap_or (option_or (option_map ChainFailed o) (unmounted_of (live 0) 0)) (decide table nothing (done_ops 0 ss os) One (trees_behind sub.front) its_spans (commit_of sub.round))) (failing_none 1 ss os)
      ∙ ap (λ (cs : List (List Op)). decide table nothing cs One (trees_behind sub.front) its_spans (commit_of sub.round)) (done_rounds 0 dec (sub ∷ pend))
      ∙ decided (rounds_of dec) sub.front its_spans sub.round.key sub.round.value new
      ∙ ap Done long

  -- submissions: the decided ones, and `n` more
  pub record AreDecided (dec pend : List Sub) (n : ℕ) : Type 0 where
    pub done : List Sub
    pub left : List Sub
    pub same : dec ++ pend ≡ done ++ left
    pub many : length done ≡ length dec + n
    pub outcomes : dones 0 dec ++ decide_next load_world tables live (sents_of (dec ++ pend)) (dones 0 dec) n ≡ dones 0 done

  -- one more is decided, and then the others
  one_more : (dec pend : List Sub) (sub : Sub) (n : ℕ) → has_key (rounds_of dec) sub.round.key ≡ false → AreDecided (dec ++ sub ∷ []) pend n → AreDecided dec (sub ∷ pend) (suc n)
  one_more dec pend sub n new rest =
      let ss : List Sent = sents_of (dec ++ sub ∷ pend) in
      let os : List Outcome = dones 0 dec in
      let all : (dec ++ sub ∷ []) ++ pend ≡ dec ++ sub ∷ pend = append_assoc dec (sub ∷ []) pend in
      let front : decide_front load_world tables live ss os (slice_get ss (length os)) ≡ Done (0 + length dec + 1) ∷ [] =
      ap (decide_front load_world tables live ss os) (next_sent 0 dec pend sub)
      ∙ ap (λ (o : Outcome). o ∷ []) (outcome_is dec pend sub new)
      ∙ (let same : length dec + 1 ≡ 0 + length dec + 1 = omega arith in ap (λ (k : ℕ). Done k ∷ []) same) in
      let next : List Outcome → List Outcome = λ (qs : List Outcome). decide_next load_world tables live ss qs n in
      record {
        done = rest.done;
        left = rest.left;
        same = sym all ∙ rest.same;
        many = omega (arith, rest.many, length-append dec (sub ∷ []));
        outcomes =
            ap (λ (f : List Outcome). os ++ (f ++ next (os ++ f))) front
            ∙ sym (append_assoc os (Done (0 + length dec + 1) ∷ []) (next (os ++ Done (0 + length dec + 1) ∷ [])))
            ∙ ap (λ (qs : List Outcome). qs ++ next qs) (sym (dones-push 0 dec sub))
            ∙ ap (λ (subs : List Sub). dones 0 (dec ++ sub ∷ []) ++ decide_next load_world tables live (sents_of subs) (dones 0 (dec ++ sub ∷ [])) n) (sym all)
            ∙ rest.outcomes;
      }

  pub are_decided : (n : ℕ) (dec pend : List Sub) → n ≤ length pend → are_distinct (rounds_of (dec ++ pend)) ≡ true → AreDecided dec pend n
  are_decided zero dec pend few distinct =
      record { done = dec; left = pend; same = refl; many = omega arith; outcomes = append-nil (dones 0 dec) }
  are_decided (suc n) dec [] few distinct = absurd (omega (arith, few))
  are_decided (suc n) dec (sub ∷ pend) few distinct =
      let apart : are_distinct (rounds_of dec ++ sub.round ∷ rounds_of pend) ≡ true = ap are_distinct (sym (rounds-append dec (sub ∷ pend))) ∙ distinct in
      let all : (dec ++ sub ∷ []) ++ pend ≡ dec ++ sub ∷ pend = append_assoc dec (sub ∷ []) pend in
      one_more dec pend sub n (new_key (rounds_of dec) (rounds_of pend) sub.round apart)
      (are_decided n (dec ++ sub ∷ []) pend (omega (arith, few)) (ap (λ (subs : List Sub). are_distinct (rounds_of subs)) all ∙ distinct))
