-- A transaction that began on no pending submission sees the trees at its base commit, however long the log grows.
use Rattle.std.proofs.Common.{◌≡◌, ◌⊎◌, inl, inr, ℕ, ◌+◌, ◌≤◌, List, [], ◌∷◌, ◌++◌, length, take, Option, None, Some, refl, ap, sym, ◌∙◌, subst, arith, append-nil, length-append}
use Rattle.std.specs.Prelude.{map, slice_get, option_and_then}
use Rattle.std.specs.List.{fold}
use Rattle.std.specs.Option.{option_to_list}
use Rattle.std.proofs.lemmas.Bool.{cond_both}
use Rattle.std.proofs.lemmas.List.{map-append, take_all, take-append-le}
use Rattle.std.proofs.lemmas.Option.{none-some, same_Some}
use Rattle.sal_types.specs.declared.value.Store.{Store}
use Rattle.sal_types.proofs.Lists.{last_or_before}
use Rattle.sal_rows.specs.declared.op.Op.{Op}
use Rattle.sal_rows.specs.declared.outcome.CallFault.{CallFault}
use Rattle.sal_rows.specs.declared.outcome.CallFault.TheVariants.{NoDomain}
use Rattle.sal_rows.specs.Commits.{tree_after}
use Rattle.sal_history.specs.declared.call.Call.{Call}
use Rattle.sal_history.specs.declared.call.Call.TheVariants.{Begin, ChainBegin}
use Rattle.sal_history.specs.declared.call.Entry.{Entry}
use Rattle.sal_history.specs.declared.reply.Reply.{Reply}
use Rattle.sal_history.specs.declared.reply.Reply.TheVariants.{Begun, Refused}
use Rattle.sal_history.specs.Answered.{Answered}
use Rattle.sal_history.specs.History.{answer, answered_as, base_on, began_by, chain_refusal, chained_base, commits, domain_of, history, is_live, newest_base, outcomes, refused_or, reply_to, sents, stands_on, trees_at}
use Rattle.sal_history.specs.Numbered.{numbered}
use Rattle.sal_history.specs.Submissions.{Base, Sent, done}
use Rattle.sal_history.specs.World.{Domain, opening_of}
use Rattle.sal_history.proofs.Logs.{IsSound, IsSound-answer, IsSound-nothing}
use Rattle.sal_history.proofs.Numbers.{done-grows}
use Rattle.sal_history.proofs.Unbroken.{outcomes-push, sents-push}
use Rattle.sal_history.proofs.Waiting.{done-more}

-- the base has the trees at its commit
abbrev pub IsSnapshot : List Domain → List Answered → Base → Type 0
IsSnapshot world answered b = (b.commit ≤ length (commits answered b.domain)) × ((s : Store) → b.trees s ≡ trees_at world answered b.domain s b.commit)

-- a base with this reply is on no pending submission, or of no chain
abbrev pub IsPlain : Reply → Base → Type 0
IsPlain reply b = ((commit : ℕ) × (reply ≡ Begun commit None)) ⊎ (b.chain ≡ None)

-- each plain base is a snapshot
abbrev pub AreSnapshots : List Domain → List Answered → Type 0
AreSnapshots world answered = (place : ℕ) (a : Answered) (b : Base) → slice_get answered place ≡ Some a → a.began ≡ Some b → IsPlain a.reply b → IsSnapshot world answered b

module _ (world : List Domain) where
  -- a base at the newest commit is a snapshot
  newest-snapshot : (answered : List Answered) (domain : ℕ) (chain : Option ℕ) → IsSnapshot world answered (newest_base world answered domain chain)
  newest-snapshot answered domain chain =
      let cs = commits answered domain in
      let whole : take (length cs) cs ≡ cs = take_all (length cs) cs (omega arith) in
      (omega arith, λ s. ap (tree_after s (opening_of world domain s)) (sym whole))

  -- more commits leave it one
  more-snapshot : (answered later : List Answered) (b : Base) (more : List (List Op)) → commits later b.domain ≡ commits answered b.domain ++ more → IsSnapshot world answered b → IsSnapshot world later b
  more-snapshot answered later b more grown was =
      let cs = commits answered b.domain in
      let longer : length (commits later b.domain) ≡ length cs + length more = ap length grown ∙ length-append cs more in
      let front : take b.commit (commits later b.domain) ≡ take b.commit cs = ap (take b.commit) grown ∙ take-append-le b.commit cs more was.0 in
      (omega (arith, was.0, longer), λ s. was.1 s ∙ ap (tree_after s (opening_of world b.domain s)) (sym front))

  -- ---- one entry more

  module _ (answered : List Answered) (e : Entry) (sound : IsSound world answered) (was : AreSnapshots world answered) where
    abbrev reply : Reply
    reply = reply_to world answered e.client e.call

    abbrev now : Answered
    now = answered_as world answered e reply

    done-now : (domain : ℕ) (o : Option Sent) → done domain (sents answered ++ option_to_list o) (outcomes answered) ≡ done domain (sents answered) (outcomes answered)
    done-now domain None = ap (λ (ss : List Sent). done domain ss (outcomes answered)) (append-nil (sents answered))
    done-now domain (Some s) = done-more domain (sents answered) s (outcomes answered) sound.known.within

    commits-now : (domain : ℕ) → (more : List (List Op)) × (commits (answered ++ now ∷ []) domain ≡ commits answered domain ++ more)
    commits-now domain =
        let ss = sents answered ++ option_to_list now.sent in
        let grown = done-grows domain ss (outcomes answered) now.decided in
        let all : done domain (sents (answered ++ now ∷ [])) (outcomes (answered ++ now ∷ [])) ≡ done domain (sents answered) (outcomes answered) ++ grown.0 =
        (λ k. done domain (sents-push answered now k) (outcomes-push answered now k)) ∙ grown.1 ∙ ap (λ (ds : List Sent). ds ++ grown.0) (done-now domain now.sent) in (
          map (λ (x : Sent). x.ops) grown.0,
          ap (map (λ (x : Sent). x.ops)) all ∙ map-append (λ (x : Sent). x.ops) (done domain (sents answered) (outcomes answered)) grown.0,
        )

    stays : (b : Base) → IsSnapshot world answered b → IsSnapshot world (answered ++ now ∷ []) b
    stays b is = let (more, grown) = commits-now b.domain in more-snapshot answered (answered ++ now ∷ []) b more grown is

    of_chain : (chain : ℕ) (o : Option Sent) → (base_on world answered chain o).chain ≡ Some chain
    of_chain chain None = refl
    of_chain chain (Some x) = refl

    -- a chain's next transaction that is plain begins at the newest commit
    chained_plain : (chain : ℕ) (b : Base) → chained_base world answered chain ≡ b → IsPlain (Begun (chained_base world answered chain).commit (stands_on answered chain)) b → IsSnapshot world answered b
    chained_plain chain b same (inl told) =
        let replied : Begun (chained_base world answered chain).commit (stands_on answered chain) ≡ Begun told.0 None = told.1 in
        let nothing : stands_on answered chain ≡ None = cc in
        let newest : chained_base world answered chain ≡ newest_base world answered (domain_of answered chain) (Some chain) =
        ap (λ (o : Option ℕ). base_on world answered chain (option_and_then (λ n. numbered (sents answered) n) o)) nothing in
        subst (IsSnapshot world answered) (sym newest ∙ same) (newest-snapshot answered (domain_of answered chain) (Some chain))
    chained_plain chain b same (inr none) =
        let of : b.chain ≡ Some chain = ap (λ (x : Base). x.chain) (sym same) ∙ of_chain chain (option_and_then (λ n. numbered (sents answered) n) (stands_on answered chain)) in
        absurd (none-some chain (sym none ∙ of))

    -- the transaction that a call with its answer begins
    begins : (client : ℕ) (call : Call) (b : Base) → began_by world answered call (reply_to world answered client call) ≡ Some b → IsPlain (reply_to world answered client call) b → IsSnapshot world answered b
    begins client (Begin domain mode) b =
        cond_both (is_live world answered domain) (Begun (length (commits answered domain)) None) (Refused (NoDomain domain))
        (λ r. began_by world answered (Begin domain mode) r ≡ Some b → IsPlain r b → IsSnapshot world answered b)
        (λ live began plain. subst (IsSnapshot world answered) (same_Some (newest_base world answered domain None) b began) (newest-snapshot answered domain None))
        (λ dead began plain. absurd (none-some b began))
    begins client (ChainBegin chain mode) b =
        elim (chain_refusal world answered chain) as (λ (o : Option CallFault). began_by world answered (ChainBegin chain mode) (refused_or o (Begun (chained_base world answered chain).commit (stands_on answered chain))) ≡ Some b
        → IsPlain (refused_or o (Begun (chained_base world answered chain).commit (stands_on answered chain))) b → IsSnapshot world answered b) [
          | None ↦ λ began plain. chained_plain chain b (same_Some (chained_base world answered chain) b began) plain
          | Some fault ↦ λ began plain. absurd (none-some b began)
        ]
    begins client call b = λ began plain. absurd (none-some b began)

    answer-snapshots : AreSnapshots world (answer world answered e)
    answer-snapshots place a b at began plain = elim (last_or_before answered now a place at) [
      | inl old ↦ stays b (was place a b old began plain)
      | inr w ↦ stays b (begins e.client e.call b (ap (λ (x : Answered). x.began) w.1 ∙ began) (subst (λ (x : Answered). IsPlain x.reply b) (sym w.1) plain))
    ]

  -- ---- all entries

  fold-snapshots : (answered : List Answered) (log : List Entry) → IsSound world answered → AreSnapshots world answered → AreSnapshots world (fold (answer world) answered log)
  fold-snapshots answered [] sound was = was
  fold-snapshots answered (e ∷ log) sound was = fold-snapshots (answer world answered e) log (IsSound-answer world answered sound e) (answer-snapshots answered e sound was)

  pub snapshots : (log : List Entry) → AreSnapshots world (history world log)
  snapshots log = fold-snapshots [] log (IsSound-nothing world) (λ place a b at began plain. absurd (none-some a at))
