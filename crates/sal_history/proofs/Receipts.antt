-- The invariants of the submissions and the outcomes of each log: what pending submissions build on, what conflicts name, and
-- how commits are numbered.
use Rattle.std.proofs.Common.{◌≡◌, ℕ, zero, suc, ◌+◌, ◌<◌, ◌≤◌, Bool, true, false, List, [], ◌∷◌, ◌++◌, ◌&&◌, length, take, Option, None, Some, refl, ap, sym, ◌∙◌, subst, cond, arith, inl, inr, ◌⊎◌, append-nil, append_assoc, length-append}
use Rattle.std.specs.Prelude.{not, slice_get, if◌then◌else◌, nat_eq, is_some}
use Rattle.std.specs.Option.{option_or}
use Rattle.std.proofs.lemmas.Bool.{cases_lt, cond_both, eq-eqb}
use Rattle.std.proofs.lemmas.List.{length-map, length-take, take-append-le}
use Rattle.std.proofs.lemmas.Option.{same_Some, slice_get_within}
use Rattle.std.proofs.Math.Seq.{take-append_seam}
use Rattle.sal_types.specs.declared.value.Store.{Store}
use Rattle.sal_types.specs.declared.value.Step.{Step}
use Rattle.sal_types.specs.declared.row.Row.{Row}
use Rattle.sal_types.specs.Tree.{cell}
pub use Rattle.sal_types.proofs.Lists.{last_or_before}
use Rattle.sal_rows.specs.declared.outcome.ClashKind.{ClashKind}
use Rattle.sal_rows.specs.declared.outcome.Outcome.{Outcome}
use Rattle.sal_rows.specs.declared.outcome.Outcome.TheVariants.{Conflict, Done}
use Rattle.sal_rows.specs.Commits.{touches_at}
use Rattle.sal_rows.specs.Spans.{is_of_chain, is_own}
use Rattle.sal_schema.specs.declared.table.SchemaTable.{SchemaTable}
use Rattle.sal_history.specs.World.{Domain, opening_of, rules_of}
use Rattle.sal_history.specs.Submissions.{Base, Sent, done, failing, if_done, is_done, is_in}
use Rattle.sal_history.specs.History.{decide_front, decide_next, nowhere, outcome}
use Rattle.sal_history.specs.Laws.{IsBase, IsLaterTouch, IsOwnPlace}
use Rattle.sal_history.proofs.Bases.{Follows, IsOver, chains_in, ops_in, over_other, over_own, same_chain}
use Rattle.sal_history.proofs.Decisions.{IsWithinOwn, named_within, numbered, unfailed}
use Rattle.sal_history.proofs.Waiting.{added, done-more, done-next, failing-more, failing-next, fails, waiting, waiting-more, waiting-next, waiting_none}

-- ---- lists

get-take : {X : Type 0} (n : ℕ) (xs : List X) (i : ℕ) → i < n → slice_get (take n xs) i ≡ slice_get xs i
get-take zero xs i lt = absurd (omega (arith, lt))
get-take (suc n) [] i lt = refl
get-take (suc n) (x ∷ xs) zero lt = refl
get-take (suc n) (x ∷ xs) (suc i) lt = get-take n xs i (omega (arith, lt))

-- ---- what a base builds on

-- If a submission waits, the base builds on it; else it is over the commits of its domain. A transaction that no entry began has no
-- base.
abbrev pub StandsOn : List Domain → List Sent → List Outcome → Option Sent → Base → Type 0
StandsOn world ss os None b = IsBase world ss os b ⊎ (b ≡ nowhere)
StandsOn world ss os (Some x) b = Follows b x

-- unless its chain has failed, a base with these submissions before it builds on the waiting one
abbrev pub Stands : List Domain → List Sent → List Outcome → List Sent → Base → Type 0
Stands world ss os before b = failing b.chain ss os ≡ None → StandsOn world ss os (waiting b.chain before os) b

-- the commit that a conflict names, over the commits of the domain
abbrev IsNamedOver : List Domain → List Sent → Sent → Store → List Step → ℕ → Type 0
IsNamedOver world ds s store path commit =
    ((s.base.commit < commit) × (commit ≤ length (ops_in ds)) × (touches_at (opening_of world s.base.domain) (ops_in ds) store path commit ≡ true) × (is_own s.base.chain (chains_in ds) commit ≡ false))
    × IsOwnPlace (rules_of world s.base.domain) s store path

abbrev pub IsNamed : List Domain → List Sent → List Outcome → Sent → Store → List Step → ℕ → Type 0
IsNamed world ss os s store path commit = IsLaterTouch world ss os s store path commit × IsOwnPlace (rules_of world s.base.domain) s store path

-- of the submissions and the outcomes, with the bases of the open transactions
pub record Known (world : List Domain) (IsOpen : Base → Type 0) (ss : List Sent) (os : List Outcome) : Type 0 where
  pub within : length os ≤ length ss
  pub sent : (i : ℕ) (s : Sent) → slice_get ss i ≡ Some s → length os ≤ i → Stands world ss os (take i ss) s.base
  pub open_on : (b : Base) → IsOpen b → Stands world ss os ss b
  pub conflicts : (i : ℕ) (s : Sent) (store : Store) (path : List Step) (kind : ClashKind) (commit : ℕ)
      → slice_get ss i ≡ Some s → slice_get os i ≡ Some (Conflict store path kind commit) → IsNamed world ss (take i os) s store path commit
  pub based : (i : ℕ) (s : Sent) → slice_get ss i ≡ Some s → i < length os → failing s.base.chain ss (take i os) ≡ None → StandsOn world ss (take i os) None s.base
  pub numbers : (i : ℕ) (s : Sent) (commit : ℕ) → slice_get ss i ≡ Some s → slice_get os i ≡ Some (Done commit) → commit ≡ length (done s.base.domain ss (take i os)) + 1

module _ (world : List Domain) where
  -- other commits, on which the base builds in the same way
  stands_over : (ss ts : List Sent) (os : List Outcome) (w : Option Sent) (b : Base) → done b.domain ss os ≡ done b.domain ts os → StandsOn world ss os w b → StandsOn world ts os w b
  stands_over ss ts os None b same was =
      elim was [
        | inl base ↦ inl (subst (λ (ds : List Sent). IsOver (opening_of world b.domain) ds b) same base)
        | inr e ↦ inr e
      ]
  stands_over ss ts os (Some x) b same was = was

  -- ---- one outcome more

  -- a base over the commits after a submission that is not of its chain
  still_over : (ds : List Sent) (s : Sent) (o : Outcome) (b : Base) → is_in b.chain s ≡ false → IsOver (opening_of world b.domain) ds b → IsOver (opening_of world b.domain) (ds ++ added b.domain s o) b
  still_over ds s o b other was =
      let same : IsOver (opening_of world b.domain) (ds ++ []) b = subst (λ (es : List Sent). IsOver (opening_of world b.domain) es b) (sym (append-nil ds)) was in
      cond_both (nat_eq s.base.domain b.domain) (if_done o s) [] (λ (more : List Sent). IsOver (opening_of world b.domain) (ds ++ more) b)
      (λ here. cond_both (is_done o) (s ∷ []) [] (λ (more : List Sent). IsOver (opening_of world b.domain) (ds ++ more) b) (λ made. over_other (opening_of world b.domain) ds s b other was) (λ unmade. same))
      (λ elsewhere. same)

  -- a base over the commits after the submission on which it was built
  now_over : (ss : List Sent) (os : List Outcome) (s : Sent) (o : Outcome) (b : Base) → is_in b.chain s ≡ true → is_done o ≡ true → Follows b s → IsBase world ss os s.base
      → IsOver (opening_of world b.domain) (done b.domain ss os ++ added b.domain s o) b
  now_over ss os s o b own made on was =
      let more : added b.domain s o ≡ s ∷ [] =
      ap (λ c. cond c (if_done o s) []) (eq-eqb s.base.domain b.domain on.0) ∙ ap (λ c. cond c (s ∷ []) []) made in
      subst (λ (ds : List Sent). IsOver (opening_of world b.domain) (done b.domain ss os ++ ds) b) (sym more)
      (over_own (opening_of world b.domain) (done b.domain ss os) s b own on
      (subst (λ d. IsOver (opening_of world d) (done d ss os) s.base) on.0 was))

  -- a base on a submission of its chain is of a chain
  of_chain : (b : Base) (s : Sent) → is_in b.chain s ≡ true → s.base ≡ nowhere → ⊥
  of_chain b s own e =
      let chains : b.chain ≡ None = same_chain b.chain s.base.chain own ∙ ap (λ (x : Base). x.chain) e in
      let none : false ≡ true = ap (λ (c : Option ℕ). is_of_chain c s.base.chain) (sym chains) ∙ own in
      cc

  -- if a submission of a chain is decided and the chain has not failed, the submission is done
  was_done : (chain : Option ℕ) (s : Sent) (o : Outcome) → is_in chain s ≡ true → fails chain s o ≡ false → is_done o ≡ true
  was_done chain s o own e = flipped (is_done o) (ap (λ b. b && not (is_done o)) (sym own) ∙ e)
    where
      flipped : (b : Bool) → not b ≡ false → b ≡ true
      flipped true f = refl
      flipped false f = cc

  -- the first pending submission builds on none that waits
  front_on : (ss : List Sent) (os : List Outcome) (s : Sent) → failing s.base.chain ss os ≡ None → Stands world ss os (take (length os) ss) s.base → StandsOn world ss os None s.base
  front_on ss os s sound own =
      let few : length (take (length os) ss) ≤ length os = omega (arith, length-take (length os) ss) in
      subst (λ (w : Option Sent). StandsOn world ss os w s.base) (waiting_none s.base.chain (take (length os) ss) os few) (own sound)

  module _ (ss : List Sent) (os : List Outcome) (s : Sent) (o : Outcome) (next : slice_get ss (length os) ≡ Some s) (own : Stands world ss os (take (length os) ss) s.base) where
    on_next : (w : Option Sent) (b : Base) → failing b.chain ss os ≡ None → fails b.chain s o ≡ false
        → StandsOn world ss os (option_or w (if is_in b.chain s then Some s else None)) b → StandsOn world ss (os ++ o ∷ []) w b
    on_next (Some x) b sound kept was = was
    on_next None b sound kept was =
        let ds = done b.domain ss os in
        let over : IsOver (opening_of world b.domain) (ds ++ added b.domain s o) b → IsBase world ss (os ++ o ∷ []) b =
        λ is. subst (λ (es : List Sent). IsOver (opening_of world b.domain) es b) (sym (done-next b.domain ss s os o next)) is in
        cond_both (is_in b.chain s) (Some s) None (λ (w : Option Sent). StandsOn world ss os w b → StandsOn world ss (os ++ o ∷ []) None b)
        (λ mine on.
        elim (front_on ss os s (ap (λ (c : Option ℕ). failing c ss os) (sym (same_chain b.chain s.base.chain mine)) ∙ sound) own) [
          | inl base ↦ inl (over (now_over ss os s o b mine (was_done b.chain s o mine kept) on base))
          | inr e ↦ absurd (of_chain b s mine e)
        ])
        (λ other on.
        elim on [
          | inl base ↦ inl (over (still_over ds s o b other base))
          | inr e ↦ inr e
        ])
        was

    stands-next : (before : List Sent) (b : Base) → slice_get before (length os) ≡ Some s → Stands world ss os before b → Stands world ss (os ++ o ∷ []) before b
    stands-next before b at was = λ sound.
        let earlier = failing-next 1 b.chain ss s os o next sound in
        on_next (waiting b.chain before (os ++ o ∷ [])) b earlier.0 earlier.1
        (subst (λ (w : Option Sent). StandsOn world ss os w b) (waiting-next b.chain before s os o at) (was earlier.0))

  -- the front of what is pending, decided as a conflict
  front_named : (tables : ℕ → SchemaTable) (live : ℕ → Bool) (ss : List Sent) (os : List Outcome) (s : Sent) (store : Store) (path : List Step) (kind : ClashKind) (commit : ℕ)
      → Stands world ss os (take (length os) ss) s.base → outcome world tables live ss os s ≡ Conflict store path kind commit → IsNamed world ss os s store path commit
  front_named tables live ss os s store path kind commit own is =
      elim (front_on ss os s (unfailed world tables live ss os s store path kind commit is) own) [
        | inl base ↦ named_within world tables live ss os s store path kind commit base.0 (λ t q there. ap (λ (tree : List Row). cell tree q) (base.1 t)) is
        | inr e ↦
            let zero_is : 0 ≡ s.base.commit = ap (λ (x : Base). x.commit) (sym e) in
            let empty : IsWithinOwn world ss os s.base = λ t q there.
            let none : false ≡ true = ap (λ (x : Base). is_some (cell (x.trees t) q)) (sym e) ∙ there in
            cc in
            named_within world tables live ss os s store path kind commit (omega (arith, zero_is)) empty is
      ]

  module _ (IsOpen : Base → Type 0) where
    Known-decide : (tables : ℕ → SchemaTable) (live : ℕ → Bool) (ss : List Sent) (os : List Outcome) (s : Sent) → Known world IsOpen ss os → slice_get ss (length os) ≡ Some s → Known world IsOpen ss (os ++ outcome world tables live ss os s ∷ [])
    Known-decide tables live ss os s was next =
        let o = outcome world tables live ss os s in
        let own = was.sent (length os) s next (omega arith) in
        record {
          within = omega (arith, slice_get_within ss (length os) s next, length-append os (o ∷ []));
          sent = λ i t at le.
              let past : length os < i = omega (arith, le, length-append os (o ∷ [])) in
              stands-next ss os s o next own (take i ss) t.base (get-take i ss (length os) past ∙ next) (was.sent i t at (omega (arith, past)));
          open_on = λ b is. stands-next ss os s o next own ss b next (was.open_on b is);
          conflicts = λ i t store path kind commit at is. elim (last_or_before os o (Conflict store path kind commit) i is) [
            | inl old ↦
                let inside : i < length os = slice_get_within os i (Conflict store path kind commit) old in
                let front : take i (os ++ o ∷ []) ≡ take i os = take-append-le i os (o ∷ []) (omega (arith, inside)) in
                subst (λ (ps : List Outcome). IsNamed world ss ps t store path commit) (sym front) (was.conflicts i t store path kind commit at old)
            | inr w ↦
                let same : s ≡ t = same_Some s t (sym next ∙ ap (slice_get ss) (sym w.0) ∙ at) in
                let front : take i (os ++ o ∷ []) ≡ os = ap (λ k. take k (os ++ o ∷ [])) w.0 ∙ take-append_seam os (o ∷ []) in
                subst (λ (ps : List Outcome). IsNamed world ss ps t store path commit) (sym front)
                (subst (λ (u : Sent). IsNamed world ss os u store path commit) same (front_named tables live ss os s store path kind commit own w.1))
          ];
          based = λ i t at decided. elim (cases_lt i (length os)) [
            | inl inside ↦
                let front : take i (os ++ o ∷ []) ≡ take i os = take-append-le i os (o ∷ []) (omega (arith, inside)) in
                subst (λ (ps : List Outcome). failing t.base.chain ss ps ≡ None → StandsOn world ss ps None t.base) (sym front) (was.based i t at inside)
            | inr past ↦
                let last : length os ≡ i = omega (arith, past, decided, length-append os (o ∷ [])) in
                let same : s ≡ t = same_Some s t (sym next ∙ ap (slice_get ss) last ∙ at) in
                let front : take i (os ++ o ∷ []) ≡ os = ap (λ k. take k (os ++ o ∷ [])) (sym last) ∙ take-append_seam os (o ∷ []) in
                subst (λ (ps : List Outcome). failing t.base.chain ss ps ≡ None → StandsOn world ss ps None t.base) (sym front)
                (subst (λ (u : Sent). failing u.base.chain ss os ≡ None → StandsOn world ss os None u.base) same (λ unbroken. front_on ss os s unbroken own))
          ];
          numbers = λ i t commit at is. elim (last_or_before os o (Done commit) i is) [
            | inl old ↦
                let inside : i < length os = slice_get_within os i (Done commit) old in
                let front : take i (os ++ o ∷ []) ≡ take i os = take-append-le i os (o ∷ []) (omega (arith, inside)) in
                was.numbers i t commit at old ∙ ap (λ (ps : List Outcome). length (done t.base.domain ss ps) + 1) (sym front)
            | inr w ↦
                let same : s ≡ t = same_Some s t (sym next ∙ ap (slice_get ss) (sym w.0) ∙ at) in
                let front : take i (os ++ o ∷ []) ≡ os = ap (λ k. take k (os ++ o ∷ [])) w.0 ∙ take-append_seam os (o ∷ []) in
                numbered world tables live ss os s commit w.1
                ∙ ap (λ n. n + 1) (length-map (done s.base.domain ss os) (λ x. x.ops))
                ∙ ap (λ (u : Sent). length (done u.base.domain ss os) + 1) same
                ∙ ap (λ (ps : List Outcome). length (done t.base.domain ss ps) + 1) (sym front)
          ];
        }

    -- the outcomes that a settle or a pump decides
    Known-front : (tables : ℕ → SchemaTable) (live : ℕ → Bool) (ss : List Sent) (os : List Outcome) → Known world IsOpen ss os → (next : Option Sent) → slice_get ss (length os) ≡ next → Known world IsOpen ss (os ++ decide_front world tables live ss os next)
    Known-front tables live ss os was None at = subst (Known world IsOpen ss) (sym (append-nil os)) was
    Known-front tables live ss os was (Some s) at = Known-decide tables live ss os s was at

    pub Known-next : (tables : ℕ → SchemaTable) (live : ℕ → Bool) (n : ℕ) (ss : List Sent) (os : List Outcome) → Known world IsOpen ss os → Known world IsOpen ss (os ++ decide_next world tables live ss os n)
    Known-next tables live zero ss os was = subst (Known world IsOpen ss) (sym (append-nil os)) was
    Known-next tables live (suc n) ss os was =
        let front = decide_front world tables live ss os (slice_get ss (length os)) in
        subst (Known world IsOpen ss) (append_assoc os front (decide_next world tables live ss (os ++ front) n)) (Known-next tables live n ss (os ++ front) (Known-front tables live ss os was (slice_get ss (length os)) refl))

    -- ---- one submission more

    -- Of a base that builds on a waiting submission; the open transactions after it are of other chains.
    pub Known-submit : (IsStill : Base → Type 0) (ss : List Sent) (os : List Outcome) (s : Sent) → Known world IsOpen ss os → Stands world ss os ss s.base
        → ((b : Base) → IsStill b → IsOpen b × (is_in b.chain s ≡ false)) → Known world IsStill (ss ++ s ∷ []) os
    Known-submit IsStill ss os s was stands others =
        record {
          within = omega (arith, was.within, length-append ss (s ∷ []));
          sent = λ i t at le. elim (last_or_before ss s t i at) [
            | inl old ↦
                let inside : i < length ss = slice_get_within ss i t old in
                let front : take i (ss ++ s ∷ []) ≡ take i ss = take-append-le i ss (s ∷ []) (omega (arith, inside)) in
                subst (λ (before : List Sent). Stands world (ss ++ s ∷ []) os before t.base) (sym front) (kept (take i ss) t.base (was.sent i t old le))
            | inr w ↦
                let front : take i (ss ++ s ∷ []) ≡ ss = ap (λ k. take k (ss ++ s ∷ [])) w.0 ∙ take-append_seam ss (s ∷ []) in
                subst (λ (before : List Sent). Stands world (ss ++ s ∷ []) os before t.base) (sym front) (subst (λ (u : Sent). Stands world (ss ++ s ∷ []) os ss u.base) w.1 (kept ss s.base stands))
          ];
          open_on = λ b is.
              let still = others b is in
              let waits : waiting b.chain (ss ++ s ∷ []) os ≡ waiting b.chain ss os =
              waiting-more b.chain ss s os was.within ∙ ap (λ c. cond c (Some s) (waiting b.chain ss os)) still.1 in
              λ sound. subst (λ (w : Option Sent). StandsOn world (ss ++ s ∷ []) os w b) (sym waits) (kept ss b (was.open_on b still.0) sound);
          conflicts = λ i t store path kind commit at is.
              let decided : i < length os = slice_get_within os i (Conflict store path kind commit) is in
              let brief : length (take i os) ≤ length ss = omega (arith, length-take i os, was.within) in
              subst (λ (ds : List Sent). IsNamedOver world ds t store path commit) (sym (done-more t.base.domain ss s (take i os) brief)) (was.conflicts i t store path kind commit (old_at i t decided at) is);
          based = λ i t at decided.
              let brief : length (take i os) ≤ length ss = omega (arith, length-take i os, was.within) in
              λ unbroken.
              stands_over ss (ss ++ s ∷ []) (take i os) None t.base (sym (done-more t.base.domain ss s (take i os) brief))
              (was.based i t (old_at i t decided at) decided (sym (failing-more 1 t.base.chain ss s (take i os) brief) ∙ unbroken));
          numbers = λ i t commit at is.
              let decided : i < length os = slice_get_within os i (Done commit) is in
              let brief : length (take i os) ≤ length ss = omega (arith, length-take i os, was.within) in
              was.numbers i t commit (old_at i t decided at) is ∙ ap (λ (ds : List Sent). length ds + 1) (sym (done-more t.base.domain ss s (take i os) brief));
        }
      where
        kept : (before : List Sent) (b : Base) → Stands world ss os before b → Stands world (ss ++ s ∷ []) os before b
        kept before b stood = λ sound.
            stands_over ss (ss ++ s ∷ []) os (waiting b.chain before os) b (sym (done-more b.domain ss s os was.within)) (stood (sym (failing-more 1 b.chain ss s os was.within) ∙ sound))

        old_at : (i : ℕ) (t : Sent) → i < length os → slice_get (ss ++ s ∷ []) i ≡ Some t → slice_get ss i ≡ Some t
        old_at i t decided at = elim (last_or_before ss s t i at) [
          | inl old ↦ old
          | inr w ↦ absurd (omega (arith, w.0, decided, was.within))
        ]

  -- other transactions are open
  pub Known-open : (IsOpen IsNow : Base → Type 0) (ss : List Sent) (os : List Outcome) → Known world IsOpen ss os → ((b : Base) → IsNow b → IsOpen b ⊎ Stands world ss os ss b) → Known world IsNow ss os
  Known-open IsOpen IsNow ss os was from =
      record {
        within = was.within;
        sent = was.sent;
        open_on = λ b is. elim (from b is) [ inl old ↦ was.open_on b old | inr new ↦ new ];
        conflicts = was.conflicts;
        based = was.based;
        numbers = was.numbers;
      }
