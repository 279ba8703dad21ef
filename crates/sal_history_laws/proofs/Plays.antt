-- Each log is serialisable, as far as its transactions recorded their reads.
use Rattle.std.proofs.Common.{◌≡◌, inl, inr, ℕ, zero, suc, ◌+◌, ◌-◌, ◌≤◌, true, List, [], ◌∷◌, ◌++◌, length, take, drop, Option, None, Some, refl, ap, sym, ◌∙◌, subst, arith, append-nil}
use Rattle.std.specs.Prelude.{map, slice_get, nat_eq}
use Rattle.std.specs.List.{filter, fold}
use Rattle.std.proofs.lemmas.Bool.{cond_both, eqb-true}
use Rattle.std.proofs.lemmas.List.{length-map, map-append, length-take-le, take_all}
use Rattle.std.proofs.lemmas.Option.{option_and_then_some, slice_get_cases, slice_get_within}
use Rattle.std.proofs.Math.Seq.{take-append_seam}
use Rattle.sal_types.specs.declared.value.Store.{Store}
use Rattle.sal_types.specs.declared.value.Step.{Step}
use Rattle.sal_types.specs.declared.row.Row.{Row}
use Rattle.sal_types.specs.Tree.{under}
use Rattle.sal_rows.specs.declared.clash.Span.{Span}
use Rattle.sal_rows.specs.declared.op.Op.{Op}
use Rattle.sal_rows.specs.declared.outcome.Outcome.{Outcome}
use Rattle.sal_rows.specs.declared.outcome.Outcome.TheVariants.{Done}
use Rattle.sal_rows.specs.Apply.{apply_ops}
use Rattle.sal_rows.specs.Clash.{clash}
use Rattle.sal_rows.specs.Commits.{numbers_after, tree_after, tree_at}
use Rattle.sal_rows.specs.Quiet.{AreSpans, with_own}
use Rattle.sal_rows.specs.Reads.{is_known, with_read}
use Rattle.sal_rows.specs.Spans.{is_own, own_commits, spans, spans_between}
use Rattle.sal_rows.proofs.Quiet.{no_clash-quiet}
use Rattle.sal_history.specs.declared.call.Entry.{Entry}
use Rattle.sal_history.specs.Answered.{Answered}
use Rattle.sal_history.specs.History.{commits, history, nowhere, outcomes, sents, trees_at}
use Rattle.sal_history.specs.Laws.{IsBase}
use Rattle.sal_history.specs.Outcome.{decide}
use Rattle.sal_history.specs.Submissions.{Base, Sent, done, done_chains, done_ops, failing, if_done, is_done}
use Rattle.sal_history.specs.World.{Domain, opening_of, rules_of}
use Rattle.sal_history.proofs.Bases.{ops_in}
use Rattle.sal_history.proofs.Decisions.{went}
use Rattle.sal_history.proofs.Logs.{sound}
use Rattle.sal_history.proofs.Numbers.{front_of, made}
use Rattle.sal_history.proofs.Placed.{take_next}
use Rattle.sal_history.proofs.Spans.{are, first, rest, split}
use Rattle.sal_history.proofs.Unbroken.{done_is}
use Rattle.sal_history.proofs.Waiting.{added, done-next, done_none}
use Rattle.sal_history_laws.specs.Serial.{AreSerial, IsOfBegun, IsSerialisable, ReadsAlike, played, rows_read}
use Rattle.sal_history_laws.specs.SerialLaws.{EachReadStands, LogsAreSerialisable, ReadsStand}
use Rattle.sal_history_laws.proofs.Conflicts.{done-quiet}
use Rattle.sal_history_laws.proofs.Decided.{decided}
use Rattle.sal_history_laws.proofs.Readings.{known-alike, recorded_known}
use Rattle.sal_history_laws.proofs.Snapshots.{IsSnapshot, snapshots}

-- ---- one decision

-- A submission over the trees at its base commit with its chain's own later commits: if it is done, its reads were the same as over the
-- newest trees.
module _ (world : List Domain) (ss : List Sent) (os : List Outcome) (t : Sent) where
  abbrev domain : ℕ
  domain = t.base.domain

  abbrev opening : Store → List Row
  opening = opening_of world domain

  abbrev newest : Store → List Row
  newest s = tree_after s (opening s) (done_ops domain ss os)

  quiet-alike : clash opening (done_ops domain ss os) (rules_of world domain) t.base.trees (spans t.base.commit t.base.chain (done_chains domain ss os)) t.ops ≡ None → IsBase world ss os t.base → ReadsAlike newest t
  quiet-alike none base n s path known =
      let cs = done_ops domain ss os in
      let chains = done_chains domain ss os in
      let a = t.base.commit in
      let own = own_commits a t.base.chain chains in
      let end = length chains in
      let head = first a own end in
      let tail = rest own end in
      let parts : spans a t.base.chain chains ≡ head ∷ tail = split a own end in
      let as_many : end ≡ length cs = length-map (done domain ss os) (λ x. x.base.chain) ∙ sym (length-map (done domain ss os) (λ x. x.ops)) in
      let le : a ≤ end = omega (arith, as_many, base.0) in
      let ends : a + (end - a) ≡ end = omega (arith, le) in
      let spanned : AreSpans (length cs) head tail = subst (λ k. AreSpans k head tail) as_many (are t.base.chain chains (end - a) a a end (omega arith) ends) in
      let is_base : (u : Store) → t.base.trees u ≡ with_own cs u (tree_at opening cs u a) tail = λ u. base.1 u ∙ ap (λ (l : List Span). with_own cs u (tree_at opening cs u a) (drop 1 l)) parts in
      let clear = ap (λ (l : List Span). clash opening cs (rules_of world domain) t.base.trees l t.ops) (sym parts) ∙ none in
      let quiet = no_clash-quiet opening cs (rules_of world domain) t.base.trees head tail t.ops spanned is_base clear in
      known-alike t.base.trees newest t.ops quiet.2 n s path known

-- ---- a submission whose transaction no entry began

-- a transaction without a chain has no own commits
none_own : (chains : List (Option ℕ)) (ks : List ℕ) → filter (is_own None chains) ks ≡ []
none_own chains [] = refl
none_own chains (k ∷ ks) = none_own chains ks

-- a base without a chain that has the trees at its commit is a base over the commits so far
plain_base : (world : List Domain) (ss : List Sent) (os : List Outcome) (b : Base) → b.chain ≡ None → b.commit ≤ length (done_ops b.domain ss os)
    → ((s : Store) → b.trees s ≡ tree_at (opening_of world b.domain) (done_ops b.domain ss os) s b.commit) → IsBase world ss os b
plain_base world ss os b plain within trees =
    let cs = done_ops b.domain ss os in
    let chains = done_chains b.domain ss os in
    let none : own_commits b.commit b.chain chains ≡ [] =
    ap (λ (c : Option ℕ). own_commits b.commit c chains) plain ∙ none_own chains (numbers_after b.commit (length chains - b.commit)) in
    let nothing : drop 1 (spans b.commit b.chain chains) ≡ [] = ap (λ (ks : List ℕ). drop 1 (spans_between b.commit ks (length chains))) none in
    (within, λ s. trees s ∙ ap (with_own cs s (tree_at (opening_of world b.domain) cs s b.commit)) (sym nothing))

-- ---- trees

-- trees by store are all that matters
alike-over : (t : Sent) (x y : Store → List Row) → ((s : Store) → x s ≡ y s) → ReadsAlike x t → ReadsAlike y t
alike-over t x y same is n s path known = ap (λ (tree : List Row). under (apply_ops tree s (take n t.ops)) path) (sym (same s)) ∙ is n s path known

-- the trees after the play are those after the commits
played-trees : (trees : Store → List Row) (ts : List Sent) (s : Store) → fold played trees ts s ≡ tree_after s (trees s) (map (λ (x : Sent). x.ops) ts)
played-trees trees [] s = refl
played-trees trees (t ∷ ts) s = played-trees (played trees t) ts s

take-map : {X Y : Type 0} (f : X → Y) (k : ℕ) (xs : List X) → take k (map f xs) ≡ map f (take k xs)
take-map f zero xs = refl
take-map f (suc k) [] = refl
take-map f (suc k) (x ∷ xs) = ap (λ ys. f x ∷ ys) (take-map f k xs)

-- one transaction more
serial-push : (Holds : Sent → Type 0) (trees : Store → List Row) (ts : List Sent) (t : Sent) → AreSerial Holds trees ts → (Holds t → ReadsAlike (fold played trees ts) t) → AreSerial Holds trees (ts ++ t ∷ [])
serial-push Holds trees [] t was alike = (alike, tt)
serial-push Holds trees (u ∷ ts) t was alike = (was.0, serial-push Holds (played trees u) ts t was.1 alike)

-- ---- a log

module _ (world : List Domain) (log : List Entry) where
  abbrev h : List Answered
  h = history world log

  abbrev ss : List Sent
  ss = sents h

  abbrev os : List Outcome
  os = outcomes h

  -- if the definitions have no transaction, a base that began has the opening trees of domain 0
  nowhere_base : (i : ℕ) (t : Sent) → t.base ≡ nowhere → IsOfBegun h t → IsBase world ss (take i os) t.base
  nowhere_base i t e begun =
      let plain : t.base.chain ≡ None = ap (λ (b : Base). b.chain) e in
      let none : t.base.commit ≡ 0 = ap (λ (b : Base). b.commit) e in
      option_and_then_some (λ (a : Answered). a.began) (slice_get h begun.0) t.base begun.1 (λ a found began.
      let snap : IsSnapshot world h t.base = snapshots world log begun.0 a t.base found began (inr plain) in
      plain_base world ss (take i os) t.base plain (omega (arith, none))
      (λ s.
      snap.1 s ∙ ap (λ k. tree_at (opening_of world t.base.domain) (commits h t.base.domain) s k) none
      ∙ sym (ap (λ k. tree_at (opening_of world t.base.domain) (done_ops t.base.domain ss (take i os)) s k) none)))

  alike : (i : ℕ) (t : Sent) (commit : ℕ) → slice_get ss i ≡ Some t → slice_get os i ≡ Some (Done commit) → IsOfBegun h t
      → ReadsAlike (λ s. tree_after s (opening_of world t.base.domain s) (done_ops t.base.domain ss (take i os))) t
  alike i t commit at is begun =
      let domain = t.base.domain in
      let before = take i os in
      let (tables, live, e) = decided world log i t (Done commit) at is in
      let none = done-quiet world tables live ss before t commit e in
      let here : Outcome = decide (tables domain) (opening_of world domain) (done_ops domain ss before) (rules_of world domain) t.base.trees (spans t.base.commit t.base.chain (done_chains domain ss before)) t.ops in
      let unfailed : failing t.base.chain ss before ≡ None = (went (failing t.base.chain ss before) (live domain) domain here (Done commit) e (λ n x. cc) (λ n x. cc)).0 in
      elim ((sound world log).known.based i t at (slice_get_within os i (Done commit) is) unfailed) [
        | inl base ↦ quiet-alike world ss before t none base
        | inr e ↦ quiet-alike world ss before t none (nowhere_base i t e begun)
      ]

  -- ---- one after another

  -- one receipt more
  module _ (domain k : ℕ) (le : suc k ≤ length os) (was : AreSerial (IsOfBegun h) (opening_of world domain) (done domain ss (take k os))) where
    abbrev IsSerial : List Sent → Type 0
    IsSerial = AreSerial (IsOfBegun h) (opening_of world domain)

    abbrev front : List Sent
    front = done domain ss (take k os)

    unchanged : IsSerial (front ++ [])
    unchanged = subst IsSerial (sym (append-nil front)) was

    pushed : (s : Sent) (o : Outcome) → slice_get ss k ≡ Some s → slice_get os k ≡ Some o → nat_eq s.base.domain domain ≡ true → is_done o ≡ true → IsSerial (front ++ s ∷ [])
    pushed s o at is mine made =
        let (n, number) = done_is o made in
        let same : s.base.domain ≡ domain = eqb-true s.base.domain domain mine in
        serial-push (IsOfBegun h) (opening_of world domain) front s was (λ begun.
        alike-over s (λ u. tree_after u (opening_of world domain u) (done_ops domain ss (take k os))) (fold played (opening_of world domain) front) (λ u. sym (played-trees (opening_of world domain) front u))
        (subst (λ d. ReadsAlike (λ u. tree_after u (opening_of world d u) (done_ops d ss (take k os))) s) same (alike k s n at (is ∙ ap Some number) begun)))

    more : (s : Sent) (o : Outcome) → slice_get ss k ≡ Some s → slice_get os k ≡ Some o → IsSerial (done domain ss (take (suc k) os))
    more s o at is =
        let here : length (take k os) ≡ k = length-take-le k os (omega (arith, le)) in
        let next : done domain ss (take (suc k) os) ≡ front ++ added domain s o =
        ap (done domain ss) (take_next k os o is) ∙ done-next domain ss s (take k os) o (ap (slice_get ss) here ∙ at) in
        subst IsSerial (sym next)
        (cond_both (nat_eq s.base.domain domain) (if_done o s) [] (λ (ds : List Sent). IsSerial (front ++ ds))
        (λ mine. cond_both (is_done o) (s ∷ []) [] (λ (ds : List Sent). IsSerial (front ++ ds)) (λ made. pushed s o at is mine made) (λ unmade. unchanged))
        (λ other. unchanged))

    serial_next : IsSerial (done domain ss (take (suc k) os))
    serial_next =
        elim ((slice_get_cases os k).1) [
          | inl w ↦
              elim ((slice_get_cases ss k).1) [
                | inl v ↦ more v.0 w.0 v.2 w.2
                | inr v ↦ absurd (omega (arith, le, v.0, (sound world log).known.within))
              ]
          | inr w ↦ absurd (omega (arith, le, w.0))
        ]

  serial_upto : (domain k : ℕ) → k ≤ length os → AreSerial (IsOfBegun h) (opening_of world domain) (done domain ss (take k os))
  serial_upto domain zero le = subst (AreSerial (IsOfBegun h) (opening_of world domain)) (sym (done_none domain ss)) tt
  serial_upto domain (suc k) le = serial_next domain k le (serial_upto domain k (omega (arith, le)))

  all_outcomes : take (length os) os ≡ os
  all_outcomes = take_all (length os) os (omega arith)

  pub serialisable : IsSerialisable world h
  serialisable = record {
    reads = λ domain. subst (λ (ps : List Outcome). AreSerial (IsOfBegun h) (opening_of world domain) (done domain ss ps)) all_outcomes (serial_upto domain (length os) (omega arith));
    trees = λ domain k s.
        ap (tree_after s (opening_of world domain s)) (take-map (λ (x : Sent). x.ops) k (done domain ss os))
        ∙ sym (played-trees (opening_of world domain) (take k (done domain ss os)) s);
    order = λ i t commit at is.
        let found = made world _ ss os (sound world log).known i (length os) t commit (slice_get_within os i (Done commit) is) at is in
        (found.0, ap (λ (ps : List Outcome). slice_get (done t.base.domain ss ps) (commit - 1)) (sym all_outcomes) ∙ found.1);
    snapshots = λ place a b commit at began on. snapshots world log place a b at began (inl (commit, on));
  }

  -- ---- by receipts

  -- the trees just before a commit are those after the commits that were decided before it
  pub trees_before : (i : ℕ) (t : Sent) (commit : ℕ) → slice_get ss i ≡ Some t → slice_get os i ≡ Some (Done commit) → (s : Store)
      → tree_after s (opening_of world t.base.domain s) (done_ops t.base.domain ss (take i os)) ≡ trees_at world h t.base.domain s (commit - 1)
  trees_before i t commit at is s =
      let domain = t.base.domain in
      let front = done domain ss (take i os) in
      let inside = slice_get_within os i (Done commit) is in
      let later = front_of domain ss os i (length os) (omega (arith, inside)) in
      let whole : done_ops domain ss os ≡ ops_in front ++ ops_in later.0 =
      ap (λ (ps : List Outcome). done_ops domain ss ps) (sym all_outcomes) ∙ ap ops_in later.1 ∙ map-append (λ (x : Sent). x.ops) front later.0 in
      let place : commit - 1 ≡ length (ops_in front) = omega (arith, (sound world log).known.numbers i t commit at is, length-map front (λ x. x.ops)) in
      let part : take (commit - 1) (done_ops domain ss os) ≡ ops_in front = (λ k. take (place k) (whole k)) ∙ take-append_seam (ops_in front) (ops_in later.0) in
      ap (tree_after s (opening_of world domain s)) (sym part)

  pub stands : (i : ℕ) (t : Sent) (commit : ℕ) → slice_get ss i ≡ Some t → slice_get os i ≡ Some (Done commit) → IsOfBegun h t → ReadsAlike (λ s. trees_at world h t.base.domain s (commit - 1)) t
  stands i t commit at is begun =
      alike-over t (λ s. tree_after s (opening_of world t.base.domain s) (done_ops t.base.domain ss (take i os))) (λ s. trees_at world h t.base.domain s (commit - 1)) (trees_before i t commit at is) (alike i t commit at is begun)

pub logs_are_serialisable : LogsAreSerialisable
logs_are_serialisable = serialisable

pub reads_stand : ReadsStand
reads_stand = stands

-- a read before its record and after it gives the same rows
before_record : (trees : Store → List Row) (all : List Op) (s : Store) (path : List Step) (ops more : List Op) → all ≡ with_read s path ops ++ more
    → rows_read trees all (length (with_read s path ops)) s path ≡ under (apply_ops (trees s) s ops) path
before_record trees all s path ops more e =
    let front : take (length (with_read s path ops)) all ≡ with_read s path ops = ap (take (length (with_read s path ops))) e ∙ take-append_seam (with_read s path ops) more in
    ap (λ (os : List Op). under (apply_ops (trees s) s os) path) front ∙ ap (λ (tree : List Row). under tree path) (recorded_known (trees s) s s path ops).1

pub each_read_stands : EachReadStands
each_read_stands world log i t commit s path ops more at is begun e =
    let n = length (with_read s path ops) in
    let trees : Store → List Row = λ u. trees_at world (history world log) t.base.domain u (commit - 1) in
    let front : take n t.ops ≡ with_read s path ops = ap (take n) e ∙ take-append_seam (with_read s path ops) more in
    let known : is_known (take n t.ops) s path ≡ true = ap (λ (os : List Op). is_known os s path) front ∙ (recorded_known [] s s path ops).0 in
    sym (before_record t.base.trees t.ops s path ops more e) ∙ sym (stands world log i t commit at is begun n s path known) ∙ before_record trees t.ops s path ops more e
