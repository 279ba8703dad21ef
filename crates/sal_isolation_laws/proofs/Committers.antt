-- Of two concurrent transactions that were done, the later one puts or deletes no path at or below which the earlier one left a change.
use Rattle.std.proofs.Common.{◌≡◌, inl, inr, ℕ, zero, suc, ◌+◌, ◌-◌, ◌<◌, ◌≤◌, Bool, true, false, List, [], ◌∷◌, ◌++◌, ◌&&◌, ◌||◌, length, take, Option, None, Some, refl, ap, sym, ◌∙◌, subst, arith, append-nil, if◌then◌else◌}
use Rattle.std.specs.Prelude.{find, not, slice_get, unwrap_or}
use Rattle.std.specs.Option.{option_map, option_or}
use Rattle.std.proofs.lemmas.Bool.{and_parts}
use Rattle.std.proofs.lemmas.List.{length-map, map-append, take_all, take-append-le}
use Rattle.std.proofs.lemmas.List.Folds.{list_any-append}
use Rattle.std.proofs.lemmas.Option.{same_Some, slice_get_within}
use Rattle.sal_types.specs.declared.value.Store.{Store}
use Rattle.sal_types.specs.declared.value.Step.{Step}
use Rattle.sal_types.specs.declared.row.Row.{Row}
use Rattle.sal_types.specs.Prefix.{is_prefix}
use Rattle.sal_types.specs.Tree.{has}
use Rattle.sal_types.proofs.Prefixes.{is_prefix-append}
use Rattle.sal_rows.specs.declared.clash.Rules.{Rules}
use Rattle.sal_rows.specs.declared.clash.Span.{Span}
use Rattle.sal_rows.specs.declared.op.Op.{Op}
use Rattle.sal_rows.specs.declared.outcome.Outcome.{Outcome}
use Rattle.sal_rows.specs.declared.outcome.Outcome.TheVariants.{Done}
use Rattle.sal_rows.specs.Apply.{checks_path, same_store}
use Rattle.sal_rows.specs.Clash.{clash, clash_from, leaf_clash, op_clash, parent_clash, path_clash, reads_from}
use Rattle.sal_rows.specs.Commits.{commit_touches, is_unchanged, touches_at, tree_after, tree_at}
use Rattle.sal_rows.specs.PathClash.{difference, is_covered}
use Rattle.sal_rows.specs.Quiet.{AreFresh, AreQuiet}
use Rattle.sal_rows.specs.Spans.{is_of_chain, is_own, spans}
use Rattle.sal_rows.proofs.Named.{path_found}
use Rattle.sal_rows.proofs.Quiet.{no_clash-quiet, no_map, or_none_first, or_none_second, prefix_below, same_stores}
use Rattle.sal_history.specs.declared.call.Entry.{Entry}
use Rattle.sal_history.specs.Answered.{Answered}
use Rattle.sal_history.specs.History.{history, outcomes, sents, trees_at}
use Rattle.sal_history.specs.Outcome.{decide}
use Rattle.sal_history.specs.Submissions.{Sent, done, failing}
use Rattle.sal_history.specs.World.{Domain, opening_of, rules_of}
use Rattle.sal_history.proofs.Bases.{chains_in, ops_in}
use Rattle.sal_history.proofs.Decisions.{went}
use Rattle.sal_history.proofs.Logs.{sound}
use Rattle.sal_history.proofs.Numbers.{front_of}
use Rattle.sal_history.proofs.Spans.{own_is}
use Rattle.sal_history_laws.specs.Serial.{IsOfBegun}
use Rattle.sal_history_laws.proofs.Conflicts.{done-quiet}
use Rattle.sal_history_laws.proofs.Decided.{decided}
use Rattle.sal_history_laws.proofs.Plays.{serialisable, trees_before}
use Rattle.sal_isolation_laws.specs.Isolation.{AreConcurrent, IsDoneAs, LeftNoChange}
use Rattle.sal_isolation_laws.specs.IsolationLaws.{FirstCommitterWins, PathsAreAsSeen}
use Rattle.sal_isolation_laws.proofs.Parted.{IsParted, based_on, parted}
use Rattle.sal_isolation_laws.proofs.Runs.{around, left_none}

-- ---- no conflict

prefix-itself : (q : List Step) → is_prefix q q ≡ true
prefix-itself q = ap (is_prefix q) (sym (append-nil q)) ∙ is_prefix-append q []

module _ (opening : Store → List Row) (cs : List (List Op)) (pieces : List Span) where
  -- the path, or one above it, differs over no span
  abbrev pub IsClear : Store → List Step → Type 0
  IsClear s p = (q : List Step) × (is_prefix q p ≡ true) × (find (λ span. not (is_unchanged opening cs s q span)) pieces ≡ None)

  -- so does each path that is covered
  abbrev AreClear : List Op → Type 0
  AreClear earlier = (s : Store) (p : List Step) → is_covered earlier s p ≡ true → IsClear s p

  push-clear : (earlier : List Op) (op : Op) → AreClear earlier → (checks_path op.act ≡ true → IsClear op.store op.path) → AreClear (earlier ++ op ∷ [])
  push-clear earlier op was here s p covered =
      let covers : Op → Bool = λ o. (same_store o.store s && checks_path o.act) && is_prefix o.path p in
      let all : (is_covered earlier s p || (covers op || false)) ≡ true = sym (list_any-append covers earlier (op ∷ [])) ∙ covered in
      elim (is_covered earlier s p) as (λ b. is_covered earlier s p ≡ b → (b || (covers op || false)) ≡ true → IsClear s p) [
        | true ↦ λ e f. was s p e
        | false ↦ λ e f.
            elim (covers op) as (λ b. covers op ≡ b → (b || false) ≡ true → IsClear s p) [
              | true ↦ λ g f.
                  let (own, above) = and_parts (same_store op.store s && checks_path op.act) (is_prefix op.path p) g in
                  let (mine, checks) = and_parts (same_store op.store s) (checks_path op.act) own in
                  let store : op.store ≡ s = same_stores op.store s mine in
                  over op above (subst (λ (t : Store). IsClear t op.path) store (here checks))
              | false ↦ λ g f. cc
            ] refl f
      ] refl all
    where
      over : (o : Op) → is_prefix o.path p ≡ true → IsClear s o.path → IsClear s p
      over o above clear = (clear.0, prefix_below clear.0 o.path p clear.1 above, clear.2)

  module _ (rules : Rules) (base : Store → List Row) where
    op-clear : (earlier : List Op) (op : Op) → AreClear earlier → op_clash opening cs rules base pieces earlier op ≡ None → checks_path op.act ≡ true → IsClear op.store op.path
    op-clear earlier op was none checks =
        let behind = or_none_second (parent_clash opening cs base pieces earlier op) (option_or (path_clash opening cs pieces earlier op) (leaf_clash opening cs rules base pieces earlier op)) none in
        let path = or_none_first (path_clash opening cs pieces earlier op) (leaf_clash opening cs rules base pieces earlier op) behind in
        let found = option_map (path_found earlier op) (difference opening cs op.store pieces op.path) in
        elim (is_covered earlier op.store op.path) as (λ b. is_covered earlier op.store op.path ≡ b → (if checks_path op.act && not b then found else None) ≡ None → IsClear op.store op.path) [
          | true ↦ λ e f. was op.store op.path e
          | false ↦ λ e f.
              let nothing : found ≡ None = ap (λ c. if c && true then found else None) (sym checks) ∙ f in
              (op.path, prefix-itself op.path, no_map _ _ (no_map (path_found earlier op) (difference opening cs op.store pieces op.path) nothing))
        ] refl path

    ops-clear : (earlier ops : List Op) → AreClear earlier → clash_from opening cs rules base pieces earlier ops ≡ None → (n : ℕ) (op : Op) → slice_get ops n ≡ Some op → checks_path op.act ≡ true → IsClear op.store op.path
    ops-clear earlier [] was none n op at checks = cc
    ops-clear earlier (o ∷ ops) was none zero op at checks =
        let same : o ≡ op = same_Some o op at in
        subst (λ (x : Op). checks_path x.act ≡ true → IsClear x.store x.path) same
        (op-clear earlier o was (or_none_first (op_clash opening cs rules base pieces earlier o) (clash_from opening cs rules base pieces (earlier ++ o ∷ []) ops) none)) checks
    ops-clear earlier (o ∷ ops) was none (suc n) op at checks =
        let first = or_none_first (op_clash opening cs rules base pieces earlier o) (clash_from opening cs rules base pieces (earlier ++ o ∷ []) ops) none in
        let rest = or_none_second (op_clash opening cs rules base pieces earlier o) (clash_from opening cs rules base pieces (earlier ++ o ∷ []) ops) none in
        ops-clear (earlier ++ o ∷ []) ops (push-clear earlier o was (op-clear earlier o was first)) rest n op at checks

    pub clear : (ops : List Op) → clash opening cs rules base pieces ops ≡ None → (n : ℕ) (op : Op) → slice_get ops n ≡ Some op → checks_path op.act ≡ true → IsClear op.store op.path
    clear ops none n op at checks =
        ops-clear [] ops (λ s p covered. cc) (or_none_first (clash_from opening cs rules base pieces [] ops) (reads_from opening cs pieces [] ops) none) n op at checks

-- ---- commits of a longer history

-- the first elements of a longer list
in_front : {X : Type 0} (xs ys : List X) (i : ℕ) → i < length xs → slice_get (xs ++ ys) i ≡ slice_get xs i
in_front [] ys i inside = absurd (omega (arith, inside))
in_front (x ∷ xs) ys zero inside = refl
in_front (x ∷ xs) ys (suc i) inside = in_front xs ys i (omega (arith, inside))

module _ (opening : Store → List Row) (front more : List Sent) where
  abbrev cs : List (List Op)
  cs = ops_in front

  abbrev all : List (List Op)
  all = ops_in (front ++ more)

  longer : all ≡ cs ++ ops_in more
  longer = map-append (λ (x : Sent). x.ops) front more

  many : length cs ≡ length front
  many = length-map front (λ x. x.ops)

  same-tree : (s : Store) (m : ℕ) → m ≤ length front → tree_at opening all s m ≡ tree_at opening cs s m
  same-tree s m le = ap (λ (l : List (List Op)). tree_after s (opening s) (take m l)) longer ∙ ap (tree_after s (opening s)) (take-append-le m cs (ops_in more) (omega (arith, le, many)))

  same-touch : (s : Store) (p : List Step) (k : ℕ) → 0 < k → k ≤ length front → touches_at opening all s p k ≡ touches_at opening cs s p k
  same-touch s p k low le =
      let inside : k - 1 < length cs = omega (arith, low, le, many) in
      let at : slice_get all (k - 1) ≡ slice_get cs (k - 1) = ap (λ (l : List (List Op)). slice_get l (k - 1)) longer ∙ in_front cs (ops_in more) (k - 1) inside in
      λ i. commit_touches (same-tree s (k - 1) (omega (arith, le)) i) s p (at i)

  same-own : (chain : Option ℕ) (m : ℕ) → 0 < m → m ≤ length front → is_own chain (chains_in (front ++ more)) m ≡ is_own chain (chains_in front) m
  same-own chain m low le =
      let inside : m - 1 < length (chains_in front) = omega (arith, low, le, length-map front (λ (x : Sent). x.base.chain)) in
      ap (λ (o : Option (Option ℕ)). is_of_chain chain (unwrap_or o None))
      (ap (λ (l : List (Option ℕ)). slice_get l (m - 1)) (map-append (λ (x : Sent). x.base.chain) front more) ∙ in_front (chains_in front) (chains_in more) (m - 1) inside)

-- ---- a log

module _ (world : List Domain) (log : List Entry) (i : ℕ) (t : Sent) (commit : ℕ) (is : IsDoneAs (history world log) i t commit) (begun : IsOfBegun (history world log) t) where
  abbrev h : List Answered
  h = history world log

  abbrev ss : List Sent
  ss = sents h

  abbrev os : List Outcome
  os = outcomes h

  abbrev domain : ℕ
  domain = t.base.domain

  abbrev opening : Store → List Row
  opening = opening_of world domain

  abbrev front : List Sent
  front = done domain ss (take i os)

  abbrev pieces : List Span
  pieces = spans t.base.commit t.base.chain (chains_in front)

  inside : i < length os
  inside = slice_get_within os i (Done commit) is.1

  none : clash opening (ops_in front) (rules_of world domain) t.base.trees pieces t.ops ≡ None
  none = let (tables, live, e) = decided world log i t (Done commit) is.0 is.1 in done-quiet world tables live ss (take i os) t commit e

  unfailed : failing t.base.chain ss (take i os) ≡ None
  unfailed =
      let (tables, live, e) = decided world log i t (Done commit) is.0 is.1 in
      let here : Outcome = decide (tables domain) opening (ops_in front) (rules_of world domain) t.base.trees pieces t.ops in
      (went (failing t.base.chain ss (take i os)) (live domain) domain here (Done commit) e (λ n x. cc) (λ n x. cc)).0

  base_is : IsParted opening (ops_in front) t.base.trees pieces
  base_is = parted world ss (take i os) t.base (based_on world log i t is.0 inside begun unfailed)

  -- the commits of the log are those before the decision and later ones
  abbrev Grown : Type 0
  Grown = (more : List Sent) × (done domain ss os ≡ front ++ more)

  grown : Grown
  grown =
      let later = front_of domain ss os i (length os) (omega (arith, inside)) in
      (later.0, ap (done domain ss) (sym (take_all (length os) os (omega arith))) ∙ later.1)

  number : commit ≡ length front + 1
  number = (sound world log).known.numbers i t commit is.0 is.1

  -- ---- pairs

  module _ (j : ℕ) (u : Sent) (k : ℕ) (was : IsDoneAs h j u k) (pair : AreConcurrent t commit u k) where
    low : 0 < k
    low = omega (arith, pair.after)

    upto : k ≤ length front
    upto = omega (arith, number, pair.before)

    foreign : is_own t.base.chain (chains_in front) k ≡ false
    foreign =
        let found = ((serialisable world log).order j u k was.0 was.1).1 in
        let at : slice_get (front ++ grown.0) (k - 1) ≡ Some u = ap (λ (l : List Sent). slice_get l (k - 1)) (sym grown.1) ∙ ap (λ d. slice_get (done d ss os) (k - 1)) (sym pair.domain) ∙ found in
        let there : slice_get front (k - 1) ≡ Some u = sym (in_front front grown.0 (k - 1) (omega (arith, low, upto))) ∙ at in
        let same : k - 1 + 1 ≡ k = omega (arith, low) in
        ap (is_own t.base.chain (chains_in front)) (sym same) ∙ own_is t.base.chain front (k - 1) u there ∙ pair.foreign

    -- over the commits before the decision, then over all of the log
    left : (s : Store) (p : List Step) → IsClear opening (ops_in front) pieces s p → LeftNoChange world h t commit k s p
    left s p clear =
        let chains = chains_in front in
        let a = t.base.commit in
        let end = length chains in
        let as_many : end ≡ length front = length-map front (λ (x : Sent). x.base.chain) in
        let le : a ≤ end = omega (arith, as_many, pair.after, upto) in
        let ends : a + (end - a) ≡ end = omega (arith, le) in
        let changed : Span → Bool = λ span. not (is_unchanged opening (ops_in front) s clear.0 span) in
        let found = around t.base.chain chains changed k (end - a) a a end (omega arith) ends (λ m past near. absurd (omega (arith, past, near))) pair.after (omega (arith, upto, as_many)) foreign clear.2 in
        let span = found.0 in
        let near = found.1 in
        let inner : span.to ≤ length front = omega (arith, near.ends, as_many) in
        elim (left_none opening (ops_in front) s clear.0 p clear.1 k span near.past near.upto (unflipped (is_unchanged opening (ops_in front) s clear.0 span) found.2)) [
          | inl untouched ↦ inl (ap (λ (ds : List Sent). touches_at opening (ops_in ds) s p k) grown.1 ∙ same-touch opening front grown.0 s p k low upto ∙ untouched)
          | inr gone ↦ inr (record {
            from = span.from;
            to = span.to;
            unseen =
                record {
                  after = near.after;
                  before = omega (arith, number, inner);
                  foreign = λ m past within.
                      ap (λ (ds : List Sent). is_own t.base.chain (chains_in ds) m) grown.1 ∙ same-own opening front grown.0 t.base.chain m (omega (arith, past)) (omega (arith, within, inner)) ∙ near.foreign m past within;
                };
            past = near.past;
            upto = near.upto;
            absent =
                ap (λ (ds : List Sent). has (tree_at opening (ops_in ds) s span.from) p) grown.1
                ∙ ap (λ (tree : List Row). has tree p) (same-tree opening front grown.0 s span.from (omega (arith, inner, near.past, near.upto))) ∙ gone.0;
            again =
                ap (λ (ds : List Sent). has (tree_at opening (ops_in ds) s span.to) p) grown.1
                ∙ ap (λ (tree : List Row). has tree p) (same-tree opening front grown.0 s span.to inner) ∙ gone.1;
          })
        ]
      where
        unflipped : (b : Bool) → not b ≡ false → b ≡ true
        unflipped true e = refl
        unflipped false e = cc

    pub no_change : (n : ℕ) (op : Op) → slice_get t.ops n ≡ Some op → checks_path op.act ≡ true → LeftNoChange world h t commit k op.store op.path
    no_change n op at checks = left op.store op.path (clear opening (ops_in front) pieces (rules_of world domain) t.base.trees t.ops none n op at checks)

  -- ---- what the transaction saw

  pub as_seen : AreQuiet t.base.trees (λ s. trees_at world h domain s (commit - 1)) t.ops × AreFresh (rules_of world domain) t.base.trees (λ s. trees_at world h domain s (commit - 1)) t.ops
  as_seen =
      let part = base_is in
      let open_there = ap (λ (l : List Span). clash opening (ops_in front) (rules_of world domain) t.base.trees l t.ops) (sym part.parts) ∙ none in
      let quiet = no_clash-quiet opening (ops_in front) (rules_of world domain) t.base.trees part.head part.tail t.ops part.spanned part.is_base open_there in
      subst (λ (newest : Store → List Row). AreQuiet t.base.trees newest t.ops × AreFresh (rules_of world domain) t.base.trees newest t.ops)
      (λ r s. trees_before world log i t commit is.0 is.1 s r) (quiet.0, quiet.1)

pub first_committer_wins : FirstCommitterWins
first_committer_wins world log i j t u commit k n op is was begun pair at checks = no_change world log i t commit is begun j u k was pair n op at checks

pub paths_are_as_seen : PathsAreAsSeen
paths_are_as_seen world log i t commit is begun = as_seen world log i t commit is begun
