-- A decided submission of a log: its base is over the commits before its decision, and its spans are spans over these.
use Rattle.std.proofs.Common.{◌≡◌, inl, inr, ℕ, ◌+◌, ◌-◌, ◌<◌, ◌≤◌, List, [], ◌∷◌, length, drop, take, Option, None, Some, refl, ap, sym, ◌∙◌, subst, arith}
use Rattle.std.specs.Prelude.{slice_get}
use Rattle.std.specs.List.{filter}
use Rattle.std.proofs.lemmas.List.{length-map}
use Rattle.std.proofs.lemmas.Option.{option_and_then_some}
use Rattle.sal_types.specs.declared.value.Store.{Store}
use Rattle.sal_types.specs.declared.row.Row.{Row}
use Rattle.sal_rows.specs.declared.clash.Span.{Span}
use Rattle.sal_rows.specs.declared.op.Op.{Op}
use Rattle.sal_rows.specs.declared.outcome.Outcome.{Outcome}
use Rattle.sal_rows.specs.Commits.{numbers_after, tree_at}
use Rattle.sal_rows.specs.Quiet.{AreSpans, with_own}
use Rattle.sal_rows.specs.Spans.{is_own, own_commits, spans, spans_between}
use Rattle.sal_history.specs.declared.call.Entry.{Entry}
use Rattle.sal_history.specs.Answered.{Answered}
use Rattle.sal_history.specs.History.{commits, history, nowhere, outcomes, sents}
use Rattle.sal_history.specs.Laws.{IsBase}
use Rattle.sal_history.specs.Submissions.{Base, Sent, done, done_chains, done_ops, failing}
use Rattle.sal_history.specs.World.{Domain, opening_of}
use Rattle.sal_history.proofs.Logs.{sound}
use Rattle.sal_history.proofs.Spans.{are, first, rest, split}
use Rattle.sal_history_laws.specs.Serial.{IsOfBegun}
use Rattle.sal_history_laws.proofs.Snapshots.{IsSnapshot, snapshots}

-- The pieces are spans up to the newest of these commits, and the base has the tree at the start of the first one with the own commits on top.
pub record IsParted (opening : Store → List Row) (cs : List (List Op)) (base : Store → List Row) (pieces : List Span) : Type 0 where
  pub head : Span
  pub tail : List Span
  pub parts : pieces ≡ head ∷ tail
  pub spanned : AreSpans (length cs) head tail
  pub is_base : (s : Store) → base s ≡ with_own cs s (tree_at opening cs s head.from) tail

-- a transaction without a chain has no own commits
none_own : (chains : List (Option ℕ)) (ks : List ℕ) → filter (is_own None chains) ks ≡ []
none_own chains [] = refl
none_own chains (k ∷ ks) = none_own chains ks

-- a base without a chain that has the trees at its commit is one over the commits so far
plain_base : (world : List Domain) (ss : List Sent) (os : List Outcome) (b : Base) → b.chain ≡ None → b.commit ≤ length (done_ops b.domain ss os)
    → ((s : Store) → b.trees s ≡ tree_at (opening_of world b.domain) (done_ops b.domain ss os) s b.commit) → IsBase world ss os b
plain_base world ss os b plain within trees =
    let cs = done_ops b.domain ss os in
    let chains = done_chains b.domain ss os in
    let none : own_commits b.commit b.chain chains ≡ [] =
    ap (λ (c : Option ℕ). own_commits b.commit c chains) plain ∙ none_own chains (numbers_after b.commit (length chains - b.commit)) in
    let nothing : drop 1 (spans b.commit b.chain chains) ≡ [] = ap (λ (ks : List ℕ). drop 1 (spans_between b.commit ks (length chains))) none in
    (within, λ s. trees s ∙ ap (with_own cs s (tree_at (opening_of world b.domain) cs s b.commit)) (sym nothing))

module _ (world : List Domain) (log : List Entry) where
  abbrev h : List Answered
  h = history world log

  abbrev ss : List Sent
  ss = sents h

  abbrev os : List Outcome
  os = outcomes h

  -- if the definitions have no transaction, a base that began has the opening trees of domain 0
  nowhere_base : (i : ℕ) (t : Sent) → t.base ≡ nowhere → IsOfBegun h t → IsBase world ss (take i os) t.base
  nowhere_base i t e begun =
      let plain : t.base.chain ≡ None = ap (λ (b : Base). b.chain) e in
      let none : t.base.commit ≡ 0 = ap (λ (b : Base). b.commit) e in
      option_and_then_some (λ (a : Answered). a.began) (slice_get h begun.0) t.base begun.1 (λ a found began.
      let snap : IsSnapshot world h t.base = snapshots world log begun.0 a t.base found began (inr plain) in
      plain_base world ss (take i os) t.base plain (omega (arith, none))
      (λ s.
      snap.1 s ∙ ap (λ k. tree_at (opening_of world t.base.domain) (commits h t.base.domain) s k) none
      ∙ sym (ap (λ k. tree_at (opening_of world t.base.domain) (done_ops t.base.domain ss (take i os)) s k) none)))

  -- the base of a decided submission of a chain that has not failed
  pub based_on : (i : ℕ) (t : Sent) → slice_get ss i ≡ Some t → i < length os → IsOfBegun h t → failing t.base.chain ss (take i os) ≡ None → IsBase world ss (take i os) t.base
  based_on i t at decided begun unfailed =
      elim ((sound world log).known.based i t at decided unfailed) [
        | inl base ↦ base
        | inr e ↦ nowhere_base i t e begun
      ]

-- spans over a base are spans
pub parted : (world : List Domain) (ss : List Sent) (os : List Outcome) (b : Base) → IsBase world ss os b
    → IsParted (opening_of world b.domain) (done_ops b.domain ss os) b.trees (spans b.commit b.chain (done_chains b.domain ss os))
parted world ss os b base =
    let opening = opening_of world b.domain in
    let cs = done_ops b.domain ss os in
    let chains = done_chains b.domain ss os in
    let a = b.commit in
    let own = own_commits a b.chain chains in
    let end = length chains in
    let parts : spans a b.chain chains ≡ first a own end ∷ rest own end = split a own end in
    let as_many : end ≡ length cs = length-map (done b.domain ss os) (λ x. x.base.chain) ∙ sym (length-map (done b.domain ss os) (λ x. x.ops)) in
    let le : a ≤ end = omega (arith, as_many, base.0) in
    let ends : a + (end - a) ≡ end = omega (arith, le) in
    record {
      head = first a own end;
      tail = rest own end;
      parts = parts;
      spanned = subst (λ k. AreSpans k (first a own end) (rest own end)) as_many (are b.chain chains (end - a) a a end (omega arith) ends);
      is_base = λ u. base.1 u ∙ ap (λ (l : List Span). with_own cs u (tree_at opening cs u a) (drop 1 l)) parts;
    }
