-- Which receipt made a commit, and what follows for chains of a log.
use Rattle.std.proofs.Common.{◌≡◌, ℕ, ◌+◌, ◌-◌, ◌<◌, ◌≤◌, List, [], ◌∷◌, ◌++◌, length, take, drop, Some, refl, ap, sym, ◌∙◌, cond, arith, inl, inr, append_assoc, length-append, Option}
use Rattle.std.specs.Prelude.{slice_get}
use Rattle.std.proofs.lemmas.Bool.{cases_lt, eq-eqb}
use Rattle.std.proofs.lemmas.List.{length-map, length-take-le, take-append-drop, take-take, take_more}
use Rattle.std.proofs.lemmas.Option.{none-some, get_or_from_slice_get, slice_get_within}
use Rattle.sal_rows.specs.declared.outcome.Outcome.{Outcome}
use Rattle.sal_rows.specs.declared.outcome.Outcome.TheVariants.{Done}
use Rattle.sal_rows.specs.Spans.{is_own}
use Rattle.sal_history.specs.World.{Domain}
use Rattle.sal_history.specs.Submissions.{Base, Sent, done, done_ops, failing}
use Rattle.sal_history.specs.History.{history, outcomes, sents}
use Rattle.sal_history.specs.ChainLaws.{CommitsStandInOrder, NoConflictInAChain, OwnCommitsAreOnTop}
use Rattle.sal_history.specs.Laws.{ConflictsOfALogNameALaterCommit}
use Rattle.sal_history.proofs.Bases.{chains_in}
use Rattle.sal_history.proofs.Logs.{sound}
use Rattle.sal_history.proofs.Receipts.{Known}
use Rattle.sal_history.proofs.Spans.{own_is}
use Rattle.sal_history.proofs.Waiting.{added, done-next}

pub get_seam : {X : Type 0} (xs : List X) (x : X) (ys : List X) → slice_get (xs ++ x ∷ ys) (length xs) ≡ Some x
get_seam [] x ys = refl
get_seam (z ∷ xs) x ys = get_seam xs x ys

-- more outcomes take no commit back
pub done-grows : (domain : ℕ) (ss : List Sent) (os ps : List Outcome) → (more : List Sent) × (done domain ss (os ++ ps) ≡ done domain ss os ++ more)
done-grows domain [] os ps = ([], refl)
done-grows domain (s ∷ ss) [] ps = (done domain (s ∷ ss) ps, refl)
done-grows domain (s ∷ ss) (o ∷ os) ps =
    let rest = done-grows domain ss os ps in
    (rest.0, ap (λ (ds : List Sent). added domain s o ++ ds) rest.1 ∙ sym (append_assoc (added domain s o) (done domain ss os) rest.0))

-- the commits after some outcomes are a front of those after more
pub front_of : (domain : ℕ) (ss : List Sent) (os : List Outcome) (i j : ℕ) → i ≤ j → (more : List Sent) × (done domain ss (take j os) ≡ done domain ss (take i os) ++ more)
front_of domain ss os i j le =
    let parts : take j os ≡ take i os ++ drop i (take j os) =
    sym (take-append-drop i (take j os)) ∙ ap (λ (ps : List Outcome). ps ++ drop i (take j os)) (take-take i j os le) in
    let grown = done-grows domain ss (take i os) (drop i (take j os)) in
    (grown.0, ap (done domain ss) parts ∙ grown.1)

module _ (world : List Domain) (IsOpen : Base → Type 0) (ss : List Sent) (os : List Outcome) (known : Known world IsOpen ss os) where
  -- a commit is the submission that was done with its number
  pub made : (i j : ℕ) (s : Sent) (commit : ℕ) → i < j → slice_get ss i ≡ Some s → slice_get os i ≡ Some (Done commit) → (0 < commit) × (slice_get (done s.base.domain ss (take j os)) (commit - 1) ≡ Some s)
  made i j s commit lt at is =
      let domain = s.base.domain in
      let ds = done domain ss (take i os) in
      let inside : i < length os = slice_get_within os i (Done commit) is in
      let here : length (take i os) ≡ i = length-take-le i os (omega (arith, inside)) in
      let one : take (i + 1) os ≡ take i os ++ Done commit ∷ [] =
      take_more os i (Done commit) inside ∙ ap (λ (o : Outcome). take i os ++ o ∷ []) (get_or_from_slice_get os i (Done commit) (Done commit) is) in
      let itself : added domain s (Done commit) ≡ s ∷ [] = ap (λ c. cond c (s ∷ []) []) (eq-eqb domain domain refl) in
      let next : done domain ss (take (i + 1) os) ≡ ds ++ s ∷ [] =
      ap (done domain ss) one ∙ done-next domain ss s (take i os) (Done commit) (ap (slice_get ss) here ∙ at) ∙ ap (λ (xs : List Sent). ds ++ xs) itself in
      let later = front_of domain ss os (i + 1) j (omega (arith, lt)) in
      let whole : done domain ss (take j os) ≡ ds ++ s ∷ later.0 =
      later.1 ∙ ap (λ (xs : List Sent). xs ++ later.0) next ∙ append_assoc ds (s ∷ []) later.0 in
      let number = known.numbers i s commit at is in
      let place : commit - 1 ≡ length ds = omega (arith, number) in
      (omega (arith, number), (λ k. slice_get (whole k) (place k)) ∙ get_seam ds s later.0)

pub named_in_log : ConflictsOfALogNameALaterCommit
named_in_log world log i s store path kind commit at is = (sound world log).known.conflicts i s store path kind commit at is

pub apart_in_chains : NoConflictInAChain
apart_in_chains world log i j s t store path kind commit at is there was same =
    let ss = sents (history world log) in
    let os = outcomes (history world log) in
    let known = (sound world log).known in
    let facts = (known.conflicts i s store path kind commit at is).0 in
    let ds = done s.base.domain ss (take i os) in
    let many : length (done_ops s.base.domain ss (take i os)) ≡ length ds = length-map ds (λ x. x.ops) in
    elim (cases_lt j i) [
      | inl before ↦
          let found = made world _ ss os known j i t commit before there was in
          let stands : slice_get ds (commit - 1) ≡ Some t = ap (λ d. slice_get (done d ss (take i os)) (commit - 1)) (sym same) ∙ found.1 in
          let number : commit - 1 + 1 ≡ commit = omega (arith, found.0) in
          sym (own_is s.base.chain ds (commit - 1) t stands) ∙ ap (is_own s.base.chain (chains_in ds)) number ∙ facts.3
      | inr behind ↦
          let grown = front_of s.base.domain ss os i j behind in
          let longer : length (done s.base.domain ss (take j os)) ≡ length ds + length grown.0 = ap length grown.1 ∙ length-append ds grown.0 in
          let number : commit ≡ length (done s.base.domain ss (take j os)) + 1 = known.numbers j t commit there was ∙ ap (λ d. length (done d ss (take j os)) + 1) same in
          absurd (omega (arith, number, longer, many, facts.1))
    ]

pub in_order : CommitsStandInOrder
in_order world log i j s t a b lt at is there was same =
    let ss = sents (history world log) in
    let os = outcomes (history world log) in
    let known = (sound world log).known in
    let found = made world _ ss os known i j s a lt at is in
    let inside = slice_get_within (done s.base.domain ss (take j os)) (a - 1) s found.1 in
    let number : b ≡ length (done s.base.domain ss (take j os)) + 1 = known.numbers j t b there was ∙ ap (λ d. length (done d ss (take j os)) + 1) (sym same) in
    omega (arith, inside, number, found.0)

pub on_top_of_base : OwnCommitsAreOnTop
on_top_of_base world log i s chain at decided of unfailed =
    let ss = sents (history world log) in
    let os = outcomes (history world log) in
    elim ((sound world log).known.based i s at decided (ap (λ (c : Option ℕ). failing c ss (take i os)) of ∙ unfailed)) [
      | inl base ↦ base
      | inr e ↦ absurd (none-some chain (ap (λ (b : Base). b.chain) (sym e) ∙ of))
    ]
