-- The result of one decision: the commit and the path of a conflict, and that a done submission breaks no rule.
use Rattle.std.proofs.Common.{◌≡◌, ◌⊎◌, inl, inr, ℕ, zero, suc, Bool, true, false, ◌+◌, ◌-◌, ◌≤◌, List, [], ◌∷◌, ◌++◌, length, take, drop, Option, None, Some, refl, ap, sym, ◌∙◌, subst, arith}
use Rattle.std.specs.Prelude.{Any, IsTrue, slice_get, unwrap_or, option_and_then}
use Rattle.std.specs.Option.{option_or, option_map, option_map_or}
use Rattle.std.proofs.lemmas.List.{length-map, take-append-drop, take_all}
use Rattle.std.proofs.lemmas.List.Sums.{fold-append}
use Rattle.sal_types.specs.declared.value.Store.{Store}
use Rattle.sal_types.specs.declared.value.Store.TheVariants.{Config, Oper}
use Rattle.sal_types.specs.declared.value.Step.{Step}
use Rattle.sal_types.specs.declared.row.Row.{Row}
use Rattle.sal_types.specs.Prefix.{is_prefix}
use Rattle.sal_types.specs.Tree.{cell}
use Rattle.sal_types.proofs.Prefixes.{is_prefix-append}
use Rattle.sal_rows.specs.declared.op.Op.{Op}
use Rattle.sal_rows.specs.declared.outcome.Breach.{Breach}
use Rattle.sal_rows.specs.declared.outcome.ClashKind.{ClashKind}
use Rattle.sal_rows.specs.declared.outcome.Outcome.{Outcome}
use Rattle.sal_rows.specs.declared.outcome.Outcome.TheVariants.{ChainFailed as FailedBy, Conflict, Done, Invalid, Unmounted}
use Rattle.sal_rows.specs.Apply.{apply_ops, rows_of_act}
use Rattle.sal_rows.specs.Commits.{next_tree, touches_at, tree_after, tree_at}
use Rattle.sal_rows.specs.Quiet.{AreSpans, with_own}
use Rattle.sal_rows.specs.Spans.{own_commits, spans}
use Rattle.sal_rows.specs.declared.clash.Span.{Span}
use Rattle.sal_rows.specs.PathClash.{Difference as Found, IsNamedIn}
use Rattle.sal_schema.specs.declared.table.SchemaTable.{SchemaTable}
use Rattle.sal_rules.specs.Breaches.{breach}
use Rattle.sal_rows.specs.declared.clash.Clash.{Clash}
use Rattle.sal_rows.specs.declared.clash.Rules.{Rules}
use Rattle.sal_rows.specs.Clash.{clash, is_leaf, path_by, tip}
use Rattle.sal_rows.specs.Named as naming
use Rattle.sal_rows.proofs.Named.{IsWithin, names_within}
use Rattle.sal_history.specs.Outcome.{conflict_of}
use Rattle.sal_history.specs.Submissions.{Base, Sent, done, done_chains, done_ops, failing}
use Rattle.sal_history.specs.World.{Domain, opening_of, rules_of}
use Rattle.sal_history.specs.History.{outcome, unmounted_of}
use Rattle.sal_history.specs.Laws.{ConflictsNameALaterCommit, DoneLeavesNoBreach, IsLaterTouch, IsOwnLeaf, IsOwnPlace, own_tree}
use Rattle.sal_history.proofs.Spans.{are, first, lies, rest, split}

-- a property of an element of a list is one of some element
any_get : {X : Type 0} (P : X → Type 0) (xs : List X) (i : ℕ) (x : X) → slice_get xs i ≡ Some x → P x → Any P xs
any_get P [] i x e p = cc
any_get P (y ∷ xs) zero x e p = (zero, x, omega arith, cc, p)
any_get P (y ∷ xs) (suc i) x e p = let rest = any_get P xs i x e p in (suc rest.0, rest.1, omega (arith, rest.2), rest.3, rest.4)

-- the first steps of a path are a prefix of it
prefix-take : (n : ℕ) (p : List Step) → is_prefix (take n p) p ≡ true
prefix-take n p = ap (is_prefix (take n p)) (sym (take-append-drop n p)) ∙ is_prefix-append (take n p) (drop n p)

-- the place of a conflict is the operation's own path, a prefix of it, or a leaf that it merges
own_place : (rules : Rules) (op : Op) (depth : ℕ) (row : Option ℕ) (path : List Step) → naming.IsPlaced rules op depth row → take depth (path_by op row) ≡ path → IsTrue (is_prefix path op.path) ⊎ IsOwnLeaf rules op path
own_place rules op depth None path placed at = inl (subst (λ (q : List Step). is_prefix q op.path ≡ true) at (prefix-take depth op.path))
own_place rules op depth (Some i) path placed at =
    let (row, there, leaf, whole) = placed.1 in
    let here : path_by op (Some i) ≡ row.path = ap (λ (o : Option Row). option_map_or (λ (r : Row). r.path) o op.path) there in
    let all : take depth row.path ≡ row.path = take_all depth row.path (omega (arith, whole)) in
    let same : row.path ≡ path = sym all ∙ ap (take depth) (sym here) ∙ at in
    inr (placed.0, any_get (λ (r : Row). (r.path ≡ path) × (is_leaf r.cell ≡ true)) (rows_of_act op.act) i row there (same, leaf))

-- ---- the three parts of a decision

abbrev broken_in : Store → Option Breach → Option Outcome
broken_in s b = option_map (λ (x : Breach). Invalid s x.path x.rule) b

abbrev pub clashing : List Op → Option Clash → Option Outcome
clashing ops o = option_and_then (λ c. option_map (conflict_of c) (slice_get ops c.op)) o

abbrev decided : Option Outcome → Option Breach → Option Breach → ℕ → Outcome
decided conflict config oper n = unwrap_or (option_or conflict (option_or (broken_in Config config) (broken_in Oper oper))) (Done n)

-- a breach is no conflict
no_conflict : (config oper : Option Breach) (n : ℕ) (store : Store) (path : List Step) (kind : ClashKind) (commit : ℕ)
    → decided None config oper n ≡ Conflict store path kind commit → ⊥
no_conflict None None n store path kind commit e = cc
no_conflict None (Some b) n store path kind commit e = cc
no_conflict (Some b) oper n store path kind commit e = cc

-- if a decision is done no rule is broken, and it has the next number
sound : (config oper : Option Breach) (n commit : ℕ) → decided None config oper n ≡ Done commit → (config ≡ None) × (oper ≡ None) × (commit ≡ n)
sound None None n commit e = let same : n ≡ commit = cc in (refl, refl, sym same)
sound None (Some b) n commit e = cc
sound (Some b) oper n commit e = cc

none_broken : (ops : List Op) (o : Option Clash) (config oper : Option Breach) (n commit : ℕ)
    → decided (clashing ops o) config oper n ≡ Done commit → (config ≡ None) × (oper ≡ None) × (commit ≡ n)
none_broken ops None config oper n commit = sound config oper n commit
none_broken ops (Some c) config oper n commit =
    elim (slice_get ops c.op) as (λ (x : Option Op). decided (option_map (conflict_of c) x) config oper n ≡ Done commit → (config ≡ None) × (oper ≡ None) × (commit ≡ n)) [
      | None ↦ sound config oper n commit
      | Some op ↦ λ e. cc
    ]

-- ---- a chain that failed, and a domain that is unmounted

-- an outcome other than `FailedBy` and `Unmounted` is the decision itself, and the chain has not failed
pub went : (o : Option ℕ) (live : Bool) (domain : ℕ) (d x : Outcome) → unwrap_or (option_or (option_map FailedBy o) (unmounted_of live domain)) d ≡ x
    → ((n : ℕ) → FailedBy n ≡ x → ⊥) → ((n : ℕ) → Unmounted n ≡ x → ⊥) → (o ≡ None) × (d ≡ x)
went None true domain d x e failed gone = (refl, e)
went None false domain d x e failed gone = absurd (gone domain e)
went (Some n) live domain d x e failed gone = absurd (failed n e)

-- ---- the laws

-- if the base trees have rows, the own commits' trees have them too
abbrev pub IsWithinOwn : List Domain → List Sent → List Outcome → Base → Type 0
IsWithinOwn world ss os base = IsWithin base.trees (own_tree world ss os base)

module _ (world : List Domain) (tables : ℕ → SchemaTable) (live : ℕ → Bool) (ss : List Sent) (os : List Outcome) (s : Sent) where
  abbrev domain : ℕ
  domain = s.base.domain

  abbrev opening : Store → List Row
  opening = opening_of world domain

  abbrev commits : List (List Op)
  commits = done_ops domain ss os

  abbrev chains : List (Option ℕ)
  chains = done_chains domain ss os

  abbrev own : List ℕ
  own = own_commits s.base.commit s.base.chain chains

  abbrev rules : Rules
  rules = rules_of world domain

  abbrev pieces : List Span
  pieces = spans s.base.commit s.base.chain chains

  abbrev broken : Store → Option Breach
  broken t = breach (tables domain) t (apply_ops (tip opening commits t) t s.ops)

  abbrev decision : Option Clash → Outcome
  decision o = decided (clashing s.ops o) (broken Config) (broken Oper) (length commits + 1)

  -- the number of chains is that of commits
  as_many : length chains ≡ length commits
  as_many = length-map (done domain ss os) (λ x. x.base.chain) ∙ sym (length-map (done domain ss os) (λ x. x.ops))

  pub named_within : (store : Store) (path : List Step) (kind : ClashKind) (commit : ℕ) → s.base.commit ≤ length commits → IsWithinOwn world ss os s.base → outcome world tables live ss os s ≡ Conflict store path kind commit
      → IsLaterTouch world ss os s store path commit × IsOwnPlace rules s store path
  named_within store path kind commit base_le within all =
      let a = s.base.commit in
      let t = length chains in
      let head = first a own t in
      let tail = rest own t in
      let parts : pieces ≡ head ∷ tail = split a own t in
      let le : a ≤ t = omega (arith, as_many, base_le) in
      let ends : a + (t - a) ≡ t = omega (arith, le) in
      let spanned : AreSpans (length commits) head tail = subst (λ n. AreSpans n head tail) as_many (are s.base.chain chains (t - a) a a t (omega arith) ends) in
      let agrees : IsWithin s.base.trees (λ u. with_own commits u (tree_at opening commits u a) tail) = λ u q there.
      within u q there ∙ ap (λ (l : List Span). cell (with_own commits u (tree_at opening commits u a) (drop 1 l)) q) parts in
      elim (clash opening commits rules s.base.trees pieces s.ops) as (λ (o : Option Clash). clash opening commits rules s.base.trees pieces s.ops ≡ o → decision o ≡ Conflict store path kind commit
      → IsLaterTouch world ss os s store path commit × IsOwnPlace rules s store path) [
        | None ↦ λ e h. absurd (no_conflict (broken Config) (broken Oper) (length commits + 1) store path kind commit h)
        | Some c ↦ λ e h.
            let found = names_within opening commits rules s.base.trees head tail s.ops c spanned agrees (ap (λ (l : List Span). clash opening commits rules s.base.trees l s.ops) (sym parts) ∙ e) in
            let op : Op = found.0 in
            let is : conflict_of c op ≡ Conflict store path kind commit =
            sym (ap (λ (x : Option Op). decided (option_map (conflict_of c) x) (broken Config) (broken Oper) (length commits + 1)) found.1) ∙ h in
            let at_store : op.store ≡ store = cc in
            let at_path : take c.depth (path_by op c.row) ≡ path = cc in
            let at_commit : c.commit ≡ commit = cc in
            let same : naming.place_of op c ≡ record { store = store; path = path; kind = c.kind; commit = commit } =
            λ i. record { store = at_store i; path = at_path i; kind = c.kind; commit = at_commit i } in
            let here : Any (IsNamedIn opening commits (record { store = store; path = path; kind = c.kind; commit = commit })) (head ∷ tail) =
            subst (λ (d : Found). Any (IsNamedIn opening commits d) (head ∷ tail)) same found.3 in
            let lying = lies s.base.chain chains (IsTrue (touches_at opening commits store path commit)) commit (t - a) a a t (omega arith) ends (λ j low high. absurd (omega (arith, low, high))) here in
            let own : IsTrue (is_prefix path op.path) ⊎ IsOwnLeaf rules op path = own_place rules op c.depth c.row path found.2 at_path in (
              (lying.0, omega (arith, lying.1, as_many), lying.2, lying.3),
              any_get (λ (x : Op). (x.store ≡ store) × (IsTrue (is_prefix path x.path) ⊎ IsOwnLeaf rules x path)) s.ops c.op op found.1 (at_store, own),
            )
      ] refl (went (failing s.base.chain ss os) (live domain) domain (decision (clash opening commits rules s.base.trees pieces s.ops)) (Conflict store path kind commit) all (λ n e. cc) (λ n e. cc)).1

  -- a submission is decided, in itself, only while its chain has not failed and its domain is live
  abbrev here : Outcome
  here = decision (clash opening commits rules s.base.trees pieces s.ops)

  when_done : (commit : ℕ) → outcome world tables live ss os s ≡ Done commit → (broken Config ≡ None) × (broken Oper ≡ None) × (commit ≡ length commits + 1)
  when_done commit all =
      none_broken s.ops (clash opening commits rules s.base.trees pieces s.ops) (broken Config) (broken Oper) (length commits + 1) commit (went (failing s.base.chain ss os) (live domain) domain here (Done commit) all (λ n e. cc) (λ n e. cc)).1

  pub unbroken : (commit : ℕ) (store : Store) → outcome world tables live ss os s ≡ Done commit → breach (tables domain) store (tree_after store (opening store) (commits ++ s.ops ∷ [])) ≡ None
  unbroken commit store all =
      let none = when_done commit all in
      ap (breach (tables domain) store) (fold-append (next_tree store) (opening store) commits (s.ops ∷ []))
      ∙ elim store as (λ t. broken t ≡ None) [ Config ↦ none.0 | Oper ↦ none.1 ]

  -- a commit has the next number of its domain
  pub numbered : (commit : ℕ) → outcome world tables live ss os s ≡ Done commit → commit ≡ length commits + 1
  numbered commit all = (when_done commit all).2

  -- the chain of a submission that conflicts has not failed before
  pub unfailed : (store : Store) (path : List Step) (kind : ClashKind) (commit : ℕ) → outcome world tables live ss os s ≡ Conflict store path kind commit → failing s.base.chain ss os ≡ None
  unfailed store path kind commit all = (went (failing s.base.chain ss os) (live domain) domain here (Conflict store path kind commit) all (λ n e. cc) (λ n e. cc)).0

pub named : ConflictsNameALaterCommit
named world tables live ss os s store path kind commit base = named_within world tables live ss os s store path kind commit base.0 (λ t q there. ap (λ (tree : List Row). cell tree q) (base.1 t))

pub no_breach : DoneLeavesNoBreach
no_breach world tables live ss os s commit store = unbroken world tables live ss os s commit store
