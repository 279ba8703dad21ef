-- A decision by the phases is the one of the definitions.
use Rattle.std.proofs.Common.{◌≡◌, ℕ, ◌+◌, ◌-◌, ◌≤◌, List, [], ◌∷◌, ◌++◌, length, get_or, Option, None, Some, refl, ap, sym, subst, ◌∙◌, ◌⊎◌, inl, inr, arith}
use Rattle.std.specs.Prelude.{unwrap_or}
use Rattle.std.specs.Option.{option_map, option_or}
use Rattle.std.proofs.lemmas.List.{get_or_default, map-append}
use Rattle.sal_types.specs.declared.value.Store.{Store}
use Rattle.sal_types.specs.declared.value.Store.TheVariants.{Config, Oper}
use Rattle.sal_types.specs.declared.row.Row.{Row}
use Rattle.sal_schema.specs.declared.table.SchemaTable.{SchemaTable}
use Rattle.sal_rows.specs.declared.outcome.Breach.{Breach}
use Rattle.sal_rules.specs.Breaches.{breach}
use Rattle.sal_rows.specs.Clash.{tip}
use Rattle.sal_rows.specs.declared.outcome.Outcome.{Outcome}
use Rattle.sal_rows.specs.declared.outcome.Outcome.TheVariants.{Done, Invalid as Breaks}
use Rattle.sal_rows.specs.Apply.{apply_ops}
use Rattle.sal_tree.specs.declared.commit.Commit.{Commit}
use Rattle.sal_graft.specs.Kept.{AreKept, chains_of, opening_in, ops_of, rows_in}
use Rattle.sal_graft.proofs.KeptLemmas.{length-ops_of, tip-kept}
use Rattle.sal_graft.proofs.Keeping.{AreKept-push, chains_of-push, opening_in-push, ops_of-push}
use Rattle.sal_tx.specs.declared.tx.Submission.{Submission}
use Rattle.sal_commit.specs.declared.domain.Domain.{Domain}
use Rattle.sal_commit.specs.declared.phases.PreFault.{PreFault}
use Rattle.sal_commit.specs.declared.phases.PreFault.TheVariants.{Invalid, NoMemory}
use Rattle.sal_commit.specs.Domains.{IsSame}
use Rattle.sal_commit.specs.Deciding.{IsNext, Decides, breached, conflict, decide, gone, invalid, refused}
use Rattle.sal_commit.specs.Sound.{BreakNone}
use Rattle.sal_commit.specs.Stamps.{CanFollow, first_receipt, receipts_of}

-- ---- canCommit and preCommit

-- what is made of a submission that nothing refuses
abbrev pub IsMade : Option ℕ → Domain → Submission → Commit → Type 0
IsMade failed d sub c = (option_or (refused failed d sub) (breached d sub) ≡ None) × IsNext d sub c × CanFollow d.commits.items c

-- the domain and the submission go through unchanged
pub made-ready : (failed : Option ℕ) (d e : Domain) (sub t : Submission) (c : Commit) → t ≡ sub → e ≡ d → refused failed d sub ≡ None → IsNext e t c × (breached e t ≡ None)
    → CanFollow e.commits.items c → IsMade failed d sub c
made-ready failed d e sub t c same is none next follows = (
  ap (λ o. option_or o (breached d sub)) none ∙ (λ i. breached (sym is i) (sym same i)) ∙ next.1,
  subst (λ x. IsNext d x c) same (subst (λ x. IsNext x t c) is next.0),
  subst (λ (x : Domain). CanFollow x.commits.items c) is follows,
)

pub refused-ready : (failed : Option ℕ) (d e : Domain) (sub t : Submission) (fault : PreFault) (outcome : Outcome) → t ≡ sub → e ≡ d → refused failed d sub ≡ None → fault ≡ Invalid outcome
    → (fault ≡ NoMemory) ⊎ ((o : Outcome) × (fault ≡ Invalid o) × (breached e t ≡ Some o)) → option_or (refused failed d sub) (breached d sub) ≡ Some outcome
refused-ready failed d e sub t fault outcome same is none at (inl w) = let full : Invalid outcome ≡ NoMemory = sym at ∙ w in cc
refused-ready failed d e sub t fault outcome same is none at (inr w) =
    let one : Invalid outcome ≡ Invalid w.0 = sym at ∙ w.1 in
    let it : outcome ≡ w.0 = cc in
    ap (λ o. option_or o (breached d sub)) none ∙ (λ i. breached (sym is i) (sym same i)) ∙ w.2 ∙ ap Some (sym it)

-- what is refused by one of these has the first as its outcome
first-refused : (gone clash breach : Option Outcome) (o last : Outcome) → option_or (option_or gone clash) breach ≡ Some o → o ≡ unwrap_or gone (unwrap_or (option_or clash breach) last)
first-refused None None None o last e = cc
first-refused None None (Some x) o last e = cc
first-refused None (Some x) breach o last e = cc
first-refused (Some x) clash breach o last e = cc

pub decide-refused : (failed : Option ℕ) (d : Domain) (sub : Submission) (o : Outcome) → option_or (refused failed d sub) (breached d sub) ≡ Some o → o ≡ decide failed d sub
decide-refused None d sub o e = first-refused (gone d) (conflict d sub) (breached d sub) o (Done (length (ops_of d.commits.items) + 1)) e
decide-refused (Some receipt) d sub o e = cc

-- what is refused by nothing is done
undecided : (gone clash breach : Option Outcome) (n : ℕ) → option_or (option_or gone clash) breach ≡ None → unwrap_or gone (unwrap_or (option_or clash breach) (Done n)) ≡ Done n
undecided None clash breach n none = ap (λ o. unwrap_or o (Done n)) none
undecided (Some o) clash breach n none = cc

-- where its chain has not failed and its domain is live, without a conflict and a breach it is done, as the next commit
pub decide-done : (failed : Option ℕ) (d : Domain) (sub : Submission) (c : Commit) → 1 ≤ length d.commits.items → option_or (refused failed d sub) (breached d sub) ≡ None → c.number ≡ length d.commits.items
    → Done c.number ≡ decide failed d sub
decide-done None d sub c some none number =
    ap Done (number ∙ next) ∙ sym (undecided (gone d) (conflict d sub) (breached d sub) (length (ops_of d.commits.items) + 1) none)
  where
    next : length d.commits.items ≡ length (ops_of d.commits.items) + 1
    next = omega (arith, length-ops_of d.commits.items some)
decide-done (Some receipt) d sub c some none number = cc

-- what is prepared breaks no rule
none-breach : (s : Store) (b : Option Breach) → option_map (λ (x : Breach). Breaks s x.path x.rule) b ≡ None → b ≡ None
none-breach s None e = refl
none-breach s (Some x) e = cc

none-first : {X : Type 0} (a b : Option X) → option_or a b ≡ None → a ≡ None
none-first None b e = refl
none-first (Some x) b e = cc

none-second : {X : Type 0} (a b : Option X) → option_or a b ≡ None → b ≡ None
none-second None b e = e
none-second (Some x) b e = cc

abbrev rows_after : Domain → Submission → Store → List Row
rows_after d sub s = apply_ops (tip (opening_in d.commits.items) (ops_of d.commits.items) s) s sub.changes

next-breach : (d : Domain) (sub : Submission) (c : Commit) (table : SchemaTable) → table ≡ d.schema.value → IsNext d sub c → (s : Store) → breach d.schema.value s (rows_after d sub s) ≡ None → breach table s (rows_in c.trees s) ≡ None
next-breach d sub c table same next s none = (λ i. breach (same i) s (next.trees s i)) ∙ none

pub next-sound : (failed : Option ℕ) (d : Domain) (sub : Submission) (c : Commit) (table : SchemaTable) → table ≡ d.schema.value → option_or (refused failed d sub) (breached d sub) ≡ None → IsNext d sub c → BreakNone table c.trees
next-sound failed d sub c table same none next Config =
    next-breach d sub c table same next Config
    (none-breach Config (breach d.schema.value Config (rows_after d sub Config)) (none-first (invalid d sub Config) (invalid d sub Oper) (none-second (refused failed d sub) (breached d sub) none)))
next-sound failed d sub c table same none next Oper =
    next-breach d sub c table same next Oper
    (none-breach Oper (breach d.schema.value Oper (rows_after d sub Oper)) (none-second (invalid d sub Config) (invalid d sub Oper) (none-second (refused failed d sub) (breached d sub) none)))

-- the receipt of one commit more
pub receipts_of-push : (commits : List Commit) (next : Commit) (receipt : ℕ) → 1 ≤ length commits → next.receipt ≡ first_receipt commits + receipt → receipts_of (commits ++ next ∷ []) ≡ receipts_of commits ++ receipt ∷ []
receipts_of-push [] next receipt some is = absurd (omega (arith, some))
receipts_of-push (o ∷ commits) next receipt some is =
    let own : next.receipt - o.receipt ≡ receipt = omega (arith, is) in
    map-append (λ (c : Commit). c.receipt - o.receipt) (o ∷ commits) (next ∷ []) ∙ ap (λ r. receipts_of (o ∷ commits) ++ r ∷ []) own

module _ (old : Domain) (sub : Submission) (next : Commit) (are : AreKept old.commits.items) (is : IsNext old sub next) where
  last : Commit
  last = get_or old.commits.items (length old.commits.items - 1) next

  at_last : last ≡ get_or old.commits.items (length old.commits.items - 1) last
  unfolding last
  at_last = get_or_default old.commits.items (length old.commits.items - 1) next last (omega (arith, are.opened))

  after : (s : Store) → rows_in next.trees s ≡ apply_ops (rows_in last.trees s) s next.ops.value
  after s =
      is.trees s ∙ sym (ap (λ t. apply_ops t s sub.changes) (tip-kept old.commits.items last s are at_last))
      ∙ ap (apply_ops (rows_in last.trees s) s) (sym is.ops)

  -- the domain with the next commit
  pub Decides-done : (new : Domain) (n : ℕ) → IsSame old new → new.commits.items ≡ old.commits.items ++ next ∷ [] → Decides old sub (Done n) new
  Decides-done new n same pushed = record {
    same = same;
    kept = subst AreKept (sym pushed) (AreKept-push old.commits.items last next are is.number at_last after);
    opening = ap opening_in pushed ∙ (λ i s. opening_in-push old.commits.items next s are.opened i);
    commits = ap ops_of pushed ∙ ops_of-push old.commits.items next are.opened ∙ ap (λ ops. ops_of old.commits.items ++ ops ∷ []) is.ops;
    chains = ap chains_of pushed ∙ chains_of-push old.commits.items next are.opened ∙ ap (λ chain. chains_of old.commits.items ++ chain ∷ []) is.chain;
    receipts = ap receipts_of pushed ∙ receipts_of-push old.commits.items next sub.receipt are.opened is.receipt;
  }

pub IsSame-trans : (old new newest : Domain) → IsSame old new → IsSame new newest → IsSame old newest
IsSame-trans old new newest a b = record {
  number = b.number ∙ a.number;
  live = b.live ∙ a.live;
  schema = b.schema ∙ a.schema;
  first = b.first ∙ a.first;
  upgrades = b.upgrades ∙ a.upgrades;
  version = b.version ∙ a.version;
  since = b.since ∙ a.since;
  rules = b.rules ∙ a.rules;
}
