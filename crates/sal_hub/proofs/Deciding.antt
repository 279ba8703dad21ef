-- The effect of one more decision.
use Rattle.std.proofs.Common.{◌≡◌, ℕ, zero, suc, ◌+◌, ◌-◌, ◌<◌, ◌≤◌, true, false, List, [], ◌∷◌, ◌++◌, drop, length, map, get_or, set, Option, None, Some, refl, ap, sym, ◌∙◌, subst, arith, append_assoc, append-nil, length-append, if◌then◌else◌, nat_eq, inl, inr}
use Rattle.std.specs.Prelude.{not, slice_get, unwrap_or, ◌&&◌}
use Rattle.std.specs.Option.{option_map, option_map_or, option_or}
use Rattle.std.proofs.lemmas.Option.{same_Some, slice_get-map, slice_get_within, get_or_from_slice_get}
use Rattle.std.proofs.lemmas.Bool.Decides.{nat_tests}
use Rattle.std.proofs.lemmas.List.{drop-drop, drop-map, length-drop, length-map, length-set, map-append, map-set}
use Rattle.std.proofs.Math.Seq.{map-set_same}
use Rattle.sal_types.specs.declared.value.Store.{Store}
use Rattle.sal_types.specs.declared.value.Store.TheVariants.{Config, Oper}
use Rattle.sal_rows.specs.declared.op.Op.{Op}
use Rattle.sal_rows.specs.declared.outcome.Outcome.{Outcome}
use Rattle.sal_rows.specs.declared.outcome.Outcome.TheVariants.{ChainFailed}
use Rattle.sal_rows.specs.Spans.{spans}
use Rattle.sal_graft.specs.Kept.{AreKept, chains_of, opening_in, ops_of, rows_in}
use Rattle.sal_graft.proofs.KeptLemmas.{length-ops_of}
use Rattle.sal_tx.specs.declared.tx.Submission.{Submission}
use Rattle.sal_commit.specs.declared.domain.Domain.{Domain}
use Rattle.sal_commit.specs.Deciding.{Decides, IsFor}
use Rattle.sal_commit.specs.Deciding as commit
use Rattle.sal_commit.specs.Domains.{IsSame}
use Rattle.sal_commit.specs.Stamps.{IsNewReceipt, receipts_of}
use Rattle.sal_commit.specs.Versions.{tables_of}
use Rattle.sal_history.specs.Outcome as rules
use Rattle.sal_history.specs.World.{last_of, no_table, opening_of, rules_of, version_from}
use Rattle.sal_history.proofs.Versions.{last-in}
use Rattle.sal_history.specs.History.{decide_front, outcome, unmounted_of}
use Rattle.sal_history.specs.Submissions.{Sent, done, failing, if_done, is_done, is_in}
use Rattle.sal_hub.specs.declared.pipeline.Pipeline.{Pipeline}
use Rattle.sal_hub.specs.Failures.{IsWithin, cut_failures, failure_of, failures_after, noted_in, up_to}
use Rattle.sal_hub.specs.PipelineView.{AllKept, AreDecided, Grows, HasGrown, HaveGrown, IsSound, IsStored, KeepVersions, PipelineView, DomainView, Stands, chains_in, commits_in, is_live_in, queue_of, opened_as, receipts_in, sent_of, shorter, shown, table_in, version_of, world_in}
use Rattle.sal_hub.proofs.Listed.{slice_get-drop, slice_get-set, slice_get_at}
use Rattle.sal_hub.proofs.Members.{failing-decide, failing-fixed, failing-none}
use Rattle.sal_hub.proofs.Noted.{cut_after, cut_fixed, length-after, noted_in-after}
use Rattle.sal_hub.proofs.Numbered.{added_receipt, receipt-decided, receipt-here, receipt-other, receipts-decide}

-- ---- the world of the domains

pub opening-at : (ds : List DomainView) (n : ℕ) (d : DomainView) (s : Store) → slice_get ds n ≡ Some d → opening_of (world_in ds) n s ≡ d.opening s
opening-at [] n d s e = cc
opening-at (x ∷ ds) zero d Config e = ap (λ (y : DomainView). y.opening Config) (same_Some x d e)
opening-at (x ∷ ds) zero d Oper e = ap (λ (y : DomainView). y.opening Oper) (same_Some x d e)
opening-at (x ∷ ds) (suc n) d s e = opening-at ds n d s e

-- its version rules
pub rules-at : (ds : List DomainView) (n : ℕ) (d : DomainView) → slice_get ds n ≡ Some d → rules_of (world_in ds) n ≡ d.rules
rules-at [] n d e = cc
rules-at (x ∷ ds) zero d e = ap (λ (y : DomainView). y.rules) (same_Some x d e)
rules-at (x ∷ ds) (suc n) d e = rules-at ds n d e

-- its present table
pub table-at : (ds : List DomainView) (n : ℕ) (d : DomainView) → slice_get ds n ≡ Some d → table_in ds n ≡ d.table
table-at ds n d e = ap (λ (o : Option DomainView). option_map_or (λ (x : DomainView). x.table) o no_table) e

pub version-here : (ds : List DomainView) (n : ℕ) (d : DomainView) → slice_get ds n ≡ Some d → version_of ds n ≡ d.version
version-here ds n d e = ap (λ (o : Option DomainView). option_map_or (λ (x : DomainView). x.version) o 0) e

pub world-at : (ds : List DomainView) (n : ℕ) (d : DomainView) → slice_get ds n ≡ Some d → slice_get (world_in ds) n ≡ Some (opened_as d)
world-at ds n d e = slice_get-map opened_as ds n ∙ ap (option_map opened_as) e

-- the table of its last version
pub last-at : (ds : List DomainView) (n : ℕ) (d : DomainView) → slice_get ds n ≡ Some d → last_of (world_in ds) n ≡ version_from d.first d.upgrades (length d.upgrades)
last-at ds n d e = last-in (world_in ds) n (opened_as d) (world-at ds n d e)

-- the flag of a domain
pub live-here : (ds : List DomainView) (n : ℕ) (d : DomainView) → slice_get ds n ≡ Some d → is_live_in ds n ≡ d.live
live-here ds n d e = ap (λ (o : Option DomainView). option_map_or (λ (x : DomainView). x.live) o false) e

pub live-within : (ds : List DomainView) (n : ℕ) → is_live_in ds n ≡ true → n < length ds
live-within [] n live = cc
live-within (x ∷ ds) zero live = omega arith
live-within (x ∷ ds) (suc n) live = omega (arith, live-within ds n live)

-- if one domain is replaced by one with the same facts
told-set : {X : Type 0} (f : DomainView → X) (z : X) (ds : List DomainView) (i : ℕ) (d e : DomainView) → slice_get ds i ≡ Some d → f e ≡ f d → (n : ℕ) → option_map_or f (slice_get (set ds i e) n) z ≡ option_map_or f (slice_get ds n) z
told-set f z [] i d e at same n = refl
told-set f z (x ∷ ds) zero d e at same zero = same ∙ ap f (sym (same_Some x d at))
told-set f z (x ∷ ds) zero d e at same (suc n) = refl
told-set f z (x ∷ ds) (suc i) d e at same zero = refl
told-set f z (x ∷ ds) (suc i) d e at same (suc n) = told-set f z ds i d e at same n

pub live-set : (ds : List DomainView) (i : ℕ) (d e : DomainView) → slice_get ds i ≡ Some d → e.live ≡ d.live → (n : ℕ) → is_live_in (set ds i e) n ≡ is_live_in ds n
live-set ds i d e at same n = told-set (λ (x : DomainView). x.live) false ds i d e at same n

pub versions-set : (ds : List DomainView) (i : ℕ) (d e : DomainView) → slice_get ds i ≡ Some d → e.table ≡ d.table → e.version ≡ d.version → KeepVersions ds (set ds i e)
versions-set ds i d e at table version = record {
  tables = λ n. told-set (λ (x : DomainView). x.table) no_table ds i d e at table n;
  versions = λ n. told-set (λ (x : DomainView). x.version) 0 ds i d e at version n;
}

pub versions-same : (ds : List DomainView) → KeepVersions ds ds
versions-same ds = record { tables = λ n. refl; versions = λ n. refl }

-- ---- commits

undone : (n : ℕ) (ss : List Sent) → done n ss [] ≡ []
undone n [] = refl
undone n (y ∷ ss) = refl

abbrev added : ℕ → Sent → Outcome → List Sent
added n s o = if nat_eq s.base.domain n then if_done o s else []

-- a submission that is not decided adds no commit
pub done-submit : (n : ℕ) (ss : List Sent) (os : List Outcome) (s : Sent) → length os ≤ length ss → done n (ss ++ s ∷ []) os ≡ done n ss os
done-submit n [] [] s l = refl
done-submit n [] (o ∷ os) s l = absurd (omega arith)
done-submit n (x ∷ ss) [] s l = refl
done-submit n (x ∷ ss) (o ∷ os) s l = ap (λ (cs : List Sent). added n x o ++ cs) (done-submit n ss os s (omega arith))

-- one more outcome
done-decide : (n : ℕ) (ss : List Sent) (os : List Outcome) (s : Sent) (o : Outcome) → slice_get ss (length os) ≡ Some s → done n ss (os ++ o ∷ []) ≡ done n ss os ++ added n s o
done-decide n [] os s o e = cc
done-decide n (x ∷ ss) [] s o e =
    let same : x ≡ s = same_Some x s e in
    (λ i. added n (same i) o ++ undone n ss i) ∙ append-nil (added n s o)
done-decide n (x ∷ ss) (p ∷ os) s o e =
    ap (λ (cs : List Sent). added n x p ++ cs) (done-decide n ss os s o e) ∙ sym (append_assoc (added n x p) (done n ss os) (added n s o))

-- a list over the commits, as of their operations or their chains
module _ {X : Type 0} (f : Sent → X) (n : ℕ) where
  told-decide : (ss : List Sent) (os : List Outcome) (s : Sent) (o : Outcome) → slice_get ss (length os) ≡ Some s → map f (done n ss (os ++ o ∷ [])) ≡ map f (done n ss os) ++ map f (added n s o)
  told-decide ss os s o e = ap (map f) (done-decide n ss os s o e) ∙ map-append f (done n ss os) (added n s o)

  told-done : (s : Sent) (o : Outcome) → map f (if_done o s) ≡ if_done o (f s)
  told-done s o = elim (is_done o) as (λ b. map f (if b then s ∷ [] else []) ≡ (if b then f s ∷ [] else [])) [ true ↦ refl | false ↦ refl ]

  told-here : (s : Sent) (o : Outcome) → n ≡ s.base.domain → map f (added n s o) ≡ if_done o (f s)
  told-here s o e = let own : nat_eq s.base.domain n ≡ true = grind (arith, nat_tests) in ap (λ b. map f (if b then if_done o s else [])) own ∙ told-done s o

  told-other : (s : Sent) (o : Outcome) → (n ≡ s.base.domain → ⊥) → map f (added n s o) ≡ []
  told-other s o differs = let other : nat_eq s.base.domain n ≡ false = grind (arith, nat_tests) in ap (λ b. map f (if b then if_done o s else [])) other

abbrev ops_in : Sent → List Op
ops_in s = s.ops

abbrev chain_of : Sent → Option ℕ
chain_of s = s.base.chain

-- ---- domains that grow

pub Grows-same : {X : Type 0} (xs : List X) → Grows xs xs
Grows-same xs = ([], sym (append-nil xs))

pub HaveGrown-same : (ds : List DomainView) → HaveGrown ds ds
HaveGrown-same [] = tt
HaveGrown-same (d ∷ ds) = ((refl, Grows-same d.ops, Grows-same d.chains, Grows-same d.receipts), HaveGrown-same ds)

pub HaveGrown-set : (ds : List DomainView) (i : ℕ) (d e : DomainView) → slice_get ds i ≡ Some d → e ≡ record d { ops = e.ops; chains = e.chains; receipts = e.receipts } → Grows d.ops e.ops → Grows d.chains e.chains → Grows d.receipts e.receipts → HaveGrown ds (set ds i e)
HaveGrown-set [] i d e at same ops chains receipts = cc
HaveGrown-set (x ∷ ds) zero d e at same ops chains receipts =
    subst (λ (y : DomainView). ((e ≡ record y { ops = e.ops; chains = e.chains; receipts = e.receipts }) × Grows y.ops e.ops × Grows y.chains e.chains × Grows y.receipts e.receipts) × HaveGrown ds ds) (sym (same_Some x d at)) ((same, ops, chains, receipts), HaveGrown-same ds)
HaveGrown-set (x ∷ ds) (suc i) d e at same ops chains receipts = ((refl, Grows-same x.ops, Grows-same x.chains, Grows-same x.receipts), HaveGrown-set ds i d e at same ops chains receipts)

-- the failures are no later than the outcomes
pub cut_none_late : (ss : List Sent) (queue : PipelineView) → IsSound ss queue → cut_failures (length queue.outcomes) queue.failures ≡ queue.failures
cut_none_late ss queue sound =
    cut_fixed (length queue.outcomes) queue.failures (λ k.
    subst (λ (o : Option ℕ). up_to (length queue.outcomes) o ≡ o) (sym (sound.failures k)) (failing-fixed (Some k) ss queue.outcomes))

-- ---- pending submissions

-- a submission that waits, among all
pub sent_at : (ss : List Sent) (queue : PipelineView) → IsSound ss queue → (i : ℕ) (s : Submission) → slice_get queue.waiting i ≡ Some s → slice_get ss (queue.gone + i) ≡ Some (sent_of s)
sent_at ss queue sound i s at =
    sym (slice_get-drop ss queue.gone i) ∙ ap (λ (xs : List Sent). slice_get xs i) (sym sound.waiting) ∙ slice_get-map sent_of queue.waiting i ∙ ap (option_map sent_of) at

-- how many there were
pub count_is : (ss : List Sent) (queue : PipelineView) → IsSound ss queue → queue.gone + length queue.waiting ≡ length ss
count_is ss queue sound =
    let long : length queue.waiting ≡ length ss - queue.gone = sym (length-map queue.waiting sent_of) ∙ ap length sound.waiting ∙ length-drop queue.gone ss in
    omega (arith, long, sound.within, sound.behind)

-- a decided submission is removed from the queue
pub sound-shorter : (ss : List Sent) (queue : PipelineView) → IsSound ss queue → IsSound ss (shorter queue)
sound-shorter ss queue sound =
    let more : ℕ = length queue.outcomes - queue.gone in
    let all : queue.gone + more ≡ length queue.outcomes = omega (arith, sound.behind) in
    record {
      some = sound.some;
      within = sound.within;
      behind = omega arith;
      domains = λ n d at. let had = sound.domains n d at in record { number = had.number; commits = had.commits; chains = had.chains; receipts = had.receipts };
      waiting = sym (drop-map sent_of more queue.waiting) ∙ ap (drop more) sound.waiting ∙ drop-drop more queue.gone ss ∙ ap (λ n. drop n ss) all;
      standing = λ i s at.
          let had = sound.standing (more + i) s (sym (slice_get-drop queue.waiting more i) ∙ at) in
          record { domain = had.domain; base = had.base; chain = had.chain; seen = had.seen };
      numbers = λ i s at. omega (arith, all, sound.numbers (more + i) s (sym (slice_get-drop queue.waiting more i) ∙ at));
      failures = sound.failures;
    }

pub decided-shorter : (ss : List Sent) (old : PipelineView) (n : ℕ) (new : PipelineView) → AreDecided ss old n new → AreDecided ss old n (shorter new)
decided-shorter ss old n new was = record { sound = sound-shorter ss new was.sound; world = was.world; live = was.live; versions = was.versions; outcomes = was.outcomes; chains = was.chains }

-- ---- one decision

module _ (ss : List Sent) (queue : PipelineView) (sound : IsSound ss queue) (k : ℕ) (place : queue.gone + k ≡ length queue.outcomes) (sub : Submission) (next : slice_get queue.waiting k ≡ Some sub) (d : Domain) (kept : AreKept d.commits.items) (at : slice_get queue.domains sub.domain ≡ Some (shown d)) where
  stored : IsStored ss queue sub.domain (shown d)
  stored = sound.domains sub.domain (shown d) at

  stands : Stands ss queue sub
  stands = sound.standing k sub next

  -- the commits of its domain
  long : length d.commits.items - 1 ≡ length (commits_in ss queue sub.domain)
  long = sym (length-ops_of d.commits.items kept.opened) ∙ ap length stored.commits

  pub can_decide : IsFor d sub
  can_decide = record {
    kept = kept;
    base = omega (arith, stands.base, long, kept.opened);
    below = stands.seen.below;
  }

  its_number : sub.receipt ≡ length queue.outcomes + 1
  its_number = sound.numbers k sub next ∙ ap (λ n. n + 1) place

  -- the commits of its domain have smaller receipts
  pub new_receipt : IsNewReceipt d.commits.items sub.receipt
  new_receipt c at_c =
      omega (arith, its_number, receipt-decided sub.domain ss queue.outcomes d.commits.items (length d.commits.items - 1) c stored.receipts (omega (arith, kept.opened)) at_c)

  failed-here : (chain : Option ℕ) → failure_of queue.failures chain ≡ failing chain ss queue.outcomes
  failed-here None = sym (failing-none 1 ss queue.outcomes)
  failed-here (Some id) = sound.failures id

  pub outcome-here : commit.decide (failure_of queue.failures sub.chain) d sub ≡ outcome (world_in queue.domains) (table_in queue.domains) (is_live_in queue.domains) ss queue.outcomes (sent_of sub)
  outcome-here =
      let table : d.schema.value ≡ table_in queue.domains sub.domain = sym (table-at queue.domains sub.domain (shown d) at) in
      let opening : opening_in d.commits.items ≡ opening_of (world_in queue.domains) sub.domain = λ i s. sym (opening-at queue.domains sub.domain (shown d) s at) i in
      let ruled : d.rules ≡ rules_of (world_in queue.domains) sub.domain = sym (rules-at queue.domains sub.domain (shown d) at) in
      let live : d.live ≡ is_live_in queue.domains sub.domain = sym (live-here queue.domains sub.domain (shown d) at) in
      λ i. unwrap_or (option_or (option_map ChainFailed (failed-here sub.chain i)) (unmounted_of (live i) (stored.number i))) (rules.decide (table i) (opening i) (stored.commits i) (ruled i) (rows_in sub.base) (spans sub.base_commit sub.chain (stored.chains i)) sub.changes)

  sent-here : slice_get ss (length queue.outcomes) ≡ Some (sent_of sub)
  sent-here = ap (slice_get ss) (sym place) ∙ sent_at ss queue sound k sub next

  module _ (o : Outcome) (is : o ≡ commit.decide (failure_of queue.failures sub.chain) d sub) (d' : Domain) (after : Decides d sub o d') where
    abbrev now : PipelineView
    now = record {
      domains = set queue.domains sub.domain (shown d');
      gone = queue.gone;
      waiting = queue.waiting;
      outcomes = queue.outcomes ++ o ∷ [];
      failures = failures_after queue.failures sub.chain (length queue.outcomes + 1) (is_done o);
    }

    same : shown d' ≡ record (shown d) { ops = ops_of d'.commits.items; chains = chains_of d'.commits.items; receipts = receipts_of d'.commits.items }
    same = λ i. record {
      number = after.same.number i;
      live = after.same.live i;
      table = (after.same.schema i).value;
      first = (after.same.first i).value;
      upgrades = tables_of (after.same.upgrades i).items;
      version = after.same.version i;
      since = after.same.since i;
      rules = after.same.rules i;
      opening = after.opening i;
      ops = ops_of d'.commits.items;
      chains = chains_of d'.commits.items;
      receipts = receipts_of d'.commits.items;
    }

    world-same : world_in now.domains ≡ world_in queue.domains
    world-same = map-set_same opened_as queue.domains sub.domain (shown d') (shown d) (ap opened_as same ∙ ap opened_as (sym (get_or_from_slice_get queue.domains sub.domain (shown d) (shown d) at)))

    commits-more : (n : ℕ) → commits_in ss now n ≡ commits_in ss queue n ++ map ops_in (added n (sent_of sub) o)
    commits-more n = told-decide ops_in n ss queue.outcomes (sent_of sub) o sent-here

    chains-more : (n : ℕ) → chains_in ss now n ≡ chains_in ss queue n ++ map chain_of (added n (sent_of sub) o)
    chains-more n = told-decide chain_of n ss queue.outcomes (sent_of sub) o sent-here

    receipts-more : (n : ℕ) → receipts_in ss now n ≡ receipts_in ss queue n ++ added_receipt n (sent_of sub) o sub.receipt
    receipts-more n =
        let number : 1 + length queue.outcomes ≡ sub.receipt = omega (arith, its_number) in
        ap (λ (rs : List ℕ). 0 ∷ rs) (receipts-decide 1 n ss queue.outcomes (sent_of sub) o sent-here) ∙ ap (λ r. receipts_in ss queue n ++ added_receipt n (sent_of sub) o r) number

    domain-now : (n : ℕ) (e : DomainView) → slice_get now.domains n ≡ Some e → IsStored ss now n e
    domain-now n e at_e = elim (slice_get-set queue.domains sub.domain (shown d') n e at_e) [
      | inl w ↦
          subst (IsStored ss now n) w.1 (record {
            number = after.same.number ∙ stored.number ∙ sym w.0;
            commits =
                after.commits ∙ ap (λ (cs : List (List Op)). cs ++ if_done o sub.changes) (stored.commits ∙ ap (commits_in ss queue) (sym w.0))
                ∙ ap (λ (cs : List (List Op)). commits_in ss queue n ++ cs) (sym (told-here ops_in n (sent_of sub) o w.0)) ∙ sym (commits-more n);
            chains =
                after.chains ∙ ap (λ (cs : List (Option ℕ)). cs ++ if_done o sub.chain) (stored.chains ∙ ap (chains_in ss queue) (sym w.0))
                ∙ ap (λ (cs : List (Option ℕ)). chains_in ss queue n ++ cs) (sym (told-here chain_of n (sent_of sub) o w.0)) ∙ sym (chains-more n);
            receipts =
                after.receipts ∙ ap (λ (rs : List ℕ). rs ++ if_done o sub.receipt) (stored.receipts ∙ ap (receipts_in ss queue) (sym w.0))
                ∙ ap (λ (rs : List ℕ). receipts_in ss queue n ++ rs) (sym (receipt-here n (sent_of sub) o sub.receipt w.0)) ∙ sym (receipts-more n);
          })
      | inr w ↦
          let was = sound.domains n e w.1 in
          record {
            number = was.number;
            commits = was.commits ∙ sym (append-nil (commits_in ss queue n)) ∙ ap (λ (cs : List (List Op)). commits_in ss queue n ++ cs) (sym (told-other ops_in n (sent_of sub) o w.0)) ∙ sym (commits-more n);
            chains = was.chains ∙ sym (append-nil (chains_in ss queue n)) ∙ ap (λ (cs : List (Option ℕ)). chains_in ss queue n ++ cs) (sym (told-other chain_of n (sent_of sub) o w.0)) ∙ sym (chains-more n);
            receipts = was.receipts ∙ sym (append-nil (receipts_in ss queue n)) ∙ ap (λ (rs : List ℕ). receipts_in ss queue n ++ rs) (sym (receipt-other n (sent_of sub) o sub.receipt w.0)) ∙ sym (receipts-more n);
          }
    ]

    as_many : length now.failures ≡ length queue.failures
    as_many = length-after queue.failures sub.chain (length queue.outcomes + 1) (is_done o)

    stands-now : (s : Submission) → Stands ss queue s → Stands ss now s
    stands-now s was = record {
      domain = omega (arith, was.domain, length-set queue.domains sub.domain (shown d'));
      base = omega (arith, was.base, ap length (commits-more s.domain), length-append (commits_in ss queue s.domain) (map ops_in (added s.domain (sent_of sub) o)));
      chain = subst (λ n. IsWithin n s.chain) (sym as_many) was.chain;
      seen = was.seen;
    }

    failures-now : (id : ℕ) → noted_in now.failures id ≡ failing (Some id) ss (queue.outcomes ++ o ∷ [])
    failures-now id =
        let following : 1 + length queue.outcomes ≡ length queue.outcomes + 1 = omega arith in
        noted_in-after queue.failures sub.chain (length queue.outcomes + 1) (is_done o) id stands.chain
        ∙ (λ i. option_or (sound.failures id i) (if is_in (Some id) (sent_of sub) && not (is_done o) then Some (sym following i) else None))
        ∙ sym (failing-decide 1 (Some id) ss queue.outcomes (sent_of sub) o sent-here)

    pub decided-one : AreDecided ss queue 1 now
    decided-one = record {
      sound = record {
        some = omega (arith, sound.some, length-set queue.domains sub.domain (shown d'));
        within = omega (arith, length-append queue.outcomes (o ∷ []), slice_get_within ss (length queue.outcomes) (sent_of sub) sent-here);
        behind = omega (arith, length-append queue.outcomes (o ∷ []), sound.behind);
        domains = domain-now;
        waiting = sound.waiting;
        standing = λ i s at_s. stands-now s (sound.standing i s at_s);
        numbers = sound.numbers;
        failures = failures-now;
      };
      world = world-same;
      live = live-set queue.domains sub.domain (shown d) (shown d') at after.same.live;
      versions = versions-set queue.domains sub.domain (shown d) (shown d') at (λ i. (after.same.schema i).value) after.same.version;
      outcomes =
          ap (λ (x : Outcome). queue.outcomes ++ x ∷ []) (is ∙ outcome-here)
          ∙ ap (λ (next_one : Option Sent). queue.outcomes ++ (decide_front (world_in queue.domains) (table_in queue.domains) (is_live_in queue.domains) ss queue.outcomes next_one ++ [])) (sym sent-here);
      chains = as_many;
    }

    pub grown-one : HasGrown queue now
    grown-one = record {
      domains = HaveGrown-set queue.domains sub.domain (shown d) (shown d') at same (if_done o sub.changes, after.commits) (if_done o sub.chain, after.chains) (if_done o sub.receipt, after.receipts);
      gone = refl;
      waiting = refl;
      outcomes = (o ∷ [], refl);
      failures = cut_after (length queue.outcomes) queue.failures sub.chain (is_done o) stands.chain ∙ cut_none_late ss queue sound;
    }

-- nothing was decided
pub grown_none : (ss : List Sent) (queue : PipelineView) → IsSound ss queue → HasGrown queue queue
grown_none ss queue sound = record { domains = HaveGrown-same queue.domains; gone = refl; waiting = refl; outcomes = Grows-same queue.outcomes; failures = cut_none_late ss queue sound }

-- ---- the same of a pipeline

module _ (p : Pipeline) (kept : AllKept p.domains.items) (ss : List Sent) (sound : IsSound ss (queue_of p)) (index : ℕ) (here : index ≡ length p.outcomes.items) (given : index < p.gone + length p.waiting.items) (sub : Submission) (sub_is : sub ≡ get_or p.waiting.items (index - p.gone) sub) where
  place : p.gone + (index - p.gone) ≡ length p.outcomes.items
  place = omega (arith, here, sound.behind)

  next : slice_get p.waiting.items (index - p.gone) ≡ Some sub
  next = slice_get_at p.waiting.items (index - p.gone) sub (omega (arith, given, here, sound.behind)) sub_is

  pub domain_within : sub.domain < length p.domains.items
  domain_within = omega (arith, (sound.standing (index - p.gone) sub next).domain, length-map p.domains.items shown)

  pub within_here : IsWithin (length p.failures.items) sub.chain
  within_here = (sound.standing (index - p.gone) sub next).chain

  module _ (d : Domain) (d_is : d ≡ get_or p.domains.items sub.domain d) where
    at : slice_get (map shown p.domains.items) sub.domain ≡ Some (shown d)
    at = slice_get-map shown p.domains.items sub.domain ∙ ap (option_map shown) (slice_get_at p.domains.items sub.domain d domain_within d_is)

    kept_here : AreKept d.commits.items
    kept_here = subst (λ (x : Domain). AreKept x.commits.items) (sym d_is) (kept sub.domain d domain_within)

    pub can_now : IsFor d sub
    can_now = can_decide ss (queue_of p) sound (index - p.gone) place sub next d kept_here at

    pub receipt_now : IsNewReceipt d.commits.items sub.receipt
    receipt_now = new_receipt ss (queue_of p) sound (index - p.gone) place sub next d kept_here at

    -- if memory ran out
    pub grown_nothing : (d' : Domain) (os : List Outcome) → IsSame d d' → d'.commits.items ≡ d.commits.items → os ≡ p.outcomes.items → HasGrown (queue_of p) (record { domains = map shown (set p.domains.items sub.domain d'); gone = p.gone; waiting = p.waiting.items; outcomes = os; failures = p.failures.items })
    grown_nothing d' os same commits old =
        let still : shown d' ≡ shown d = λ i. record {
          number = same.number i;
          live = same.live i;
          table = (same.schema i).value;
          first = (same.first i).value;
          upgrades = tables_of (same.upgrades i).items;
          version = same.version i;
          since = same.since i;
          rules = same.rules i;
          opening = opening_in (commits i);
          ops = ops_of (commits i);
          chains = chains_of (commits i);
          receipts = receipts_of (commits i);
        } in
        let domains : map shown (set p.domains.items sub.domain d') ≡ map shown p.domains.items = map-set_same shown p.domains.items sub.domain d' d (still ∙ ap shown d_is) in
        subst (HasGrown (queue_of p)) (λ i. record { domains = sym domains i; gone = p.gone; waiting = p.waiting.items; outcomes = sym old i; failures = p.failures.items }) (grown_none ss (queue_of p) sound)

    module _ (o : Outcome) (is : o ≡ commit.decide (failure_of p.failures.items sub.chain) d sub) (d' : Domain) (after : Decides d sub o d') (os : List Outcome) (os_is : os ≡ p.outcomes.items ++ o ∷ []) (fs : List (Option ℕ)) (fs_are : fs ≡ failures_after p.failures.items sub.chain (length p.outcomes.items + 1) (is_done o)) where
      made : ◌≡◌ {A = PipelineView} (record { domains = set (map shown p.domains.items) sub.domain (shown d'); gone = p.gone; waiting = p.waiting.items; outcomes = p.outcomes.items ++ o ∷ []; failures = failures_after p.failures.items sub.chain (length p.outcomes.items + 1) (is_done o) })
          (record { domains = map shown (set p.domains.items sub.domain d'); gone = p.gone; waiting = p.waiting.items; outcomes = os; failures = fs })
      made = λ i. let queue : PipelineView = record { domains = sym (map-set shown p.domains.items sub.domain d') i; gone = p.gone; waiting = p.waiting.items; outcomes = sym os_is i; failures = sym fs_are i } in queue

      pub decided_now : AreDecided ss (queue_of p) 1 (record { domains = map shown (set p.domains.items sub.domain d'); gone = p.gone; waiting = p.waiting.items; outcomes = os; failures = fs })
      decided_now = subst (AreDecided ss (queue_of p) 1) made (decided-one ss (queue_of p) sound (index - p.gone) place sub next d kept_here at o is d' after)

      pub grown_now : HasGrown (queue_of p) (record { domains = map shown (set p.domains.items sub.domain d'); gone = p.gone; waiting = p.waiting.items; outcomes = os; failures = fs })
      grown_now = subst (HasGrown (queue_of p)) made (grown-one ss (queue_of p) sound (index - p.gone) place sub next d kept_here at o is d' after)
