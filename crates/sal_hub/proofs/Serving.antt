-- The hub's answers about its domains.
use Rattle.std.proofs.Common.{◌≡◌, ℕ, zero, suc, ◌-◌, ◌<◌, true, List, [], ◌∷◌, length, map, get_or, None, Some, refl, ap, sym, ◌∙◌, subst, arith}
use Rattle.std.specs.Prelude.{slice_get}
use Rattle.std.specs.Option.{option_map}
use Rattle.std.proofs.lemmas.List.{length-map}
use Rattle.std.proofs.lemmas.Option.{slice_get-map, slice_get_within}
use Rattle.sal_types.specs.declared.value.Store.{Store}
use Rattle.sal_rows.specs.Commits.{tree_after}
use Rattle.sal_rows.specs.Clash.{tip}
use Rattle.sal_graft.specs.Kept.{AreKept, opening_in, ops_of}
use Rattle.sal_graft.proofs.KeptLemmas.{length-ops_of}
use Rattle.sal_commit.specs.declared.domain.Domain.{Domain}
use Rattle.sal_rules.specs.Breaches.{breach}
use Rattle.sal_commit.proofs.VersionTables.{present-unbroken}
use Rattle.sal_history.specs.History.{commits, history, newest_tree}
use Rattle.sal_history.specs.Versions.{tables_now}
use Rattle.sal_hub.specs.declared.pipeline.Pipeline.{Pipeline}
use Rattle.sal_hub.specs.Current.{IsKept, answers, known_of}
use Rattle.sal_hub.specs.Domains.{AreDomains, IsDomain}
use Rattle.sal_hub.specs.Journals.{Noted}
use Rattle.sal_hub.specs.HubHistory.{HubHistory}
use Rattle.sal_hub.specs.PipelineView.{AllKept, is_live_in, queue_of, opened_as, shown, world_in}
use Rattle.sal_hub.proofs.Deciding.{live-here, last-at, live-within, opening-at, rules-at, table-at, version-here}
use Rattle.sal_hub.proofs.Keeping.{chains-current, commits-current, receipts-current}
use Rattle.sal_hub.proofs.Listed.{slice_get_at}

pub shown_at : (ds : List Domain) (n : ℕ) (d : Domain) → n < length ds → d ≡ get_or ds n d → slice_get (map shown ds) n ≡ Some (shown d)
shown_at ds n d h is = slice_get-map shown ds n ∙ ap (option_map shown) (slice_get_at ds n d h is)

pub live_at : (p : Pipeline) (n : ℕ) (d : Domain) → n < length p.domains.items → d ≡ get_or p.domains.items n d → is_live_in (queue_of p).domains n ≡ d.live
live_at p n d h is = live-here (queue_of p).domains n (shown d) (shown_at p.domains.items n d h is)

-- a domain of the world
pub known_domain : (journal : Noted) (p : Pipeline) (known : HubHistory) → known_of journal p ≡ known → (n : ℕ) → n < length known.world → n < length p.domains.items
known_domain journal p known view n there = omega (arith, there, ap (λ (k : HubHistory). length k.world) view, length-map (queue_of p).domains opened_as, length-map p.domains.items shown)

pub kept_at : (ds : List Domain) (n : ℕ) (d : Domain) → AllKept ds → n < length ds → d ≡ get_or ds n d → AreKept d.commits.items
kept_at ds n d kept h is = subst (λ (x : Domain). AreKept x.commits.items) (sym is) (kept n d h)

one_of : (ds : List Domain) (k : ℕ) → k < length ds → (d : Domain) × (d ≡ get_or ds k d)
one_of [] k h = absurd (omega (arith, h))
one_of (x ∷ ds) zero h = (x, refl)
one_of (x ∷ ds) (suc k) h = one_of ds k (omega (arith, h))

module _ (journal : Noted) (p : Pipeline) (is : IsKept journal p) where
  pub some_domain : 0 < length p.domains.items
  some_domain = omega (arith, is.current.sound.some, length-map p.domains.items shown)

  -- a domain that is live is one that there is
  pub live_within : (n : ℕ) → is_live_in (queue_of p).domains n ≡ true → n < length p.domains.items
  live_within n live = omega (arith, live-within (queue_of p).domains n live, length-map p.domains.items shown)

  module _ (n : ℕ) (d : Domain) (h : n < length p.domains.items) (at : d ≡ get_or p.domains.items n d) where
    pub domain_is : IsDomain (known_of journal p) n d
    domain_is =
        let here = shown_at p.domains.items n d h at in
        let stored = is.current.sound.domains n (shown d) here in
        record {
          number = stored.number;
          live = sym (live-here (queue_of p).domains n (shown d) here) ∙ is.current.live n;
          rules = sym (rules-at (queue_of p).domains n (shown d) here);
          schema = sym (table-at (queue_of p).domains n (shown d) here) ∙ is.current.tables n;
          last = sym (last-at (queue_of p).domains n (shown d) here);
          version = sym (version-here (queue_of p).domains n (shown d) here) ∙ is.current.versions n (slice_get_within (queue_of p).domains n (shown d) here);
          kept = kept_at p.domains.items n d is.kept h at;
          opening = λ i s. sym (opening-at (queue_of p).domains n (shown d) s here) i;
          commits = stored.commits ∙ commits-current journal.log journal.marks (queue_of p) n is.current;
          chains = stored.chains ∙ chains-current journal.log journal.marks (queue_of p) n is.current;
          receipts = stored.receipts ∙ receipts-current journal.log journal.marks (queue_of p) n is.current;
        }

    pub count_is : length d.commits.items - 1 ≡ length (commits (answers journal.log (queue_of p)) n)
    count_is = sym (length-ops_of d.commits.items domain_is.kept.opened) ∙ ap length domain_is.commits

    pub tip_is : (s : Store) → tip (opening_in d.commits.items) (ops_of d.commits.items) s ≡ newest_tree (world_in (queue_of p).domains) journal.log n s
    tip_is s = λ i. tree_after s (domain_is.opening i s) (domain_is.commits i)

  -- the newest trees break no rule of the present version
  pub unbroken : (n : ℕ) (s : Store) → n < length (known_of journal p).world → breach (tables_now (known_of journal p).world (history (known_of journal p).world journal.log) n) s (newest_tree (known_of journal p).world journal.log n s) ≡ None
  unbroken n s there =
      let h : n < length p.domains.items = known_domain journal p (known_of journal p) refl n there in
      let (d, at) = one_of p.domains.items n h in
      (λ i. breach (sym (domain_is n d h at).schema i) s (sym (tip_is n d h at s) i)) ∙ present-unbroken d (domain_is n d h at).kept s

  pub domains_are : AreDomains (known_of journal p) p.domains.items
  domains_are = record {
    all = sym (length-map (map shown p.domains.items) opened_as ∙ length-map p.domains.items shown);
    each = λ n d h at. domain_is n d h at;
  }
