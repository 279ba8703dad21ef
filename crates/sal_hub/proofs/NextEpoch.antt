-- The domains of the next epoch.
use Rattle.std.proofs.Common.{◌≡◌, ℕ, zero, suc, ◌+◌, ◌<◌, Bool, List, [], ◌∷◌, drop, length, map, set, take, get_or, Option, Some, refl, ap, sym, ◌∙◌, subst, arith, IsTrue, nat_eq}
use Rattle.std.specs.Prelude.{slice_get}
use Rattle.std.specs.Option.{option_map_or}
use Rattle.std.proofs.lemmas.List.{length-map, map-set, take_all}
use Rattle.std.proofs.lemmas.List.Elements.{All-set}
use Rattle.std.proofs.lemmas.Option.{none-some, same_Some, slice_get_within}
use Rattle.sal_types.specs.declared.value.Store.{Store}
use Rattle.sal_types.specs.declared.value.Store.TheVariants.{Config, Oper}
use Rattle.sal_rows.specs.declared.clash.Rules.{Rules}
use Rattle.sal_rows.specs.declared.op.Op.{Op}
use Rattle.sal_rows.specs.Commits.{tree_after}
use Rattle.sal_schema.specs.declared.table.SchemaTable.{SchemaTable}
use Rattle.sal_schema.specs.Fitting.{is_closed}
use Rattle.sal_schema.specs.Valid.{IsTable}
use Rattle.sal_schema.specs.Versions.{Extends}
use Rattle.sal_graft.specs.Kept.{AreKept}
use Rattle.sal_commit.specs.declared.domain.Domain.{Domain as Stored}
use Rattle.sal_commit.specs.Anew.{BeginsAnew}
use Rattle.sal_history.specs.declared.call.Entry.{Entry}
use Rattle.sal_history.specs.History.{commits, newest_tree}
use Rattle.sal_history.specs.Versions.{schema_version, tables_now}
use Rattle.sal_history.specs.World.{Domain, OneIsUpgraded, opening_of, table_of, tree_of_opening, version_from}
use Rattle.sal_history.proofs.Versions.{first-version, table-in}
use Rattle.sal_history_laws.specs.Logs.{AreSound, IsSound}
use Rattle.sal_history_laws.proofs.Commits.{logs_stay_closed}
use Rattle.sal_hub.specs.Current.{IsCurrent, answers, number_of}
use Rattle.sal_hub.specs.Epochs.{OpensAtTheNewest, begun_view, begun_views, domains_from, next_domain, next_world, upgrades_at}
use Rattle.sal_hub.specs.HubHistory.{HubHistory}
use Rattle.sal_hub.specs.Opened.{AreFirst, IsFirst}
use Rattle.sal_hub.specs.PipelineView.{AllKept, DomainView, PipelineView, opened_as, shown, world_in}
use Rattle.sal_hub.proofs.Deciding.{opening-at, table-at, version-here, world-at}
use Rattle.sal_hub.proofs.Keeping.{commits-current}
use Rattle.sal_hub.proofs.Upgrading.{own_number}
use Rattle.sal_hub.proofs.Versioned.{numbered}

-- ---- a domain that begins anew

pub shown-anew : (rules : Rules) (d d' : Stored) → BeginsAnew d rules d' → shown d' ≡ begun_view rules (shown d)
shown-anew rules d d' is = λ i. record {
  number = is.number i;
  live = is.live i;
  table = (is.schema i).value;
  first = is.first i;
  upgrades = is.upgrades i;
  version = is.version i;
  since = is.since i;
  rules = is.rules i;
  opening = λ s. is.opening s i;
  ops = is.ops i;
  chains = is.chains i;
  receipts = is.receipts i;
}

-- the first domains of them, up to a number
abbrev pub begun_upto : Rules → ℕ → List DomainView → List DomainView
begun_upto rules zero ds = ds
begun_upto rules (suc n) [] = []
begun_upto rules (suc n) (d ∷ ds) = begun_view rules d ∷ begun_upto rules n ds

-- the next one is as it was
pub upto-rest : (rules : Rules) (n : ℕ) (ds : List DomainView) → slice_get (begun_upto rules n ds) n ≡ slice_get ds n
upto-rest rules zero ds = refl
upto-rest rules (suc n) [] = refl
upto-rest rules (suc n) (d ∷ ds) = upto-rest rules n ds

upto-set : (rules : Rules) (n : ℕ) (ds : List DomainView) (d : DomainView) → slice_get (begun_upto rules n ds) n ≡ Some d → set (begun_upto rules n ds) n (begun_view rules d) ≡ begun_upto rules (suc n) ds
upto-set rules zero [] d at = absurd (none-some d at)
upto-set rules zero (x ∷ ds) d at = ap (λ (y : DomainView). begun_view rules y ∷ ds) (sym (same_Some x d at))
upto-set rules (suc n) [] d at = absurd (none-some d at)
upto-set rules (suc n) (x ∷ ds) d at = ap (λ (es : List DomainView). begun_view rules x ∷ es) (upto-set rules n ds d at)

pub upto-all : (rules : Rules) (ds : List DomainView) → begun_upto rules (length ds) ds ≡ begun_views rules ds
upto-all rules [] = refl
upto-all rules (d ∷ ds) = ap (λ (es : List DomainView). begun_view rules d ∷ es) (upto-all rules ds)

-- one more of the code's list
pub upto-more : (rules : Rules) (ds : List Stored) (all : List DomainView) (n : ℕ) (d d' : Stored) → n < length ds → d ≡ get_or ds n d → BeginsAnew d rules d' → map shown ds ≡ begun_upto rules n all
    → map shown (set ds n d') ≡ begun_upto rules (n + 1) all
upto-more rules ds all n d d' within d_is anew so_far =
    let more : suc n ≡ n + 1 = omega arith in
    let here : slice_get (map shown ds) n ≡ Some (shown d) = at-shown ds n d within d_is in
    map-set shown ds n d' ∙ (λ i. set (so_far i) n (shown-anew rules d d' anew i))
    ∙ upto-set rules n all (shown d) (ap (λ (es : List DomainView). slice_get es n) (sym so_far) ∙ here) ∙ ap (λ k. begun_upto rules k all) more
  where
    at-shown : (ds : List Stored) (n : ℕ) (d : Stored) → n < length ds → d ≡ get_or ds n d → slice_get (map shown ds) n ≡ Some (shown d)
    at-shown [] n d h is = absurd (omega (arith, h))
    at-shown (x ∷ ds) zero d h is = ap (λ (y : Stored). Some (shown y)) (sym is)
    at-shown (x ∷ ds) (suc n) d h is = at-shown ds n d (omega (arith, h)) is

pub anew-all-kept : (ds : List Stored) (n : ℕ) (d' : Stored) → AreKept d'.commits.items → AllKept ds → AllKept (set ds n d')
anew-all-kept ds n d' are all = All-set (λ (x : Stored). AreKept x.commits.items) ds n d' are all

-- ---- versions

-- the versions from one on are this version and those after it
versions-on : (table : SchemaTable) (upgrades : List SchemaTable) (m v : ℕ) → version_from (version_from table upgrades m) (drop m upgrades) v ≡ version_from table upgrades (m + v)
versions-on table upgrades zero v =
    let same : v ≡ 0 + v = omega arith in
    ap (λ t. version_from t upgrades v) (first-version table upgrades) ∙ ap (version_from table upgrades) same
versions-on table [] (suc m) v = refl
versions-on table (u ∷ upgrades) (suc m) v =
    let next : suc (m + v) ≡ suc m + v = omega arith in
    versions-on u upgrades m v ∙ ap (version_from table (u ∷ upgrades)) next

none-dropped : (n : ℕ) (us : List SchemaTable) → us ≡ [] → drop n us ≡ []
none-dropped zero us none = none
none-dropped (suc n) [] none = refl
none-dropped (suc n) (u ∷ us) none = cc

-- ---- lists that are mapped

mapped-at : {X Y : Type 0} (f : X → Y) (xs : List X) (k : ℕ) (y : Y) → slice_get (map f xs) k ≡ Some y → (x : X) × (slice_get xs k ≡ Some x) × (f x ≡ y)
mapped-at f [] k y at = absurd (none-some y at)
mapped-at f (x ∷ xs) zero y at = (x, refl, same_Some (f x) y at)
mapped-at f (x ∷ xs) (suc k) y at = mapped-at f xs k y at

-- ---- of a hub

module _ (rules : Rules) (log : List Entry) (marks : List Bool) (queue : PipelineView) (was : IsCurrent log marks queue) where
  abbrev world : List Domain
  world = world_in queue.domains

  abbrev known : HubHistory
  known = record { world = world_in queue.domains; log = log }

  module _ (n : ℕ) (d : DomainView) (at : slice_get queue.domains n ≡ Some d) where
    version-now : d.version ≡ number_of (schema_version (answers log queue)) n
    version-now = sym (version-here queue.domains n d at) ∙ was.versions n (slice_get_within queue.domains n d at)

    table-known : d.table ≡ tables_now (world_in queue.domains) (answers log queue) n
    table-known = sym (table-at queue.domains n d at) ∙ was.tables n

    table-own : version_from d.first d.upgrades d.version ≡ d.table
    table-own =
        sym (table-in world n d.version (opened_as d) (world-at queue.domains n d at)) ∙ ap (λ v. table_of world v n) version-now
        ∙ sym (numbered world (schema_version (answers log queue)) n was.only) ∙ sym table-known

    listed : upgrades_at (world_in queue.domains) n ≡ d.upgrades
    listed = ap (λ (o : Option Domain). option_map_or (λ (x : Domain). x.upgrades) o []) (world-at queue.domains n d at)

    tree-now : (s : Store) → tree_after s (d.opening s) d.ops ≡ newest_tree (world_in queue.domains) log n s
    tree-now s =
        let stored = was.sound.domains n d at in
        λ i. tree_after s (sym (opening-at queue.domains n d s at) i) ((stored.commits ∙ commits-current log marks queue n was) i)

    closed-now : (s : Store) → IsTrue (is_closed d.table (tree_after s (d.opening s) d.ops))
    closed-now s =
        let answered = answers log queue in
        let closed = logs_stay_closed (world_in queue.domains) log was.openings was.lawful in
        let whole : take (length (commits answered n)) (commits answered n) ≡ commits answered n = take_all (length (commits answered n)) (commits answered n) (omega arith) in
        let newest : IsTrue (is_closed (tables_now (world_in queue.domains) answered n) (newest_tree (world_in queue.domains) log n s)) =
        subst (λ (cs : List (List Op)). IsTrue (is_closed (tables_now (world_in queue.domains) answered n) (tree_after s (opening_of (world_in queue.domains) n s) cs))) whole (closed.commits n (length (commits answered n)) s) in
        (λ i. is_closed (table-known i) (tree-now s i)) ∙ newest

  upgrades-now : (n : ℕ) (d : DomainView) (at : slice_get queue.domains n ≡ Some d) → drop d.version d.upgrades ≡ drop (schema_version (answers log queue)) (upgrades_at (world_in queue.domains) n)
  upgrades-now zero d at = (λ i. drop ((version-now zero d at ∙ own_number (schema_version (answers log queue))) i) (sym (listed zero d at) i))
  upgrades-now (suc n) d at =
      let none : d.upgrades ≡ [] = was.only n (opened_as d) (world-at queue.domains (suc n) d at) in
      none-dropped d.version d.upgrades none ∙ sym (none-dropped (schema_version (answers log queue)) (upgrades_at (world_in queue.domains) (suc n)) (listed (suc n) d at ∙ none))

  -- the domain of the next world
  opened-next : (n : ℕ) (d : DomainView) → slice_get queue.domains n ≡ Some d → opened_as (begun_view rules d) ≡ next_domain rules (record { world = world_in queue.domains; log = log }) n
  opened-next n d at = λ i. record {
    table = (table-own n d at ∙ table-known n d at) i;
    upgrades = upgrades-now n d at i;
    opening = record { config = tree-now n d at Config i; oper = tree-now n d at Oper i };
    rules = rules;
  }

  world-from : (n : ℕ) (ds : List DomainView) → ((k : ℕ) (d : DomainView) → slice_get ds k ≡ Some d → opened_as (begun_view rules d) ≡ next_domain rules known (n + k)) → world_in (begun_views rules ds) ≡ domains_from (next_domain rules known) n (length ds)
  world-from n [] each = refl
  world-from n (d ∷ ds) each =
      let here : n + 0 ≡ n = omega arith in
      let first : opened_as (begun_view rules d) ≡ next_domain rules known n = each 0 d refl ∙ ap (next_domain rules known) here in
      let rest : world_in (begun_views rules ds) ≡ domains_from (next_domain rules known) (n + 1) (length ds) =
      world-from (n + 1) ds (λ k e at. let next : n + suc k ≡ n + 1 + k = omega arith in each (suc k) e at ∙ ap (next_domain rules known) next) in
      λ i. first i ∷ rest i

  pub next-worlds : world_in (begun_views rules queue.domains) ≡ next_world rules (record { world = world_in queue.domains; log = log })
  next-worlds =
      world-from 0 queue.domains (λ k d at. let same : k ≡ 0 + k = omega arith in opened-next k d at ∙ ap (next_domain rules known) same)
      ∙ ap (domains_from (next_domain rules known) 0) (sym (length-map queue.domains opened_as))

  -- ---- the invariants of the next hub

  pub next-first : AreFirst (begun_views rules queue.domains)
  next-first = record {
    some = omega (arith, was.sound.some, length-map queue.domains (begun_view rules));
    each = λ n e at. (
        let (d, had, is) = mapped-at (begun_view rules) queue.domains n e at in
        let stored = was.sound.domains n d had in
        subst (IsFirst n) is (record {
          number = stored.number;
          live = ap (λ k. nat_eq k 0) stored.number;
          table = sym (table-own n d had);
          version = refl;
          ops = refl;
          chains = refl;
          receipts = refl;
        })
        );
  }

  sound-one : (n : ℕ) (d : DomainView) → slice_get queue.domains n ≡ Some d → IsSound (opened_as (begun_view rules d))
  sound-one n d at =
      let old = was.openings n (opened_as d) (world-at queue.domains n d at) in
      record {
        tables = λ v. subst IsTable (sym (versions-on d.first d.upgrades d.version v)) (old.tables (d.version + v));
        chain = λ v.
            let next : suc (d.version + v) ≡ d.version + suc v = omega arith in
            subst (λ t. Extends t (version_from (version_from d.first d.upgrades d.version) (drop d.version d.upgrades) v)) (ap (version_from d.first d.upgrades) next ∙ sym (versions-on d.first d.upgrades d.version (suc v)))
            (subst (Extends (version_from d.first d.upgrades (suc (d.version + v)))) (sym (versions-on d.first d.upgrades d.version v)) (old.chain (d.version + v)));
        opening = by;
      }
    where
      by : (s : Store) → IsTrue (is_closed (version_from d.first d.upgrades d.version) (tree_of_opening (opened_as (begun_view rules d)).opening s))
      by Config = ap (λ t. is_closed t (tree_after Config (d.opening Config) d.ops)) (table-own n d at) ∙ closed-now n d at Config
      by Oper = ap (λ t. is_closed t (tree_after Oper (d.opening Oper) d.ops)) (table-own n d at) ∙ closed-now n d at Oper

  pub next-sound : AreSound (world_in (begun_views rules queue.domains))
  next-sound n domain at = (
      let (e, there, opens) = mapped-at opened_as (begun_views rules queue.domains) n domain at in
      let (d, had, is) = mapped-at (begun_view rules) queue.domains n e there in
      subst IsSound (ap opened_as is ∙ opens) (sound-one n d had)
      )

  pub next-only : OneIsUpgraded (world_in (begun_views rules queue.domains))
  next-only n domain at = (
      let (e, there, opens) = mapped-at opened_as (begun_views rules queue.domains) (suc n) domain at in
      let (d, had, is) = mapped-at (begun_view rules) queue.domains (suc n) e there in
      ap (λ (x : Domain). x.upgrades) (sym opens) ∙ ap (λ (x : DomainView). x.upgrades) (sym is) ∙ none-dropped d.version d.upgrades (was.only n (opened_as d) (world-at queue.domains (suc n) d had))
      )

-- ---- the trees at commit 0

opening-from : (rules : Rules) (known : HubHistory) (i count n : ℕ) (s : Store) → n < count → opening_of (domains_from (next_domain rules known) i count) n s ≡ newest_tree known.world known.log (i + n) s
opening-from rules known i zero n s inside = absurd (omega (arith, inside))
opening-from rules known i (suc count) zero Config inside = let here : i ≡ i + 0 = omega arith in ap (λ k. newest_tree known.world known.log k Config) here
opening-from rules known i (suc count) zero Oper inside = let here : i ≡ i + 0 = omega arith in ap (λ k. newest_tree known.world known.log k Oper) here
opening-from rules known i (suc count) (suc n) s inside =
    let there : (i + 1) + n ≡ i + suc n = omega arith in
    opening-from rules known (i + 1) count n s (omega (arith, inside)) ∙ ap (λ k. newest_tree known.world known.log k s) there

pub opens-at-the-newest : (rules : Rules) (known : HubHistory) → OpensAtTheNewest known (next_world rules known)
opens-at-the-newest rules known n s log inside =
    let same : 0 + n ≡ n = omega arith in
    opening-from rules known 0 (length known.world) n s inside ∙ ap (λ k. newest_tree known.world known.log k s) same
