-- Domains that are cut back to commits that they had.
use Rattle.std.proofs.Common.{◌≡◌, ℕ, zero, suc, ◌+◌, ◌-◌, ◌<◌, ◌≤◌, Bool, List, [], ◌∷◌, ◌++◌, length, map, get_or, set, take, Option, Some, refl, ap, sym, ◌∙◌, subst, arith, append_assoc, append-nil}
use Rattle.std.specs.Prelude.{slice_get}
use Rattle.std.specs.Option.{option_map}
use Rattle.std.proofs.lemmas.List.{get_or-take, length-map, length-take, map-append, map-set, take-map, take_more}
use Rattle.std.proofs.lemmas.List.Elements.{All-set}
use Rattle.std.proofs.lemmas.Option.{none-some, same_Some, slice_get-map}
use Rattle.sal_rows.specs.declared.op.Op.{Op}
use Rattle.sal_rows.specs.declared.outcome.Outcome.{Outcome}
use Rattle.sal_rows.specs.Commits.{tree_after, tree_at}
use Rattle.sal_tree.specs.declared.commit.Commit.{Commit}
use Rattle.sal_graft.specs.Kept.{AreKept, all_ops, chains_of, opening_in, ops_of}
use Rattle.sal_graft.proofs.KeptLemmas.{length-ops_of}
use Rattle.sal_tx.specs.declared.tx.Submission.{Submission}
use Rattle.sal_commit.specs.declared.domain.Domain.{Domain as Stored}
use Rattle.sal_commit.specs.Domains.{IsSame}
use Rattle.sal_commit.specs.Stamps.{first_receipt, receipts_of}
use Rattle.sal_commit.specs.Versions.{tables_of}
use Rattle.sal_schema.specs.declared.table.SchemaTable.{SchemaTable}
use Rattle.sal_history.specs.World.{Domain}
use Rattle.sal_history.specs.History.{decide_front, decide_next}
use Rattle.sal_history.specs.Submissions.{Sent}
use Rattle.sal_hub.specs.declared.pipeline.Pipeline.{Pipeline}
use Rattle.sal_hub.specs.Failures.{cut_failures}
use Rattle.sal_hub.specs.PipelineView.{AllKept, AreDecided, Decides, HasGrown, HaveGrown, PipelineView, DomainView, Reach, counts_of, cut_all, is_live_in, queue_of, shown, table_in, world_in}
use Rattle.sal_hub.proofs.Deciding.{versions-same}
use Rattle.sal_hub.proofs.Listed.{Grows-then, length-Grows, slice_get_at, take-Grows}
use Rattle.sal_hub.proofs.Noted.{cut_twice}

-- ---- commits

take_shorter : {X : Type 0} (xs : List X) (j k : ℕ) → j ≤ k → take j (take k xs) ≡ take j xs
take_shorter [] zero zero h = refl
take_shorter [] zero (suc k) h = refl
take_shorter [] (suc j) zero h = refl
take_shorter [] (suc j) (suc k) h = refl
take_shorter (x ∷ xs) zero zero h = refl
take_shorter (x ∷ xs) zero (suc k) h = refl
take_shorter (x ∷ xs) (suc j) zero h = absurd (omega (arith, h))
take_shorter (x ∷ xs) (suc j) (suc k) h = ap (λ (ys : List _). x ∷ ys) (take_shorter xs j k (omega (arith, h)))

all_ops-take : (cs : List Commit) (k : ℕ) → all_ops (take k cs) ≡ take k (all_ops cs)
all_ops-take [] zero = refl
all_ops-take [] (suc k) = refl
all_ops-take (c ∷ cs) zero = refl
all_ops-take (c ∷ cs) (suc k) = ap (λ (xs : List (List Op)). c.ops.value ∷ xs) (all_ops-take cs k)

pub opening-take : (cs : List Commit) (k : ℕ) → opening_in (take (suc k) cs) ≡ opening_in cs
opening-take [] k = refl
opening-take (c ∷ cs) k = refl

pub ops_of-take : (cs : List Commit) (k : ℕ) → ops_of (take (suc k) cs) ≡ take k (ops_of cs)
ops_of-take [] zero = refl
ops_of-take [] (suc k) = refl
ops_of-take (c ∷ cs) k = all_ops-take cs k

chains-take : (cs : List Commit) (k : ℕ) → map (λ (c : Commit). c.chain) (take k cs) ≡ take k (map (λ (c : Commit). c.chain) cs)
chains-take [] zero = refl
chains-take [] (suc k) = refl
chains-take (c ∷ cs) zero = refl
chains-take (c ∷ cs) (suc k) = ap (λ (xs : List (Option ℕ)). c.chain ∷ xs) (chains-take cs k)

chains_of-take : (cs : List Commit) (k : ℕ) → chains_of (take (suc k) cs) ≡ take k (chains_of cs)
chains_of-take [] zero = refl
chains_of-take [] (suc k) = refl
chains_of-take (c ∷ cs) k = chains-take cs k

pub receipts_of-take : (cs : List Commit) (k : ℕ) → receipts_of (take (suc k) cs) ≡ take (suc k) (receipts_of cs)
receipts_of-take [] k = refl
receipts_of-take (c ∷ cs) k = ap (λ rs. (c.receipt - c.receipt) ∷ rs) (sym (take-map (λ (x : Commit). x.receipt - c.receipt) k cs))

AreKept-take : (cs : List Commit) (k : ℕ) → AreKept cs → AreKept (take (suc k) cs)
AreKept-take cs k are = record {
  opened = omega (arith, length-take (suc k) cs, are.opened);
  numbers = λ j c h is.
      let short : j < suc k = omega (arith, h, length-take (suc k) cs) in
      are.numbers j c (omega (arith, h, length-take (suc k) cs)) (is ∙ get_or-take (suc k) cs j c short);
  trees = λ j c s h is.
      let short : j < suc k = omega (arith, h, length-take (suc k) cs) in
      let within : j < length cs = omega (arith, h, length-take (suc k) cs) in
      are.trees j c s within (is ∙ get_or-take (suc k) cs j c short)
      ∙ sym (ap (tree_after s (opening_in cs s)) (ap (take j) (ops_of-take cs k) ∙ take_shorter (ops_of cs) j k (omega (arith, short))))
      ∙ (λ i. tree_at (sym (opening-take cs k) i) (ops_of (take (suc k) cs)) s j);
}

-- ---- domains

-- one more is cut
pub cut_more : (ds : List DomainView) (ks : List ℕ) (i k : ℕ) (d : DomainView) → slice_get ks i ≡ Some k → slice_get (cut_all ds (take i ks)) i ≡ Some d → set (cut_all ds (take i ks)) i (record d { ops = take k d.ops; chains = take k d.chains; receipts = take (k + 1) d.receipts }) ≡ cut_all ds (take (suc i) ks)
cut_more [] ks i k d at_k at_d = cc
cut_more (x ∷ ds) [] i k d at_k at_d = cc
cut_more (x ∷ ds) (j ∷ ks) zero k d at_k at_d =
    (λ i. (let e : DomainView = record (sym (same_Some x d at_d) i) { ops = take (sym (same_Some j k at_k) i) (sym (same_Some x d at_d) i).ops; chains = take (sym (same_Some j k at_k) i) (sym (same_Some x d at_d) i).chains; receipts = take (sym (same_Some j k at_k) i + 1) (sym (same_Some x d at_d) i).receipts } in e) ∷ none ds i)
  where
    none : (es : List DomainView) → es ≡ cut_all es []
    none [] = refl
    none (e ∷ es) = refl
cut_more (x ∷ ds) (j ∷ ks) (suc i) k d at_k at_d = ap (λ (es : List DomainView). record x { ops = take j x.ops; chains = take j x.chains; receipts = take (j + 1) x.receipts } ∷ es) (cut_more ds ks i k d at_k at_d)

-- each domain has a chain and a receipt for each commit, and a receipt for the opening
abbrev AreLevel : List DomainView → Type 0
AreLevel [] = Unit {0}
AreLevel (d ∷ ds) = ((length d.ops ≡ length d.chains) × (length d.ops + 1 ≡ length d.receipts)) × AreLevel ds

as_long : (cs : List Commit) → length (all_ops cs) ≡ length (map (λ (c : Commit). c.chain) cs)
as_long [] = refl
as_long (c ∷ cs) = ap suc (as_long cs)

level : (ds : List Stored) → AllKept ds → AreLevel (map shown ds)
level [] kept = tt
level (d ∷ ds) kept = ((each d.commits.items, with_opening d.commits.items (kept 0 d (omega arith)).opened), level ds (λ k x short. kept (suc k) x (omega (arith, short))))
  where
    each : (cs : List Commit) → length (ops_of cs) ≡ length (chains_of cs)
    each [] = refl
    each (c ∷ cs) = as_long cs

    with_opening : (cs : List Commit) → 1 ≤ length cs → length (ops_of cs) + 1 ≡ length (receipts_of cs)
    with_opening cs some = omega (arith, length-ops_of cs some, length-map cs (λ (c : Commit). c.receipt - first_receipt cs), some)

-- longer lists are cut back to those before
cut_back : (ds es : List DomainView) → AreLevel ds → HaveGrown ds es → cut_all es (counts_of ds) ≡ ds
cut_back [] [] even grown = refl
cut_back [] (e ∷ es) even grown = absurd grown
cut_back (d ∷ ds) [] even grown = absurd grown
cut_back (d ∷ ds) (e ∷ es) even grown =
    let ops : take (length d.ops) e.ops ≡ d.ops = take-Grows d.ops e.ops grown.0.1 in
    let chains : take (length d.ops) e.chains ≡ d.chains = ap (λ n. take n e.chains) even.0.0 ∙ take-Grows d.chains e.chains grown.0.2 in
    let receipts : take (length d.ops + 1) e.receipts ≡ d.receipts = ap (λ n. take n e.receipts) even.0.1 ∙ take-Grows d.receipts e.receipts grown.0.3 in
    (λ i. (let x : DomainView = record (grown.0.0 i) { ops = ops i; chains = chains i; receipts = receipts i } in x) ∷ cut_back ds es even.1 grown.1 i)

-- ---- one decision after another

HaveGrown-then : (ds es fs : List DomainView) → HaveGrown ds es → HaveGrown es fs → HaveGrown ds fs
HaveGrown-then [] [] [] g h = tt
HaveGrown-then [] [] (f ∷ fs) g h = absurd h
HaveGrown-then [] (e ∷ es) fs g h = absurd g
HaveGrown-then (d ∷ ds) [] fs g h = absurd g
HaveGrown-then (d ∷ ds) (e ∷ es) [] g h = absurd h
HaveGrown-then (d ∷ ds) (e ∷ es) (f ∷ fs) g h = (
  (h.0.0 ∙ ap (λ (x : DomainView). let y : DomainView = record x { ops = f.ops; chains = f.chains; receipts = f.receipts } in y) g.0.0, Grows-then d.ops e.ops f.ops g.0.1 h.0.1, Grows-then d.chains e.chains f.chains g.0.2 h.0.2, Grows-then d.receipts e.receipts f.receipts g.0.3 h.0.3),
  HaveGrown-then ds es fs g.1 h.1,
)

pub HasGrown-then : (a b c : PipelineView) → HasGrown a b → HasGrown b c → HasGrown a c
HasGrown-then a b c g h = record {
  domains = HaveGrown-then a.domains b.domains c.domains g.domains h.domains;
  gone = h.gone ∙ g.gone;
  waiting = h.waiting ∙ g.waiting;
  outcomes = Grows-then a.outcomes b.outcomes c.outcomes g.outcomes h.outcomes;
  failures =
      sym (cut_twice (length a.outcomes) (length b.outcomes) c.failures (length-Grows a.outcomes b.outcomes g.outcomes))
      ∙ ap (cut_failures (length a.outcomes)) h.failures ∙ g.failures;
}

decide_next-plus : (world : List Domain) (tables : ℕ → SchemaTable) (live : ℕ → Bool) (ss : List Sent) (os : List Outcome) (m n : ℕ) → decide_next world tables live ss os (m + n) ≡ decide_next world tables live ss os m ++ decide_next world tables live ss (os ++ decide_next world tables live ss os m) n
decide_next-plus world tables live ss os zero n =
    let e : 0 + n ≡ n = omega arith in
    ap (decide_next world tables live ss os) e ∙ ap (λ (us : List Outcome). decide_next world tables live ss us n) (sym (append-nil os))
decide_next-plus world tables live ss os (suc m) n =
    let e : suc m + n ≡ suc (m + n) = omega arith in
    let front : List Outcome = decide_front world tables live ss os (slice_get ss (length os)) in
    ap (decide_next world tables live ss os) e
    ∙ ap (λ (us : List Outcome). front ++ us) (decide_next-plus world tables live ss (os ++ front) m n)
    ∙ sym (append_assoc front (decide_next world tables live ss (os ++ front) m) (decide_next world tables live ss ((os ++ front) ++ decide_next world tables live ss (os ++ front) m) n))
    ∙ ap (λ (us : List Outcome). (front ++ decide_next world tables live ss (os ++ front) m) ++ decide_next world tables live ss us n) (append_assoc os front (decide_next world tables live ss (os ++ front) m))

pub Decides-none : (queue : PipelineView) → Decides queue 0 queue
Decides-none queue = λ ss sound. record { sound = sound; world = refl; live = λ n. refl; versions = versions-same queue.domains; outcomes = sym (append-nil queue.outcomes); chains = refl }

AreDecided-then : (ss : List Sent) (a b c : PipelineView) (m n k : ℕ) → k ≡ m + n → AreDecided ss a m b → AreDecided ss b n c → AreDecided ss a k c
AreDecided-then ss a b c m n k sum g h =
    let w : List Domain = world_in a.domains in
    let t : ℕ → SchemaTable = table_in a.domains in
    let l : ℕ → Bool = is_live_in a.domains in
    record {
      sound = h.sound;
      world = h.world ∙ g.world;
      live = λ d. h.live d ∙ g.live d;
      versions = record { tables = λ d. h.versions.tables d ∙ g.versions.tables d; versions = λ d. h.versions.versions d ∙ g.versions.versions d };
      outcomes =
          h.outcomes ∙ (λ i. g.outcomes i ++ decide_next (g.world i) (λ d. g.versions.tables d i) (λ d. g.live d i) ss (g.outcomes i) n)
          ∙ append_assoc a.outcomes (decide_next w t l ss a.outcomes m) (decide_next w t l ss (a.outcomes ++ decide_next w t l ss a.outcomes m) n)
          ∙ ap (λ (us : List Outcome). a.outcomes ++ us) (sym (decide_next-plus w t l ss a.outcomes m n) ∙ ap (decide_next w t l ss a.outcomes) (sym sum));
      chains = h.chains ∙ g.chains;
    }

pub one_more : (a b c : PipelineView) (start i : ℕ) → start ≤ i → Decides a (i - start) b → Decides b 1 c → Decides a (i + 1 - start) c
one_more a b c start i h g one = λ ss sound. AreDecided-then ss a b c (i - start) 1 (i + 1 - start) (omega (arith, h)) (g ss sound) (one ss (g ss sound).sound)

-- ---- code's lists of domains

pub cut_none : (ds : List DomainView) → ds ≡ cut_all ds []
cut_none [] = refl
cut_none (d ∷ ds) = refl

pub cut_one : (ds : List Stored) (all : List DomainView) (ks : List ℕ) (i k : ℕ) (d d' : Stored) → i < length ds → d ≡ get_or ds i d → slice_get ks i ≡ Some k → IsSame d d' → d'.commits.items ≡ take (k + 1) d.commits.items → map shown ds ≡ cut_all all (take i ks) → map shown (set ds i d') ≡ cut_all all (take (i + 1) ks)
cut_one ds all ks i k d d' within d_is at_k same commits so_far =
    let one : k + 1 ≡ suc k = omega arith in
    let more : i + 1 ≡ suc i = omega arith in
    let cs : d'.commits.items ≡ take (suc k) d.commits.items = commits ∙ ap (λ n. take n d.commits.items) one in
    let opening : opening_in d'.commits.items ≡ opening_in d.commits.items = ap opening_in cs ∙ opening-take d.commits.items k in
    let ops : ops_of d'.commits.items ≡ take k (ops_of d.commits.items) = ap ops_of cs ∙ ops_of-take d.commits.items k in
    let chains : chains_of d'.commits.items ≡ take k (chains_of d.commits.items) = ap chains_of cs ∙ chains_of-take d.commits.items k in
    let receipts : receipts_of d'.commits.items ≡ take (k + 1) (receipts_of d.commits.items) = ap receipts_of cs ∙ receipts_of-take d.commits.items k ∙ ap (λ n. take n (receipts_of d.commits.items)) (sym one) in
    let cut : shown d' ≡ record (shown d) { ops = take k (shown d).ops; chains = take k (shown d).chains; receipts = take (k + 1) (shown d).receipts } =
    λ j. record {
      number = same.number j;
      live = same.live j;
      table = (same.schema j).value;
      first = (same.first j).value;
      upgrades = tables_of (same.upgrades j).items;
      version = same.version j;
      since = same.since j;
      rules = same.rules j;
      opening = opening j;
      ops = ops j;
      chains = chains j;
      receipts = receipts j;
    } in
    let here : slice_get (cut_all all (take i ks)) i ≡ Some (shown d) =
    ap (λ (es : List DomainView). slice_get es i) (sym so_far) ∙ slice_get-map shown ds i ∙ ap (option_map shown) (slice_get_at ds i d within d_is) in
    map-set shown ds i d' ∙ (λ j. set (so_far j) i (cut j)) ∙ cut_more all ks i k (shown d) at_k here ∙ ap (λ n. cut_all all (take n ks)) (sym more)

pub kept_one : (ds : List Stored) (i k : ℕ) (d d' : Stored) → i < length ds → d ≡ get_or ds i d → d'.commits.items ≡ take (k + 1) d.commits.items → AllKept ds → AllKept (set ds i d')
kept_one ds i k d d' within d_is commits all =
    let one : k + 1 ≡ suc k = omega arith in
    let was : AreKept d.commits.items = subst (λ (x : Stored). AreKept x.commits.items) (sym d_is) (all i d within) in
    All-set (λ (x : Stored). AreKept x.commits.items) ds i d' (subst AreKept (sym (commits ∙ ap (λ n. take n d.commits.items) one)) (AreKept-take d.commits.items k was)) all

pub counted : (ds : List Stored) (i : ℕ) (d : Stored) → i < length ds → d ≡ get_or ds i d → counts_of (map shown (take (i + 1) ds)) ≡ counts_of (map shown (take i ds)) ++ length (ops_of d.commits.items) ∷ []
counted ds i d within d_is =
    ap (λ (xs : List Stored). counts_of (map shown xs)) (take_more ds i d within ∙ ap (λ (x : Stored). take i ds ++ x ∷ []) (sym d_is))
    ∙ ap counts_of (map-append shown (take i ds) (d ∷ [])) ∙ map-append (λ (x : DomainView). length x.ops) (map shown (take i ds)) (shown d ∷ [])

-- ---- the last upgrade stays

-- each domain has as many commits as it was upgraded at
own_reach : (ds : List Stored) → AllKept ds → Reach (map shown ds) (counts_of (map shown ds))
own_reach [] kept n k d at_d at_k = absurd (none-some d at_d)
own_reach (x ∷ ds) kept zero k d at_d at_k =
    let count : length (ops_of x.commits.items) ≡ k = same_Some (length (ops_of x.commits.items)) k at_k in
    let low : x.since ≤ k = omega (arith, x.reached, count, length-ops_of x.commits.items (kept 0 x (omega arith)).opened) in
    subst (λ (e : DomainView). e.since ≤ k) (same_Some (shown x) d at_d) low
own_reach (x ∷ ds) kept (suc n) k d at_d at_k = own_reach ds (λ j y short. kept (suc j) y (omega (arith, short))) n k d at_d at_k

grown_since : (ds es : List DomainView) → HaveGrown ds es → (n : ℕ) (e : DomainView) → slice_get es n ≡ Some e → (d : DomainView) × (slice_get ds n ≡ Some d) × (e.since ≡ d.since)
grown_since [] [] grown n e at = absurd (none-some e at)
grown_since [] (y ∷ es) grown n e at = absurd grown
grown_since (d ∷ ds) [] grown n e at = absurd grown
grown_since (d ∷ ds) (y ∷ es) grown zero e at = (d, refl, ap (λ (x : DomainView). x.since) (sym (same_Some y e at)) ∙ ap (λ (x : DomainView). x.since) grown.0.0)
grown_since (d ∷ ds) (y ∷ es) grown (suc n) e at = grown_since ds es grown.1 n e at

cut_since : (ds : List DomainView) (ks : List ℕ) (n : ℕ) (e : DomainView) → slice_get (cut_all ds ks) n ≡ Some e → (d : DomainView) × (slice_get ds n ≡ Some d) × (e.since ≡ d.since)
cut_since [] ks n e at = absurd (none-some e at)
cut_since (d ∷ ds) [] n e at = (e, at, refl)
cut_since (d ∷ ds) (k ∷ ks) zero e at = (
  d,
  refl,
  ap (λ (x : DomainView). x.since) (sym (same_Some (let y : DomainView = record d { ops = take k d.ops; chains = take k d.chains; receipts = take (k + 1) d.receipts } in y) e at)),
)
cut_since (d ∷ ds) (k ∷ ks) (suc n) e at = cut_since ds ks n e at

-- a domain that is to be cut next
pub cut_reaches : (ds : List Stored) (all : List DomainView) (ks : List ℕ) (i k : ℕ) (d : Stored) → Reach all ks → i < length ds → d ≡ get_or ds i d → slice_get ks i ≡ Some k → map shown ds ≡ cut_all all (take i ks) → d.since ≤ k
cut_reaches ds all ks i k d reach within d_is at_k so_far =
    let here : slice_get (cut_all all (take i ks)) i ≡ Some (shown d) =
    ap (λ (es : List DomainView). slice_get es i) (sym so_far) ∙ slice_get-map shown ds i ∙ ap (option_map shown) (slice_get_at ds i d within d_is) in
    let (e, at_e, same) = cut_since all (take i ks) i (shown d) here in
    subst (λ n. n ≤ k) (sym same) (reach i k e at_e at_k)

-- the decisions since are undone
HaveGrown-long : (ds es : List DomainView) → HaveGrown ds es → length es ≡ length ds
HaveGrown-long [] [] grown = refl
HaveGrown-long [] (e ∷ es) grown = absurd grown
HaveGrown-long (d ∷ ds) [] grown = absurd grown
HaveGrown-long (d ∷ ds) (e ∷ es) grown = ap suc (HaveGrown-long ds es grown.1)

module _ (old new : Pipeline) (kept : AllKept old.domains.items) (grown : HasGrown (queue_of old) (queue_of new)) (counts : List ℕ) (counts_are : counts ≡ counts_of (map shown old.domains.items)) where
  pub as_many : length counts ≡ length new.domains.items
  as_many =
      ap length counts_are ∙ length-map (map shown old.domains.items) (λ (d : DomainView). length d.ops)
      ∙ sym (HaveGrown-long (map shown old.domains.items) (map shown new.domains.items) grown.domains) ∙ length-map new.domains.items shown

  pub reaches : Reach (map shown new.domains.items) counts
  reaches n k e at_e at_k =
      let (d, at_d, same) = grown_since (map shown old.domains.items) (map shown new.domains.items) grown.domains n e at_e in
      let low : d.since ≤ k = own_reach old.domains.items kept n k d at_d (ap (λ (ks : List ℕ). slice_get ks n) (sym counts_are) ∙ at_k) in
      subst (λ m. m ≤ k) (sym same) low

  pub taken_back : (ds : List Stored) (gone : ℕ) (ss : List Submission) (os : List Outcome) (fs : List (Option ℕ)) → map shown ds ≡ cut_all (map shown new.domains.items) counts → gone ≡ new.gone → ss ≡ new.waiting.items → os ≡ take (length old.outcomes.items) new.outcomes.items → fs ≡ cut_failures (length old.outcomes.items) new.failures.items
      → ◌≡◌ {A = PipelineView} (record { domains = map shown ds; gone = gone; waiting = ss; outcomes = os; failures = fs }) (queue_of old)
  taken_back ds gone ss os fs cut as_gone same taken forgotten =
      let domains : map shown ds ≡ map shown old.domains.items = cut ∙ ap (cut_all (map shown new.domains.items)) counts_are ∙ cut_back (map shown old.domains.items) (map shown new.domains.items) (level old.domains.items kept) grown.domains in
      let outcomes : os ≡ old.outcomes.items = taken ∙ take-Grows old.outcomes.items new.outcomes.items grown.outcomes in
      λ i. record { domains = domains i; gone = (as_gone ∙ grown.gone) i; waiting = (same ∙ grown.waiting) i; outcomes = outcomes i; failures = (forgotten ∙ grown.failures) i }
