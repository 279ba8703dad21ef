-- The walk over two trees finds the breaches of the later one, where the earlier one has none and is kept but for new stamps.
use Rattle.std.proofs.Common.{◌≡◌, ℕ, Bool, true, false, cond, ◌&&◌, ◌||◌, List, [], ◌∷◌, ◌++◌, inl, inr, Option, Some, None, refl, sym, ap, subst, ◌∙◌, length, map}
use Rattle.std.proofs.lemmas.Bool.{and_parts, or_parts, or_right}
use Rattle.std.specs.Prelude.{◌==◌, nat_le, nat_lt, if◌then◌else◌}
use Rattle.std.specs.List.{fold, flat_map, list_any}
use Rattle.std.specs.FinMap.{find}
use Rattle.std.specs.Ordering.{is_lt}
use Rattle.sal_types.specs.declared.value.Store.{Store}
use Rattle.sal_types.specs.declared.value.Step.{Step}
use Rattle.sal_types.specs.declared.value.Step.TheVariants.{Node}
use Rattle.sal_types.specs.Order.{step_cmp}
use Rattle.sal_node.specs.Tree.{Tree, Forest, bare, grown, pairs, IsGrove}
use Rattle.sal_schema.specs.declared.table.SchemaTable.{SchemaTable}
use Rattle.sal_schema.specs.Kinds.{has_entries, is_list}
use Rattle.sal_schema.specs.Table.{is_kind, is_same, data_parent, min_elements, uniques_of}
use Rattle.sal_tree.specs.Follows.{Follows, exactly}
use Rattle.sal_tree.specs.History.{IsOneOf}
use Rattle.sal_tree.specs.Graft.{Setting, Touch, IsGrafted, CanGraft}
use Rattle.sal_tree.specs.Grow.{at, kid, kids_in, IsSound}
use Rattle.sal_tree.specs.Rows.{rows_of}
use Rattle.sal_tree.proofs.Follows.{Follows-wider}
use Rattle.sal_tree.proofs.Laws.{eq, same, grove-sorted, sound-kid}
use Rattle.sal_rows.specs.declared.outcome.Breach.{Breach}
use Rattle.sal_rows.specs.declared.outcome.Rule.{Rule}
use Rattle.sal_rows.specs.declared.outcome.Rule.TheVariants.{Mandatory, MinElements, MaxElements, Unique, TwoCases}
use Rattle.sal_rules.specs.declared.spot.Spot.{Spot}
use Rattle.sal_rules.specs.Breaches.{breach_of, breaches_at, breach, keep, least, breach_cmp, rules_of, is_looked_at}
use Rattle.sal_rules.specs.Contexts.{way, way_in_entry, stand}
use Rattle.sal_check.specs.Near.{is_new, Keeps, KeepsAt, is_kept, is_settled, agree_freshly, repeats_freshly, breach_if, broken_near, near_of, near_all, near_at, near_below, near}
use Rattle.sal_check.specs.Nodes.{seen_in, judged, found_at, found_below, found, own_steps}
use Rattle.sal_rules.specs.Places.{root_spot, after_step}
use Rattle.sal_rules.specs.Rules.{broken, combinations, has_double, has_minimum, is_demanded, repeats}
use Rattle.sal_check.proofs.Combined.{combinations-seen}
use Rattle.sal_check.proofs.Freshly.{agree-freshly}
use Rattle.sal_check.proofs.Members.{In}
use Rattle.sal_check.proofs.NearRows.{too_many-local, repeats-local}
use Rattle.sal_check.proofs.Walked.{find-in, breach-found}
use Rattle.sal_tree.proofs.Spans.{same_test}
use Rattle.sal_rows.proofs.Named.{not_true}

-- ---- lists

left_none : {X : Type 0} (xs ys : List X) → xs ++ ys ≡ [] → xs ≡ []
left_none [] ys e = refl
left_none (x ∷ xs) ys e = cc

right_none : {X : Type 0} (xs ys : List X) → xs ++ ys ≡ [] → ys ≡ []
right_none [] ys e = e
right_none (x ∷ xs) ys e = cc

-- where f gives nothing, g and h give the same
flat-same : {X Y : Type 0} (f g h : X → List Y) (xs : List X) → ((x : X) → f x ≡ [] → g x ≡ h x) → flat_map f xs ≡ [] → flat_map g xs ≡ flat_map h xs
flat-same f g h [] each none = refl
flat-same f g h (x ∷ xs) each none = λ i. each x (left_none (f x) (flat_map f xs) none) i ++ flat-same f g h xs each (right_none (f x) (flat_map f xs) none) i

some_kept : (a : Breach) (xs : List Breach) → fold keep (Some a) xs ≡ None → ⊥
some_kept a [] e = cc
some_kept a (x ∷ xs) e = elim (is_lt (breach_cmp x a)) as (λ b. fold keep (if b then Some x else Some a) xs ≡ None → ⊥) [ true ↦ λ f. some_kept x xs f | false ↦ λ f. some_kept a xs f ] e

least-none : (xs : List Breach) → least xs ≡ None → xs ≡ []
least-none [] e = refl
least-none (x ∷ xs) e = absurd (some_kept x xs e)

-- ---- stamps

one_of : (stamps : List ℕ) (s : ℕ) → IsOneOf stamps s → is_new stamps s ≡ true
one_of [] s h = absurd h
one_of (k ∷ stamps) s (inl e) = ap (λ b. b || is_new stamps s) (same_test s k e)
one_of (k ∷ stamps) s (inr h) = or_right (s == k) (is_new stamps s) (one_of stamps s h)

-- a tree that follows another one keeps all nodes but those with the new stamps
pub keeps-Follows : (stamps : List ℕ) (touched : List Step → Bool) (before after : Tree) → Follows (IsOneOf stamps) touched before after → Keeps stamps before after
keeps-Follows stamps touched before after follows p n stands old =
    elim (touched p) as (λ b. touched p ≡ b → at (Some before) p ≡ Some n) [
      | true ↦ λ e. let new : is_new stamps n.stamp ≡ true = one_of stamps n.stamp (follows.stamped p n e stands) in let no_way : true ≡ false = sym new ∙ old in cc
      | false ↦ λ e. sym (follows.kept p e) ∙ stands
    ] refl

pub keeps-edit : (stamp : ℕ) (touched : List Step → Bool) (before after : Tree) → Follows (exactly stamp) touched before after → Keeps (stamp ∷ []) before after
keeps-edit stamp touched before after follows = keeps-Follows (stamp ∷ []) touched before after (Follows-wider (exactly stamp) (IsOneOf (stamp ∷ [])) touched before after (λ k e. inl e) follows)

-- a graft keeps the tip but for the nodes of the view and the fresh ones
pub keeps-graft : (own fresh : ℕ) (set : Setting) (touched : Touch) (base view : Option Tree) (tip made : Tree) → CanGraft own set touched base view (Some tip) → IsGrafted fresh set touched view (Some tip) (Some made) → Keeps (own ∷ fresh ∷ []) tip made
keeps-graft own fresh set touched base view tip made can is p n stands old =
    elim (touched p) as (λ b. touched p ≡ b → at (Some tip) p ≡ Some n) [
      | true ↦ λ e. absurd (elim (is.stamped p n e stands) [
        | inl there ↦ must_be_old (inl (can.view_stamped p n e there))
        | inr here ↦ must_be_old (inr (inl here))
      ])
      | false ↦ λ e. sym (is.kept p e) ∙ stands
    ] refl
  where
    must_be_old : IsOneOf (own ∷ fresh ∷ []) n.stamp → ⊥
    must_be_old h = let new : is_new (own ∷ fresh ∷ []) n.stamp ≡ true = one_of (own ∷ fresh ∷ []) n.stamp h in let differ : true ≡ false = sym new ∙ old in cc

pub keeps-itself : (stamps : List ℕ) (t : Tree) → Keeps stamps t t
keeps-itself stamps t p n stands old = stands

pub keeps-composed : (stamps : List ℕ) (t u v : Tree) → Keeps stamps t u → Keeps stamps u v → Keeps stamps t v
keeps-composed stamps t u v first later p n stands old = first p n (later p n stands old) old

kept-same : (stamps : List ℕ) (o u : Option Tree) (p : List Step) → KeepsAt stamps o u → is_kept stamps (at u p) ≡ true → at o p ≡ at u p
kept-same stamps o u p keeps e =
    elim (at u p) as (λ w. at u p ≡ w → is_kept stamps w ≡ true → at o p ≡ w) [
      | None ↦ λ is h. cc
      | Some n ↦ λ is h. keeps p n is (not_true (is_new stamps n.stamp) h)
    ] refl e

kids-keep : (stamps : List ℕ) (o : Option Tree) (t : Tree) → IsGrove t.kids → KeepsAt stamps o (Some t) → (y : Step) (k : Tree) → In (y, k) (pairs t.kids) → KeepsAt stamps (kid o y) (Some k)
kids-keep stamps o t good keeps y k i p n b old = keeps (y ∷ p) n (ap (λ (q : Option Tree). at q p) (find-in y k (pairs t.kids) (grove-sorted t.kids good) i) ∙ b) old

-- ---- one rule

untold : (l h s f : Bool) (b : Breach) → (if (l && (h && (s && false))) && f then b ∷ [] else []) ≡ []
untold true true true f b = refl
untold true true false f b = refl
untold true false s f b = refl
untold false h s f b = refl

-- without a breach where it was demanded there is none where it may not be
as_told : (l h s d e c f : Bool) (b : Breach) → d ≡ true → (if (l && (h && (s && (d && c)))) && f then b ∷ [] else []) ≡ [] → (if (l && (h && (s && (e && c)))) && f then b ∷ [] else []) ≡ []
as_told l h s d true c f b is none = subst (λ d. (if (l && (h && (s && (d && c)))) && f then b ∷ [] else []) ≡ []) is none
as_told l h s d false c f b is none = untold l h s f b

-- if a rule gives no breach, two tests that are then the same give the same
told_same : (l f v x y : Bool) (b : Breach) → (v ≡ false → x ≡ y) → (if (l && v) && f then b ∷ [] else []) ≡ [] → (if (l && x) && f then b ∷ [] else []) ≡ (if (l && y) && f then b ∷ [] else [])
told_same false f v x y b same none = refl
told_same true f false x y b same none = ap (λ z. if (true && z) && f then b ∷ [] else []) (same refl)
told_same true true true x y b same none = cc
told_same true false true true true b same none = refl
told_same true false true true false b same none = refl
told_same true false true false true b same none = refl
told_same true false true false false b same none = refl

any-same : {X : Type 0} (f g h : X → Bool) (xs : List X) → ((x : X) → f x ≡ false → g x ≡ h x) → list_any f xs ≡ false → list_any g xs ≡ list_any h xs
any-same f g h [] each none = refl
any-same f g h (x ∷ xs) each none = λ i. each x (or_parts (f x) (list_any f xs) none).0 i || any-same f g h xs each (or_parts (f x) (list_any f xs) none).1 i

module _ (stamps : List ℕ) (table : SchemaTable) (store : Store) (place : List Step) (m : Option ℕ) (b t : Tree) (was : IsGrove b.kids) (good : IsGrove t.kids) (keeps : Keeps stamps b t) where
  abbrev told : Rule → Bool → List Breach
  told rule v = breach_if table store place rule v

  -- the entries that are not fresh are those of before
  leafs-same : (n : ℕ) (leafs : List ℕ) → has_double (combinations table (seen_in (Some b)) n leafs) ≡ false → agree_freshly stamps (map (way_in_entry table) leafs) (kid (Some b) (Node n)) (kids_in (kid (Some t) (Node n))) ≡ has_double (combinations table (seen_in (Some t)) n leafs)
  leafs-same n leafs none =
      let ways : List (List Step) = map (way_in_entry table) leafs in
      let list_keeps : KeepsAt stamps (kid (Some b) (Node n)) (kid (Some t) (Node n)) = λ p k is old. keeps (Node n ∷ p) k is old in
      agree-freshly stamps ways (kid (Some b) (Node n)) (kid (Some t) (Node n)) (sound-kid (Some b) (Node n) was) (sound-kid (Some t) (Node n) good) list_keeps
      (ap has_double (sym (combinations-seen table (Some b) n leafs was)) ∙ none)
      ∙ ap has_double (sym (combinations-seen table (Some t) n leafs good))

  unique-same : (n : ℕ) → broken table (seen_in (Some b)) m (Unique n) ≡ false → broken_near stamps table (Some b) t m (Unique n) ≡ broken table (seen_in (Some t)) m (Unique n)
  unique-same n none = by_tests (is_kind is_list table n) (is_same (data_parent table n) m) none
    where
      by_tests : (l s : Bool) → (l && (s && repeats table (seen_in (Some b)) n)) ≡ false → (l && (s && repeats_freshly stamps table b t n)) ≡ (l && (s && repeats table (seen_in (Some t)) n))
      by_tests false s h = refl
      by_tests true false h = refl
      by_tests true true h =
          any-same (λ leafs. has_double (combinations table (seen_in (Some b)) n leafs)) (λ leafs. agree_freshly stamps (map (way_in_entry table) leafs) (kid (Some b) (Node n)) (kids_in (kid (Some t) (Node n)))) (λ leafs. has_double (combinations table (seen_in (Some t)) n leafs)) (uniques_of table n)
          (leafs-same n) h

  near_same : (rule : Rule) → breach_of table store place (seen_in (Some b)) m rule ≡ [] → told rule (broken_near stamps table (Some b) t m rule) ≡ breach_of table store place (seen_in (Some t)) m rule
  near_same (Mandatory n) none = refl
  near_same (MinElements n) none = refl
  near_same (MaxElements n) none = refl
  near_same (TwoCases n) none = refl
  near_same (Unique n) none =
      told_same (is_looked_at table store n) (nat_le (length (place ++ Node n ∷ [])) 32) (broken table (seen_in (Some b)) m (Unique n)) (broken_near stamps table (Some b) t m (Unique n)) (broken table (seen_in (Some t)) m (Unique n))
      (record { path = place ++ Node n ∷ []; rule = Unique n }) (unique-same n) none

  same_list : (n : ℕ) → is_kept stamps (kid (Some t) (Node n)) ≡ true → seen_in (kid (Some b) (Node n)) ≡ seen_in (kid (Some t) (Node n))
  same_list n e = ap seen_in (kept-same stamps (Some b) (Some t) (Node n ∷ []) keeps e)

  -- a rule that is settled is kept, where it was before
  settled : (rule : Rule) → is_settled stamps table (Some b) (Some t) rule ≡ true → breach_of table store place (seen_in (Some b)) m rule ≡ [] → breach_of table store place (seen_in (Some t)) m rule ≡ []
  settled (Mandatory n) e none = cc
  settled (MinElements n) e none =
      let p : List Step = way table n ++ Node n ∷ [] in
      let tests : (is_demanded table (seen_in (Some b)) n && is_kept stamps (at (Some t) p)) ≡ true = (and_parts (has_minimum table n) _ e).1 in
      let was : is_demanded table (seen_in (Some b)) n ≡ true = (and_parts _ (is_kept stamps (at (Some t) p)) tests).0 in
      let list : at (Some b) p ≡ at (Some t) p = kept-same stamps (Some b) (Some t) p keeps (and_parts (is_demanded table (seen_in (Some b)) n) _ tests).1 in
      let few : nat_lt (length (own_steps (kids_in (at (Some b) p)))) (min_elements table n) ≡ nat_lt (length (own_steps (kids_in (at (Some t) p)))) (min_elements table n) = ap (λ (o : Option Tree). nat_lt (length (own_steps (kids_in o))) (min_elements table n)) list in
      ap (λ c. told (MinElements n) (has_minimum table n && (is_same (stand table n) m && (is_demanded table (seen_in (Some t)) n && c)))) (sym few)
      ∙ as_told (is_looked_at table store n) (has_minimum table n) (is_same (stand table n) m) (is_demanded table (seen_in (Some b)) n) (is_demanded table (seen_in (Some t)) n)
      (nat_lt (length (own_steps (kids_in (at (Some b) p)))) (min_elements table n)) (nat_le (length (place ++ p)) 32) (record { path = place ++ p; rule = MinElements n }) was none
  settled (MaxElements n) e none = ap (told (MaxElements n)) (sym (too_many-local table m n (seen_in (Some b)) (seen_in (Some t)) (same_list n (and_parts (is_kind has_entries table n) _ e).1))) ∙ none
  settled (Unique n) e none = ap (told (Unique n)) (sym (repeats-local table m n (seen_in (Some b)) (seen_in (Some t)) (same_list n (and_parts (is_kind has_entries table n) _ e).1))) ∙ none
  settled (TwoCases n) e none = cc

  one : (rule : Rule) → breach_of table store place (seen_in (Some b)) m rule ≡ [] → near_of stamps table store place (Some b) t m rule ≡ breach_of table store place (seen_in (Some t)) m rule
  one rule none = elim (is_settled stamps table (Some b) (Some t) rule) as (λ c. is_settled stamps table (Some b) (Some t) rule ≡ c → (if c then [] else told rule (broken_near stamps table (Some b) t m rule)) ≡ breach_of table store place (seen_in (Some t)) m rule) [
    | true ↦ λ e. sym (settled rule e none)
    | false ↦ λ e. near_same rule none
  ] refl

  all_of : (nodes : List ℕ) → breaches_at table store place (seen_in (Some b)) m nodes ≡ [] → near_all stamps table store place (Some b) t m nodes ≡ breaches_at table store place (seen_in (Some t)) m nodes
  all_of nodes none =
      flat-same (λ n. flat_map (breach_of table store place (seen_in (Some b)) m) (rules_of n)) (λ n. flat_map (near_of stamps table store place (Some b) t m) (rules_of n)) (λ n. flat_map (breach_of table store place (seen_in (Some t)) m) (rules_of n)) nodes
      (λ n here. flat-same (breach_of table store place (seen_in (Some b)) m) (near_of stamps table store place (Some b) t m) (breach_of table store place (seen_in (Some t)) m) (rules_of n) one here) none

-- ---- the walk

module _ (stamps : List ℕ) (table : SchemaTable) (store : Store) where
  -- no rule is broken at the node or below it
  abbrev pub IsQuiet : List Step → Spot → Option Tree → Type 0
  IsQuiet place spot None = Unit {0}
  IsQuiet place spot (Some b) = found table store place spot b ≡ []

  at-same : (place : List Step) (spot : Spot) (o : Option Tree) (t : Tree) → IsSound o → IsGrove t.kids → KeepsAt stamps o (Some t) → IsQuiet place spot o → near_at stamps table store place spot o t ≡ found_at table store place spot t
  at-same place spot None t was good keeps quiet = refl
  at-same place spot (Some b) t was good keeps quiet = by_test spot.wants_entry (left_none (found_at table store place spot b) (found_below table store place spot b.kids) quiet)
    where
      by_test : (w : Bool) → (if w then [] else breaches_at table store place (seen_in (Some b)) spot.node (judged table spot.node)) ≡ []
          → (if w then [] else near_all stamps table store place (Some b) t spot.node (judged table spot.node)) ≡ (if w then [] else breaches_at table store place (seen_in (Some t)) spot.node (judged table spot.node))
      by_test true none = refl
      by_test false none = all_of stamps table store place spot.node b t was good keeps (judged table spot.node) none

  quiet-below : (place : List Step) (spot : Spot) (x : Step) (f : Forest) → found_below table store place spot f ≡ [] → IsQuiet (place ++ x ∷ []) (after_step table spot x) (find step_cmp x (pairs f))
  quiet-below place spot x bare none = tt
  quiet-below place spot x (grown y s c ks rest) none =
      let k : Tree = record { stamp = s; cell = c; kids = ks } in
      let here : found table store (place ++ y ∷ []) (after_step table spot y) k ≡ [] = left_none (found table store (place ++ y ∷ []) (after_step table spot y) k) (found_below table store place spot rest) none in
      let later = quiet-below place spot x rest (right_none (found table store (place ++ y ∷ []) (after_step table spot y) k) (found_below table store place spot rest) none) in
      elim (eq x y) as (λ c. eq x y ≡ c → IsQuiet (place ++ x ∷ []) (after_step table spot x) (cond c (Some k) (find step_cmp x (pairs rest)))) [
        | true ↦ λ e. subst (λ z. found table store (place ++ z ∷ []) (after_step table spot z) k ≡ []) (sym (same x y e)) here
        | false ↦ λ e. later
      ] refl

  quiet-kid : (place : List Step) (spot : Spot) (o : Option Tree) (x : Step) → IsQuiet place spot o → IsQuiet (place ++ x ∷ []) (after_step table spot x) (kid o x)
  quiet-kid place spot None x quiet = tt
  quiet-kid place spot (Some b) x quiet = quiet-below place spot x b.kids (right_none (found_at table store place spot b) (found_below table store place spot b.kids) quiet)

  node-same : (place : List Step) (spot : Spot) (o : Option Tree) (t : Tree) → IsSound o → IsGrove t.kids → KeepsAt stamps o (Some t) → IsQuiet place spot o → near_below stamps table store place spot o t.kids ≡ found_below table store place spot t.kids → near stamps table store place spot o t ≡ found table store place spot t
  node-same place spot o t was good keeps quiet low = elim (is_new stamps t.stamp) as (λ b. is_new stamps t.stamp ≡ b → (if b then near_at stamps table store place spot o t ++ near_below stamps table store place spot o t.kids else []) ≡ found table store place spot t) [
    | true ↦ λ e. λ i. at-same place spot o t was good keeps quiet i ++ low i
    | false ↦ λ e. sym (subst (IsQuiet place spot) (keeps [] t refl e) quiet)
  ] refl

  below-same : (place : List Step) (spot : Spot) (o : Option Tree) (f : Forest) → IsSound o → IsGrove f → IsQuiet place spot o → ((y : Step) (k : Tree) → In (y, k) (pairs f) → KeepsAt stamps (kid o y) (Some k)) → near_below stamps table store place spot o f ≡ found_below table store place spot f
  below-same place spot o bare was good quiet keeps = refl
  below-same place spot o (grown x s c ks rest) was good quiet keeps =
      let k : Tree = record { stamp = s; cell = c; kids = ks } in
      let kid_keeps : KeepsAt stamps (kid o x) (Some k) = keeps x k (inl refl) in
      let kid_quiet = quiet-kid place spot o x quiet in
      let kid_sound = sound-kid o x was in
      let low = below-same (place ++ x ∷ []) (after_step table spot x) (kid o x) ks kid_sound good.1.0 kid_quiet (kids-keep stamps (kid o x) k good.1.0 kid_keeps) in
      let later = below-same place spot o rest was good.1.1 quiet (λ y l i. keeps y l (inr i)) in
      λ i. node-same (place ++ x ∷ []) (after_step table spot x) (kid o x) k kid_sound good.1.0 kid_keeps kid_quiet low i ++ later i

  -- the walk over both trees finds what the walk over the later one does
  pub near-found : (before after : Tree) → IsGrove before.kids → IsGrove after.kids → Keeps stamps before after → breach table store (rows_of before) ≡ None → near stamps table store [] root_spot (Some before) after ≡ found table store [] root_spot after
  near-found before after was good keeps none =
      let quiet : found table store [] root_spot before ≡ [] = least-none (found table store [] root_spot before) (breach-found table store before was ∙ none) in
      node-same [] root_spot (Some before) after was good keeps quiet (below-same [] root_spot (Some before) after.kids was good quiet (kids-keep stamps (Some before) after good keeps))

  pub near-breach : (before after : Tree) → IsGrove before.kids → IsGrove after.kids → Keeps stamps before after → breach table store (rows_of before) ≡ None → least (near stamps table store [] root_spot (Some before) after) ≡ breach table store (rows_of after)
  near-breach before after was good keeps none = ap least (near-found before after was good keeps none) ∙ breach-found table store after good
