-- The walk over the nodes of a tree finds the breaches of its rows, and no others.
use Rattle.std.proofs.Common.{◌≡◌, ℕ, ◌+◌, Bool, true, false, cond, ◌&&◌, ◌||◌, List, [], ◌∷◌, ◌++◌, inl, inr, Option, Some, None, refl, sym, ap, subst, ◌∙◌, append_assoc, append-nil, map}
use Rattle.std.proofs.lemmas.Bool.{and_parts, or_left, or_right, and_from}
use Rattle.std.proofs.Common.{arith}
use Rattle.std.proofs.lemmas.Bool.Decides.{nat_tests}
use Rattle.std.specs.Prelude.{T, nat_eq, if◌then◌else◌}
use Rattle.std.specs.List.{fold, flat_map}
use Rattle.std.proofs.lemmas.List.Sums.{fold_push}
use Rattle.std.specs.FinMap.{find, is_sorted}
use Rattle.std.specs.FinMap.Entries.{below_all}
use Rattle.sal_types.specs.declared.value.Store.{Store}
use Rattle.sal_types.specs.declared.value.Step.{Step}
use Rattle.sal_types.specs.declared.row.Row.{Row}
use Rattle.sal_types.specs.Order.{step_cmp}
use Rattle.sal_types.specs.Prefix.{is_prefix}
use Rattle.sal_types.specs.Tree.{has}
use Rattle.sal_node.specs.Tree.{Tree, Forest, bare, grown, pairs, IsGrove, is_filled}
use Rattle.sal_node.proofs.Entries.{first as and_left, second as and_right}
use Rattle.sal_schema.specs.Fitting.{prefixes}
use Rattle.sal_schema.specs.declared.table.SchemaTable.{SchemaTable}
use Rattle.sal_schema.specs.Table.{is_same, data_parent}
use Rattle.sal_tree.specs.Grow.{at, present}
use Rattle.sal_tree.specs.Rows.{rows_of}
use Rattle.sal_tree.proofs.Cells.{has-rows_of}
use Rattle.sal_tree.proofs.Laws.{eq, same, missing, self_tie, grove-sorted, at-append}
use Rattle.sal_rows.specs.declared.outcome.Breach.{Breach}
use Rattle.sal_rows.specs.declared.outcome.Rule.{Rule}
use Rattle.sal_rows.specs.declared.outcome.Rule.TheVariants.{Mandatory, MinElements, MaxElements, Unique, TwoCases}
use Rattle.sal_rules.specs.declared.spot.Spot.{Spot}
use Rattle.sal_rules.specs.Breaches.{breach_of, breaches_at, breaches_from, breaches, breach, least, numbers, rules_of, is_looked_at, node_of_rule}
use Rattle.sal_rules.specs.Contexts.{stand}
use Rattle.sal_check.specs.Nodes.{seen_in, slot, states, is_judged_in, judged, found_at, found_below, found}
use Rattle.sal_rules.specs.Places.{places, root_spot, after_step, spot_of}
use Rattle.sal_rules.specs.Rules.{broken}
use Rattle.sal_rules.specs.Seen.{Seen, seen_from}
use Rattle.sal_check.proofs.Least.{least-same}
use Rattle.sal_check.proofs.Members.{In, In-front, In-back, In-either, In-flat, In-from, In-map, In-from_map, In-kept, In-was}
use Rattle.sal_check.proofs.SeenTrees.{seen-rows_of, at_none}
use Rattle.sal_check.proofs.Stated.{broken-states}
use Rattle.sal_tree.proofs.Follows.{some_same}

-- ---- tests

same_number : (a b : ℕ) → nat_eq a b ≡ true → nat_eq (a + 1) (b + 1) ≡ true
same_number a b e = grind (arith, nat_tests)

same_slot : (a b : Option ℕ) → is_same a b ≡ true → nat_eq (slot a) (slot b) ≡ true
same_slot None None e = refl
same_slot None (Some b) e = cc
same_slot (Some a) None e = cc
same_slot (Some a) (Some b) e = same_number a b e

-- ---- which nodes are judged where

module _ (table : SchemaTable) (see : Seen) (m : Option ℕ) where
  abbrev is_at : ℕ → Bool
  is_at n = nat_eq (slot (stand table n)) (slot m) || nat_eq (slot (data_parent table n)) (slot m)

  at_stand : (n : ℕ) (a b : Bool) → (a && (is_same (stand table n) m && b)) ≡ true → is_at n ≡ true
  at_stand n a b e = or_left _ _ (same_slot (stand table n) m (and_parts _ b (and_parts a _ e).1).0)

  at_parent : (n : ℕ) (a b : Bool) → (a && (is_same (data_parent table n) m && b)) ≡ true → is_at n ≡ true
  at_parent n a b e = or_right (nat_eq (slot (stand table n)) (slot m)) _ (same_slot (data_parent table n) m (and_parts _ b (and_parts a _ e).1).0)

  broken-at : (rule : Rule) → broken table see m rule ≡ true → is_at (node_of_rule rule) ≡ true
  broken-at (Mandatory n) e = at_stand n _ _ e
  broken-at (MinElements n) e = at_stand n _ _ e
  broken-at (MaxElements n) e = at_parent n _ _ e
  broken-at (Unique n) e = at_parent n _ _ e
  broken-at (TwoCases n) e = at_parent n _ _ e

  broken-judged : (rule : Rule) → broken table see m rule ≡ true → is_judged_in table (slot m) (node_of_rule rule) ≡ true
  broken-judged rule e = and_from (states table (node_of_rule rule)) (is_at (node_of_rule rule)) (broken-states table see m rule e) (broken-at rule e)

  rule_of_node : (n : ℕ) (rule : Rule) → In rule (rules_of n) → node_of_rule rule ≡ n
  rule_of_node n rule (inl e) = ap node_of_rule e
  rule_of_node n rule (inr (inl e)) = ap node_of_rule e
  rule_of_node n rule (inr (inr (inl e))) = ap node_of_rule e
  rule_of_node n rule (inr (inr (inr (inl e)))) = ap node_of_rule e
  rule_of_node n rule (inr (inr (inr (inr (inl e))))) = ap node_of_rule e
  rule_of_node n rule (inr (inr (inr (inr (inr i))))) = absurd i

  module _ (store : Store) (place : List Step) where
    in_one : (a c : Bool) (rule : Rule) (b x : Breach) → In b (if (a && broken table see m rule) && c then x ∷ [] else []) → broken table see m rule ≡ true
    in_one a c rule b x i = by_test ((a && broken table see m rule) && c) refl i
      where
        by_test : (t : Bool) → ((a && broken table see m rule) && c) ≡ t → In b (if t then x ∷ [] else []) → broken table see m rule ≡ true
        by_test true e i = (and_parts a _ (and_parts _ c e).0).1
        by_test false e i = absurd i

    breach-broken : (rule : Rule) (b : Breach) → In b (breach_of table store place see m rule) → broken table see m rule ≡ true
    breach-broken rule b i = in_one (is_looked_at table store (node_of_rule rule)) _ rule b _ i

    -- a node with a breach is judged there
    breach-judged : (n : ℕ) (b : Breach) → In b (flat_map (breach_of table store place see m) (rules_of n)) → is_judged_in table (slot m) n ≡ true
    breach-judged n b i =
        let (rule, of, here) = In-from (breach_of table store place see m) (rules_of n) b i in
        subst (λ k. is_judged_in table (slot m) k ≡ true) (rule_of_node n rule of) (broken-judged rule (breach-broken rule b here))

    to_judged : (b : Breach) → In b (breaches_at table store place see m (numbers table)) → In b (breaches_at table store place see m (judged table m))
    to_judged b i =
        let f : ℕ → List Breach = λ n. flat_map (breach_of table store place see m) (rules_of n) in
        let (n, of, here) = In-from f (numbers table) b i in
        In-flat f (judged table m) n b (In-kept (is_judged_in table (slot m)) (numbers table) n (breach-judged n b here) of) here

    from_judged : (b : Breach) → In b (breaches_at table store place see m (judged table m)) → In b (breaches_at table store place see m (numbers table))
    from_judged b i =
        let f : ℕ → List Breach = λ n. flat_map (breach_of table store place see m) (rules_of n) in
        let (n, of, here) = In-from f (judged table m) b i in
        In-flat f (numbers table) n b (In-was (is_judged_in table (slot m)) (numbers table) n of) here

module _ (table : SchemaTable) (store : Store) (place : List Step) (see : Seen) (b : Breach) where
  to_plan : (spot : Spot) → In b (breaches_from table store place see spot (numbers table)) → In b (breaches_from table store place see spot (judged table spot.node))
  to_plan spot i = by_test spot.wants_entry i
    where
      by_test : (w : Bool) → In b (if w then [] else breaches_at table store place see spot.node (numbers table)) → In b (if w then [] else breaches_at table store place see spot.node (judged table spot.node))
      by_test true i = i
      by_test false i = to_judged table see spot.node store place b i

  from_plan : (spot : Spot) → In b (breaches_from table store place see spot (judged table spot.node)) → In b (breaches_from table store place see spot (numbers table))
  from_plan spot i = by_test spot.wants_entry i
    where
      by_test : (w : Bool) → In b (if w then [] else breaches_at table store place see spot.node (judged table spot.node)) → In b (if w then [] else breaches_at table store place see spot.node (numbers table))
      by_test true i = i
      by_test false i = from_judged table see spot.node store place b i

-- ---- places

prefix-in : (q r : List Step) → is_prefix q r ≡ true → In q (prefixes r)
prefix-in [] [] e = inl refl
prefix-in [] (t ∷ r) e = inl refl
prefix-in (s ∷ q) [] e = cc
prefix-in (s ∷ q) (t ∷ r) e =
    let head : s ≡ t = same s t (and_parts (eq s t) (is_prefix q r) e).0 in
    inr (subst (λ u. In (u ∷ q) (map (λ p. t ∷ p) (prefixes r))) (sym head) (In-map (λ p. t ∷ p) (prefixes r) q (prefix-in q r (and_parts (eq s t) (is_prefix q r) e).1)))

prefix-of : (q r : List Step) → In q (prefixes r) → is_prefix q r ≡ true
prefix-of q [] (inl e) = ap (λ p. is_prefix p []) e
prefix-of q [] (inr i) = absurd i
prefix-of q (t ∷ r) (inl e) = ap (λ p. is_prefix p (t ∷ r)) e
prefix-of q (t ∷ r) (inr i) =
    let (p, of, is) = In-from_map (λ p. t ∷ p) (prefixes r) q i in
    ap (λ p. is_prefix p (t ∷ r)) is ∙ ap (λ b. b && is_prefix p r) (self_tie t) ∙ prefix-of p r of

has-in : (rows : List Row) (q : List Step) → has rows q ≡ true → In q (flat_map (λ (row : Row). prefixes row.path) rows)
has-in [] q e = cc
has-in (row ∷ rows) q e = elim (is_prefix q row.path) as (λ b. is_prefix q row.path ≡ b → (b || has rows q) ≡ true → In q (prefixes row.path ++ flat_map (λ (row : Row). prefixes row.path) rows)) [
  | true ↦ λ is f. In-front q (prefixes row.path) (flat_map (λ (row : Row). prefixes row.path) rows) (prefix-in q row.path is)
  | false ↦ λ is f. In-back q (prefixes row.path) (flat_map (λ (row : Row). prefixes row.path) rows) (has-in rows q f)
] refl e

has-from : (rows : List Row) (q : List Step) → In q (flat_map (λ (row : Row). prefixes row.path) rows) → has rows q ≡ true
has-from [] q i = absurd i
has-from (row ∷ rows) q i = elim (In-either q (prefixes row.path) (flat_map (λ (row : Row). prefixes row.path) rows) i) [
  | inl h ↦ or_left _ _ (prefix-of q row.path h)
  | inr h ↦ or_right (is_prefix q row.path) _ (has-from rows q h)
]

-- ---- children

pub find-in : (y : Step) (k : Tree) (es : List (Step × Tree)) → T (is_sorted step_cmp es) → In (y, k) es → find step_cmp y es ≡ Some k
find-in y k [] h i = absurd i
find-in y k (e ∷ es) h (inl f) = ap (λ (d : Step × Tree). cond (eq y d.0) (Some d.1) (find step_cmp y es)) (sym f) ∙ ap (λ b. cond b (Some k) (find step_cmp y es)) (self_tie y)
find-in y k (e ∷ es) h (inr i) =
    let later = find-in y k es (and_right (below_all step_cmp e.0 es) (is_sorted step_cmp es) h) i in
    elim (eq y e.0) as (λ b. eq y e.0 ≡ b → cond b (Some e.1) (find step_cmp y es) ≡ Some k) [
      | true ↦ λ t. let no : find step_cmp y es ≡ None = missing y e.0 es t (and_left (below_all step_cmp e.0 es) (is_sorted step_cmp es) h) in cc
      | false ↦ λ t. later
    ] refl

module _ (table : SchemaTable) (store : Store) (root : Tree) (whole : IsGrove root.kids) where
  abbrev all : List Breach
  all = breaches table store (rows_of root)

  at_place : (place : List Step) (t : Tree) (b : Breach) → at (Some root) place ≡ Some t → In place (places (rows_of root)) → In b (found_at table store place (spot_of table place) t) → In b all
  at_place place t b is of i =
      let see : seen_in (Some t) ≡ seen_from (rows_of root) place = sym (seen-rows_of root whole place ∙ ap seen_in is) in
      let here = from_plan table store place (seen_in (Some t)) b (spot_of table place) i in
      In-flat (λ p. breaches_from table store p (seen_from (rows_of root) p) (spot_of table p) (numbers table)) (places (rows_of root)) place b of
      (subst (λ s. In b (breaches_from table store place s (spot_of table place) (numbers table))) see here)

  spot_on : (place : List Step) (x : Step) → after_step table (spot_of table place) x ≡ spot_of table (place ++ x ∷ [])
  spot_on place x = sym (fold_push (after_step table) root_spot place x)

  -- what is below a place is reached from it
  abbrev AreBelow : List Step → Forest → Type 0
  AreBelow place f = (y : Step) (k : Tree) → In (y, k) (pairs f) → at (Some root) (place ++ y ∷ []) ≡ Some k

  below_next : (place : List Step) (k : Tree) → IsGrove k.kids → at (Some root) place ≡ Some k → AreBelow place k.kids
  below_next place k good is y l i = at-append (Some root) place (y ∷ []) ∙ ap (λ o. at o (y ∷ [])) is ∙ find-in y l (pairs k.kids) (grove-sorted k.kids good) i

  in_places : (place : List Step) (k : Tree) → at (Some root) place ≡ Some k → T (is_filled k.cell k.kids) → In place (places (rows_of root))
  in_places place k is filled = inr (has-in (rows_of root) place (has-rows_of root whole place ∙ ap present is ∙ so (is_filled k.cell k.kids) filled))
    where
      so : (b : Bool) → T b → b ≡ true
      so true h = refl
      so false h = absurd h

  below_place : (place : List Step) (f : Forest) (b : Breach) → IsGrove f → AreBelow place f → In b (found_below table store place (spot_of table place) f) → In b all
  below_place place bare b good are i = absurd i
  below_place place (grown x s c ks rest) b good are i =
      let k : Tree = record { stamp = s; cell = c; kids = ks } in
      let next : List Step = place ++ x ∷ [] in
      let is : at (Some root) next ≡ Some k = are x k (inl refl) in
      let spot = spot_on place x in
      elim (In-either b (found table store next (after_step table (spot_of table place) x) k) (found_below table store place (spot_of table place) rest) i) [
        | inl h ↦ elim (In-either b (found_at table store next (after_step table (spot_of table place) x) k) (found_below table store next (after_step table (spot_of table place) x) ks) h) [
          | inl here ↦ at_place next k b is (in_places next k is good.0.1) (subst (λ s. In b (found_at table store next s k)) spot here)
          | inr low ↦ below_place next ks b good.1.0 (below_next next k good.1.0 is) (subst (λ s. In b (found_below table store next s ks)) spot low)
        ]
        | inr h ↦ below_place place rest b good.1.1 (λ y l j. are y l (inr j)) h
      ]

  found-all : (b : Breach) → In b (found table store [] root_spot root) → In b all
  found-all b i = elim (In-either b (found_at table store [] root_spot root) (found_below table store [] root_spot root.kids) i) [
    | inl here ↦ at_place [] root b refl (inl refl) here
    | inr low ↦ below_place [] root.kids b whole (below_next [] root whole refl) low
  ]

  -- ---- and conversely

  below_kid : (place : List Step) (spot : Spot) (x : Step) (k : Tree) (f : Forest) (b : Breach) → find step_cmp x (pairs f) ≡ Some k → In b (found table store (place ++ x ∷ []) (after_step table spot x) k) → In b (found_below table store place spot f)
  below_kid place spot x k bare b is i = cc
  below_kid place spot x k (grown y s c ks rest) b is i =
      let l : Tree = record { stamp = s; cell = c; kids = ks } in
      elim (eq x y) as (λ t. eq x y ≡ t → cond t (Some l) (find step_cmp x (pairs rest)) ≡ Some k → In b (found_below table store place spot (grown y s c ks rest))) [
        | true ↦ λ e f.
            let k_is : l ≡ k = some_same l k f in
            let moved : In b (found table store (place ++ y ∷ []) (after_step table spot y) l) = subst (λ (t : Tree). In b (found table store (place ++ y ∷ []) (after_step table spot y) t)) (sym k_is) (subst (λ z. In b (found table store (place ++ z ∷ []) (after_step table spot z) k)) (same x y e) i) in
            In-front b (found table store (place ++ y ∷ []) (after_step table spot y) l) (found_below table store place spot rest) moved
        | false ↦ λ e f. In-back b (found table store (place ++ y ∷ []) (after_step table spot y) l) (found_below table store place spot rest) (below_kid place spot x k rest b f i)
      ] refl is

  to_place : (q place : List Step) (spot : Spot) (t u : Tree) (b : Breach) → at (Some t) q ≡ Some u → In b (found_at table store (place ++ q) (fold (after_step table) spot q) u) → In b (found table store place spot t)
  to_place [] place spot t u b is i =
      In-front b (found_at table store place spot t) (found_below table store place spot t.kids)
      (subst (λ (v : Tree). In b (found_at table store place spot v)) (sym (some_same t u is)) (subst (λ p. In b (found_at table store p spot u)) (append-nil place) i))
  to_place (x ∷ q) place spot t u b is i =
      elim (find step_cmp x (pairs t.kids)) as (λ o. find step_cmp x (pairs t.kids) ≡ o → at o q ≡ Some u → In b (found table store place spot t)) [
        | None ↦ λ e f. let no = sym (at_none q) ∙ f in cc
        | Some k ↦ λ e f.
            In-back b (found_at table store place spot t) (found_below table store place spot t.kids)
            (below_kid place spot x k t.kids b e (to_place q (place ++ x ∷ []) (after_step table spot x) k u b f
            (subst (λ p. In b (found_at table store p (fold (after_step table) (after_step table spot x) q) u)) (sym (append_assoc place (x ∷ []) q)) i)))
      ] refl is

  all-found : (b : Breach) → In b all → In b (found table store [] root_spot root)
  all-found b i =
      let (place, of, here) = In-from (λ p. breaches_from table store p (seen_from (rows_of root) p) (spot_of table p) (numbers table)) (places (rows_of root)) b i in
      elim (at (Some root) place) as (λ o. at (Some root) place ≡ o → In b (found table store [] root_spot root)) [
        | None ↦ λ e. absurd (not_none place of e)
        | Some t ↦ λ e.
            let see : seen_from (rows_of root) place ≡ seen_in (Some t) = seen-rows_of root whole place ∙ ap seen_in e in
            to_place place [] root_spot root t b e (to_plan table store place (seen_in (Some t)) b (spot_of table place) (subst (λ s. In b (breaches_from table store place s (spot_of table place) (numbers table))) see here))
      ] refl
    where
      not_none : (place : List Step) → In place (places (rows_of root)) → at (Some root) place ≡ None → ⊥
      not_none place (inl e) f = let g : Some root ≡ None = sym (ap (at (Some root)) e) ∙ f in cc
      not_none place (inr h) f = let g : true ≡ false = sym (has-from (rows_of root) place h) ∙ has-rows_of root whole place ∙ ap present f in cc

  pub breach-found : least (found table store [] root_spot root) ≡ breach table store (rows_of root)
  breach-found = least-same (found table store [] root_spot root) all found-all all-found
