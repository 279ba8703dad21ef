-- If no rule is stated, none is broken.
use Rattle.std.proofs.Common.{◌≡◌, ℕ, ◌<◌, Bool, true, false, ◌&&◌, ◌||◌, List, [], ◌∷◌, ◌++◌, Option, Some, None, length, refl, sym, ap, ◌∙◌, arith}
use Rattle.std.proofs.lemmas.Bool.{and_parts, or_left, or_right}
use Rattle.std.specs.Prelude.{nat_le, nat_lt, is_some, if◌then◌else◌}
use Rattle.std.specs.List.{flat_map, list_any}
use Rattle.std.proofs.lemmas.Bool.Decides.{nat_tests}
use Rattle.sal_types.specs.declared.value.Store.{Store}
use Rattle.sal_types.specs.declared.value.Step.{Step}
use Rattle.sal_types.specs.declared.row.Row.{Row}
use Rattle.sal_schema.specs.declared.table.SchemaTable.{SchemaTable}
use Rattle.sal_schema.specs.Kinds.{has_entries, is_choice, is_list}
use Rattle.sal_schema.specs.Table.{data_parent, is_kind, is_same, max_elements, uniques_of}
use Rattle.sal_rows.specs.declared.outcome.Breach.{Breach}
use Rattle.sal_rows.specs.declared.outcome.Rule.{Rule}
use Rattle.sal_rows.specs.declared.outcome.Rule.TheVariants.{Mandatory, MinElements, MaxElements, Unique, TwoCases}
use Rattle.sal_rules.specs.declared.spot.Spot.{Spot}
use Rattle.sal_rules.specs.Breaches.{breach, breach_of, breaches_from, is_looked_at, least, node_of_rule, numbers, rules_of}
use Rattle.sal_rules.specs.Places.{places, spot_of}
use Rattle.sal_rules.specs.Rules.{broken, count, has_minimum, is_past, is_required, repeats, steps_to}
use Rattle.sal_rules.specs.Seen.{Seen, seen_from}
use Rattle.sal_check.specs.Nodes.{states}

-- ---- tests

-- ---- one rule

past-some : (o : Option ℕ) (n : ℕ) → is_past o n ≡ true → is_some o ≡ true
past-some None n e = e
past-some (Some most) n e = refl

positive : (n : ℕ) → 0 < n → nat_lt 0 n ≡ true
positive n h = grind (arith, nat_tests)

any-some : {X : Type 0} (p : X → Bool) (xs : List X) → list_any p xs ≡ true → nat_lt 0 (length xs) ≡ true
any-some p [] e = cc
any-some p (x ∷ xs) e = positive (length (x ∷ xs)) (omega arith)

module _ (table : SchemaTable) (see : Seen) (m : Option ℕ) where
  -- a rule that is broken is stated
  pub broken-states : (rule : Rule) → broken table see m rule ≡ true → states table (node_of_rule rule) ≡ true
  broken-states (Mandatory n) e = or_left _ _ (and_parts (is_required table n) _ e).0
  broken-states (MinElements n) e = or_right (is_required table n) _ (or_left _ _ (and_parts (has_minimum table n) _ e).0)
  broken-states (MaxElements n) e =
      let past : is_past (max_elements table n) (count see n) ≡ true = (and_parts (is_same (data_parent table n) m) _ (and_parts (is_kind has_entries table n) _ e).1).1 in
      or_right (is_required table n) _ (or_right (has_minimum table n) _ (or_left _ _ (past-some (max_elements table n) (count see n) past)))
  broken-states (Unique n) e =
      let same : repeats table see n ≡ true = (and_parts (is_same (data_parent table n) m) _ (and_parts (is_kind is_list table n) _ e).1).1 in
      or_right (is_required table n) _ (or_right (has_minimum table n) _ (or_right (is_some (max_elements table n)) _ (or_left _ _ (any-some _ (uniques_of table n) same))))
  broken-states (TwoCases n) e =
      or_right (is_required table n) _ (or_right (has_minimum table n) _ (or_right (is_some (max_elements table n)) _ (or_right (nat_lt 0 (length (uniques_of table n))) _ (and_parts (is_kind is_choice table n) _ e).0)))

  kept : (rule : Rule) → states table (node_of_rule rule) ≡ false → broken table see m rule ≡ false
  kept rule none = elim (broken table see m rule) as (λ b. broken table see m rule ≡ b → b ≡ false) [
    | true ↦ λ e. sym (broken-states rule e) ∙ none
    | false ↦ λ e. refl
  ] refl

-- ---- all of them

flat-none : {X Y : Type 0} (f : X → List Y) (xs : List X) → ((x : X) → f x ≡ []) → flat_map f xs ≡ []
flat-none f [] none = refl
flat-none f (x ∷ xs) none = λ i. none x i ++ flat-none f xs none i

-- where no element passes the test, and f gives nothing for those that do not
flat-untold : {X Y : Type 0} (f : X → List Y) (test : X → Bool) (xs : List X) → ((x : X) → test x ≡ false → f x ≡ []) → list_any test xs ≡ false → flat_map f xs ≡ []
flat-untold f test [] each none = refl
flat-untold f test (x ∷ xs) each none = elim (test x) as (λ b. test x ≡ b → (b || list_any test xs) ≡ false → f x ++ flat_map f xs ≡ []) [
  | true ↦ λ is e. cc
  | false ↦ λ is e. λ i. each x is i ++ flat-untold f test xs each e i
] refl none

module _ (table : SchemaTable) (store : Store) (none : list_any (states table) (numbers table) ≡ false) where
  module _ (place : List Step) (see : Seen) (m : Option ℕ) where
    untold : (l f : Bool) (rule : Rule) (b : Breach) → states table (node_of_rule rule) ≡ false → (if (l && broken table see m rule) && f then b ∷ [] else []) ≡ []
    untold l f rule b un = ap (λ k. if (l && k) && f then b ∷ [] else []) (kept table see m rule un) ∙ by_tests l f
      where
        by_tests : (l f : Bool) → (if (l && false) && f then b ∷ [] else []) ≡ []
        by_tests true f = refl
        by_tests false f = refl

    of_rule : (rule : Rule) → states table (node_of_rule rule) ≡ false → breach_of table store place see m rule ≡ []
    of_rule rule un = untold (is_looked_at table store (node_of_rule rule)) (nat_le (length (place ++ steps_to table rule)) 32) rule (record { path = place ++ steps_to table rule; rule = rule }) un

    of_node : (n : ℕ) → states table n ≡ false → flat_map (breach_of table store place see m) (rules_of n) ≡ []
    of_node n un = λ i. of_rule (Mandatory n) un i ++ (of_rule (MinElements n) un i ++ (of_rule (MaxElements n) un i ++ (of_rule (Unique n) un i ++ (of_rule (TwoCases n) un i ++ []))))

  at_place : (place : List Step) (see : Seen) (spot : Spot) → breaches_from table store place see spot (numbers table) ≡ []
  at_place place see spot = by_test spot.wants_entry
    where
      by_test : (w : Bool) → (if w then [] else flat_map (λ n. flat_map (breach_of table store place see spot.node) (rules_of n)) (numbers table)) ≡ []
      by_test true = refl
      by_test false = flat-untold (λ n. flat_map (breach_of table store place see spot.node) (rules_of n)) (states table) (numbers table) (of_node place see spot.node) none

  -- a schema that states no rule has no breach
  pub none-stated : (rows : List Row) → None ≡ breach table store rows
  none-stated rows = sym (ap least (flat-none (λ place. breaches_from table store place (seen_from rows place) (spot_of table place) (numbers table)) (places rows) (λ place. at_place place (seen_from rows place) (spot_of table place))))
