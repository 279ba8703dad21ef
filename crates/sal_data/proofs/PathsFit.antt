-- What a path that fits names, and what may follow it.
use Rattle.std.proofs.Common.{◌≡◌, ◌⊎◌, inl, inr, ℕ, ◌+◌, ◌-◌, Bool, true, false, not, ◌&&◌, List, [], ◌∷◌, ◌++◌, length, Option, Some, None, refl, sym, ap, ◌∙◌, arith}
use Rattle.std.specs.List.{slice_get}
use Rattle.std.proofs.lemmas.Bool.{and_parts, and_from, not-true, true≢false}
use Rattle.sal_types.specs.declared.value.Value.{Value}
use Rattle.sal_types.specs.declared.value.Step.{Step}
use Rattle.sal_types.specs.declared.value.Step.TheVariants.{Node, Key, Item}
use Rattle.sal_schema.specs.declared.table.SchemaTable.{SchemaTable}
use Rattle.sal_schema.specs.Kinds.{has_entries, is_list, is_leaf_list}
use Rattle.sal_schema.specs.Table.{is_kind, keys_of}
use Rattle.sal_schema.specs.Paths.{may_follow, are_of_nodes, may_pick, step_fits, fits_from, fits_path, last_step, node_from, node_of}
use Rattle.sal_schema.specs.Values.{is_of_node}
use Rattle.sal_data.proofs.Fronts.{length-more}
use Rattle.sal_data.proofs.KindFacts.{leaf_list-entries, leaf_list-list, list-entries, list-leaf_list}
use Rattle.sal_types.proofs.Handy.{slice_get-end}

-- ---- the end of a path

pub less_one : (k n : ℕ) → k ≡ n + 1 → k - 1 ≡ n
less_one k n e = omega arith

pub last_step-end : (p : List Step) (s : Step) → last_step (p ++ s ∷ []) ≡ Some s
last_step-end p s = ap (slice_get (p ++ s ∷ [])) (less_one (length (p ++ s ∷ [])) (length p) (length-more p s)) ∙ slice_get-end p s

node_from-append : (here : Option ℕ) (p q : List Step) → node_from here (p ++ q) ≡ node_from (node_from here p) q
node_from-append here [] q = refl
node_from-append here (Node n ∷ p) q = node_from-append (Some n) p q
node_from-append here (Key values ∷ p) q = node_from-append here p q
node_from-append here (Item value ∷ p) q = node_from-append here p q

pub node_of-node : (p : List Step) (n : ℕ) → node_of (p ++ Node n ∷ []) ≡ Some n
node_of-node p n = node_from-append None p (Node n ∷ [])

pub node_of-key : (p : List Step) (values : List Value) → node_of (p ++ Key values ∷ []) ≡ node_of p
node_of-key p values = node_from-append None p (Key values ∷ [])

pub node_of-item : (p : List Step) (value : Value) → node_of (p ++ Item value ∷ []) ≡ node_of p
node_of-item p value = node_from-append None p (Item value ∷ [])

-- a path is empty or has a last step
unfoldable pub ends : (p : List Step) → (p ≡ []) ⊎ ((q : List Step) × (s : Step) × (p ≡ q ++ s ∷ []))
ends [] = inl refl
ends (s ∷ p) = inr (behind s p)
  where
    behind : (s : Step) (p : List Step) → (q : List Step) × (t : Step) × (s ∷ p ≡ q ++ t ∷ [])
    behind s [] = ([], s, refl)
    behind s (u ∷ p) = let (q, t, e) = behind u p in (s ∷ q, t, ap (λ r. s ∷ r) e)

-- ---- kinds

-- what a path names: a node, and whether its entry must be named next
pub record Spot : Type 0 where
  pub node : Option ℕ
  pub wants_entry : Bool

module _ (table : SchemaTable) where
  -- ---- what a path names

  abbrev pub step_here : Spot → Step → Bool
  step_here spot s = step_fits table (record { node = spot.node; wants_entry = spot.wants_entry }) s

  abbrev pub fits_here : Spot → List Step → Bool
  fits_here spot q = fits_from table (record { node = spot.node; wants_entry = spot.wants_entry }) q

  abbrev pub next : Spot → Step → Spot
  next spot (Node n) = record { node = Some n; wants_entry = is_kind has_entries table n }
  next spot (Key values) = record { node = spot.node; wants_entry = false }
  next spot (Item value) = record { node = spot.node; wants_entry = false }

  abbrev pub root : Spot
  root = record { node = None; wants_entry = false }

  abbrev pub after : Spot → List Step → Spot
  after spot [] = spot
  after spot (s ∷ p) = after (next spot s) p

  fits-step : (spot : Spot) (s : Step) (q : List Step) → fits_here spot (s ∷ q) ≡ (step_here spot s && fits_here (next spot s) q)
  fits-step spot (Node n) q = refl
  fits-step spot (Key values) q = refl
  fits-step spot (Item value) q = refl

  step_parts : (spot : Spot) (s : Step) (q : List Step) → fits_here spot (s ∷ q) ≡ true → (step_here spot s ≡ true) × (fits_here (next spot s) q ≡ true)
  step_parts spot s q h = and_parts (step_here spot s) (fits_here (next spot s) q) (sym (fits-step spot s q) ∙ h)

  pub fits-front : (spot : Spot) (p q : List Step) → fits_here spot (p ++ q) ≡ true → fits_here spot p ≡ true
  fits-front spot [] q h = refl
  fits-front spot (s ∷ p) q h =
      let (here, rest) = step_parts spot s (p ++ q) h in
      fits-step spot s p ∙ and_from (step_here spot s) (fits_here (next spot s) p) here (fits-front (next spot s) p q rest)

  pub fits-behind : (spot : Spot) (p q : List Step) → fits_here spot (p ++ q) ≡ true → fits_here (after spot p) q ≡ true
  fits-behind spot [] q h = h
  fits-behind spot (s ∷ p) q h = fits-behind (next spot s) p q (step_parts spot s (p ++ q) h).1

  pub after-end : (spot : Spot) (p : List Step) (s : Step) → after spot (p ++ s ∷ []) ≡ next (after spot p) s
  after-end spot [] s = refl
  after-end spot (t ∷ p) s = after-end (next spot t) p s

  after-node_from : (spot : Spot) (p : List Step) → (after spot p).node ≡ node_from spot.node p
  after-node_from spot [] = refl
  after-node_from spot (Node n ∷ p) = after-node_from (record { node = Some n; wants_entry = is_kind has_entries table n }) p
  after-node_from spot (Key values ∷ p) = after-node_from (record { node = spot.node; wants_entry = false }) p
  after-node_from spot (Item value ∷ p) = after-node_from (record { node = spot.node; wants_entry = false }) p

  pub after-node_of : (p : List Step) → (after root p).node ≡ node_of p
  after-node_of p = after-node_from root p

  -- the step after the front of a path that fits
  pub step-behind : (p : List Step) (s : Step) (q : List Step) → fits_path table (p ++ s ∷ q) ≡ true → step_here (after root p) s ≡ true
  step-behind p s q h = (step_parts (after root p) s q (fits-behind root p (s ∷ q) h)).0

  abbrev pub at_node : ℕ → Spot
  at_node n = record { node = Some n; wants_entry = is_kind has_entries table n }

  abbrev pub at_object : Option ℕ → Spot
  at_object parent = record { node = parent; wants_entry = false }

  pub after-node : (p : List Step) (n : ℕ) → after root (p ++ Node n ∷ []) ≡ at_node n
  after-node p n = after-end root p (Node n)

  -- ---- what may follow

  -- in an object a step to a node for data
  pub follows_object : (parent : Option ℕ) (s : Step) → step_here (at_object parent) s ≡ true → (n : ℕ) × (s ≡ Node n) × (may_follow table parent n ≡ true)
  follows_object parent (Node n) h = (n, refl, h)
  follows_object parent (Key values) h = cc
  follows_object parent (Item value) h = cc

  -- after a list keys
  pub follows_list : (n : ℕ) (s : Step) → is_kind is_list table n ≡ true → step_here (at_node n) s ≡ true
      → (values : List Value) × (s ≡ Key values) × (are_of_nodes table (keys_of table n) values ≡ true)
  follows_list n (Node m) list h =
      let entries : is_kind has_entries table n ≡ true = list-entries table n list in
      absurd (true≢false (sym entries ∙ not-true (is_kind has_entries table n) (and_parts (not (is_kind has_entries table n)) (may_follow table (Some n) m) h).0))
  follows_list n (Key values) list h =
      (values, refl, (and_parts (is_kind is_list table n) (are_of_nodes table (keys_of table n) values) (and_parts (is_kind has_entries table n) (may_pick table n (Key values)) h).1).1)
  follows_list n (Item value) list h =
      let other : is_kind is_leaf_list table n ≡ false = list-leaf_list table n list in
      absurd (true≢false (sym (and_parts (is_kind is_leaf_list table n) (is_of_node table n value) (and_parts (is_kind has_entries table n) (may_pick table n (Item value)) h).1).0 ∙ other))

  -- after a leaf-list a value
  pub follows_leaf_list : (n : ℕ) (s : Step) → is_kind is_leaf_list table n ≡ true → step_here (at_node n) s ≡ true → (value : Value) × (s ≡ Item value)
  follows_leaf_list n (Node m) list h =
      let entries : is_kind has_entries table n ≡ true = leaf_list-entries table n list in
      absurd (true≢false (sym entries ∙ not-true (is_kind has_entries table n) (and_parts (not (is_kind has_entries table n)) (may_follow table (Some n) m) h).0))
  follows_leaf_list n (Key values) list h =
      let other : is_kind is_list table n ≡ false = leaf_list-list table n list in
      absurd (true≢false (sym (and_parts (is_kind is_list table n) (are_of_nodes table (keys_of table n) values) (and_parts (is_kind has_entries table n) (may_pick table n (Key values)) h).1).0 ∙ other))
  follows_leaf_list n (Item value) list h = (value, refl)

  -- ---- one more step

  fits-join : (spot : Spot) (p : List Step) (s : Step) → fits_here spot p ≡ true → step_here (after spot p) s ≡ true → fits_here spot (p ++ s ∷ []) ≡ true
  fits-join spot [] s h e = fits-step spot s [] ∙ and_from (step_here spot s) true e refl
  fits-join spot (t ∷ p) s h e =
      let (here, rest) = step_parts spot t p h in
      fits-step spot t (p ++ s ∷ []) ∙ and_from (step_here spot t) (fits_here (next spot t) (p ++ s ∷ [])) here (fits-join (next spot t) p s rest e)

  pub fits-more : (p : List Step) (s : Step) → fits_path table p ≡ true → step_here (after root p) s ≡ true → fits_path table (p ++ s ∷ []) ≡ true
  fits-more p s h e = fits-join root p s h e
