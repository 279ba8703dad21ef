-- No path has a step below a leaf.
use Rattle.std.proofs.Common.{◌≡◌, ℕ, suc, ◌-◌, Bool, true, false, not, List, [], ◌∷◌, ◌++◌, length, Option, Some, None, refl, sym, ap, ◌∙◌, arith}
use Rattle.std.specs.List.{slice_get}
use Rattle.std.specs.Option.{option_map_or}
use Rattle.std.proofs.lemmas.Bool.{true≢false}
use Rattle.std.proofs.lemmas.Option.{none-some}
use Rattle.sal_types.specs.declared.value.Step.{Step}
use Rattle.sal_types.specs.declared.value.Step.TheVariants.{Node, Key, Item}
use Rattle.sal_schema.specs.declared.kind.Kind.{Kind}
use Rattle.sal_schema.specs.declared.kind.Kind.TheVariants.{Leaf as LeafKind}
use Rattle.sal_schema.specs.declared.table.SchemaTable.{SchemaTable}
use Rattle.sal_schema.specs.Fitting.{is_at_leaf}
use Rattle.sal_schema.specs.Kinds.{is_leaf, has_entries, has_type}
use Rattle.sal_schema.specs.Paths.{step_fits, fits_from, fits_path, last_step}
use Rattle.sal_schema.specs.Table.{is_data_child, is_kind, kind_of}
use Rattle.sal_schema.specs.Valid.{IsTable}
use Rattle.sal_schema.proofs.Childless.{no_child}
use Rattle.sal_schema.proofs.Conjuncts.{and_first, and_second}

-- ---- leafs

-- a test of kinds that gives this answer at leafs does so at each node that is one
at_leaf : (test : Kind → Bool) (answer : Bool) (o : Option Kind) → test LeafKind ≡ answer → option_map_or is_leaf o false ≡ true → option_map_or test o false ≡ answer
at_leaf test answer None so e = cc
at_leaf test answer (Some k) so e = by k e
  where
    by : (k : Kind) → is_leaf k ≡ true → test k ≡ answer
    by LeafKind e = so
    by k e = cc

-- ---- paths

last_step-cons : (s t : Step) (q : List Step) → last_step (s ∷ t ∷ q) ≡ last_step (t ∷ q)
last_step-cons s t q =
    let e : length (s ∷ t ∷ q) - 1 ≡ suc (length (t ∷ q) - 1) = omega arith in
    ap (slice_get (s ∷ t ∷ q)) e

module _ (table : SchemaTable) where
  -- the step after a node
  behind : (o : Option ℕ) (b : Bool) (r : List Step) (n : ℕ) (s : Step) (q : List Step) → last_step r ≡ Some (Node n) → fits_from table (record { node = o; wants_entry = b }) (r ++ s ∷ q) ≡ true
      → step_fits table (record { node = Some n; wants_entry = is_kind has_entries table n }) s ≡ true
  behind o b [] n s q last e = absurd (none-some (Node n) last)
  behind o b (Node m ∷ []) n s q last e =
      let same : m ≡ n = number m n last in
      ap (λ k. step_fits table (record { node = Some k; wants_entry = is_kind has_entries table k }) s) (sym same) ∙ and_first (step_fits table (record { node = Some m; wants_entry = is_kind has_entries table m }) s) _ (and_second (step_fits table (record { node = o; wants_entry = b }) (Node m)) _ e)
    where
      number : (m n : ℕ) → Some (Node m) ≡ Some (Node n) → m ≡ n
      number m n e = cc
  behind o b (Key values ∷ []) n s q last e = cc
  behind o b (Item value ∷ []) n s q last e = cc
  behind o b (Node m ∷ t ∷ r) n s q last e =
      behind (Some m) (is_kind has_entries table m) (t ∷ r) n s q (sym (last_step-cons (Node m) t r) ∙ last) (and_second (step_fits table (record { node = o; wants_entry = b }) (Node m)) _ e)
  behind o b (Key values ∷ t ∷ r) n s q last e =
      behind o false (t ∷ r) n s q (sym (last_step-cons (Key values) t r) ∙ last) (and_second (step_fits table (record { node = o; wants_entry = b }) (Key values)) _ e)
  behind o b (Item value ∷ t ∷ r) n s q last e =
      behind o false (t ∷ r) n s q (sym (last_step-cons (Item value) t r) ∙ last) (and_second (step_fits table (record { node = o; wants_entry = b }) (Item value)) _ e)

  none_behind : IsTable table → (n : ℕ) (s : Step) → is_kind is_leaf table n ≡ true → step_fits table (record { node = Some n; wants_entry = is_kind has_entries table n }) s ≡ true → ⊥
  none_behind good n (Node m) leaf e =
      no_child table n m good (at_leaf has_type true (kind_of table n) refl leaf) (and_second (not (is_kind has_entries table n)) (is_data_child table (Some n) m) e)
  none_behind good n (Key values) leaf e = true≢false (sym (and_first (is_kind has_entries table n) _ e) ∙ at_leaf has_entries false (kind_of table n) refl leaf)
  none_behind good n (Item value) leaf e = true≢false (sym (and_first (is_kind has_entries table n) _ e) ∙ at_leaf has_entries false (kind_of table n) refl leaf)

  -- no path that fits has a step below a leaf
  pub leaf_ends : IsTable table → (r : List Step) (s : Step) (q : List Step) → is_at_leaf table (last_step r) ≡ true → fits_path table (r ++ s ∷ q) ≡ true → ⊥
  leaf_ends good r s q leaf fits = by (last_step r) refl leaf
    where
      by : (o : Option Step) → last_step r ≡ o → is_at_leaf table o ≡ true → ⊥
      by None is e = true≢false (sym e)
      by (Some (Node n)) is e = none_behind good n s e (behind None false r n s q is fits)
      by (Some (Key values)) is e = true≢false (sym e)
      by (Some (Item value)) is e = true≢false (sym e)
