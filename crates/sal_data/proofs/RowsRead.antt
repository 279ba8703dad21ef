-- Properties of the rows that are read at a path, and of such rows joined.
use Rattle.std.proofs.Common.{◌≡◌, ◌⊎◌, inl, inr, ℕ, ◌≤◌, true, List, [], ◌∷◌, ◌++◌, length, Some, refl, sym, ap, subst, ◌∙◌, append_assoc, append-nil}
use Rattle.sal_types.specs.declared.value.Value.{Value}
use Rattle.sal_types.specs.declared.value.Cell.{Cell}
use Rattle.sal_types.specs.declared.value.Cell.TheVariants.{Mark, Leaf}
use Rattle.sal_types.specs.declared.value.Step.{Step}
use Rattle.sal_types.specs.declared.value.Step.TheVariants.{Node, Key}
use Rattle.sal_types.specs.declared.row.Row.{Row}
use Rattle.sal_schema.specs.declared.table.SchemaTable.{SchemaTable}
use Rattle.sal_schema.specs.Fitting.{has_mark, has_own_row, cell_fits}
use Rattle.sal_schema.specs.Paths.{fits_path, last_step, node_of}
use Rattle.sal_schema.specs.Table.{keys_of}
use Rattle.sal_data.specs.Laws.{HasReadable}
use Rattle.sal_data.proofs.Listed.{In, In-front, In-back, In-either}

abbrev pub a_row : List Step → Cell → Row
a_row path c = record { path = path; cell = c }

-- each path has one cell
abbrev pub Alike : List Row → Type 0
Alike read = (a b : Row) → In a read → In b read → a.path ≡ b.path → a.cell ≡ b.cell

same_first : (p x y : List Step) (s t : Step) → p ++ s ∷ x ≡ p ++ t ∷ y → s ≡ t
same_first [] x y s t e = cc
same_first (u ∷ p) x y s t e = let rest : p ++ s ∷ x ≡ p ++ t ∷ y = cc in same_first p x y s t rest

not_longer : (p x : List Step) (s : Step) → p ≡ p ++ s ∷ x → ⊥
not_longer [] x s e = cc
not_longer (u ∷ p) x s e = let rest : p ≡ p ++ s ∷ x = cc in not_longer p x s rest

module _ (table : SchemaTable) where
  -- the key leafs of an entry are among the rows
  abbrev pub KeyRows : List Row → List Step → List ℕ → List Value → Type 0
  KeyRows read q (leaf ∷ leafs) (value ∷ values) = In (a_row (q ++ Node leaf ∷ []) (Leaf value)) read × KeyRows read q leafs values
  KeyRows read q leafs values = Unit {0}

  -- an entry or presence container at the path has its row, and an entry its key leafs
  pub record WholeIn (read : List Row) (q : List Step) : Type 0 where
    pub marks : has_mark table (last_step q) ≡ true → In (a_row q Mark) read
    pub keyed : (values : List Value) → last_step q ≡ Some (Key values) → (n : ℕ) → node_of q ≡ Some n → KeyRows read q (keys_of table n) values

  -- the row fits by itself
  pub record IsFit (row : Row) : Type 0 where
    pub fit : fits_path table row.path ≡ true
    pub short : length row.path ≤ 32
    pub is_cell : cell_fits table row.path row.cell ≡ true
    pub readable : HasReadable table row

  -- a row at the path or below it, and what is above it from there on
  pub record AtPath (path : List Step) (read : List Row) (row : Row) : Type 0 where
    pub rest : List Step
    pub is : row.path ≡ path ++ rest
    pub fits : IsFit row
    pub whole : (u v : List Step) → rest ≡ u ++ v → WholeIn read (path ++ u)

  -- a row below the path, whose next step passes
  pub record BelowPath (P : Step → Type 0) (path : List Step) (read : List Row) (row : Row) : Type 0 where
    pub first : Step
    pub rest : List Step
    pub passes : P first
    pub is : row.path ≡ path ++ first ∷ rest
    pub fits : IsFit row
    pub whole : (u v : List Step) → rest ≡ u ++ v → WholeIn read (path ++ first ∷ u)

  pub record ReadAt (path : List Step) (read : List Row) : Type 0 where
    pub each : (row : Row) → In row read → AtPath path read row
    pub alike : Alike read
    pub own : has_own_row table path ≡ true → (c : Cell) × In (a_row path c) read

  pub record ReadBelow (P : Step → Type 0) (path : List Step) (read : List Row) : Type 0 where
    pub each : (row : Row) → In row read → BelowPath P path read row
    pub alike : Alike read

  -- ---- more rows

  pub KeyRows-more : (xs ys : List Row) → ((row : Row) → In row xs → In row ys) → (q : List Step) (leafs : List ℕ) (values : List Value) → KeyRows xs q leafs values → KeyRows ys q leafs values
  KeyRows-more xs ys more q [] [] h = tt
  KeyRows-more xs ys more q [] (value ∷ values) h = tt
  KeyRows-more xs ys more q (leaf ∷ leafs) [] h = tt
  KeyRows-more xs ys more q (leaf ∷ leafs) (value ∷ values) (here, rest) = (more (a_row (q ++ Node leaf ∷ []) (Leaf value)) here, KeyRows-more xs ys more q leafs values rest)

  pub WholeIn-more : (xs ys : List Row) → ((row : Row) → In row xs → In row ys) → (q : List Step) → WholeIn xs q → WholeIn ys q
  WholeIn-more xs ys more q h = record {
    marks = λ marked. more (a_row q Mark) (h.marks marked);
    keyed = λ values is n known. KeyRows-more xs ys more q (keys_of table n) values (h.keyed values is n known);
  }

  -- ---- rows below, put together

  pub none_below : (P : Step → Type 0) (path : List Step) → ReadBelow P path []
  none_below P path = record { each = λ row there. absurd there; alike = λ a b there. absurd there }

  module _ (P Q : Step → Type 0) (path : List Step) (s : Step) (xs ys : List Row) (passes : P s) (front : ReadAt (path ++ s ∷ []) xs) (back : ReadBelow Q path ys) (apart : (t : Step) → Q t → (s ≡ t → ⊥) × P t) where
    from_front : (row : Row) → AtPath (path ++ s ∷ []) xs row → BelowPath P path (xs ++ ys) row
    from_front row h = record {
      first = s;
      rest = h.rest;
      passes = passes;
      is = h.is ∙ append_assoc path (s ∷ []) h.rest;
      fits = h.fits;
      whole = λ u v e. subst (λ q. WholeIn (xs ++ ys) q) (append_assoc path (s ∷ []) u) (WholeIn-more xs (xs ++ ys) (λ r there. In-front r xs ys there) ((path ++ s ∷ []) ++ u) (h.whole u v e));
    }

    from_back : (row : Row) → BelowPath Q path ys row → BelowPath P path (xs ++ ys) row
    from_back row h = record {
      first = h.first;
      rest = h.rest;
      passes = (apart h.first h.passes).1;
      is = h.is;
      fits = h.fits;
      whole = λ u v e. WholeIn-more ys (xs ++ ys) (λ r there. In-back r xs ys there) (path ++ h.first ∷ u) (h.whole u v e);
    }

    never_same : (a b : Row) → AtPath (path ++ s ∷ []) xs a → BelowPath Q path ys b → a.path ≡ b.path → ⊥
    never_same a b ha hb e = (apart hb.first hb.passes).0 (same_first path ha.rest hb.rest s hb.first (sym (append_assoc path (s ∷ []) ha.rest) ∙ sym ha.is ∙ e ∙ hb.is))

    pub joined_rows : ReadBelow P path (xs ++ ys)
    joined_rows = record {
      each = λ row there. elim (In-either row xs ys there) [ inl h ↦ from_front row (front.each row h) | inr h ↦ from_back row (back.each row h) ];
      alike = λ a b ha hb e. by a b (In-either a xs ys ha) (In-either b xs ys hb) e;
    }
      where
        by : (a b : Row) → (In a xs ⊎ In a ys) → (In b xs ⊎ In b ys) → a.path ≡ b.path → a.cell ≡ b.cell
        by a b (inl ha) (inl hb) e = front.alike a b ha hb e
        by a b (inr ha) (inr hb) e = back.alike a b ha hb e
        by a b (inl ha) (inr hb) e = absurd (never_same a b (front.each a ha) (back.each b hb) e)
        by a b (inr ha) (inl hb) e = absurd (never_same b a (front.each b hb) (back.each a ha) (sym e))

  -- ---- rows at a path

  module _ (P : Step → Type 0) (path : List Step) (read all : List Row) (below : ReadBelow P path read) (more : (row : Row) → In row read → In row all) (whole : WholeIn all path) where
    pub from_below_path : (row : Row) → BelowPath P path read row → AtPath path all row
    from_below_path row h = record {
      rest = h.first ∷ h.rest;
      is = h.is;
      fits = h.fits;
      whole = λ u v e. by u v e;
    }
      where
        by : (u v : List Step) → h.first ∷ h.rest ≡ u ++ v → WholeIn all (path ++ u)
        by [] v e = subst (λ q. WholeIn all q) (sym (append-nil path)) whole
        by (s ∷ u) v e =
            let same : h.first ≡ s = cc in
            let rest : h.rest ≡ u ++ v = cc in
            subst (λ t. WholeIn all (path ++ t ∷ u)) same (WholeIn-more read all more (path ++ h.first ∷ u) (h.whole u v rest))

  pub at_plain : (P : Step → Type 0) (path : List Step) (read : List Row) → ReadBelow P path read → WholeIn read path → (has_own_row table path ≡ true → (c : Cell) × In (a_row path c) read) → ReadAt path read
  at_plain P path read below whole own = record {
    each = λ row there. from_below_path P path read read below (λ r h. h) whole row (below.each row there);
    alike = below.alike;
    own = own;
  }

  pub at_one : (path : List Step) (c : Cell) → IsFit (a_row path c) → WholeIn (a_row path c ∷ []) path → ReadAt path (a_row path c ∷ [])
  at_one path c fits whole = record {
    each = λ row there. by row there;
    alike = λ a b ha hb e. alike a b ha hb;
    own = λ has. (c, inl refl);
  }
    where
      end : (u v : List Step) → [] ≡ u ++ v → WholeIn (a_row path c ∷ []) (path ++ u)
      end [] v e = subst (λ q. WholeIn (a_row path c ∷ []) q) (sym (append-nil path)) whole
      end (s ∷ u) v e = cc

      by : (row : Row) → In row (a_row path c ∷ []) → AtPath path (a_row path c ∷ []) row
      by row (inl is) = subst (λ r. AtPath path (a_row path c ∷ []) r) (sym is) (record { rest = []; is = sym (append-nil path); fits = fits; whole = end })
      by row (inr none) = absurd none

      alike : (a b : Row) → In a (a_row path c ∷ []) → In b (a_row path c ∷ []) → a.cell ≡ b.cell
      alike a b (inl ea) (inl eb) = ap (λ (r : Row). r.cell) (ea ∙ sym eb)
      alike a b (inl ea) (inr none) = absurd none
      alike a b (inr none) hb = absurd none

  pub at_marked : (P : Step → Type 0) (path : List Step) (read : List Row) → ReadBelow P path read → IsFit (a_row path Mark) → WholeIn (a_row path Mark ∷ read) path → ReadAt path (a_row path Mark ∷ read)
  at_marked P path read below fits whole = record {
    each = λ row there. by row there;
    alike = λ a b ha hb e. alike a b ha hb e;
    own = λ has. (Mark, inl refl);
  }
    where
      end : (u v : List Step) → [] ≡ u ++ v → WholeIn (a_row path Mark ∷ read) (path ++ u)
      end [] v e = subst (λ q. WholeIn (a_row path Mark ∷ read) q) (sym (append-nil path)) whole
      end (s ∷ u) v e = cc

      by : (row : Row) → In row (a_row path Mark ∷ read) → AtPath path (a_row path Mark ∷ read) row
      by row (inl is) = subst (λ r. AtPath path (a_row path Mark ∷ read) r) (sym is) (record { rest = []; is = sym (append-nil path); fits = fits; whole = end })
      by row (inr there) = from_below_path P path read (a_row path Mark ∷ read) below (λ r h. inr h) whole row (below.each row there)

      never : (a b : Row) → a ≡ a_row path Mark → BelowPath P path read b → a.path ≡ b.path → ⊥
      never a b is h e = not_longer path h.rest h.first (sym (ap (λ (r : Row). r.path) is) ∙ e ∙ h.is)

      alike : (a b : Row) → In a (a_row path Mark ∷ read) → In b (a_row path Mark ∷ read) → a.path ≡ b.path → a.cell ≡ b.cell
      alike a b (inl ea) (inl eb) e = ap (λ (r : Row). r.cell) (ea ∙ sym eb)
      alike a b (inl ea) (inr hb) e = absurd (never a b ea (below.each b hb) e)
      alike a b (inr ha) (inl eb) e = absurd (never b a eb (below.each a ha) (sym e))
      alike a b (inr ha) (inr hb) e = below.alike a b ha hb e
