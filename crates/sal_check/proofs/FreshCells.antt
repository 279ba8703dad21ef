-- The cells of the entries of a list, child by child.
use Rattle.std.proofs.Common.{◌≡◌, ℕ, ◌+◌, ◌<◌, ◌≤◌, Bool, true, false, cond, ◌&&◌, ◌||◌, List, [], ◌∷◌, ◌++◌, length, take, drop, get_or, Option, Some, None, refl, sym, ap, ◌∙◌, append_assoc, arith, if◌then◌else◌}
use Rattle.std.specs.Prelude.{is_some, nat_eq}
use Rattle.std.specs.List.{list_any, flat_map}
use Rattle.std.specs.Option.{option_to_list}
use Rattle.std.proofs.lemmas.List.{take-append-drop}
use Rattle.std.proofs.lemmas.List.Folds.{list_any-append}
use Rattle.std.specs.Borrow.{Bor}
use Rattle.std.specs.declared.alloc.Global.{Global}
use Rattle.std.specs.declared.vec.Vec.{Vec}
use Rattle.sal_types.specs.declared.value.Step.{Step}
use Rattle.sal_types.specs.declared.value.Cell.{Cell}
use Rattle.sal_node.specs.Tree.{Tree}
use Rattle.sal_node.specs.Shape.{seen, made_by}
use Rattle.sal_node.specs.declared.node.Child.{Child}
use Rattle.sal_tree.specs.Grow.{kid}
use Rattle.sal_check.specs.Near.{leafs_of, differs, is_fresh, fresh_of, other_of, is_among, agree_freshly}
use Rattle.sal_check.specs.Nodes.{seen_in}
use Rattle.sal_rules.specs.Rules.{cells_at, has_double}
use Rattle.sal_check.specs.Uniques.{all_cells_in, combination}
use Rattle.sal_check.proofs.Counted.{seen-at, seen-all}
use Rattle.sal_check.proofs.NearKids.{new-any}
use Rattle.sal_node.proofs.Entries.{Entries}

abbrev Cells : Type 0
Cells = List (List Cell)

append_none : (xs : Cells) → xs ++ [] ≡ xs
append_none [] = refl
append_none (x ∷ xs) = ap (λ (l : Cells). x ∷ l) (append_none xs)

or_false : (b : Bool) → b ≡ true → (c : Bool) → (b || c) ≡ true
or_false b e c = ap (λ a. a || c) e

module _ (of : Step × Tree → Cells) where
  flat-append : (xs ys : Entries) → flat_map of (xs ++ ys) ≡ flat_map of xs ++ flat_map of ys
  flat-append [] ys = refl
  flat-append (e ∷ xs) ys = ap (λ (l : Cells). of e ++ l) (flat-append xs ys) ∙ sym (append_assoc (of e) (flat_map of xs) (flat_map of ys))

  abbrev entry : Bor Child → Step × Tree
  entry c = (c.now.step, c.now.node.value)

  flat-at : (cs : List (Bor Child)) (i : ℕ) (c : Bor Child) → i < length cs → c ≡ get_or cs i c → flat_map of (take (i + 1) (seen cs)) ≡ flat_map of (take i (seen cs)) ++ of (entry c)
  flat-at cs i c l at = ap (flat_map of) (seen-at cs i c l at) ∙ flat-append (take i (seen cs)) (entry c ∷ []) ∙ ap (λ (l : Cells). flat_map of (take i (seen cs)) ++ l) (append_none (of (entry c)))

  -- one more child
  pub flat-more : (cs : List (Bor Child)) (i : ℕ) (c : Bor Child) (was now : Cells) → i < length cs → c ≡ get_or cs i c → was ≡ flat_map of (take i (seen cs)) → now ≡ was ++ of (entry c) → now ≡ flat_map of (take (i + 1) (seen cs))
  flat-more cs i c was now l at before is = is ∙ ap (λ (m : Cells). m ++ of (entry c)) before ∙ sym (flat-at cs i c l at)

  module _ (f : List Cell → Bool) where
    pub any-none : (cs : List (Bor Child)) (i : ℕ) (c : Bor Child) → i < length cs → c ≡ get_or cs i c → list_any f (flat_map of (take i (seen cs))) ≡ false → list_any f (of (entry c)) ≡ false → list_any f (flat_map of (take (i + 1) (seen cs))) ≡ false
    any-none cs i c l at none this = ap (list_any f) (flat-at cs i c l at) ∙ list_any-append f (flat_map of (take i (seen cs))) (of (entry c)) ∙ (λ k. none k || this k)

    pub any-found : (cs : List (Bor Child)) (es : Entries) (i : ℕ) (c : Bor Child) → seen cs ≡ es → i < length cs → c ≡ get_or cs i c → list_any f (flat_map of (take i (seen cs))) ≡ false → list_any f (of (entry c)) ≡ true → true ≡ list_any f (flat_map of es)
    any-found cs es i c same l at none this =
        let here : list_any f (flat_map of (take (i + 1) (seen cs))) ≡ true = ap (list_any f) (flat-at cs i c l at) ∙ list_any-append f (flat_map of (take i (seen cs))) (of (entry c)) ∙ (λ k. none k || this k) in
        sym (ap (λ (xs : Entries). list_any f (flat_map of xs)) (sym same ∙ sym (take-append-drop (i + 1) (seen cs)))
        ∙ ap (list_any f) (flat-append (take (i + 1) (seen cs)) (drop (i + 1) (seen cs)))
        ∙ list_any-append f (flat_map of (take (i + 1) (seen cs))) (flat_map of (drop (i + 1) (seen cs)))
        ∙ or_false (list_any f (flat_map of (take (i + 1) (seen cs)))) here (list_any f (flat_map of (drop (i + 1) (seen cs)))))

-- ---- one entry

module _ (ways : List (List Step)) where
  none-combination : (e : Step × Tree) → leafs_of ways (Some e.1) ≡ None → combination ways e ≡ []
  none-combination e is = by_cell (is_some e.1.cell) (cells_at (seen_in (Some e.1)) ways) is
    where
      by_cell : (b : Bool) (o : Option (List Cell)) → (if b then o else None) ≡ None → (if b then option_to_list o else []) ≡ []
      by_cell true None h = refl
      by_cell true (Some y) h = cc
      by_cell false o h = refl

  some-combination : (e : Step × Tree) (cells : List Cell) → leafs_of ways (Some e.1) ≡ Some cells → combination ways e ≡ cells ∷ []
  some-combination e cells is = by_cell (is_some e.1.cell) (cells_at (seen_in (Some e.1)) ways) is
    where
      by_cell : (b : Bool) (o : Option (List Cell)) → (if b then o else None) ≡ Some cells → (if b then option_to_list o else []) ≡ cells ∷ []
      by_cell true None h = cc
      by_cell true (Some y) h = ap option_to_list h
      by_cell false o h = cc

  -- an entry without the leafs adds no cells
  pub adds-none : (old : Option (List Cell)) (e : Step × Tree) → leafs_of ways (Some e.1) ≡ None → (if differs old (leafs_of ways (Some e.1)) then combination ways e else []) ≡ []
  adds-none old e is = ap (λ o. if differs old o then combination ways e else []) is

  -- nor does one that has them as before
  pub adds-old : (old : Option (List Cell)) (e : Step × Tree) (cells : List Cell) → leafs_of ways (Some e.1) ≡ Some cells → differs old (Some cells) ≡ false → (if differs old (leafs_of ways (Some e.1)) then combination ways e else []) ≡ []
  adds-old old e cells is same = (λ i. if differs old (is i) then combination ways e else []) ∙ ap (λ b. if b then combination ways e else []) same

  pub adds-new : (old : Option (List Cell)) (e : Step × Tree) (cells : List Cell) → leafs_of ways (Some e.1) ≡ Some cells → differs old (Some cells) ≡ true → (if differs old (leafs_of ways (Some e.1)) then combination ways e else []) ≡ cells ∷ []
  adds-new old e cells is other = (λ i. if differs old (is i) then some-combination e cells is i else []) ∙ ap (λ b. if b then cells ∷ [] else []) other

  -- the cells of an entry with a new stamp, if they are new
  abbrev pub pick : Option Tree → Step × Tree → Cells
  pick before e = if differs (leafs_of ways (kid before e.0)) (leafs_of ways (Some e.1)) then combination ways e else []

-- ---- all of a list

any-no : (xs : Cells) → list_any (is_among []) xs ≡ false
any-no [] = refl
any-no (x ∷ xs) = any-no xs

-- an empty list has no cells
pub no-cells : (vs : List (Vec (Bor Cell) Global)) → length vs ≡ 0 → all_cells_in vs ≡ []
no-cells [] e = refl
no-cells (v ∷ vs) e = absurd (omega (arith, e))

module _ (stamps : List ℕ) (ways : List (List Step)) (before : Option Tree) where
  pub picked-made : (es : Entries) → flat_map (pick ways before) (made_by stamps es) ≡ flat_map (fresh_of stamps ways before) es
  picked-made [] = refl
  picked-made (e ∷ es) = elim (list_any (nat_eq e.1.stamp) stamps) as (λ b. list_any (nat_eq e.1.stamp) stamps ≡ b → flat_map (pick ways before) (cond b (e ∷ made_by stamps es) (made_by stamps es)) ≡ fresh_of stamps ways before e ++ flat_map (fresh_of stamps ways before) es) [
    | true ↦ λ h. λ i. (if sym (new-any stamps e.1.stamp ∙ h) i && differs (leafs_of ways (kid before e.0)) (leafs_of ways (Some e.1)) then combination ways e else []) ++ picked-made es i
    | false ↦ λ h. λ i. (if sym (new-any stamps e.1.stamp ∙ h) i && differs (leafs_of ways (kid before e.0)) (leafs_of ways (Some e.1)) then combination ways e else []) ++ picked-made es i
  ] refl

  pub picked-all : (cs : List (Bor Child)) (es : Entries) (i : ℕ) (now : Cells) → seen cs ≡ made_by stamps es → length cs ≤ i → now ≡ flat_map (pick ways before) (take i (seen cs)) → now ≡ flat_map (fresh_of stamps ways before) es
  picked-all cs es i now same l is = is ∙ ap (flat_map (pick ways before)) (seen-all cs i l ∙ same) ∙ picked-made es

  -- if no entry is fresh, none agrees with a fresh one
  pub none-agree : (es : Entries) → flat_map (fresh_of stamps ways before) es ≡ [] → agree_freshly stamps ways before es ≡ false
  none-agree es is = (λ i. has_double (is i) || list_any (is_among (is i)) (flat_map (other_of stamps ways before) es)) ∙ any-no (flat_map (other_of stamps ways before) es)

  module _ (f : List Cell → Bool) (e : Step × Tree) where
    -- an entry that lacks one of the leafs adds no cell
    pub known-none : leafs_of ways (Some e.1) ≡ None → false ≡ list_any f (other_of stamps ways before e)
    known-none is = sym (ap (λ (l : Cells). list_any f (if is_fresh stamps ways before e then [] else l)) (none-combination ways e is) ∙ either (is_fresh stamps ways before e))
      where
        either : (b : Bool) → list_any f (if b then [] else []) ≡ false
        either true = refl
        either false = refl

    pub known-fresh : is_fresh stamps ways before e ≡ true → false ≡ list_any f (other_of stamps ways before e)
    known-fresh is = sym (ap (λ b. list_any f (if b then [] else combination ways e)) is)

    pub known-other : (cells : List Cell) → leafs_of ways (Some e.1) ≡ Some cells → is_fresh stamps ways before e ≡ false → f cells ≡ list_any f (other_of stamps ways before e)
    known-other cells is old = sym ((λ i. list_any f (if old i then [] else some-combination ways e cells is i)) ∙ or_none (f cells))
      where
        or_none : (b : Bool) → (b || false) ≡ b
        or_none true = refl
        or_none false = refl
