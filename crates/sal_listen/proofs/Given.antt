-- Two neighbours of kept commits, and a part of their trees.
use Rattle.std.proofs.Common.{◌≡◌, ℕ, ◌+◌, Bool, true, false, List, [], ◌∷◌, ◌++◌, Option, Some, None, refl, ap, sym, ◌∙◌, subst, append-nil}
use Rattle.std.proofs.Math.Facts.{yes_eqb}
use Rattle.std.specs.Prelude.{T, ◌==◌}
use Rattle.sal_types.specs.declared.value.Store.{Store}
use Rattle.sal_types.specs.declared.value.Store.TheVariants.{Config, Oper}
use Rattle.sal_types.specs.declared.value.Step.{Step}
use Rattle.sal_types.specs.declared.row.Row.{Row}
use Rattle.sal_rows.specs.declared.batch.Part.{Part}
use Rattle.sal_rows.specs.declared.change.Change.{Change}
use Rattle.sal_rows.specs.Batches.{part, part_with, parts_after}
use Rattle.sal_rows.specs.Changes.{changes_under}
use Rattle.sal_rows.specs.Kinds.{kind_of}
use Rattle.sal_rows.proofs.Patched.{parts-append}
use Rattle.sal_node.specs.Tree.{Tree}
use Rattle.sal_tree.specs.declared.commit.Pair.{Pair}
use Rattle.sal_tree.specs.Alike.{alike}
use Rattle.sal_tree.specs.Follows.{Agree}
use Rattle.sal_tree.specs.Grow.{at}
use Rattle.sal_tree.specs.Rows.{rows_of}
use Rattle.sal_tree.specs.Whole.{IsWhole}
use Rattle.sal_graft.specs.Kept.{tree_in}
use Rattle.sal_delta.specs.Agreed.{AgreeBoth}
use Rattle.sal_delta.proofs.Exact.{alike-changes}
use Rattle.sal_listen.specs.Given.{any_part, if_any, filled}

-- ---- two neighbours

pub agree-in : (before after : Pair) (s : Store) → AgreeBoth before after → Agree (tree_in before s) (tree_in after s)
agree-in before after Config both = both.0
agree-in before after Oper both = both.1

-- ---- a commit that left the tree as it was

alike-itself : (o : Option Tree) → alike o o ≡ true
alike-itself None = refl
alike-itself (Some t) = T-true (t.stamp == t.stamp) (yes_eqb refl)
  where
    T-true : (b : Bool) → T b → b ≡ true
    T-true true h = refl
    T-true false h = absurd h

quiet : (t : Tree) (p : List Step) → IsWhole t → Agree t t → [] ≡ changes_under (rows_of t) (rows_of t) p
quiet t p w agree = alike-changes t t p w w agree (alike-itself (at (Some t) p))

untouched : (t u : Tree) (p : List Step) → IsWhole t → Agree t u → t.stamp ≡ u.stamp → [] ≡ changes_under (rows_of t) (rows_of u) p
untouched t u p w agree e =
    let same : t ≡ u = agree [] t u refl refl e in
    quiet t p w (subst (λ v. Agree t v) (sym same) agree) ∙ ap (λ v. changes_under (rows_of t) (rows_of v) p) same

-- no part is added after the others
pub untouched-part : (own : Bool) (t u : Tree) (p : List Step) (k : ℕ) (before : List Part) → IsWhole t → Agree t u → t.stamp ≡ u.stamp → before ≡ before ++ part own (rows_of t) (rows_of u) p k
untouched-part own t u p k before w agree e = sym (append-nil before) ∙ ap (λ cs. before ++ part_with own (rows_of t) (rows_of u) p k cs) (untouched t u p w agree e)

-- ---- parts

filled_with : (own : Bool) (b a : List Row) (p : List Step) (k : ℕ) (cs : List Change) → if_any cs (record { commit = k; kind = kind_of own b a p cs; list = cs }) ≡ part_with own b a p k cs
filled_with own b a p k [] = refl
filled_with own b a p k (c ∷ cs) = refl

pub filled-part : (own : Bool) (b a : List Row) (p : List Step) (k : ℕ) → filled (any_part own b a p k) ≡ part own b a p k
filled-part own b a p k = filled_with own b a p k (changes_under b a p)

-- the part of one commit more
pub parts-next : (own : Bool) (trees : ℕ → List Row) (p : List Step) (k n : ℕ) → parts_after own trees p k n ++ part own (trees (k + n)) (trees (k + n + 1)) p (k + n + 1) ≡ parts_after own trees p k (n + 1)
parts-next own trees p k n =
    ap (λ (ps : List Part). parts_after own trees p k n ++ ps) (sym (append-nil (part own (trees (k + n)) (trees (k + n + 1)) p (k + n + 1))))
    ∙ parts-append own trees p n 1 k
