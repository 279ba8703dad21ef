-- A mirror that takes a batch has what was committed under its path at the batch's end.
use Rattle.std.proofs.Common.{◌≡◌, ℕ, zero, suc, ◌+◌, ◌-◌, ◌<◌, ◌≤◌, Bool, true, false, List, [], ◌∷◌, ◌++◌, length, take, if◌then◌else◌, refl, ap, sym, ◌∙◌, subst, arith}
use Rattle.std.specs.Prelude.{nat_le}
use Rattle.std.specs.List.{filter, fold}
use Rattle.std.proofs.lemmas.Bool.{leb-true, le-leb}
use Rattle.sal_types.specs.declared.value.Store.{Store}
use Rattle.sal_types.specs.declared.value.Step.{Step}
use Rattle.sal_types.specs.declared.row.Row.{Row}
use Rattle.sal_types.specs.Prefix.{is_prefix}
use Rattle.sal_types.specs.Tree.{under, IsAscending}
use Rattle.sal_rows.specs.declared.batch.Batch.{Batch}
use Rattle.sal_rows.specs.declared.batch.Part.{Part}
use Rattle.sal_rows.specs.declared.change.Change.{Change}
use Rattle.sal_rows.specs.declared.op.Op.{Op}
use Rattle.sal_rows.specs.Apply.{apply_ops}
use Rattle.sal_rows.specs.Batches.{HasChangesOf, batch, lists_of, part, part_with, parts_after}
use Rattle.sal_rows.specs.Changes.{changes, changes_under}
use Rattle.sal_rows.specs.Commits.{next_tree, tree_after, tree_at}
use Rattle.sal_rows.proofs.Applied.{IsAscending-apply_ops}
use Rattle.sal_rows.proofs.Cells.{IsAscending-filter}
use Rattle.sal_listen.specs.Mirrors.{CarriesOn}

-- ---- rows under a path

under-under : (rows : List Row) (p : List Step) → under (under rows p) p ≡ under rows p
under-under [] p = refl
under-under (row ∷ rows) p = by (is_prefix p row.path) refl (under-under rows p)
  where
    by : (b : Bool) → is_prefix p row.path ≡ b → under (under rows p) p ≡ under rows p → under (if b then row ∷ under rows p else under rows p) p ≡ (if b then row ∷ under rows p else under rows p)
    by true e rest = ap (λ here. if here then row ∷ under (under rows p) p else under (under rows p) p) e ∙ ap (λ (more : List Row). row ∷ more) rest
    by false e rest = rest

-- ---- the parts of a batch are by what is under the path

lists-append : (ps qs : List Part) → lists_of (ps ++ qs) ≡ lists_of ps ++ lists_of qs
lists-append [] qs = refl
lists-append (p ∷ ps) qs = ap (λ (rest : List (ℕ × List Change)). (p.commit, p.list) ∷ rest) (lists-append ps qs)

module _ (own : Bool) (p : List Step) where
  -- the lists of a part with these changes, whatever the trees
  lists_with : (before after other later : List Row) (k : ℕ) (cs : List Change) → lists_of (part_with own before after p k cs) ≡ lists_of (part_with own other later p k cs)
  lists_with before after other later k [] = refl
  lists_with before after other later k (c ∷ cs) = refl

  lists_same : (t u : ℕ → List Row) (k n : ℕ) → ((j : ℕ) → k ≤ j → under (t j) p ≡ under (u j) p) → lists_of (parts_after own t p k n) ≡ lists_of (parts_after own u p k n)
  lists_same t u k zero same = refl
  lists_same t u k (suc n) same =
      let changed : changes_under (t k) (t (k + 1)) p ≡ changes_under (u k) (u (k + 1)) p = λ i. changes (same k (omega arith) i) (same (k + 1) (omega arith) i) in
      let first : lists_of (part own (t k) (t (k + 1)) p (k + 1)) ≡ lists_of (part own (u k) (u (k + 1)) p (k + 1)) =
      lists_with (t k) (t (k + 1)) (u k) (u (k + 1)) (k + 1) (changes_under (t k) (t (k + 1)) p) ∙ ap (λ (cs : List Change). lists_of (part_with own (u k) (u (k + 1)) p (k + 1) cs)) changed in
      let rest = lists_same t u (k + 1) n (λ j h. same j (omega (arith, h))) in
      lists-append (part own (t k) (t (k + 1)) p (k + 1)) (parts_after own t p (k + 1) n) ∙ (λ i. first i ++ rest i)
      ∙ sym (lists-append (part own (u k) (u (k + 1)) p (k + 1)) (parts_after own u p (k + 1) n))

-- ---- the trees of commits ascend

after_one : (s : Store) (tree : List Row) (ops : List Op) (commits : List (List Op)) → IsAscending (tree_after s (apply_ops tree s ops) commits)
after_one s tree ops [] = IsAscending-apply_ops tree s ops
after_one s tree ops (next ∷ commits) = after_one s (apply_ops tree s ops) next commits

-- those after one of which this is known
ascends_behind : (opening : Store → List Row) (commits : List (List Op)) (s : Store) (p : List Step) (from k : ℕ) → from < k → IsAscending (under (tree_at opening commits s from) p) → IsAscending (under (tree_at opening commits s k) p)
ascends_behind opening [] s p zero zero h was = was
ascends_behind opening [] s p zero (suc k) h was = was
ascends_behind opening [] s p (suc from) zero h was = was
ascends_behind opening [] s p (suc from) (suc k) h was = was
ascends_behind opening (ops ∷ commits) s p from zero h was = absurd (omega (arith, h))
ascends_behind opening (ops ∷ commits) s p from (suc k) h was = IsAscending-filter (is_prefix p) (tree_at opening (ops ∷ commits) s (suc k)) (after_one s (opening s) ops (take k commits))

-- ---- the mirror

module _ (opening : Store → List Row) (commits : List (List Op)) (s : Store) (p : List Step) (from : ℕ) (rows : List Row) (ascending : IsAscending rows) (is : rows ≡ under (tree_at opening commits s from) p) where
  abbrev at : ℕ → List Row
  at k = tree_at opening commits s k

  -- the trees from there on, by what they have under the path
  abbrev cut : ℕ → List Row
  cut k = if nat_le k from then rows else under (at k) p

  cut_ascends : (k : ℕ) → IsAscending (cut k)
  cut_ascends k = by (nat_le k from) refl
    where
      by : (b : Bool) → nat_le k from ≡ b → IsAscending (if b then rows else under (at k) p)
      by true e = ascending
      by false e = ascends_behind opening commits s p from k (behind e) (subst IsAscending is ascending)
        where
          behind : nat_le k from ≡ false → from < k
          behind e = grind (arith, e)

  cut_same : (k : ℕ) → from ≤ k → under (cut k) p ≡ under (at k) p
  cut_same k h = by (nat_le k from) refl
    where
      by : (b : Bool) → nat_le k from ≡ b → under (if b then rows else under (at k) p) p ≡ under (at k) p
      by true e =
          let here : from ≡ k = omega (arith, h, leb-true k from e) in
          ap (λ (r : List Row). under r p) is ∙ under-under (at from) p ∙ ap (λ j. under (at j) p) here
      by false e = under-under (at k) p

  -- the rows after a batch of the commits after
  pub goes_on : (own : Bool) (to : ℕ) (b : Batch) (after : List Row) → from ≤ to → b ≡ batch own at p from to → CarriesOn b rows after → after ≡ under (at to) p
  goes_on own to b after h made carries =
      let starts : b.from ≡ from = ap (λ (x : Batch). x.from) made in
      let ends : b.to ≡ to = ap (λ (x : Batch). x.to) made in
      let parts : lists_of b.lists ≡ lists_of (parts_after own cut p from (to - from)) =
      ap (λ (x : Batch). lists_of x.lists) made ∙ lists_same own p at cut from (to - from) (λ j behind. sym (cut_same j behind)) in
      let first : rows ≡ under (cut from) p = is ∙ sym (cut_same from (omega arith)) in
      let has : HasChangesOf cut p b = record {
        own = own;
        forward = omega (arith, starts, ends, h);
        lists = parts ∙ (λ i. lists_of (parts_after own cut p (sym starts i) (sym ends i - sym starts i)));
      } in
      carries cut p cut_ascends has (first ∙ ap (λ k. under (cut k) p) (sym starts)) ∙ ap (λ k. under (cut k) p) ends ∙ cut_same to h
