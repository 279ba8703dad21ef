-- The cells of ordered changes at each path.
use Rattle.std.proofs.Common.{◌≡◌, true, false, Bool, List, [], ◌∷◌, ◌++◌, Option, Some, None, refl, ap, sym, ◌∙◌, subst, if◌then◌else◌, length, get_or, ◌+◌, suc, arith}
use Rattle.std.specs.Prelude.{T}
use Rattle.std.specs.List.{fold, AllAdjacentBelow, IsAllAdjacentAnswer}
use Rattle.std.specs.Option.{option_or}
use Rattle.std.specs.Ordering.{is_eq, is_lt, match_ordering}
use Rattle.std.specs.declared.cmp.Ordering.TheVariants.{Less, Equal, Greater}
use Rattle.std.specs.BTreeMap.{insert_entry}
use Rattle.std.specs.FinMap.{find, put, is_sorted}
use Rattle.std.specs.FinMap.Entries.{below_all, by_order, is_sorted-put, find-put, same_entries}
use Rattle.sal_types.specs.declared.value.Step.{Step}
use Rattle.sal_types.specs.declared.value.Cell.{Cell}
use Rattle.sal_types.specs.Order.{path_cmp, path_eq, path_cmp-IsTotalOrder, path_cmp-IsAntisymmetric}
use Rattle.sal_types.proofs.Trees.{T-from_IsTrue, IsTrue-from_T}
use Rattle.sal_rows.specs.declared.change.Change.{Change}
use Rattle.sal_rows.specs.Changes.{change_at}
use Rattle.sal_rows.proofs.Cells.{same_path}
use Rattle.sal_rows.proofs.Differing.{first, second, both, marks as rising_marks, Rises, change_at-find}
use Rattle.sal_rows.proofs.Patched.{less}
use Rattle.sal_delta.specs.declared.ordered.Cells.{Cells}
use Rattle.sal_delta.specs.Ordered.{marks, marks_of, put_mark, in_order}

abbrev pub Both : Type 0
Both = Option Cell × Option Cell

-- what the last of the changes at a path says
abbrev pub last_at : List Change → List Step → Option (Option Cell × Option Cell)
last_at [] r = None
last_at (c ∷ cs) r = option_or (last_at cs r) (if path_eq r c.path then Some (c.before, c.after) else None)

or_none : (o : Option Both) → option_or o None ≡ o
or_none None = refl
or_none (Some v) = refl

or_assoc : (x y z : Option Both) → option_or x (option_or y z) ≡ option_or (option_or x y) z
or_assoc None y z = refl
or_assoc (Some v) y z = refl

pub last-append : (xs ys : List Change) (r : List Step) → last_at (xs ++ ys) r ≡ option_or (last_at ys r) (last_at xs r)
last-append [] ys r = sym (or_none (last_at ys r))
last-append (x ∷ xs) ys r =
    let here : Option Both = if path_eq r x.path then Some (x.before, x.after) else None in
    ap (λ o. option_or o here) (last-append xs ys r) ∙ sym (or_assoc (last_at ys r) (last_at xs r) here)

none-above : (p : List Step) (cs : List Change) → T (below_all path_cmp p (rising_marks cs)) → change_at cs p ≡ None
none-above p [] h = refl
none-above p (c ∷ cs) h = ap (λ o. if is_eq o then Some (c.before, c.after) else change_at cs p) (less _ (first (is_lt (path_cmp p c.path)) (below_all path_cmp p (rising_marks cs)) h)) ∙ none-above p cs (second (is_lt (path_cmp p c.path)) _ h)

-- of changes that rise there is one at most
pub last-rising : (cs : List Change) (r : List Step) → Rises cs → last_at cs r ≡ change_at cs r
last-rising [] r h = refl
last-rising (c ∷ cs) r h =
    let rest : last_at cs r ≡ change_at cs r = last-rising cs r (second (below_all path_cmp c.path (rising_marks cs)) _ h) in
    elim (path_eq r c.path) as (λ b. path_eq r c.path ≡ b → option_or (last_at cs r) (if b then Some (c.before, c.after) else None) ≡ (if b then Some (c.before, c.after) else change_at cs r)) [
      | true ↦ λ e. ap (λ o. option_or o (Some (c.before, c.after))) (rest ∙ ap (change_at cs) (same_path r c.path e) ∙ none-above c.path cs (first _ (is_sorted path_cmp (rising_marks cs)) h))
      | false ↦ λ e. or_none (last_at cs r) ∙ rest
    ] refl

same_marks : (cs : List Change) → marks cs ≡ rising_marks cs
same_marks [] = refl
same_marks (c ∷ cs) = ap (λ (es : List (List Step × (Option Cell × Option Cell))). (c.path, (c.before, c.after)) ∷ es) (same_marks cs)

find_fold : (cs : List Change) (es : List (List Step × (Option Cell × Option Cell))) (r : List Step) → find path_cmp r (fold put_mark es cs) ≡ option_or (last_at cs r) (find path_cmp r es)
find_fold [] es r = refl
find_fold (c ∷ cs) es r =
    find_fold cs (put path_cmp c.path (c.before, c.after) es) r
    ∙ ap (option_or (last_at cs r)) (find-put path_cmp path_cmp-IsTotalOrder r c.path (c.before, c.after) es ∙ either (path_eq r c.path))
    ∙ or_assoc (last_at cs r) (if path_eq r c.path then Some (c.before, c.after) else None) (find path_cmp r es)
  where
    either : (b : Bool) → (if b then Some (c.before, c.after) else find path_cmp r es) ≡ option_or (if b then Some (c.before, c.after) else None) (find path_cmp r es)
    either true = refl
    either false = refl

sorted_fold : (cs : List Change) (es : List (List Step × (Option Cell × Option Cell))) → T (is_sorted path_cmp es) → T (is_sorted path_cmp (fold put_mark es cs))
sorted_fold [] es h = h
sorted_fold (c ∷ cs) es h = sorted_fold cs (put path_cmp c.path (c.before, c.after) es) (is_sorted-put path_cmp path_cmp-IsTotalOrder c.path (c.before, c.after) es h)

-- changes with the marks of others in order
pub rises-ordered : (xs ys : List Change) → marks ys ≡ in_order xs → Rises ys
rises-ordered xs ys e = subst (λ es. T (is_sorted path_cmp es)) (sym e ∙ same_marks ys) (sorted_fold xs [] tt)

pub at-ordered : (xs ys : List Change) (r : List Step) → marks ys ≡ in_order xs → change_at ys r ≡ last_at xs r
at-ordered xs ys r e = change_at-find ys r ∙ ap (find path_cmp r) (sym (same_marks ys) ∙ e) ∙ find_fold xs [] r ∙ or_none (last_at xs r)

-- changes that rise are in order as they are
pub ordered-rising : (cs : List Change) → Rises cs → marks cs ≡ in_order cs
ordered-rising cs h =
    same_entries path_cmp path_cmp-IsTotalOrder path_cmp-IsAntisymmetric (marks cs) (in_order cs) (subst (λ es. T (is_sorted path_cmp es)) (sym (same_marks cs)) h) (sorted_fold cs [] tt)
    (λ r. ap (find path_cmp r) (same_marks cs) ∙ sym (change_at-find cs r) ∙ sym (last-rising cs r h) ∙ sym (or_none (last_at cs r)) ∙ sym (find_fold cs [] r))

pub rises-marks : (cs : List Change) → is_sorted path_cmp (marks cs) ≡ true → Rises cs
rises-marks cs e = subst (λ es. T (is_sorted path_cmp es)) (same_marks cs) (T-from_IsTrue _ e)

below-less : (p q : List Step) (cs : List Change) → path_cmp p q ≡ Less → T (below_all path_cmp q (marks cs)) → T (below_all path_cmp p (marks cs))
below-less p q [] lt h = tt
below-less p q (c ∷ cs) lt h =
    let qc : path_cmp q c.path ≡ Less = less _ (first (is_lt (path_cmp q c.path)) (below_all path_cmp q (marks cs)) h) in
    both (is_lt (path_cmp p c.path)) _ (subst (λ o. T (is_lt o)) (sym (path_cmp-IsTotalOrder.trans p q c.path lt qc)) tt) (below-less p q cs lt (second (is_lt (path_cmp q c.path)) _ h))

-- each is before the next
abbrev Before : Change → Change → Type 0
Before c d = true ≡ is_lt (path_cmp c.path d.path)

later : (c d : Change) (cs : List Change) → AllAdjacentBelow Before (c ∷ d ∷ cs) (length (c ∷ d ∷ cs)) → AllAdjacentBelow Before (d ∷ cs) (length (d ∷ cs))
later c d cs h k e l =
    let at : suc k + 1 ≡ suc (k + 1) = omega arith in
    subst (λ n. Before (get_or (c ∷ d ∷ cs) (suc k) e) (get_or (c ∷ d ∷ cs) n e)) at (h (suc k) e (omega arith))

sorted-adjacent : (cs : List Change) → AllAdjacentBelow Before cs (length cs) → T (is_sorted path_cmp (marks cs))
sorted-adjacent [] h = tt
sorted-adjacent (c ∷ []) h = tt
sorted-adjacent (c ∷ d ∷ cs) h =
    let rest : T (is_sorted path_cmp (marks (d ∷ cs))) = sorted-adjacent (d ∷ cs) (later c d cs h) in
    let here : T (is_lt (path_cmp c.path d.path)) = subst T (h 0 c (omega arith)) tt in
    both (below_all path_cmp c.path (marks (d ∷ cs))) _ (both (is_lt (path_cmp c.path d.path)) _ here (below-less c.path d.path cs (less _ here) (first (below_all path_cmp d.path (marks cs)) _ rest))) rest

-- what `is_sorted_by` says of them
pub sorted-tested : (cs : List Change) (b : Bool) → IsAllAdjacentAnswer (λ (c d : Change) t. t ≡ is_lt (path_cmp c.path d.path)) cs b → b ≡ true → is_sorted path_cmp (marks cs) ≡ true
sorted-tested cs true h e = IsTrue-from_T _ (sorted-adjacent cs h)
sorted-tested cs false h e = cc

-- a map's insertion puts
pub marks-insert : (es : List (List Step × Cells)) (p : List Step) (v : Cells) → marks_of (insert_entry path_cmp es p v) ≡ put path_cmp p (v.before, v.after) (marks_of es)
marks-insert [] p v = refl
marks-insert (e ∷ es) p v =
    elim (path_cmp p e.0) as (λ o. marks_of (match_ordering o ((p, v) ∷ e ∷ es) ((e.0, v) ∷ es) (e ∷ insert_entry path_cmp es p v)) ≡ by_order o ((p, (v.before, v.after)) ∷ (e.0, (e.1.before, e.1.after)) ∷ marks_of es) ((e.0, (v.before, v.after)) ∷ marks_of es) ((e.0, (e.1.before, e.1.after)) ∷ put path_cmp p (v.before, v.after) (marks_of es))) [
      | Less ↦ refl
      | Equal ↦ refl
      | Greater ↦ ap (λ (fs : List (List Step × (Option Cell × Option Cell))). (e.0, (e.1.before, e.1.after)) ∷ fs) (marks-insert es p v)
    ]

pub marks-append : (xs ys : List Change) → marks (xs ++ ys) ≡ marks xs ++ marks ys
marks-append [] ys = refl
marks-append (c ∷ xs) ys = ap (λ (es : List (List Step × (Option Cell × Option Cell))). (c.path, (c.before, c.after)) ∷ es) (marks-append xs ys)

pub marks_of-append : (xs ys : List (List Step × Cells)) → marks_of (xs ++ ys) ≡ marks_of xs ++ marks_of ys
marks_of-append [] ys = refl
marks_of-append (e ∷ xs) ys = ap (λ (es : List (List Step × (Option Cell × Option Cell))). (e.0, (e.1.before, e.1.after)) ∷ es) (marks_of-append xs ys)
