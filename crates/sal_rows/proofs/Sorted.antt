-- What elements put into a map one after the other, each at the path of its own: a stable sort by these paths changes nothing of it.
use Rattle.std.proofs.Common.{◌≡◌, Bool, true, false, cond, List, [], ◌∷◌, Option, Some, None, refl, ap, sym, ◌∙◌, subst, if◌then◌else◌}
use Rattle.std.specs.Prelude.{T, not, ◌&&◌}
use Rattle.std.specs.List.{filter, fold}
use Rattle.std.specs.List.Sorted.{ties, IsStableBy}
use Rattle.std.specs.Option.{option_or}
use Rattle.std.specs.Ordering.{is_eq, is_lt, ordering_reverse}
use Rattle.std.specs.declared.cmp.Ordering.{Ordering}
use Rattle.std.specs.declared.cmp.Ordering.TheVariants.{Less, Equal, Greater}
use Rattle.std.specs.FinMap.{find, put, is_sorted}
use Rattle.std.specs.FinMap.Entries.{is_sorted-put, find-put, same_entries}
use Rattle.sal_types.specs.declared.value.Step.{Step}
use Rattle.sal_types.specs.Order.{path_cmp, path_eq, path_cmp-IsTotalOrder, path_cmp-IsAntisymmetric}
use Rattle.sal_types.proofs.Handy.{same_path}

-- the first of the elements that pass a test passes it
first_kept : {X : Type 0} (t : X → Bool) (xs : List X) (x : X) (l : List X) → filter t xs ≡ x ∷ l → t x ≡ true
first_kept t [] x l e = cc
first_kept t (z ∷ xs) x l e =
    elim (t z) as (λ b. t z ≡ b → cond b (z ∷ filter t xs) (filter t xs) ≡ x ∷ l → t x ≡ true) [
      | true ↦ λ is e. let same : z ≡ x = cc in ap t (sym same) ∙ is
      | false ↦ λ is e. first_kept t xs x l e
    ] refl e

-- neither is less
neither : (o : Ordering) → (not (is_lt o) && not (is_lt (ordering_reverse o))) ≡ is_eq o
neither Less = refl
neither Equal = refl
neither Greater = refl

or_none : {V : Type 0} (o : Option V) → option_or o None ≡ o
or_none None = refl
or_none (Some v) = refl

or_assoc : {V : Type 0} (x y z : Option V) → option_or x (option_or y z) ≡ option_or (option_or x y) z
or_assoc None y z = refl
or_assoc (Some v) y z = refl

module _ {X V : Type 0} (path : X → List Step) (value : X → V) where
  -- each value put at the path of its element
  abbrev pub put_each : List (List Step × V) → List X → List (List Step × V)
  put_each es xs = fold (λ fs x. put path_cmp (path x) (value x) fs) es xs

  -- the value of the last element at the path
  abbrev last_with : List Step → List X → Option V
  last_with p [] = None
  last_with p (x ∷ xs) = option_or (last_with p xs) (if path_eq p (path x) then Some (value x) else None)

  abbrev stands_at : List Step → X → Bool
  stands_at p x = path_eq p (path x)

  abbrev before : X → X → Bool
  before x y = is_lt (path_cmp (path x) (path y))

  put_so : (b : Bool) (x : X) (o : Option V) → cond b (Some (value x)) o ≡ option_or (if b then Some (value x) else None) o
  put_so true x o = refl
  put_so false x o = refl

  find-put_each : (xs : List X) (es : List (List Step × V)) (p : List Step) → find path_cmp p (put_each es xs) ≡ option_or (last_with p xs) (find path_cmp p es)
  find-put_each [] es p = refl
  find-put_each (x ∷ xs) es p =
      find-put_each xs (put path_cmp (path x) (value x) es) p
      ∙ ap (option_or (last_with p xs)) (find-put path_cmp path_cmp-IsTotalOrder p (path x) (value x) es ∙ put_so (path_eq p (path x)) x (find path_cmp p es))
      ∙ or_assoc (last_with p xs) (if path_eq p (path x) then Some (value x) else None) (find path_cmp p es)

  is_sorted-put_each : (xs : List X) (es : List (List Step × V)) → T (is_sorted path_cmp es) → T (is_sorted path_cmp (put_each es xs))
  is_sorted-put_each [] es h = h
  is_sorted-put_each (x ∷ xs) es h = is_sorted-put_each xs (put path_cmp (path x) (value x) es) (is_sorted-put path_cmp path_cmp-IsTotalOrder (path x) (value x) es h)

  -- only the elements at the path count
  last_with-filter : (p : List Step) (xs : List X) → last_with p (filter (stands_at p) xs) ≡ last_with p xs
  last_with-filter p [] = refl
  last_with-filter p (x ∷ xs) =
      elim (path_eq p (path x)) as (λ b. path_eq p (path x) ≡ b → last_with p (cond b (x ∷ filter (stands_at p) xs) (filter (stands_at p) xs)) ≡ option_or (last_with p xs) (if b then Some (value x) else None)) [
        | true ↦ λ is i. option_or (last_with-filter p xs i) (if is i then Some (value x) else None)
        | false ↦ λ is. last_with-filter p xs ∙ sym (or_none (last_with p xs))
      ] refl

  -- elements that tie are at the same path
  ties_at : (p : List Step) (x : X) → stands_at p x ≡ true → (y : X) → ties before x y ≡ stands_at p y
  ties_at p x e y =
      ap (λ o. not (before x y) && not (is_lt o)) (path_cmp-IsTotalOrder.antisymm (path y) (path x))
      ∙ neither (path_cmp (path x) (path y))
      ∙ ap (λ q. path_eq q (path y)) (sym (same_path p (path x) e))

  module _ (xs ys : List X) (stable : IsStableBy before xs ys) where
    alike : (p : List Step) (x : X) → stands_at p x ≡ true → filter (stands_at p) ys ≡ filter (stands_at p) xs
    alike p x e =
        let same : ties before x ≡ stands_at p = λ i y. ties_at p x e y i in
        subst (λ (t : X → Bool). filter t ys ≡ filter t xs) same (stable x)

    -- the elements at each path are the same, in the same order
    same_at : (p : List Step) → filter (stands_at p) ys ≡ filter (stands_at p) xs
    same_at p = by (filter (stands_at p) ys) refl (filter (stands_at p) xs) refl
      where
        by : (us : List X) → filter (stands_at p) ys ≡ us → (vs : List X) → filter (stands_at p) xs ≡ vs → filter (stands_at p) ys ≡ filter (stands_at p) xs
        by [] e [] d = e ∙ sym d
        by [] e (v ∷ vs) d = alike p v (first_kept (stands_at p) xs v vs d)
        by (u ∷ us) e vs d = alike p u (first_kept (stands_at p) ys u us e)

    same_last : (p : List Step) → last_with p ys ≡ last_with p xs
    same_last p = sym (last_with-filter p ys) ∙ ap (last_with p) (same_at p) ∙ last_with-filter p xs

    -- elements and the same, stably sorted, make the same map
    pub put_each-stable : put_each [] ys ≡ put_each [] xs
    put_each-stable =
        same_entries path_cmp path_cmp-IsTotalOrder path_cmp-IsAntisymmetric (put_each [] ys) (put_each [] xs) (is_sorted-put_each ys [] tt) (is_sorted-put_each xs [] tt)
        (λ p. find-put_each ys [] p ∙ ap (λ o. option_or o None) (same_last p) ∙ sym (find-put_each xs [] p))
