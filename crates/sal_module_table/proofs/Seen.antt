-- Identities, from one to the next.
use Rattle.std.proofs.Common.{◌≡◌, ℕ, ◌+◌, ◌<◌, List, [], ◌∷◌, ◌++◌, length, take, drop, get_or, Option, sym, ap, ◌∙◌, append_assoc, arith}
use Rattle.std.specs.Borrow.{Bor}
use Rattle.std.proofs.lemmas.List.{get_or-map, length-map, drop_more}
use Rattle.sal_stmt.specs.declared.stmt.Stmt.{Stmt}
use Rattle.sal_module.specs.declared.fault.Found.{Found}
use Rattle.sal_module.specs.Faults.{least}
use Rattle.sal_schema.specs.declared.table.IdentityInfo.{IdentityInfo}
use Rattle.sal_grouping.proofs.Places.{numbered, numbered-take, least_more}
use Rattle.sal_module_table.specs.Identities.{Identity, seen, info_of, infos_from}

-- what f gives of one element more
pub numbered-more : {X A : Type 0} (f : ℕ → X → List A) (xs : List X) (i : ℕ) (x : X) (old new : List A) → i < length xs → x ≡ get_or xs i x
    → old ≡ numbered f 0 (take i xs) → new ≡ old ++ f i x → new ≡ numbered f 0 (take (i + 1) xs)
numbered-more f xs i x old new h is so_far step =
    step ∙ ap (λ front. front ++ f i x) so_far ∙ ap (λ y. numbered f 0 (take i xs) ++ f i y) is ∙ sym (numbered-take f xs i x h)

abbrev view : ℕ × Bor Stmt → Identity
view one = (one.0, one.1.now)

module _ (all : List (ℕ × Bor Stmt)) (i : ℕ) (one : ℕ × Bor Stmt) (h : i < length all) (is : one ≡ get_or all i one) where
  long : i < length (seen all)
  long = omega (arith, h, length-map all view)

  here : view one ≡ get_or (seen all) i (view one)
  here = ap view is ∙ sym (get_or-map view all i one (view one) h)

  pub fault-more : (f : ℕ → Identity → List Found) (start best next : Option Found) → best ≡ least start (numbered f 0 (take i (seen all))) → next ≡ least best (f i (view one))
      → next ≡ least start (numbered f 0 (take (i + 1) (seen all)))
  fault-more f start best next so_far step = least_more f (seen all) i (view one) start best next long here so_far step

  pub infos-more : (edges : List (List ℕ)) (done : List IdentityInfo)
      → done ++ infos_from edges i (drop i (seen all)) ≡ (done ++ info_of edges i (view one) ∷ []) ++ infos_from edges (i + 1) (drop (i + 1) (seen all))
  infos-more edges done =
      ap (λ ys. done ++ infos_from edges i ys) (drop_more (seen all) i (view one) long)
      ∙ ap (λ x. done ++ info_of edges i x ∷ infos_from edges (i + 1) (drop (i + 1) (seen all))) (sym here)
      ∙ sym (append_assoc done (info_of edges i (view one) ∷ []) (infos_from edges (i + 1) (drop (i + 1) (seen all))))
