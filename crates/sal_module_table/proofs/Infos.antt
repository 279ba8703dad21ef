-- The nodes of a table, from one to the next.
use Rattle.std.proofs.Common.{◌≡◌, ℕ, ◌+◌, ◌<◌, ◌≤◌, Bool, List, [], ◌∷◌, ◌++◌, filter, length, take, drop, get_or, refl, sym, ap, ◌∙◌, inl, inr, append_assoc, arith}
use Rattle.std.specs.Prelude.{if◌then◌else◌}
use Rattle.std.proofs.lemmas.Bool.{cases_Bool}
use Rattle.std.proofs.lemmas.List.{drop_more, take_more, append-nil, drop_all, length-take}
use Rattle.sal_stmt.specs.declared.stmt.Stmt.{Stmt}
use Rattle.sal_grouping.specs.declared.forest.Branch.{Branch}
use Rattle.sal_schema.specs.declared.table.NodeInfo.{NodeInfo}
use Rattle.sal_module_table.specs.Table.{is_typed, types_before, info_of, infos_from}

count-last : {X : Type 0} (p : X → Bool) (xs : List X) (x : X) → length (filter p (xs ++ x ∷ [])) ≡ (if p x then length (filter p xs) + 1 else length (filter p xs))
count-last p [] x = elim (cases_Bool (p x)) [ inl e ↦ rw e refl | inr e ↦ rw e refl ]
count-last p (y ∷ xs) x = elim (cases_Bool (p y)) [
  | inl e ↦ elim (cases_Bool (p x)) [
    | inl f ↦ let rest = rw f at (count-last p xs x) in rw (e, f) (omega (arith, rest))
    | inr f ↦ let rest = rw f at (count-last p xs x) in rw (e, f) (omega (arith, rest))
  ]
  | inr e ↦ rw e (count-last p xs x)
]

count-below : {X : Type 0} (p : X → Bool) (xs : List X) → length (filter p xs) ≤ length xs
count-below p [] = omega arith
count-below p (x ∷ xs) = elim (cases_Bool (p x)) [ inl e ↦ rw e (omega (arith, count-below p xs)) | inr e ↦ rw e (omega (arith, count-below p xs)) ]

module _ (stmts : List Stmt) (forest : List Branch) where
  pub types-few : (k : ℕ) → k < length forest → types_before stmts forest k ≤ k
  types-few k h = omega (arith, count-below (is_typed stmts) (take k forest), length-take k forest)

  pub types-more : (k : ℕ) (b : Branch) → k < length forest → b ≡ get_or forest k b
      → (if is_typed stmts b then types_before stmts forest k + 1 else types_before stmts forest k) ≡ types_before stmts forest (k + 1)
  types-more k b h is =
      sym (ap (λ xs. length (filter (is_typed stmts) xs)) (take_more forest k b h ∙ ap (λ x. take k forest ++ x ∷ []) (sym is)) ∙ count-last (is_typed stmts) (take k forest) b)

  pub infos-more : (done : List NodeInfo) (k : ℕ) (b : Branch) → k < length forest → b ≡ get_or forest k b
      → done ++ infos_from stmts forest k (drop k forest) ≡ (done ++ info_of stmts forest k b ∷ []) ++ infos_from stmts forest (k + 1) (drop (k + 1) forest)
  infos-more done k b h is =
      ap (λ ys. done ++ infos_from stmts forest k ys) (drop_more forest k b h) ∙ ap (λ x. done ++ info_of stmts forest k x ∷ infos_from stmts forest (k + 1) (drop (k + 1) forest)) (sym is)
      ∙ sym (append_assoc done (info_of stmts forest k b ∷ []) (infos_from stmts forest (k + 1) (drop (k + 1) forest)))

  pub infos-all : (done : List NodeInfo) (k : ℕ) → length forest ≤ k → done ++ infos_from stmts forest k (drop k forest) ≡ done
  infos-all done k h = ap (λ ys. done ++ infos_from stmts forest k ys) (drop_all k forest h) ∙ append-nil done
