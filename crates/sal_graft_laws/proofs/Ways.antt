-- Prefixes of paths, and what a commit touches.
use Rattle.std.proofs.Common.{◌≡◌, ℕ, zero, suc, ◌+◌, ◌*◌, ◌<◌, ◌≤◌, Bool, true, false, List, [], ◌∷◌, ◌++◌, ◌&&◌, ◌||◌, length, map, get_or, Some, refl, ap, sym, subst, ◌∙◌, arith, if◌then◌else◌}
use Rattle.std.specs.Prelude.{All, Contains, is_some}
use Rattle.std.specs.List.{filter, list_any}
use Rattle.std.specs.Ordering.{eq_by_cmp}
use Rattle.std.specs.Cmp.{Equal-is, first_so, second_so}
use Rattle.std.proofs.lemmas.List.{get_or-map, length-append, length-map}
use Rattle.std.proofs.lemmas.List.Folds.{list_any-append}
use Rattle.std.proofs.lemmas.List.Elements.{All-head, All-tail, Contains-append_left, Contains-append_right}
use Rattle.sal_types.specs.declared.value.Store.{Store}
use Rattle.sal_types.specs.declared.value.Step.{Step}
use Rattle.sal_types.specs.declared.row.Row.{Row}
use Rattle.sal_types.specs.Order.{step_cmp, step_cmp-IsAntisymmetric}
use Rattle.sal_types.specs.Prefix.{is_prefix}
use Rattle.sal_types.specs.Tree.{has}
use Rattle.sal_rows.specs.declared.op.Op.{Op}
use Rattle.sal_rows.specs.Apply.{act_setting, rows_of_act, same_store}
use Rattle.sal_rows.specs.Touch.{op_touches, touches}
use Rattle.sal_graft_laws.specs.Way.{way, ways, paths, paths_by, paths_of}
use Rattle.sal_tree.proofs.Touches.{and_no}

-- ---- ways

Contains-map : {A B : Type 0} (f : A → B) (xs : List A) (x : A) → Contains xs x → Contains (map f xs) (f x)
Contains-map f xs x is = (is.0, subst (λ k. is.0 < k) (sym (length-map xs f)) is.1, get_or-map f xs is.0 x (f x) is.1 ∙ ap f is.2)

in_way : (p r : List Step) → is_prefix p r ≡ true → Contains (way r) p
in_way [] [] e = (0, omega arith, refl)
in_way [] (y ∷ r) e = (0, omega arith, refl)
in_way (x ∷ p) [] e = cc
in_way (x ∷ p) (y ∷ r) e =
    let same : x ≡ y = step_cmp-IsAntisymmetric x y ((Equal-is _).0 (first_so (eq_by_cmp step_cmp x y) (is_prefix p r) e)) in
    let below : Contains (way r) p = in_way p r (second_so _ (is_prefix p r) e) in
    subst (λ z. Contains (way (y ∷ r)) (z ∷ p)) (sym same)
    (Contains-append_right ([] ∷ []) (map (λ q. y ∷ q) (way r)) (y ∷ p) (Contains-map (λ q. y ∷ q) (way r) p below))

pub in_ways : (p : List Step) (ps : List (List Step)) → list_any (is_prefix p) ps ≡ true → Contains (ways ps) p
in_ways p [] e = cc
in_ways p (r ∷ ps) e =
    elim (is_prefix p r) as (λ b. is_prefix p r ≡ b → (b || list_any (is_prefix p) ps) ≡ true → Contains (ways (r ∷ ps)) p) [
      | true ↦ λ is _. Contains-append_left (way r) (ways ps) p (in_way p r is)
      | false ↦ λ _ rest. Contains-append_right (way r) (ways ps) p (in_ways p ps rest)
    ] refl e

length-way : (p : List Step) → length (way p) ≡ suc (length p)
length-way [] = refl
length-way (x ∷ p) = ap suc (length-map (way p) (λ q. x ∷ q) ∙ length-way p)

pub length-ways : (ps : List (List Step)) → All (λ p. length p ≤ 32) ps → length (ways ps) ≤ 33 * length ps
length-ways [] short = omega arith
length-ways (p ∷ ps) short =
    let here : length p ≤ 32 = All-head (λ q. length q ≤ 32) p ps short in
    let rest : length (ways ps) ≤ 33 * length ps = length-ways ps (All-tail (λ q. length q ≤ 32) p ps short) in
    let both : length (ways (p ∷ ps)) ≡ length (way p) + length (ways ps) = length-append (way p) (ways ps) in
    omega (arith, here, rest, both, length-way p)

-- ---- what is touched

and_yes : (b : Bool) → (b && true) ≡ b
and_yes true = refl
and_yes false = refl

any-paths : (p : List Step) (rows : List Row) → list_any (is_prefix p) (paths rows) ≡ has rows p
any-paths p [] = refl
any-paths p (row ∷ rows) = ap (λ b. is_prefix p row.path || b) (any-paths p rows)

any-kept : (p : List Step) (t : Row → Bool) (rows : List Row) → list_any (is_prefix p) (paths (filter t rows)) ≡ list_any (λ row. is_prefix p row.path && t row) rows
any-kept p t [] = refl
any-kept p t (row ∷ rows) =
    elim (t row) as (λ b. list_any (is_prefix p) (paths (if b then row ∷ filter t rows else filter t rows)) ≡ ((is_prefix p row.path && b) || list_any (λ x. is_prefix p x.path && t x) rows)) [
      | true ↦ λ i. sym (and_yes (is_prefix p row.path)) i || any-kept p t rows i
      | false ↦ any-kept p t rows ∙ ap (λ b. b || list_any (λ x. is_prefix p x.path && t x) rows) (sym (and_no (is_prefix p row.path)))
    ]

any-by : (before : List Row) (op : Op) (p : List Step) → list_any (is_prefix p) (paths_by before op) ≡ op_touches before op p
any-by before op p =
    list_any-append (is_prefix p) (paths (rows_of_act op.act)) (paths (filter (λ row. is_some (act_setting op.path op.act row.path)) before))
    ∙ (λ i. any-paths p (rows_of_act op.act) i || any-kept p (λ row. is_some (act_setting op.path op.act row.path)) before i)

pub any-touched : (before : List Row) (s : Store) (ops : List Op) (p : List Step) → list_any (is_prefix p) (paths_of before s ops) ≡ touches before s ops p
any-touched before s [] p = refl
any-touched before s (op ∷ ops) p =
    list_any-append (is_prefix p) (if same_store op.store s then paths_by before op else []) (paths_of before s ops)
    ∙ (λ i. own (same_store op.store s) i || any-touched before s ops p i)
  where
    own : (b : Bool) → list_any (is_prefix p) (if b then paths_by before op else []) ≡ (b && op_touches before op p)
    own true = any-by before op p
    own false = refl
