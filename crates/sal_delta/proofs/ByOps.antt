-- What a commit's operations lead to are its changes.
use Rattle.std.proofs.Common.{◌≡◌, true, false, Bool, List, [], ◌∷◌, ◌&&◌, ◌||◌, ◌⊎◌, inl, inr, Option, Some, None, refl, ap, sym, ◌∙◌, subst, if◌then◌else◌}
use Rattle.std.specs.Prelude.{is_some}
use Rattle.std.specs.Option.{option_or, option_map}
use Rattle.std.specs.Ordering.{is_eq, eq_by_cmp}
use Rattle.std.specs.Cmp.{Equal-is, tied_itself, first_so, second_so}
use Rattle.sal_types.specs.declared.value.Store.{Store}
use Rattle.sal_types.specs.declared.value.Step.{Step}
use Rattle.sal_types.specs.declared.value.Cell.{Cell}
use Rattle.sal_types.specs.declared.row.Row.{Row}
use Rattle.sal_types.specs.Order.{step_cmp, step_cmp-IsTotalOrder, step_cmp-IsAntisymmetric, path_eq}
use Rattle.sal_types.specs.contracts.value.CellOrd.TheImpl.Laws as cell_ord_laws
use Rattle.sal_types.specs.Prefix.{is_prefix}
use Rattle.sal_types.specs.Tree.{cell, under, IsAscending}
use Rattle.sal_rows.specs.declared.op.Act.{Act}
use Rattle.sal_rows.specs.declared.op.Act.TheVariants.{Put, Merge, Delete, Read}
use Rattle.sal_rows.specs.declared.op.Op.{Op}
use Rattle.sal_rows.specs.declared.change.Change.{Change}
use Rattle.sal_rows.specs.Apply.{same_store, act_setting, setting, last_setting, cell_by, apply_ops}
use Rattle.sal_rows.specs.Changes.{same_cell, changes_under, differing}
use Rattle.sal_rows.proofs.Cells.{same_path, IsAscending-filter}
use Rattle.sal_rows.proofs.Applied.{cell-apply_ops}
use Rattle.sal_rows.proofs.Differing.{Rises, same_changes, at-changes_under, rises-changes}
use Rattle.sal_delta.specs.ByOps.{change_of, found_at, found_at_rows, found_below, found_by, found_by_all}
use Rattle.sal_delta.specs.Ordered.{marks, in_order}
use Rattle.sal_delta.proofs.InOrder.{last_at, last-append, last-rising, rises-ordered, at-ordered, Both}

-- ---- prefixes

same_step : (x y : Step) → eq_by_cmp step_cmp x y ≡ true → x ≡ y
same_step x y e = step_cmp-IsAntisymmetric x y ((Equal-is _).0 e)

step_itself : (x y : Step) → x ≡ y → eq_by_cmp step_cmp x y ≡ true
step_itself x y e = ap (eq_by_cmp step_cmp x) (sym e) ∙ ap is_eq (tied_itself step_cmp-IsTotalOrder x)

and_both : (a b : Bool) → a ≡ true → b ≡ true → (a && b) ≡ true
and_both true b g h = h
and_both false b g h = g

prefix_of_prefix : (q p r : List Step) → is_prefix q p ≡ true → is_prefix p r ≡ true → is_prefix q r ≡ true
prefix_of_prefix [] p r g h = refl
prefix_of_prefix (x ∷ q) [] r g h = cc
prefix_of_prefix (x ∷ q) (y ∷ p) [] g h = cc
prefix_of_prefix (x ∷ q) (y ∷ p) (z ∷ r) g h =
    let xy : x ≡ y = same_step x y (first_so (eq_by_cmp step_cmp x y) (is_prefix q p) g) in
    and_both (eq_by_cmp step_cmp x z) (is_prefix q r) (ap (λ w. eq_by_cmp step_cmp w z) xy ∙ first_so (eq_by_cmp step_cmp y z) (is_prefix p r) h)
    (prefix_of_prefix q p r (second_so (eq_by_cmp step_cmp x y) (is_prefix q p) g) (second_so (eq_by_cmp step_cmp y z) (is_prefix p r) h))

-- of two prefixes of one path the one is a prefix of the other
prefixes_meet : (p q r : List Step) → is_prefix p r ≡ true → is_prefix q r ≡ true → is_prefix q p ≡ false → is_prefix p q ≡ true
prefixes_meet [] q r g h apart = refl
prefixes_meet (x ∷ p) [] r g h apart = cc
prefixes_meet (x ∷ p) (y ∷ q) [] g h apart = cc
prefixes_meet (x ∷ p) (y ∷ q) (z ∷ r) g h apart =
    let xz : x ≡ z = same_step x z (first_so (eq_by_cmp step_cmp x z) (is_prefix p r) g) in
    let yz : y ≡ z = same_step y z (first_so (eq_by_cmp step_cmp y z) (is_prefix q r) h) in
    let rest : is_prefix q p ≡ false = sym (ap (λ b. b && is_prefix q p) (step_itself y x (yz ∙ sym xz))) ∙ apart in
    and_both (eq_by_cmp step_cmp x y) (is_prefix p q) (step_itself x y (xz ∙ sym yz))
    (prefixes_meet p q r (second_so (eq_by_cmp step_cmp x z) (is_prefix p r) g) (second_so (eq_by_cmp step_cmp y z) (is_prefix q r) h) rest)

-- ---- the changes at one path, where f gives the cells before and after

-- they say nothing or that, and they say that where the path is set
record Says (set : Bool) (f o : Option (Option Cell × Option Cell)) : Type 0 where
  right : (o ≡ None) ⊎ (o ≡ f)
  told : set ≡ true → o ≡ f

or_right : (f x y : Option Both) → (x ≡ None) ⊎ (x ≡ f) → (y ≡ None) ⊎ (y ≡ f) → (option_or y x ≡ None) ⊎ (option_or y x ≡ f)
or_right f x None g h = g
or_right f x (Some v) g (inl w) = cc
or_right f x (Some v) g (inr w) = inr w

told_first : (f x y : Option Both) → x ≡ f → (y ≡ None) ⊎ (y ≡ f) → option_or y x ≡ f
told_first f x None e h = e
told_first f x (Some v) e (inl w) = cc
told_first f x (Some v) e (inr w) = w

told_last : (f x y : Option Both) → y ≡ f → (x ≡ None) ⊎ (x ≡ f) → option_or y x ≡ f
told_last f x (Some v) e h = e
told_last f None None e h = e
told_last None (Some v) None e (inl w) = cc
told_last None (Some v) None e (inr w) = w
told_last (Some u) (Some v) None e h = cc

or_either : (s t : Bool) → (s || t) ≡ true → (s ≡ true) ⊎ (t ≡ true)
or_either true t e = inl refl
or_either false t e = inr e

says-append : (s t : Bool) (f x y : Option Both) → Says s f x → Says t f y → Says (s || t) f (option_or y x)
says-append s t f x y g h = record {
  right = or_right f x y g.right h.right;
  told = λ e. elim (or_either s t e) [ inl a ↦ told_first f x y (g.told a) h.right | inr b ↦ told_last f x y (h.told b) g.right ];
}

says-weaker : (s t : Bool) (f o : Option Both) → Says s f o → (t ≡ true → s ≡ true) → Says t f o
says-weaker s t f o g h = record { right = g.right; told = λ e. g.told (h e) }

says_nothing : (f : Option Both) → Says false f None
says_nothing f = record { right = inl refl; told = λ e. cc }

-- ---- one operation

abbrev wanted : List Row → List Row → List Step → List Step → Option (Option Cell × Option Cell)
wanted b a p r = if is_prefix p r then differing (cell b r) (cell a r) else None

abbrev nothing : Option (Option Cell × Option Cell)
nothing = None

none_both : (z : Bool) → nothing ≡ (if z then nothing else nothing)
none_both true = refl
none_both false = refl

at_one : (q : List Step) (c d : Option Cell) (r : List Step) → last_at (change_of q c d) r ≡ (if path_eq r q then differing c d else None)
at_one q c d r = elim (same_cell c d) as (λ s. last_at (if s then [] else record { path = q; before = c; after = d } ∷ []) r ≡ (if path_eq r q then (if s then None else Some (c, d)) else None)) [
  | true ↦ none_both (path_eq r q)
  | false ↦ refl
]

rises-under : (b a : List Row) (q : List Step) → IsAscending b → Rises (changes_under b a q)
rises-under b a q g = rises-changes (under b q) (under a q) (IsAscending-filter (is_prefix q) b g)

at_below : (b a : List Row) (q r : List Step) → IsAscending b → IsAscending a → last_at (changes_under b a q) r ≡ wanted b a q r
at_below b a q r g h = last-rising (changes_under b a q) r (rises-under b a q g) ∙ at-changes_under b a q r h

-- the changes under a longer path
says_longer : (b a : List Row) (p q r : List Step) → is_prefix p q ≡ true → Says (is_prefix q r) (wanted b a p r) (wanted b a q r)
says_longer b a p q r k = elim (is_prefix q r) as (λ z. is_prefix q r ≡ z → Says z (wanted b a p r) (if z then differing (cell b r) (cell a r) else None)) [
  | true ↦ λ i.
      let same : wanted b a p r ≡ differing (cell b r) (cell a r) = ap (λ z. if z then differing (cell b r) (cell a r) else None) (prefix_of_prefix p q r k i) in
      record { right = inr (sym same); told = λ _. sym same }
  | false ↦ λ i. says_nothing (wanted b a p r)
] refl

-- no kind is given if neither path is a prefix of the other
says_apart : (b a : List Row) (p q r : List Step) → is_prefix q p ≡ false → is_prefix p q ≡ false → Says (is_prefix q r) (wanted b a p r) None
says_apart b a p q r e k = record {
  right = inl refl;
  told = λ i. elim (is_prefix p r) as (λ z. is_prefix p r ≡ z → None ≡ (if z then differing (cell b r) (cell a r) else None)) [
    | true ↦ λ j. let meet : is_prefix p q ≡ true = prefixes_meet p q r j i e in let other : is_prefix p q ≡ false = k in cc
    | false ↦ λ j. refl
  ] refl;
}

says_below : (b a : List Row) (p q r : List Step) → IsAscending b → IsAscending a → Says (is_prefix q r) (wanted b a p r) (last_at (found_below b a p q) r)
says_below b a p q r g h = elim (is_prefix q p) as (λ z. is_prefix q p ≡ z → Says (is_prefix q r) (wanted b a p r) (last_at (if z then changes_under b a p else (if is_prefix p q then changes_under b a q else [])) r)) [
  | true ↦ λ e. record { right = inr (at_below b a p r g h); told = λ _. at_below b a p r g h }
  | false ↦ λ e. elim (is_prefix p q) as (λ z. is_prefix p q ≡ z → Says (is_prefix q r) (wanted b a p r) (last_at (if z then changes_under b a q else []) r)) [
    | true ↦ λ k. subst (λ o. Says (is_prefix q r) (wanted b a p r) o) (sym (at_below b a q r g h)) (says_longer b a p q r k)
    | false ↦ λ k. says_apart b a p q r e k
  ] refl
] refl

at_row : (b a : List Row) (p q r : List Step) → last_at (if is_prefix p q then found_at b a q else []) r ≡ (if path_eq r q then wanted b a p q else None)
at_row b a p q r = elim (is_prefix p q) as (λ z. last_at (if z then found_at b a q else []) r ≡ (if path_eq r q then (if z then differing (cell b q) (cell a q) else None) else None)) [
  | true ↦ at_one q (cell b q) (cell a q) r
  | false ↦ none_both (path_eq r q)
]

says_row : (b a : List Row) (p q r : List Step) → Says (path_eq r q) (wanted b a p r) (last_at (if is_prefix p q then found_at b a q else []) r)
says_row b a p q r = subst (λ o. Says (path_eq r q) (wanted b a p r) o) (sym (at_row b a p q r)) (elim (path_eq r q) as (λ z. path_eq r q ≡ z → Says z (wanted b a p r) (if z then wanted b a p q else None)) [
  | true ↦ λ e. let same : wanted b a p q ≡ wanted b a p r = ap (wanted b a p) (sym (same_path r q e)) in record { right = inr same; told = λ _. same }
  | false ↦ λ e. says_nothing (wanted b a p r)
] refl)

says_rows : (b a : List Row) (p r : List Step) (rows : List Row) → Says (is_some (cell rows r)) (wanted b a p r) (last_at (found_at_rows b a p rows) r)
says_rows b a p r [] = says_nothing (wanted b a p r)
says_rows b a p r (row ∷ rows) =
    subst (λ o. Says (is_some (cell (row ∷ rows) r)) (wanted b a p r) o) (sym (last-append (if is_prefix p row.path then found_at b a row.path else []) (found_at_rows b a p rows) r))
    (says-weaker (path_eq r row.path || is_some (cell rows r)) (is_some (cell (row ∷ rows) r)) (wanted b a p r) _
    (says-append (path_eq r row.path) (is_some (cell rows r)) (wanted b a p r) _ _ (says_row b a p row.path r) (says_rows b a p r rows))
    (elim (path_eq r row.path) as (λ z. is_some (if z then Some row.cell else cell rows r) ≡ true → (z || is_some (cell rows r)) ≡ true) [ true ↦ λ _. refl | false ↦ λ e. e ]))

set_by : (z : Bool) (c : Option Cell) → is_some {T = Option Cell} (if z then Some c else None) ≡ true → z ≡ true
set_by true c e = refl
set_by false c e = cc

set_by_row : (c : Option Cell) → is_some {T = Option Cell} (option_map Some c) ≡ true → is_some c ≡ true
set_by_row None e = cc
set_by_row (Some c) e = refl

says_act : (b a : List Row) (p q r : List Step) (act : Act) → IsAscending b → IsAscending a → Says (is_some (act_setting q act r)) (wanted b a p r) (last_at (found_by b a p q act) r)
says_act b a p q r (Put rows) g h = says-weaker (is_prefix q r) _ (wanted b a p r) _ (says_below b a p q r g h) (set_by (is_prefix q r) (cell rows r))
says_act b a p q r (Merge rows) g h = says-weaker (is_some (cell rows r)) _ (wanted b a p r) _ (says_rows b a p r rows) (set_by_row (cell rows r))
says_act b a p q r Delete g h = says-weaker (is_prefix q r) _ (wanted b a p r) _ (says_below b a p q r g h) (set_by (is_prefix q r) None)
says_act b a p q r Read g h = says_nothing (wanted b a p r)

-- ---- all of them

says_op : (b a : List Row) (s : Store) (p r : List Step) (op : Op) → IsAscending b → IsAscending a → Says (is_some (setting s op r)) (wanted b a p r) (last_at (if same_store op.store s then found_by b a p op.path op.act else []) r)
says_op b a s p r op g h = elim (same_store op.store s) as (λ z. Says (is_some {T = Option Cell} (if z then act_setting op.path op.act r else None)) (wanted b a p r) (last_at (if z then found_by b a p op.path op.act else []) r)) [
  | true ↦ says_act b a p op.path r op.act g h
  | false ↦ says_nothing (wanted b a p r)
]

some_or : (x y : Option (Option Cell)) → is_some {T = Option Cell} (option_or x y) ≡ true → (is_some {T = Option Cell} y || is_some {T = Option Cell} x) ≡ true
some_or None None e = e
some_or None (Some v) e = refl
some_or (Some u) None e = refl
some_or (Some u) (Some v) e = refl

says_ops : (b a : List Row) (s : Store) (p r : List Step) (ops : List Op) → IsAscending b → IsAscending a → Says (is_some (last_setting s ops r)) (wanted b a p r) (last_at (found_by_all b a s p ops) r)
says_ops b a s p r [] g h = says_nothing (wanted b a p r)
says_ops b a s p r (op ∷ ops) g h =
    subst (λ o. Says (is_some (last_setting s (op ∷ ops) r)) (wanted b a p r) o) (sym (last-append (if same_store op.store s then found_by b a p op.path op.act else []) (found_by_all b a s p ops) r))
    (says-weaker (is_some (setting s op r) || is_some (last_setting s ops r)) (is_some (last_setting s (op ∷ ops) r)) (wanted b a p r) _
    (says-append (is_some (setting s op r)) (is_some (last_setting s ops r)) (wanted b a p r) _ _ (says_op b a s p r op g h) (says_ops b a s p r ops g h))
    (some_or (last_setting s ops r) (setting s op r)))

same_itself : (c : Option Cell) → same_cell c c ≡ true
same_itself None = refl
same_itself (Some c) = ap is_eq (tied_itself cell_ord_laws.total-law c)

not_wanted : (b a : List Row) (p r : List Step) → cell a r ≡ cell b r → wanted b a p r ≡ None
not_wanted b a p r e =
    ap (λ c. if is_prefix p r then differing (cell b r) c else None) e
    ∙ ap (λ z. if is_prefix p r then (if z then None else Some (cell b r, cell b r)) else None) (same_itself (cell b r))
    ∙ sym (none_both (is_prefix p r))

either_none : (f o : Option Both) → f ≡ None → (o ≡ None) ⊎ (o ≡ f) → o ≡ f
either_none f o e (inl w) = w ∙ sym e
either_none f o e (inr w) = w

all_found : (b a : List Row) (s : Store) (p r : List Step) (ops : List Op) → IsAscending b → IsAscending a → a ≡ apply_ops b s ops → last_at (found_by_all b a s p ops) r ≡ wanted b a p r
all_found b a s p r ops g h made =
    let says = says_ops b a s p r ops g h in
    elim (last_setting s ops r) as (λ m. last_setting s ops r ≡ m → last_at (found_by_all b a s p ops) r ≡ wanted b a p r) [
      | Some m ↦ λ e. says.told (ap is_some e)
      | None ↦ λ e.
          let kept : cell a r ≡ cell b r = ap (λ t. cell t r) made ∙ cell-apply_ops b s ops r ∙ ap (λ m. cell_by m (cell b r)) e in
          either_none (wanted b a p r) _ (not_wanted b a p r kept) says.right
    ] refl

-- what is found, in order, is the list of changes
pub changes-found : (b a : List Row) (s : Store) (p : List Step) (ops : List Op) (list : List Change) → IsAscending b → IsAscending a → a ≡ apply_ops b s ops → marks list ≡ in_order (found_by_all b a s p ops) → list ≡ changes_under b a p
changes-found b a s p ops list g h made e = same_changes list (changes_under b a p) (rises-ordered (found_by_all b a s p ops) list e) (rises-under b a p g) (λ r.
    at-ordered (found_by_all b a s p ops) list r e ∙ all_found b a s p r ops g h made ∙ sym (at-changes_under b a p r h))
