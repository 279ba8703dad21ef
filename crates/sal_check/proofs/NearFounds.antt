-- The walk over two trees, child by child.
use Rattle.std.proofs.Common.{◌≡◌, ℕ, ◌+◌, ◌<◌, ◌≤◌, false, true, cond, List, [], ◌∷◌, ◌++◌, length, take, get_or, Option, refl, sym, ap, ◌∙◌, append_assoc, if◌then◌else◌}
use Rattle.std.specs.Prelude.{nat_eq}
use Rattle.std.specs.List.{fold, list_any}
use Rattle.std.proofs.lemmas.List.Sums.{fold-append}
use Rattle.std.specs.Borrow.{Bor}
use Rattle.sal_types.specs.declared.value.Store.{Store}
use Rattle.sal_types.specs.declared.value.Step.{Step}
use Rattle.sal_node.specs.Tree.{Tree, Forest, bare, grown, pairs}
use Rattle.sal_node.specs.Shape.{seen, made_by}
use Rattle.sal_node.specs.declared.node.Child.{Child}
use Rattle.sal_tree.specs.Grow.{kid}
use Rattle.sal_schema.specs.declared.table.SchemaTable.{SchemaTable}
use Rattle.sal_rows.specs.declared.outcome.Breach.{Breach}
use Rattle.sal_rules.specs.declared.spot.Spot.{Spot}
use Rattle.sal_rules.specs.Breaches.{keep}
use Rattle.sal_check.specs.Near.{is_new, near_at, near_below, near, near_in}
use Rattle.sal_rules.specs.Places.{after_step}
use Rattle.sal_check.proofs.Counted.{seen-at, seen-all}
use Rattle.sal_check.proofs.NearKids.{new-any}

module _ (stamps : List ℕ) (table : SchemaTable) (store : Store) (place : List Step) (spot : Spot) (o : Option Tree) where
  abbrev pub near_kid : Step × Tree → List Breach
  near_kid e = near stamps table store (place ++ e.0 ∷ []) (after_step table spot e.0) (kid o e.0) e.1

  near_in-append : (xs ys : List (Step × Tree)) → near_in stamps table store place spot o (xs ++ ys) ≡ near_in stamps table store place spot o xs ++ near_in stamps table store place spot o ys
  near_in-append [] ys = refl
  near_in-append (e ∷ xs) ys = ap (λ (l : List Breach). near_kid e ++ l) (near_in-append xs ys) ∙ sym (append_assoc (near_kid e) (near_in stamps table store place spot o xs) (near_in stamps table store place spot o ys))

  below-in : (f : Forest) → near_in stamps table store place spot o (pairs f) ≡ near_below stamps table store place spot o f
  below-in bare = refl
  below-in (grown x s c ks rest) = ap (λ (l : List Breach). near_kid (x, record { stamp = s; cell = c; kids = ks }) ++ l) (below-in rest)

  append_none : (xs : List Breach) → xs ++ [] ≡ xs
  append_none [] = refl
  append_none (x ∷ xs) = ap (λ (l : List Breach). x ∷ l) (append_none xs)

  -- one more child
  pub near-more : (cs : List (Bor Child)) (i : ℕ) (c : Bor Child) (start was now : Option Breach) → i < length cs → c ≡ get_or cs i c
      → was ≡ fold keep start (near_in stamps table store place spot o (take i (seen cs))) → now ≡ fold keep was (near_kid (c.now.step, c.now.node.value))
      → now ≡ fold keep start (near_in stamps table store place spot o (take (i + 1) (seen cs)))
  near-more cs i c start was now l at before is =
      let e : Step × Tree = (c.now.step, c.now.node.value) in
      is ∙ ap (λ b. fold keep b (near_kid e)) before
      ∙ sym (fold-append keep start (near_in stamps table store place spot o (take i (seen cs))) (near_kid e))
      ∙ ap (fold keep start) (ap (λ (l : List Breach). near_in stamps table store place spot o (take i (seen cs)) ++ l) (sym (append_none (near_kid e))) ∙ sym (near_in-append (take i (seen cs)) (e ∷ [])) ∙ ap (near_in stamps table store place spot o) (sym (seen-at cs i c l at)))

  -- a child that was there before has none
  near-kept : (e : Step × Tree) → list_any (nat_eq e.1.stamp) stamps ≡ false → near_kid e ≡ []
  near-kept e h = ap (λ b. if b then near_at stamps table store (place ++ e.0 ∷ []) (after_step table spot e.0) (kid o e.0) e.1 ++ near_below stamps table store (place ++ e.0 ∷ []) (after_step table spot e.0) (kid o e.0) e.1.kids else []) (new-any stamps e.1.stamp ∙ h)

  near_in-made : (es : List (Step × Tree)) → near_in stamps table store place spot o (made_by stamps es) ≡ near_in stamps table store place spot o es
  near_in-made [] = refl
  near_in-made (e ∷ es) = elim (list_any (nat_eq e.1.stamp) stamps) as (λ b. list_any (nat_eq e.1.stamp) stamps ≡ b → near_in stamps table store place spot o (cond b (e ∷ made_by stamps es) (made_by stamps es)) ≡ near_kid e ++ near_in stamps table store place spot o es) [
    | true ↦ λ h. ap (λ (l : List Breach). near_kid e ++ l) (near_in-made es)
    | false ↦ λ h. near_in-made es ∙ ap (λ (l : List Breach). l ++ near_in stamps table store place spot o es) (sym (near-kept e h))
  ] refl

  pub near-all : (t : Tree) (cs : List (Bor Child)) (i : ℕ) (start was now : Option Breach) → is_new stamps t.stamp ≡ true → seen cs ≡ made_by stamps (pairs t.kids) → length cs ≤ i
      → was ≡ fold keep start (near_at stamps table store place spot o t) → now ≡ fold keep was (near_in stamps table store place spot o (take i (seen cs)))
      → now ≡ fold keep start (near stamps table store place spot o t)
  near-all t cs i start was now other same l before is =
      is ∙ (λ k. fold keep (before k) (near_in stamps table store place spot o ((seen-all cs i l ∙ same) k)))
      ∙ ap (fold keep (fold keep start (near_at stamps table store place spot o t))) (near_in-made (pairs t.kids) ∙ below-in t.kids)
      ∙ sym (fold-append keep start (near_at stamps table store place spot o t) (near_below stamps table store place spot o t.kids))
      ∙ sym (ap (λ b. fold keep start (if b then near_at stamps table store place spot o t ++ near_below stamps table store place spot o t.kids else [])) other)
