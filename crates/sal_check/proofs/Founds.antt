-- The walk, child by child.
use Rattle.std.proofs.Common.{◌≡◌, ℕ, ◌+◌, ◌<◌, ◌≤◌, List, [], ◌∷◌, ◌++◌, length, take, get_or, Option, refl, sym, ap, ◌∙◌, append_assoc}
use Rattle.std.specs.List.{fold}
use Rattle.std.proofs.lemmas.List.Sums.{fold-append}
use Rattle.std.specs.Borrow.{Bor}
use Rattle.sal_types.specs.declared.value.Store.{Store}
use Rattle.sal_types.specs.declared.value.Step.{Step}
use Rattle.sal_node.specs.Tree.{Tree, Forest, bare, grown, pairs}
use Rattle.sal_node.specs.Shape.{seen}
use Rattle.sal_node.specs.declared.node.Child.{Child}
use Rattle.sal_schema.specs.declared.table.SchemaTable.{SchemaTable}
use Rattle.sal_rows.specs.declared.outcome.Breach.{Breach}
use Rattle.sal_rules.specs.declared.spot.Spot.{Spot}
use Rattle.sal_rules.specs.Breaches.{keep}
use Rattle.sal_check.specs.Nodes.{found_at, found_below, found, found_in}
use Rattle.sal_rules.specs.Places.{after_step}
use Rattle.sal_check.proofs.Counted.{seen-at, seen-all}

module _ (table : SchemaTable) (store : Store) (place : List Step) (spot : Spot) where
  abbrev one : Step × Tree → List Breach
  one e = found table store (place ++ e.0 ∷ []) (after_step table spot e.0) e.1

  found_in-append : (xs ys : List (Step × Tree)) → found_in table store place spot (xs ++ ys) ≡ found_in table store place spot xs ++ found_in table store place spot ys
  found_in-append [] ys = refl
  found_in-append (e ∷ xs) ys = ap (λ (l : List Breach). one e ++ l) (found_in-append xs ys) ∙ sym (append_assoc (one e) (found_in table store place spot xs) (found_in table store place spot ys))

  below-in : (f : Forest) → found_in table store place spot (pairs f) ≡ found_below table store place spot f
  below-in bare = refl
  below-in (grown x s c ks rest) = ap (λ (l : List Breach). one (x, record { stamp = s; cell = c; kids = ks }) ++ l) (below-in rest)

  append_none : (xs : List Breach) → xs ++ [] ≡ xs
  append_none [] = refl
  append_none (x ∷ xs) = ap (λ (l : List Breach). x ∷ l) (append_none xs)

  -- one more child
  pub found-more : (cs : List (Bor Child)) (i : ℕ) (c : Bor Child) (start was now : Option Breach) → i < length cs → c ≡ get_or cs i c
      → was ≡ fold keep start (found_in table store place spot (take i (seen cs))) → now ≡ fold keep was (one (c.now.step, c.now.node.value))
      → now ≡ fold keep start (found_in table store place spot (take (i + 1) (seen cs)))
  found-more cs i c start was now l at before is =
      let e : Step × Tree = (c.now.step, c.now.node.value) in
      is ∙ ap (λ b. fold keep b (one e)) before
      ∙ sym (fold-append keep start (found_in table store place spot (take i (seen cs))) (one e))
      ∙ ap (fold keep start) (ap (λ (l : List Breach). found_in table store place spot (take i (seen cs)) ++ l) (sym (append_none (one e))) ∙ sym (found_in-append (take i (seen cs)) (e ∷ [])) ∙ ap (found_in table store place spot) (sym (seen-at cs i c l at)))

  pub found-all : (t : Tree) (cs : List (Bor Child)) (i : ℕ) (start was now : Option Breach) → seen cs ≡ pairs t.kids → length cs ≤ i
      → was ≡ fold keep start (found_at table store place spot t) → now ≡ fold keep was (found_in table store place spot (take i (seen cs)))
      → now ≡ fold keep start (found table store place spot t)
  found-all t cs i start was now same l before is =
      is ∙ (λ k. fold keep (before k) (found_in table store place spot ((seen-all cs i l ∙ same) k)))
      ∙ ap (fold keep (fold keep start (found_at table store place spot t))) (below-in t.kids)
      ∙ sym (fold-append keep start (found_at table store place spot t) (found_below table store place spot t.kids))
