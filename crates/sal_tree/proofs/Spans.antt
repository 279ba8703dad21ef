-- With equal stamps at both ends of a span a path is unchanged.
use Rattle.std.proofs.Common.{◌≡◌, ◌≢◌, ℕ, Bool, true, false, List, ◌∷◌, ◌&&◌, ◌==◌, Option, Some, None, refl, ap, sym, ◌∙◌, if◌then◌else◌, arith}
use Rattle.std.specs.Prelude.{not, T}
use Rattle.std.proofs.lemmas.Bool.Decides.{nat_tests}
use Rattle.sal_types.specs.declared.value.Step.{Step}
use Rattle.sal_types.specs.declared.value.Store.{Store}
use Rattle.sal_node.specs.Tree.{Tree, IsGrove}
use Rattle.sal_tree.specs.Grow.{at, kid, present}
use Rattle.sal_tree.specs.Alike.{alike}
use Rattle.sal_tree.specs.History.{Done, IsHistory, newest, is_touched, is_unchanged, IsFresh}
use Rattle.sal_tree.proofs.Laws.{IsFull, full-kid}
use Rattle.sal_tree.proofs.Cells.{has-rows_of}
use Rattle.sal_tree.proofs.Edited.{full-at}
use Rattle.sal_tree.proofs.History.{same_stamp-untouched}

pub same_test : (a b : ℕ) → a ≡ b → (a == b) ≡ true
same_test a b e = grind (arith, nat_tests)

other_test : (a b : ℕ) → b ≢ a → (a == b) ≡ false
other_test a b e = elim (a == b) as (λ c. (a == b) ≡ c → c ≡ false) [ true ↦ λ c. absurd (e (sym (from_test a b c))) | false ↦ λ c. refl ] refl
  where
    from_test : (a b : ℕ) → (a == b) ≡ true → a ≡ b
    from_test a b c = grind (arith, nat_tests)

so_present : (o : Option Tree) (n : Tree) → IsFull o → o ≡ Some n → present o ≡ true
so_present None n h e = cc
so_present (Some t) n h e = so _ h.0
  where
    so : (b : Bool) → T b → b ≡ true
    so true h = refl
    so false h = absurd h

-- below the root: the test by stamps is the test by rows and operations
pub alike-unchanged : (s : Store) (t : Tree) (ds : List Done) (x : Step) (q : List Step) → IsGrove t.kids → IsGrove (newest t ds).kids → IsHistory s t ds
    → ((n : Tree) → at (Some t) (x ∷ q) ≡ Some n → IsFresh n.stamp ds)
    → alike (at (Some t) (x ∷ q)) (at (Some (newest t ds)) (x ∷ q)) ≡ is_unchanged s t ds (x ∷ q)
alike-unchanged s t ds x q g h history fresh =
    by_nodes (at (Some t) (x ∷ q)) (at (Some (newest t ds)) (x ∷ q)) refl refl
    ∙ sym ((λ i. if has-rows_of t g (x ∷ q) i then (has-rows_of (newest t ds) h (x ∷ q) i && not (is_touched s t ds (x ∷ q))) else not (has-rows_of (newest t ds) h (x ∷ q) i)))
  where
    by_nodes : (o u : Option Tree) → at (Some t) (x ∷ q) ≡ o → at (Some (newest t ds)) (x ∷ q) ≡ u
        → alike (at (Some t) (x ∷ q)) (at (Some (newest t ds)) (x ∷ q)) ≡ (if present (at (Some t) (x ∷ q)) then (present (at (Some (newest t ds)) (x ∷ q)) && not (is_touched s t ds (x ∷ q))) else not (present (at (Some (newest t ds)) (x ∷ q))))
    by_nodes None None a b = (λ i. alike (a i) (b i)) ∙ sym (λ i. if present (a i) then (present (b i) && not (is_touched s t ds (x ∷ q))) else not (present (b i)))
    by_nodes None (Some m) a b =
        (λ i. alike (a i) (b i)) ∙ sym ((λ i. if present (a i) then (present (at (Some (newest t ds)) (x ∷ q)) && not (is_touched s t ds (x ∷ q))) else not (present (at (Some (newest t ds)) (x ∷ q))))
        ∙ ap not (so_present _ m (full-at (kid (Some (newest t ds)) x) q (full-kid (Some (newest t ds)) x h)) b))
    by_nodes (Some n) None a b =
        (λ i. alike (a i) (b i)) ∙ sym ((λ i. if so_present _ n (full-at (kid (Some t) x) q (full-kid (Some t) x g)) a i then (present (b i) && not (is_touched s t ds (x ∷ q))) else not (present (b i))))
    by_nodes (Some n) (Some m) a b =
        let both = same_stamp-untouched s t ds (x ∷ q) n m history a b (fresh n a) in
        (λ i. alike (a i) (b i))
        ∙ elim (is_touched s t ds (x ∷ q)) as (λ c. is_touched s t ds (x ∷ q) ≡ c → (n.stamp == m.stamp) ≡ not c) [
          | true ↦ λ c. other_test n.stamp m.stamp (both.1 c)
          | false ↦ λ c. same_test n.stamp m.stamp (both.0 c)
        ] refl
        ∙ sym (λ i. if so_present _ n (full-at (kid (Some t) x) q (full-kid (Some t) x g)) a i then (so_present _ m (full-at (kid (Some (newest t ds)) x) q (full-kid (Some (newest t ds)) x h)) b i && not (is_touched s t ds (x ∷ q))) else not (present (at (Some (newest t ds)) (x ∷ q))))
