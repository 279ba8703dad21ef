-- Trees made one after another, and what follows from their stamps.
use Rattle.std.proofs.Common.{◌≡◌, ℕ, Bool, true, false, List, ◌||◌, Some, refl, sym, ◌∙◌}
use Rattle.std.proofs.lemmas.Bool.{or_parts}
use Rattle.sal_types.specs.declared.value.Step.{Step}
use Rattle.sal_node.specs.Tree.{Tree}
use Rattle.sal_tree.specs.Follows.{Follows, HasNo, Agree}

pub some_same : (a b : Tree) → Some a ≡ Some b → a ≡ b
some_same a b e = cc

pub Follows-then : (P : ℕ → Type 0) (a b : List Step → Bool) (t u v : Tree) → Follows P a t u → Follows P b u v → Follows P (λ p. a p || b p) t v
Follows-then P a b t u v f g = record {
  stamped = λ p n touched stands.
      elim (b p) as (λ c. b p ≡ c → (a p || c) ≡ true → P n.stamp) [
        | true ↦ λ e _. g.stamped p n e stands
        | false ↦ λ e h. f.stamped p n (or_no (a p) h) (sym (g.kept p e) ∙ stands)
      ] refl touched;
  kept = λ p untouched. g.kept p (or_parts (a p) (b p) untouched).1 ∙ f.kept p (or_parts (a p) (b p) untouched).0;
}
  where
    or_no : (x : Bool) → (x || false) ≡ true → x ≡ true
    or_no true h = refl
    or_no false h = h

pub Follows-same : (P : ℕ → Type 0) (t : Tree) → Follows P (λ p. false) t t
Follows-same P t = record { stamped = λ p n e stands. cc; kept = λ p e. refl }

pub Follows-by : (P : ℕ → Type 0) (a b : List Step → Bool) (t u : Tree) → ((p : List Step) → a p ≡ b p) → Follows P a t u → Follows P b t u
Follows-by P a b t u same f = record { stamped = λ p n e stands. f.stamped p n (same p ∙ e) stands; kept = λ p e. f.kept p (same p ∙ e) }

-- with more stamps allowed
pub Follows-wider : (P Q : ℕ → Type 0) (a : List Step → Bool) (t u : Tree) → ((k : ℕ) → P k → Q k) → Follows P a t u → Follows Q a t u
Follows-wider P Q a t u h f = record { stamped = λ p n e stands. h n.stamp (f.stamped p n e stands); kept = f.kept }

-- A new tree agrees with another one as the tree before it does, where that has none of the new stamps.
pub Agree-Follows : (P : ℕ → Type 0) (touched : List Step → Bool) (t u w : Tree) → Agree t w → Follows P touched t u → ((s : ℕ) → P s → HasNo s w) → Agree u w
Agree-Follows P touched t u w agree f none p n m a b e =
    elim (touched p) as (λ c. touched p ≡ c → n ≡ m) [
      | true ↦ λ c. absurd (none n.stamp (f.stamped p n c a) p m b (sym e))
      | false ↦ λ c. agree p n m (sym (f.kept p c) ∙ a) b e
    ] refl

pub Agree-itself : (t : Tree) → Agree t t
Agree-itself t p n m a b e = some_same n m (sym a ∙ b)
