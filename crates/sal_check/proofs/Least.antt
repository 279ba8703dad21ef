-- The least breach depends only on which breaches there are.
use Rattle.std.proofs.Common.{◌≡◌, true, false, List, [], ◌∷◌, inl, inr, Some, refl, sym, ap, subst, ◌∙◌}
use Rattle.std.specs.Prelude.{if◌then◌else◌}
use Rattle.std.specs.List.{fold}
use Rattle.std.specs.Ordering.{is_lt, is_gt, ordering_reverse}
use Rattle.std.specs.Cmp.{IsTotalOrder}
use Rattle.std.specs.FinMap.{IsAntisymmetric, nat_cmp-IsAntisymmetric}
use Rattle.std.specs.declared.cmp.Ordering.{Ordering}
use Rattle.std.specs.declared.cmp.Ordering.TheVariants.{Less, Equal, Greater}
use Rattle.std.proofs.lemmas.Cmp.{upto, tied_itself}
use Rattle.sal_types.specs.Order.{path_cmp, path_cmp-IsAntisymmetric, then-first, then-second}
use Rattle.sal_rows.specs.declared.outcome.Rule.{Rule}
use Rattle.sal_rows.specs.declared.outcome.Rule.TheVariants.{Mandatory, MinElements, MaxElements, Unique, TwoCases}
use Rattle.sal_rows.specs.declared.outcome.Breach.{Breach}
use Rattle.sal_rows.specs.contracts.outcome.BreachOrd.TheImpl.Laws as breach_laws
use Rattle.sal_rows.specs.contracts.outcome.RuleOrd.TheImpl as rule_ord
use Rattle.sal_rules.specs.Breaches.{breach_cmp, keep, least}
use Rattle.sal_check.proofs.Members.{In}

total : IsTotalOrder breach_cmp
total = breach_laws.total-law

abbrev rule_cmp : Rule → Rule → Ordering
rule_cmp = (rule_ord.ghosts).cmp

rule_cmp-IsAntisymmetric : IsAntisymmetric rule_cmp
rule_cmp-IsAntisymmetric (Mandatory a) (Mandatory b) e = ap Mandatory (nat_cmp-IsAntisymmetric a b e)
rule_cmp-IsAntisymmetric (MinElements a) (MinElements b) e = ap MinElements (nat_cmp-IsAntisymmetric a b e)
rule_cmp-IsAntisymmetric (MaxElements a) (MaxElements b) e = ap MaxElements (nat_cmp-IsAntisymmetric a b e)
rule_cmp-IsAntisymmetric (Unique a) (Unique b) e = ap Unique (nat_cmp-IsAntisymmetric a b e)
rule_cmp-IsAntisymmetric (TwoCases a) (TwoCases b) e = ap TwoCases (nat_cmp-IsAntisymmetric a b e)
rule_cmp-IsAntisymmetric x y e = cc

breach_cmp-IsAntisymmetric : IsAntisymmetric breach_cmp
breach_cmp-IsAntisymmetric x y e =
    let p : x.path ≡ y.path = path_cmp-IsAntisymmetric _ _ (then-first _ _ e) in
    let r : x.rule ≡ y.rule = rule_cmp-IsAntisymmetric _ _ (then-second (path_cmp x.path y.path) _ e) in
    λ i. record { path = p i; rule = r i }

-- a does not come after b
abbrev le : Breach → Breach → Type 0
le a b = is_gt (breach_cmp a b) ≡ false

turned : (o : Ordering) → is_gt (ordering_reverse o) ≡ is_lt o
turned Less = refl
turned Equal = refl
turned Greater = refl

less_not_gt : (o : Ordering) → is_lt o ≡ true → is_gt o ≡ false
less_not_gt Less e = refl
less_not_gt Equal e = refl
less_not_gt Greater e = sym e

neither : (o : Ordering) → is_gt o ≡ false → is_lt o ≡ false → o ≡ Equal
neither Less g l = cc
neither Equal g l = refl
neither Greater g l = cc

le-itself : (a : Breach) → le a a
le-itself a = ap is_gt (tied_itself total a)

-- if a is not before b, b is not after it
le-back : (a b : Breach) → is_lt (breach_cmp b a) ≡ false → le a b
le-back a b e = ap is_gt (total.antisymm a b) ∙ turned (breach_cmp b a) ∙ e

same : (a b : Breach) → le a b → le b a → a ≡ b
same a b h k = breach_cmp-IsAntisymmetric a b (neither (breach_cmp a b) h (sym (turned (breach_cmp a b)) ∙ sym (ap is_gt (total.antisymm b a)) ∙ k))

-- the least one so far: it is in the list, and none is before it
abbrev IsLeast : Breach → Breach → List Breach → Type 0
IsLeast m a xs = In m (a ∷ xs) × ((b : Breach) → In b (a ∷ xs) → le m b)

kept : (a : Breach) (xs : List Breach) → (m : Breach) × (fold keep (Some a) xs ≡ Some m) × IsLeast m a xs
kept a [] = (a, refl, (inl refl, λ b i. elim i [ inl e ↦ subst (le a) (sym e) (le-itself a) | inr h ↦ absurd h ]))
kept a (x ∷ xs) = elim (is_lt (breach_cmp x a)) as (λ b. is_lt (breach_cmp x a) ≡ b → (m : Breach) × (fold keep (if b then Some x else Some a) xs ≡ Some m) × IsLeast m a (x ∷ xs)) [
  | true ↦ λ e.
      let (m, is, least) = kept x xs in (
        m,
        is,
        (
          inr least.0,
          λ b i. elim i [
            | inl f ↦ subst (le m) (sym f) (upto total m x a (least.1 x (inl refl)) (less_not_gt (breach_cmp x a) e))
            | inr h ↦ least.1 b h
          ],
        ),
      )
  | false ↦ λ e.
      let (m, is, least) = kept a xs in (
        m,
        is,
        (
          elim least.0 [ inl f ↦ inl f | inr h ↦ inr (inr h) ],
          λ b i. elim i [
            | inl f ↦ least.1 b (inl f)
            | inr h ↦ elim h [
              | inl f ↦ subst (le m) (sym f) (upto total m a x (least.1 a (inl refl)) (le-back a x e))
              | inr k ↦ least.1 b (inr k)
            ]
          ],
        ),
      )
] refl

pub least-same : (xs ys : List Breach) → ((b : Breach) → In b xs → In b ys) → ((b : Breach) → In b ys → In b xs) → least xs ≡ least ys
least-same [] [] f g = refl
least-same [] (y ∷ ys) f g = absurd (g y (inl refl))
least-same (x ∷ xs) [] f g = absurd (f x (inl refl))
least-same (x ∷ xs) (y ∷ ys) f g =
    let (m, is, low) = kept x xs in
    let (n, at, down) = kept y ys in
    is ∙ ap Some (same m n (low.1 n (g n down.0)) (down.1 m (f m low.0))) ∙ sym at
