-- The children with new stamps.
use Rattle.std.proofs.Common.{◌≡◌, ℕ, zero, suc, ◌<◌, ◌≤◌, true, false, cond, ◌||◌, List, [], ◌∷◌, length, get_or, refl, sym, ap, subst, arith}
use Rattle.std.specs.Prelude.{nat_eq}
use Rattle.std.specs.List.{list_any}
use Rattle.std.specs.Borrow.{Bor}
use Rattle.sal_node.specs.Tree.{Forest, bare, grown, pairs, size_of, weight, IsGrove}
use Rattle.sal_node.specs.Shape.{seen, made_by}
use Rattle.sal_node.specs.declared.node.Child.{Child}
use Rattle.sal_tree.proofs.Laws.{AllFull, grove-full}
use Rattle.sal_check.specs.Near.{is_new}
use Rattle.sal_check.proofs.Counted.{full-at}
use Rattle.sal_node.proofs.Entries.{Entries}

pub new-any : (stamps : List ℕ) (s : ℕ) → is_new stamps s ≡ list_any (nat_eq s) stamps
new-any [] s = refl
new-any (k ∷ stamps) s = ap (λ b. nat_eq s k || b) (new-any stamps s)

-- ---- what holds of all children holds of those

full-made : (stamps : List ℕ) (es : Entries) → AllFull es → AllFull (made_by stamps es)
full-made stamps [] h = tt
full-made stamps (e ∷ es) h = elim (list_any (nat_eq e.1.stamp) stamps) as (λ b. AllFull (cond b (e ∷ made_by stamps es) (made_by stamps es))) [ true ↦ (h.0, full-made stamps es h.1) | false ↦ full-made stamps es h.1 ]

pub sound-made : (stamps : List ℕ) (f : Forest) (cs : List (Bor Child)) (i : ℕ) (c : Bor Child) → IsGrove f → seen cs ≡ made_by stamps (pairs f) → i < length cs → c ≡ get_or cs i c → IsGrove c.now.node.value.kids
sound-made stamps f cs i c good same l at = full-at cs i c (subst AllFull (sym same) (full-made stamps (pairs f) (grove-full f good))) l at

abbrev AreLighter : ℕ → Entries → Type 0
AreLighter n [] = Unit {0}
AreLighter n (e ∷ es) = (size_of e.1 < n) × AreLighter n es

lighter-more : (n m : ℕ) (es : Entries) → n ≤ m → AreLighter n es → AreLighter m es
lighter-more n m [] l h = tt
lighter-more n m (e ∷ es) l h = (omega (arith, l, h.0), lighter-more n m es l h.1)

lighter-pairs : (f : Forest) → AreLighter (weight f) (pairs f)
lighter-pairs bare = tt
lighter-pairs (grown x s c ks rest) = (omega arith, lighter-more (weight rest) (weight (grown x s c ks rest)) (pairs rest) (omega arith) (lighter-pairs rest))

lighter-made : (n : ℕ) (stamps : List ℕ) (es : Entries) → AreLighter n es → AreLighter n (made_by stamps es)
lighter-made n stamps [] h = tt
lighter-made n stamps (e ∷ es) h = elim (list_any (nat_eq e.1.stamp) stamps) as (λ b. AreLighter n (cond b (e ∷ made_by stamps es) (made_by stamps es))) [ true ↦ (h.0, lighter-made n stamps es h.1) | false ↦ lighter-made n stamps es h.1 ]

lighter-at : (n : ℕ) (cs : List (Bor Child)) (i : ℕ) (c : Bor Child) → AreLighter n (seen cs) → i < length cs → c ≡ get_or cs i c → size_of c.now.node.value < n
lighter-at n [] i c h l at = absurd (omega arith)
lighter-at n (d ∷ cs) zero c h l at = subst (λ (e : Bor Child). size_of e.now.node.value < n) (sym at) h.0
lighter-at n (d ∷ cs) (suc i) c h l at = lighter-at n cs i c h.1 (omega arith) at

pub light-made : (stamps : List ℕ) (f : Forest) (cs : List (Bor Child)) (i : ℕ) (c : Bor Child) → seen cs ≡ made_by stamps (pairs f) → i < length cs → c ≡ get_or cs i c → size_of c.now.node.value < weight f
light-made stamps f cs i c same l at = lighter-at (weight f) cs i c (subst (AreLighter (weight f)) (sym same) (lighter-made (weight f) stamps (pairs f) (lighter-pairs f))) l at
