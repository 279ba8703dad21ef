-- Counting the entries of a list.
use Rattle.std.proofs.Common.{◌≡◌, ℕ, zero, suc, ◌+◌, ◌<◌, ◌≤◌, true, false, List, [], ◌∷◌, ◌++◌, length, take, get_or, Option, Some, refl, sym, ap, subst, ◌∙◌, arith, length-append}
use Rattle.std.specs.Prelude.{is_some, if◌then◌else◌}
use Rattle.std.specs.Borrow.{Bor}
use Rattle.sal_types.specs.declared.value.Step.{Step}
use Rattle.sal_node.specs.Tree.{Tree, Forest, pairs, IsGrove}
use Rattle.sal_node.specs.Shape.{seen}
use Rattle.sal_node.specs.declared.node.Child.{Child}
use Rattle.sal_tree.specs.Grow.{kids_in}
use Rattle.sal_tree.proofs.Laws.{AllFull, grove-full}
use Rattle.sal_check.specs.Nodes.{own_steps}
use Rattle.sal_node.proofs.Entries.{Entries}
pub use Rattle.sal_tree.proofs.ByChildren.{seen-at}
use Rattle.sal_tree.proofs.ByChildren.{take_all, seen-length}

pub seen-all : (cs : List (Bor Child)) (i : ℕ) → length cs ≤ i → take i (seen cs) ≡ seen cs
seen-all cs i l = take_all (seen cs) i (omega (arith, seen-length cs))

pub own_steps-append : (xs ys : Entries) → own_steps (xs ++ ys) ≡ own_steps xs ++ own_steps ys
own_steps-append [] ys = refl
own_steps-append (e ∷ xs) ys = elim (is_some e.1.cell) as (λ b. (if b then e.0 ∷ own_steps (xs ++ ys) else own_steps (xs ++ ys)) ≡ (if b then e.0 ∷ own_steps xs else own_steps xs) ++ own_steps ys) [
  | true ↦ ap (λ (l : List Step). e.0 ∷ l) (own_steps-append xs ys)
  | false ↦ own_steps-append xs ys
]

-- no more children have a cell than there are
pub own_steps-within : (es : Entries) → length (own_steps es) ≤ length es
own_steps-within [] = omega arith
own_steps-within (e ∷ es) = elim (is_some e.1.cell) as (λ b. length (if b then e.0 ∷ own_steps es else own_steps es) ≤ length (e ∷ es)) [
  | true ↦ let rest = own_steps-within es in omega (arith, rest)
  | false ↦ let rest = own_steps-within es in omega (arith, rest)
]

own-one : (x : Step) (t : Tree) → length (own_steps ((x, t) ∷ [])) ≡ (if is_some t.cell then 1 else 0)
own-one x t = elim (is_some t.cell) as (λ b. length (if b then x ∷ [] else []) ≡ (if b then 1 else 0)) [ true ↦ refl | false ↦ refl ]

pub count-more : (cs : List (Bor Child)) (i : ℕ) (c : Bor Child) (n more after : ℕ) → i < length cs → c ≡ get_or cs i c → n ≡ length (own_steps (take i (seen cs)))
    → more ≡ (if is_some c.now.node.value.cell then 1 else 0) → after ≡ n + more → after ≡ length (own_steps (take (i + 1) (seen cs)))
count-more cs i c n more after l at was is sum =
    sum ∙ (λ k. was k + (is ∙ sym (own-one c.now.step c.now.node.value)) k)
    ∙ sym (length-append (own_steps (take i (seen cs))) (own_steps ((c.now.step, c.now.node.value) ∷ [])))
    ∙ ap length (sym (own_steps-append (take i (seen cs)) ((c.now.step, c.now.node.value) ∷ [])))
    ∙ ap (λ (es : Entries). length (own_steps es)) (sym (seen-at cs i c l at))

pub count-all : (o : Option Tree) (t : Tree) (cs : List (Bor Child)) (i n : ℕ) → o ≡ Some t → seen cs ≡ pairs t.kids → length cs ≤ i → n ≡ length (own_steps (take i (seen cs))) → n ≡ length (own_steps (kids_in o))
count-all o t cs i n is same l was = was ∙ ap (λ (es : Entries). length (own_steps es)) (seen-all cs i l ∙ same) ∙ sym (ap (λ o. length (own_steps (kids_in o))) is)

pub full-at : (cs : List (Bor Child)) (i : ℕ) (c : Bor Child) → AllFull (seen cs) → i < length cs → c ≡ get_or cs i c → IsGrove c.now.node.value.kids
full-at [] i c all l at = absurd (omega arith)
full-at (d ∷ cs) zero c all l at = subst (λ (e : Bor Child). IsGrove e.now.node.value.kids) (sym at) all.0.1
full-at (d ∷ cs) (suc i) c all l at = full-at cs i c all.1 (omega arith) at

-- the children of a sound node are sound
pub grove-child : (f : Forest) (cs : List (Bor Child)) (i : ℕ) (c : Bor Child) → IsGrove f → seen cs ≡ pairs f → i < length cs → c ≡ get_or cs i c → IsGrove c.now.node.value.kids
grove-child f cs i c good same l at = full-at cs i c (subst AllFull (sym same) (grove-full f good)) l at
