-- The depths of nodes, before and after an edit.
use Rattle.std.proofs.Common.{◌≡◌, ℕ, suc, ◌+◌, ◌-◌, ◌≤◌, true, false, List, [], ◌∷◌, length, Option, Some, None, refl, sym, subst, cond, arith}
use Rattle.std.specs.FinMap.{find, put}
use Rattle.std.specs.FinMap.Entries.{by_order}
use Rattle.std.specs.declared.cmp.Ordering.TheVariants.{Less, Equal, Greater}
use Rattle.sal_types.specs.declared.value.Step.{Step}
use Rattle.sal_types.specs.declared.value.Cell.{Cell}
use Rattle.sal_types.specs.declared.row.Row.{Row}
use Rattle.sal_types.specs.Order.{step_cmp}
use Rattle.sal_node.specs.Tree.{Tree, Forest, bare, grown, pairs, grove, cut, change, height}
use Rattle.sal_tree.specs.Grow.{kids_in, cell_in, kid, at, standing, grow}
use Rattle.sal_tree.specs.Edit.{celled, root_of, with_row}
use Rattle.sal_tree.specs.Whole.{IsWhole}
use Rattle.sal_tree.proofs.Laws.{eq}
use Rattle.sal_tree.proofs.Edited.{sound-with_row, sound-cleared}
use Rattle.sal_node.proofs.Entries.{Entries}

-- no node is deeper than n
abbrev pub IsLow : ℕ → Option Tree → Type 0
IsLow n None = Unit {0}
IsLow n (Some t) = height t.kids ≤ n

-- the same of a child, counted from its parent
abbrev pub IsLowKid : ℕ → Option Tree → Type 0
IsLowKid n None = Unit {0}
IsLowKid n (Some t) = height t.kids + 1 ≤ n

abbrev pub AllLow : ℕ → Entries → Type 0
AllLow n [] = Unit {0}
AllLow n (e ∷ es) = (height e.1.kids + 1 ≤ n) × AllLow n es

low-pairs : (n : ℕ) (f : Forest) → height f ≤ n → AllLow n (pairs f)
low-pairs n bare h = tt
low-pairs n (grown x s c ks rest) h = (omega arith, low-pairs n rest (omega arith))

pub low-grove : (n : ℕ) (es : Entries) → AllLow n es → height (grove es) ≤ n
low-grove n [] h = omega arith
low-grove n (e ∷ es) h = let g = h.0 in let rest = low-grove n es h.1 in omega arith

low-find : (n : ℕ) (y : Step) (es : Entries) → AllLow (suc n) es → IsLow n (find step_cmp y es)
low-find n y [] h = tt
low-find n y (e ∷ es) h = let g = h.0 in elim (eq y e.0) as (λ b. IsLow n (cond b (Some e.1) (find step_cmp y es))) [ true ↦ omega arith | false ↦ low-find n y es h.1 ]

low-put : (n : ℕ) (x : Step) (t : Tree) (es : Entries) → height t.kids + 1 ≤ n → AllLow n es → AllLow n (put step_cmp x t es)
low-put n x t [] g h = (g, tt)
low-put n x t (e ∷ es) g h = elim (step_cmp x e.0) as (λ r. AllLow n (by_order r ((x, t) ∷ e ∷ es) ((e.0, t) ∷ es) (e ∷ put step_cmp x t es))) [ Less ↦ (g, h) | Equal ↦ (g, h.1) | Greater ↦ (h.0, low-put n x t es g h.1) ]

low-cut : (n : ℕ) (x : Step) (es : Entries) → AllLow n es → AllLow n (cut x es)
low-cut n x [] h = tt
low-cut n x (e ∷ es) h = elim (step_cmp x e.0) as (λ r. AllLow n (by_order r (e ∷ es) es (e ∷ cut x es))) [ Less ↦ h | Equal ↦ h.1 | Greater ↦ (h.0, low-cut n x es h.1) ]

low-change : (n : ℕ) (x : Step) (o : Option Tree) (es : Entries) → IsLowKid n o → AllLow n es → AllLow n (change x o es)
low-change n x None es g h = low-cut n x es h
low-change n x (Some t) es g h = low-put n x t es g h

low-kids : (n : ℕ) (o : Option Tree) → IsLow n o → AllLow n (kids_in o)
low-kids n None h = tt
low-kids n (Some t) h = low-pairs n t.kids h

low-standing : (n s : ℕ) (c : Option Cell) (es : Entries) → AllLow n es → IsLow n (standing s c es)
low-standing n s None [] h = tt
low-standing n s None (e ∷ es) h = low-grove n (e ∷ es) h
low-standing n s (Some c) es h = low-grove n es h

low-kid : (n : ℕ) (o : Option Tree) → IsLow n o → IsLowKid (suc n) o
low-kid n None h = tt
low-kid n (Some t) h = omega arith

low-at : (m n : ℕ) (o : Option Tree) (p : List Step) → m ≡ length p + n → IsLow m o → IsLow n (at o p)
low-at m n o [] e h = subst (λ k. IsLow k o) (let q : m ≡ n = omega arith in q) h
low-at m n o (x ∷ p) e h = low-at (length p + n) n (kid o x) p refl (low-find (length p + n) x (kids_in o) (low-kids (suc (length p + n)) o (subst (λ k. IsLow k o) (let q : m ≡ suc (length p + n) = omega arith in q) h)))

low-grow : (m n s : ℕ) (o : Option Tree) (p : List Step) (new : Option Tree) → m ≡ length p + n → IsLow m o → IsLow n new → IsLow m (grow s o p new)
low-grow m n s o [] new e h g = subst (λ k. IsLow k new) (let q : n ≡ m = omega arith in q) g
low-grow m n s o (x ∷ p) new e h g =
    let q : m ≡ suc (length p + n) = omega arith in
    let kids = low-kids (suc (length p + n)) o (subst (λ k. IsLow k o) q h) in
    let child = low-grow (length p + n) n s (kid o x) p new refl (low-find (length p + n) x (kids_in o) kids) g in
    subst (λ k. IsLow k (grow s o (x ∷ p) new)) (sym q) (low-standing (suc (length p + n)) s (cell_in o) _ (low-change (suc (length p + n)) x (grow s (kid o x) p new) (kids_in o) (low-kid (length p + n) (grow s (kid o x) p new) child) kids))

low-celled : (n s : ℕ) (o : Option Tree) (c : Cell) → IsLow n o → IsLow n (celled s o c)
low-celled n s None c h = omega arith
low-celled n s (Some t) c h = h

low-root_of : (n s : ℕ) (o : Option Tree) → IsLow n o → height (root_of s o).kids ≤ n
low-root_of n s None h = omega arith
low-root_of n s (Some t) h = h

-- the tree with a node grown at a path, if the old tree was at most this deep
pub low-grown : (s : ℕ) (t : Tree) (p : List Step) (new : Option Tree) → height t.kids ≤ 32 → length p ≤ 32 → IsLow (32 - length p) new → height (root_of s (grow s (Some t) p new)).kids ≤ 32
low-grown s t p new h l g = low-root_of 32 s _ (low-grow 32 (32 - length p) s (Some t) p new (omega arith) h g)

pub whole-with_row : (s : ℕ) (t : Tree) (row : Row) → IsWhole t → length row.path ≤ 32 → IsWhole (with_row s t row)
whole-with_row s t row h l = record {
  ordered = sound-with_row s t row h.ordered;
  low = low-grown s t row.path _ h.low l (low-celled (32 - length row.path) s (at (Some t) row.path) row.cell (low-at 32 (32 - length row.path) (Some t) row.path (omega arith) h.low));
}

pub whole-cleared : (s : ℕ) (t : Tree) (p : List Step) → IsWhole t → length p ≤ 32 → IsWhole (root_of s (grow s (Some t) p None))
whole-cleared s t p h l = record { ordered = sound-cleared s t p h.ordered; low = low-grown s t p None h.low l tt }

pub whole-as : (n m : Tree) → n ≡ m → IsWhole m → IsWhole n
whole-as n m e h = subst IsWhole (sym e) h

-- the depths of nodes below the one at a path
pub low-node : (t : Tree) (p : List Step) (k : Tree) → IsWhole t → length p ≤ 32 → at (Some t) p ≡ Some k → height k.kids + length p ≤ 32
low-node t p k h l e =
    let g : height k.kids ≤ 32 - length p = subst (IsLow (32 - length p)) e (low-at 32 (32 - length p) (Some t) p (omega arith) h.low) in
    omega arith
