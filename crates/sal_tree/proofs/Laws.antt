-- The nodes of a grown tree by their paths.
use Rattle.std.proofs.Common.{◌≡◌, ℕ, Bool, true, false, List, [], ◌∷◌, ◌++◌, ◌&&◌, Option, Some, None, refl, ap, sym, ◌∙◌, subst, cond}
use Rattle.std.specs.Prelude.{T}
use Rattle.std.specs.Ordering.{is_eq, is_lt, eq_by_cmp}
use Rattle.std.specs.declared.cmp.Ordering.{Ordering}
use Rattle.std.specs.declared.cmp.Ordering.TheVariants.{Less, Equal, Greater}
use Rattle.std.specs.Cmp.{tied_itself, Equal-is}
use Rattle.std.specs.FinMap.{find, put, is_sorted}
use Rattle.std.specs.FinMap.Entries.{below_all, by_order, find-put, is_sorted-put}
use Rattle.sal_types.specs.declared.value.Step.{Step}
use Rattle.sal_types.specs.declared.value.Cell.{Cell}
use Rattle.sal_types.specs.Order.{step_cmp, step_cmp-IsTotalOrder, step_cmp-IsAntisymmetric}
use Rattle.sal_types.specs.Prefix.{is_prefix}
use Rattle.sal_types.proofs.Prefixes.{is_prefix-append}
use Rattle.sal_node.specs.Tree.{Tree, Forest, bare, grown, pairs, grove, cut, change, IsGrove, is_filled}
use Rattle.sal_node.proofs.Entries.{pairs-grove, first, second, both, below_less, find_above, Entries}
use Rattle.sal_tree.specs.Grow.{kids_in, cell_in, kid, at, standing, grow, IsSound}
use Rattle.sal_tree.specs.Edit.{celled}

abbrev pub eq : Step → Step → Bool
eq = eq_by_cmp step_cmp

pub same : (y x : Step) → eq y x ≡ true → y ≡ x
same y x e = step_cmp-IsAntisymmetric y x ((Equal-is _).0 e)

pub by_step : (y x : Step) (o p q : Option Tree) → (eq y x ≡ true → o ≡ p) → (eq y x ≡ false → o ≡ q) → o ≡ cond (eq y x) p q
by_step y x o p q f g = elim (eq y x) as (λ b. eq y x ≡ b → o ≡ cond b p q) [ true ↦ λ e. f e | false ↦ λ e. g e ] refl

no_tie : (y x : Step) (p q : Option Tree) → eq y x ≡ false → cond (eq y x) p q ≡ q
no_tie y x p q e = ap (λ b. cond b p q) e

tie : (y x : Step) (p q : Option Tree) → eq y x ≡ true → cond (eq y x) p q ≡ p
tie y x p q e = ap (λ b. cond b p q) e

pub less_T : (o : Ordering) → o ≡ Less → T (is_lt o)
less_T o e = subst (λ r. T (is_lt r)) (sym e) tt

pub missing : (y x : Step) (es : Entries) → eq y x ≡ true → T (below_all step_cmp x es) → find step_cmp y es ≡ None
missing y x es e h = ap (λ (z : Step). find step_cmp z es) (same y x e) ∙ find_above x es h

pub find-cut : (y x : Step) (es : Entries) → T (is_sorted step_cmp es) → find step_cmp y (cut x es) ≡ cond (eq y x) None (find step_cmp y es)
find-cut y x [] h = by_step y x None None None (λ _. refl) (λ _. refl)
find-cut y x (e ∷ es) h =
    elim (step_cmp x e.0) as (λ r. step_cmp x e.0 ≡ r → find step_cmp y (by_order r (e ∷ es) es (e ∷ cut x es)) ≡ cond (eq y x) None (find step_cmp y (e ∷ es))) [
      | Less ↦ λ r. by_step y x _ _ _ (λ t. missing y x (e ∷ es) t (both _ _ (less_T _ r) (below_less x e.0 es r (first _ (is_sorted step_cmp es) h)))) (λ t. refl)
      | Equal ↦ λ r.
          let there : x ≡ e.0 = step_cmp-IsAntisymmetric x e.0 r in
          by_step y x _ _ _ (λ t. missing y e.0 es (ap (eq y) (sym there) ∙ t) (first _ (is_sorted step_cmp es) h)) (λ t. sym (no_tie y e.0 _ _ (ap (eq y) (sym there) ∙ t)))
      | Greater ↦ λ r.
          let rest = find-cut y x es (second (below_all step_cmp e.0 es) _ h) in
          by_step y x _ _ _
          (λ t. no_tie y e.0 _ _ (ap (λ (z : Step). eq z e.0) (same y x t) ∙ ap is_eq r) ∙ rest ∙ tie y x _ _ t)
          (λ t. ap (cond (eq y e.0) (Some e.1)) (rest ∙ no_tie y x _ _ t))
    ] refl

pub find-change : (y x : Step) (o : Option Tree) (es : Entries) → T (is_sorted step_cmp es) → find step_cmp y (change x o es) ≡ cond (eq y x) o (find step_cmp y es)
find-change y x None es h = find-cut y x es h
find-change y x (Some t) es h = find-put step_cmp step_cmp-IsTotalOrder y x t es

-- below a part
below_cut : (z x : Step) (es : Entries) → T (below_all step_cmp z es) → T (below_all step_cmp z (cut x es))
below_cut z x [] h = tt
below_cut z x (e ∷ es) h = elim (step_cmp x e.0) as (λ r. T (below_all step_cmp z (by_order r (e ∷ es) es (e ∷ cut x es)))) [
  | Less ↦ h
  | Equal ↦ second (is_lt (step_cmp z e.0)) _ h
  | Greater ↦ both _ _ (first _ (below_all step_cmp z es) h) (below_cut z x es (second (is_lt (step_cmp z e.0)) _ h))
]

sorted-cut : (x : Step) (es : Entries) → T (is_sorted step_cmp es) → T (is_sorted step_cmp (cut x es))
sorted-cut x [] h = tt
sorted-cut x (e ∷ es) h = elim (step_cmp x e.0) as (λ r. T (is_sorted step_cmp (by_order r (e ∷ es) es (e ∷ cut x es)))) [
  | Less ↦ h
  | Equal ↦ second (below_all step_cmp e.0 es) _ h
  | Greater ↦ both _ _ (below_cut e.0 x es (first _ (is_sorted step_cmp es) h)) (sorted-cut x es (second (below_all step_cmp e.0 es) _ h))
]

pub sorted-change : (x : Step) (o : Option Tree) (es : Entries) → T (is_sorted step_cmp es) → T (is_sorted step_cmp (change x o es))
sorted-change x None es h = sorted-cut x es h
sorted-change x (Some t) es h = is_sorted-put step_cmp step_cmp-IsTotalOrder x t es h

-- soundness, by the list of children
abbrev pub IsFull : Option Tree → Type 0
IsFull None = Unit {0}
IsFull (Some t) = T (is_filled t.cell t.kids) × IsGrove t.kids

abbrev pub AllFull : Entries → Type 0
AllFull [] = Unit {0}
AllFull (e ∷ es) = IsFull (Some e.1) × AllFull es

pub grove-sorted : (f : Forest) → IsGrove f → T (is_sorted step_cmp (pairs f))
grove-sorted bare h = tt
grove-sorted (grown x s c ks rest) h = both _ _ h.0.0 (grove-sorted rest h.1.1)

pub grove-full : (f : Forest) → IsGrove f → AllFull (pairs f)
grove-full bare h = tt
grove-full (grown x s c ks rest) h = ((h.0.1, h.1.0), grove-full rest h.1.1)

pub grove-made : (es : Entries) → T (is_sorted step_cmp es) → AllFull es → IsGrove (grove es)
grove-made [] g h = tt
grove-made (e ∷ es) g h = ((subst (λ (l : Entries). T (below_all step_cmp e.0 l)) (sym (pairs-grove es)) (first _ (is_sorted step_cmp es) g), h.0.0), (h.0.1, grove-made es (second (below_all step_cmp e.0 es) _ g) h.1))

pub full-find : (y : Step) (es : Entries) → AllFull es → IsFull (find step_cmp y es)
full-find y [] h = tt
full-find y (e ∷ es) h = elim (eq y e.0) as (λ b. IsFull (cond b (Some e.1) (find step_cmp y es))) [ true ↦ h.0 | false ↦ full-find y es h.1 ]

full-put : (x : Step) (t : Tree) (es : Entries) → IsFull (Some t) → AllFull es → AllFull (put step_cmp x t es)
full-put x t [] g h = (g, tt)
full-put x t (e ∷ es) g h = elim (step_cmp x e.0) as (λ r. AllFull (by_order r ((x, t) ∷ e ∷ es) ((e.0, t) ∷ es) (e ∷ put step_cmp x t es))) [ Less ↦ (g, h) | Equal ↦ (g, h.1) | Greater ↦ (h.0, full-put x t es g h.1) ]

full-cut : (x : Step) (es : Entries) → AllFull es → AllFull (cut x es)
full-cut x [] h = tt
full-cut x (e ∷ es) h = elim (step_cmp x e.0) as (λ r. AllFull (by_order r (e ∷ es) es (e ∷ cut x es))) [ Less ↦ h | Equal ↦ h.1 | Greater ↦ (h.0, full-cut x es h.1) ]

pub full-change : (x : Step) (o : Option Tree) (es : Entries) → IsFull o → AllFull es → AllFull (change x o es)
full-change x None es g h = full-cut x es h
full-change x (Some t) es g h = full-put x t es g h

pub sorted-kids : (o : Option Tree) → IsSound o → T (is_sorted step_cmp (kids_in o))
sorted-kids None h = tt
sorted-kids (Some t) h = grove-sorted t.kids h

pub full-kids : (o : Option Tree) → IsSound o → AllFull (kids_in o)
full-kids None h = tt
full-kids (Some t) h = grove-full t.kids h

pub sound-full : (o : Option Tree) → IsFull o → IsSound o
sound-full None h = tt
sound-full (Some t) h = h.1

pub full-kid : (o : Option Tree) (x : Step) → IsSound o → IsFull (kid o x)
full-kid o x h = full-find x (kids_in o) (full-kids o h)

pub sound-kid : (o : Option Tree) (x : Step) → IsSound o → IsSound (kid o x)
sound-kid o x h = sound-full (kid o x) (full-kid o x h)

full-standing : (s : ℕ) (c : Option Cell) (es : Entries) → T (is_sorted step_cmp es) → AllFull es → IsFull (standing s c es)
full-standing s None [] g h = tt
full-standing s None (e ∷ es) g h = (tt, grove-made (e ∷ es) g h)
full-standing s (Some c) es g h = (tt, grove-made es g h)

pub full-grow : (s : ℕ) (o : Option Tree) (p : List Step) (new : Option Tree) → IsSound o → IsFull new → IsFull (grow s o p new)
full-grow s o [] new h g = g
full-grow s o (x ∷ p) new h g = full-standing s (cell_in o) _ (sorted-change x _ (kids_in o) (sorted-kids o h)) (full-change x _ (kids_in o) (full-grow s (kid o x) p new (sound-kid o x h) g) (full-kids o h))

-- nodes by their paths
kids-standing : (s : ℕ) (c : Option Cell) (es : Entries) → kids_in (standing s c es) ≡ es
kids-standing s None [] = refl
kids-standing s None (e ∷ es) = pairs-grove (e ∷ es)
kids-standing s (Some c) es = pairs-grove es

pub kid-grow : (s : ℕ) (o : Option Tree) (x : Step) (p : List Step) (new : Option Tree) (y : Step) → IsSound o → kid (grow s o (x ∷ p) new) y ≡ cond (eq y x) (grow s (kid o x) p new) (kid o y)
kid-grow s o x p new y h = ap (find step_cmp y) (kids-standing s (cell_in o) _) ∙ find-change y x (grow s (kid o x) p new) (kids_in o) (sorted-kids o h)

pub at-append : (o : Option Tree) (p q : List Step) → at o (p ++ q) ≡ at (at o p) q
at-append o [] q = refl
at-append o (x ∷ p) q = at-append (kid o x) p q

pub self_tie : (x : Step) → eq x x ≡ true
self_tie x = ap is_eq (tied_itself step_cmp-IsTotalOrder x)

-- at a path on the way, what is left to grow there
pub at-through : (s : ℕ) (o : Option Tree) (q r : List Step) (new : Option Tree) → IsSound o → at (grow s o (q ++ r) new) q ≡ grow s (at o q) r new
at-through s o [] r new h = refl
at-through s o (x ∷ q) r new h = ap (λ k. at k q) (kid-grow s o x (q ++ r) new x h ∙ tie x x _ _ (self_tie x)) ∙ at-through s (kid o x) q r new (sound-kid o x h)

and_rest : (b c : Bool) → b ≡ true → (b && c) ≡ false → c ≡ false
and_rest true c e f = f
and_rest false c e f = cc

-- at other paths, the node that was there
pub at-beside : (s : ℕ) (o : Option Tree) (p q : List Step) (new : Option Tree) → IsSound o → is_prefix p q ≡ false → is_prefix q p ≡ false → at (grow s o p new) q ≡ at o q
at-beside s o [] q new h a b = cc
at-beside s o (x ∷ p) [] new h a b = cc
at-beside s o (x ∷ p) (y ∷ q) new h a b =
    ap (λ k. at k q) (kid-grow s o x p new y h)
    ∙ elim (eq y x) as (λ t. eq y x ≡ t → at (cond t (grow s (kid o x) p new) (kid o y)) q ≡ at (kid o y) q) [
      | true ↦ λ t.
          let there = same y x t in
          at-beside s (kid o x) p q new (sound-kid o x h) (and_rest _ _ (ap (eq x) there ∙ self_tie x) a) (and_rest _ _ t b) ∙ ap (λ (z : Step). at (kid o z) q) (sym there)
      | false ↦ λ t. refl
    ] refl

pub sound-at : (o : Option Tree) (p : List Step) → IsSound o → IsSound (at o p)
sound-at o [] h = h
sound-at o (x ∷ p) h = sound-at (kid o x) p (sound-kid o x h)

pub full-celled : (s : ℕ) (o : Option Tree) (c : Cell) → IsSound o → IsFull (celled s o c)
full-celled s None c h = (tt, tt)
full-celled s (Some t) c h = (tt, h)

pub append_nil : (p : List Step) → p ++ [] ≡ p
append_nil [] = refl
append_nil (x ∷ p) = ap (λ (q : List Step). x ∷ q) (append_nil p)

pub at-end : (s : ℕ) (o : Option Tree) (p : List Step) (new : Option Tree) → IsSound o → at (grow s o p new) p ≡ new
at-end s o p new h = ap (λ (q : List Step). at (grow s o q new) p) (sym (append_nil p)) ∙ at-through s o p [] new h

pub is_prefix-self : (p q : List Step) → q ≡ p ++ [] → is_prefix q p ≡ true
is_prefix-self p q e = ap (λ w. is_prefix w p) (e ∙ append_nil p) ∙ ap (is_prefix p) (sym (append_nil p)) ∙ is_prefix-append p []
