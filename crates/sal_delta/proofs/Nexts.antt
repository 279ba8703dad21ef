-- The children of two nodes, compared one after another.
use Rattle.std.proofs.Common.{◌≡◌, ℕ, suc, zero, ◌+◌, ◌≤◌, true, false, List, [], ◌∷◌, ◌++◌, ◌-◌, length, take, drop, Option, Some, None, refl, ap, sym, ◌∙◌, subst, cond, if◌then◌else◌, arith, append_assoc}
use Rattle.std.proofs.lemmas.List.{append-nil, take_rest}
use Rattle.std.specs.Prelude.{T, ◌==◌}
use Rattle.std.proofs.Math.Dec.{eqb→eq}
use Rattle.std.specs.Ordering.{match_ordering, is_eq, is_lt, is_gt, ordering_reverse}
use Rattle.std.specs.Cmp.{tied_itself}
use Rattle.std.specs.declared.cmp.Ordering.TheVariants.{Less, Equal, Greater}
use Rattle.std.specs.FinMap.{find, is_sorted}
use Rattle.std.specs.FinMap.Entries.{below_all}
use Rattle.sal_types.specs.declared.value.Step.{Step}
use Rattle.sal_types.specs.Order.{step_cmp, step_cmp-IsTotalOrder, step_cmp-IsAntisymmetric}
use Rattle.sal_node.specs.Tree.{Tree}
use Rattle.sal_node.specs.Shape.{tree_at, seen}
use Rattle.sal_node.specs.declared.node.Child.{Child}
use Rattle.std.specs.Borrow.{Bor}
use Rattle.sal_delta.specs.declared.compare.Place.{Place}
use Rattle.sal_node.proofs.Entries.{first, second, both, below_less, find-front, sorted-front, Entries}
use Rattle.sal_tree.specs.Grow.{kid, kids_in, IsSound}
use Rattle.sal_tree.proofs.Laws.{sorted-kids}
use Rattle.sal_tree.specs.Rows.{below, rows_of}
use Rattle.sal_rows.specs.declared.change.Change.{Change}
use Rattle.sal_delta.specs.Merge.{merge, rows_at, rows_below, from_step}
use Rattle.sal_delta.specs.Spots.{Spot, spots, pair_of, next_of, is_over, noted, AreSpots, AgreeFrom}
use Rattle.sal_delta.proofs.Merges.{both-front, merge-itself, precede-below}

-- each entry is the child of the node at its step
abbrev pub AreKids : Option Tree → Entries → Type 0
AreKids o [] = Unit {0}
AreKids o (e ∷ es) = (kid o e.0 ≡ Some e.1) × AreKids o es

-- some last children of two nodes
pub record Comparing (o u : Option Tree) (es fs : Entries) : Type 0 where
  pub sorted_left : T (is_sorted step_cmp es)
  pub sorted_right : T (is_sorted step_cmp fs)
  pub kids_left : AreKids o es
  pub kids_right : AreKids u fs
  pub agree : AgreeFrom o u

turn : (x y : Step) → step_cmp x y ≡ Greater → step_cmp y x ≡ Less
turn x y e = step_cmp-IsTotalOrder.antisymm y x ∙ ap ordering_reverse e

above : (x : Step) (e : Step × Tree) (es : Entries) → step_cmp x e.0 ≡ Less → T (is_sorted step_cmp (e ∷ es)) → T (below_all step_cmp x (e ∷ es))
above x e es l h = both (is_lt (step_cmp x e.0)) (below_all step_cmp x es) (subst (λ r. T (is_lt r)) (sym l) tt) (below_less x e.0 es l (first _ (is_sorted step_cmp es) h))

behind : (e : Step × Tree) (es : Entries) → T (is_sorted step_cmp (e ∷ es)) → T (below_all step_cmp e.0 es)
behind e es h = first _ (is_sorted step_cmp es) h

left_only : (e : Step × Tree) (es fs : Entries) → T (below_all step_cmp e.0 fs) → (from_step e.0 (merge (rows_of e.1) []) ++ []) ++ merge (rows_below es) (rows_below fs) ≡ merge (rows_below (e ∷ es)) (rows_below fs)
left_only e es fs h =
    ap (λ (l : List Change). l ++ merge (rows_below es) (rows_below fs)) (append-nil (from_step e.0 (merge (rows_of e.1) [])))
    ∙ sym (both-front e.0 (rows_of e.1) [] (rows_below es) (rows_below fs) (precede-below e.0 (rows_of e.1) fs h) tt)

right_only : (f : Step × Tree) (es fs : Entries) → T (below_all step_cmp f.0 es) → (from_step f.0 (merge [] (rows_of f.1)) ++ []) ++ merge (rows_below es) (rows_below fs) ≡ merge (rows_below es) (rows_below (f ∷ fs))
right_only f es fs h =
    ap (λ (l : List Change). l ++ merge (rows_below es) (rows_below fs)) (append-nil (from_step f.0 (merge [] (rows_of f.1))))
    ∙ sym (both-front f.0 [] (rows_of f.1) (rows_below es) (rows_below fs) tt (precede-below f.0 (rows_of f.1) es h))

pair_changes : (o u : Option Tree) (e f : Step × Tree) (es fs : Entries) → Comparing o u (e ∷ es) (f ∷ fs) → e.0 ≡ f.0 →
    noted (pair_of e f).0 ++ merge (rows_below es) (rows_below fs) ≡ merge (rows_below (e ∷ es)) (rows_below (f ∷ fs))
pair_changes o u e f es fs c same =
    elim (e.1.stamp == f.1.stamp) as (λ b. (e.1.stamp == f.1.stamp) ≡ b → noted (if b then [] else ((e.0, (Some e.1, Some f.1)) ∷ [])) ++ merge (rows_below es) (rows_below fs) ≡ merge (rows_below (e ∷ es)) (rows_below (f ∷ fs))) [
      | true ↦ λ b.
          let stamps : e.1.stamp ≡ f.1.stamp = eqb→eq e.1.stamp f.1.stamp (subst T (sym b) tt) in
          let one : e.1 ≡ f.1 = c.agree (e.0 ∷ []) e.1 f.1 c.kids_left.0 (ap (kid u) same ∙ c.kids_right.0) stamps in
          let none : merge (rows_of e.1) (rows_of f.1) ≡ [] = ap (λ (t : Tree). merge (rows_of e.1) (rows_of t)) (sym one) ∙ merge-itself (rows_of e.1) in
          ap (λ (l : List Change). from_step e.0 l ++ merge (rows_below es) (rows_below fs)) (sym none) ∙ fronts
      | false ↦ λ b. ap (λ (l : List Change). l ++ merge (rows_below es) (rows_below fs)) (append-nil (from_step e.0 (merge (rows_of e.1) (rows_of f.1)))) ∙ fronts
    ] refl
  where
    fronts : from_step e.0 (merge (rows_of e.1) (rows_of f.1)) ++ merge (rows_below es) (rows_below fs) ≡ merge (rows_below (e ∷ es)) (rows_below (f ∷ fs))
    fronts = sym (both-front e.0 (rows_of e.1) (rows_of f.1) (rows_below es) (rows_below fs)
        (precede-below e.0 (rows_of e.1) fs (subst (λ z. T (below_all step_cmp z fs)) (sym same) (behind f fs c.sorted_right)))
        (precede-below e.0 (rows_of f.1) es (behind e es c.sorted_left)))
        ∙ ap (λ z. merge (rows_below (e ∷ es)) (below z (rows_of f.1) ++ rows_below fs)) same

-- what the first children give, and the rest
pub next-changes : (o u : Option Tree) (es fs : Entries) → Comparing o u es fs →
    noted (next_of es fs).0 ++ merge (rows_below (drop (next_of es fs).1.0 es)) (rows_below (drop (next_of es fs).1.1 fs)) ≡ merge (rows_below es) (rows_below fs)
next-changes o u [] [] c = refl
next-changes o u (e ∷ es) [] c = left_only e es [] tt
next-changes o u [] (f ∷ fs) c = right_only f [] fs tt
next-changes o u (e ∷ es) (f ∷ fs) c =
    elim (step_cmp e.0 f.0) as (λ r. step_cmp e.0 f.0 ≡ r →
    noted (match_ordering r (((e.0, (Some e.1, None)) ∷ []), (1, 0)) (pair_of e f) (((f.0, (None, Some f.1)) ∷ []), (0, 1))).0
    ++ merge (rows_below (drop (match_ordering r (((e.0, (Some e.1, None)) ∷ []), (1, 0)) (pair_of e f) (((f.0, (None, Some f.1)) ∷ []), (0, 1))).1.0 (e ∷ es)))
    (rows_below (drop (match_ordering r (((e.0, (Some e.1, None)) ∷ []), (1, 0)) (pair_of e f) (((f.0, (None, Some f.1)) ∷ []), (0, 1))).1.1 (f ∷ fs)))
    ≡ merge (rows_below (e ∷ es)) (rows_below (f ∷ fs))) [
      | Less ↦ λ r. left_only e es (f ∷ fs) (above e.0 f fs r c.sorted_right)
      | Equal ↦ λ r. pair_changes o u e f es fs c (step_cmp-IsAntisymmetric e.0 f.0 r)
      | Greater ↦ λ r. right_only f (e ∷ es) fs (above f.0 e es (turn e.0 f.0 r) c.sorted_left)
    ] refl

pub next-spots : (o u : Option Tree) (es fs : Entries) → Comparing o u es fs → AreSpots o u (next_of es fs).0
next-spots o u [] [] c = tt
next-spots o u (e ∷ es) [] c = ((c.kids_left.0, tt, refl), tt)
next-spots o u [] (f ∷ fs) c = ((tt, c.kids_right.0, refl), tt)
next-spots o u (e ∷ es) (f ∷ fs) c =
    elim (step_cmp e.0 f.0) as (λ r. step_cmp e.0 f.0 ≡ r → AreSpots o u (match_ordering r (((e.0, (Some e.1, None)) ∷ []), (1, 0)) (pair_of e f) (((f.0, (None, Some f.1)) ∷ []), (0, 1))).0) [
      | Less ↦ λ r. ((c.kids_left.0, tt, refl), tt)
      | Equal ↦ λ r. elim (e.1.stamp == f.1.stamp) as (λ b. AreSpots o u (if b then [] else ((e.0, (Some e.1, Some f.1)) ∷ []))) [
        | true ↦ tt
        | false ↦ ((c.kids_left.0, ap (kid u) (step_cmp-IsAntisymmetric e.0 f.0 r) ∙ c.kids_right.0, refl), tt)
      ]
      | Greater ↦ λ r. ((tt, c.kids_right.0, refl), tt)
    ] refl

-- what is left after some
drop_sorted : (n : ℕ) (es : Entries) → T (is_sorted step_cmp es) → T (is_sorted step_cmp (drop n es))
drop_sorted zero es h = h
drop_sorted (suc n) [] h = h
drop_sorted (suc n) (e ∷ es) h = drop_sorted n es (second (below_all step_cmp e.0 es) _ h)

drop_kids : (o : Option Tree) (n : ℕ) (es : Entries) → AreKids o es → AreKids o (drop n es)
drop_kids o zero es h = h
drop_kids o (suc n) [] h = h
drop_kids o (suc n) (e ∷ es) h = drop_kids o n es h.1

pub comparing-drop : (o u : Option Tree) (a b : ℕ) (es fs : Entries) → Comparing o u es fs → Comparing o u (drop a es) (drop b fs)
comparing-drop o u a b es fs c = record {
  sorted_left = drop_sorted a es c.sorted_left;
  sorted_right = drop_sorted b fs c.sorted_right;
  kids_left = drop_kids o a es c.kids_left;
  kids_right = drop_kids u b fs c.kids_right;
  agree = c.agree;
}

-- something is looked at, and no more than is there
pub next-counts : (es fs : Entries) → ((next_of es fs).1.0 ≤ length es) × ((next_of es fs).1.1 ≤ length fs) × (is_over es fs ≡ false → 1 ≤ (next_of es fs).1.0 + (next_of es fs).1.1)
next-counts [] [] = (omega arith, omega arith, λ h. cc)
next-counts (e ∷ es) [] = (omega arith, omega arith, λ h. omega arith)
next-counts [] (f ∷ fs) = (omega arith, omega arith, λ h. omega arith)
next-counts (e ∷ es) (f ∷ fs) =
    elim (step_cmp e.0 f.0) as (λ r.
    ((match_ordering r (((e.0, (Some e.1, None)) ∷ []), (1, 0)) (pair_of e f) (((f.0, (None, Some f.1)) ∷ []), (0, 1))).1.0 ≤ length (e ∷ es))
    × ((match_ordering r (((e.0, (Some e.1, None)) ∷ []), (1, 0)) (pair_of e f) (((f.0, (None, Some f.1)) ∷ []), (0, 1))).1.1 ≤ length (f ∷ fs))
    × (is_over (e ∷ es) (f ∷ fs) ≡ false → 1 ≤ (match_ordering r (((e.0, (Some e.1, None)) ∷ []), (1, 0)) (pair_of e f) (((f.0, (None, Some f.1)) ∷ []), (0, 1))).1.0 + (match_ordering r (((e.0, (Some e.1, None)) ∷ []), (1, 0)) (pair_of e f) (((f.0, (None, Some f.1)) ∷ []), (0, 1))).1.1)) [
      | Less ↦ (omega arith, omega arith, λ h. omega arith)
      | Equal ↦ (omega arith, omega arith, λ h. omega arith)
      | Greater ↦ (omega arith, omega arith, λ h. omega arith)
    ]

pub noted-append : (xs ys : List Spot) → noted (xs ++ ys) ≡ noted xs ++ noted ys
noted-append [] ys = refl
noted-append (s ∷ xs) ys = ap (λ (l : List Change). from_step s.0 (merge (rows_at s.1.0) (rows_at s.1.1)) ++ l) (noted-append xs ys) ∙ sym (append_assoc (from_step s.0 (merge (rows_at s.1.0) (rows_at s.1.1))) (noted xs) (noted ys))

pub spots-append : (o u : Option Tree) (xs ys : List Spot) → AreSpots o u xs → AreSpots o u ys → AreSpots o u (xs ++ ys)
spots-append o u [] ys g h = h
spots-append o u (s ∷ xs) ys g h = (g.0, spots-append o u xs ys g.1 h)

-- all children of a node
find_itself : (o : Option Tree) (front es : Entries) → front ++ es ≡ kids_in o → T (is_sorted step_cmp (front ++ es)) → AreKids o es
find_itself o front [] same h = tt
find_itself o front (e ∷ es) same h = (
  ap (find step_cmp e.0) (sym same) ∙ find-front e.0 front (e ∷ es) (sorted-front e.0 front e es h (ap is_gt (tied_itself step_cmp-IsTotalOrder e.0))) ∙ ap (λ r. cond (is_eq r) (Some e.1) (find step_cmp e.0 es)) (tied_itself step_cmp-IsTotalOrder e.0),
  find_itself o (front ++ e ∷ []) es (append_assoc front (e ∷ []) es ∙ same) (subst (λ l. T (is_sorted step_cmp l)) (sym (append_assoc front (e ∷ []) es)) h),
)

pub comparing-start : (o u : Option Tree) (es fs : Entries) → es ≡ kids_in o → fs ≡ kids_in u → IsSound o → IsSound u → AgreeFrom o u → Comparing o u es fs
comparing-start o u es fs a b g h agree =
    let left : T (is_sorted step_cmp es) = subst (λ l. T (is_sorted step_cmp l)) (sym a) (sorted-kids o g) in
    let right : T (is_sorted step_cmp fs) = subst (λ l. T (is_sorted step_cmp l)) (sym b) (sorted-kids u h) in
    record {
      sorted_left = left;
      sorted_right = right;
      kids_left = find_itself o [] es a left;
      kids_right = find_itself u [] fs b right;
      agree = agree;
    }

pub spots-push : (ps : List Place) (p : Place) → spots (ps ++ p ∷ []) ≡ spots ps ++ (p.step.now, (tree_at p.before, tree_at p.after)) ∷ []
spots-push [] p = refl
spots-push (q ∷ ps) p = ap (λ (l : List Spot). (q.step.now, (tree_at q.before, tree_at q.after)) ∷ l) (spots-push ps p)

pub seen-drop : (cs : List (Bor Child)) (n : ℕ) → seen (take (length cs - n) (drop n cs)) ≡ drop n (seen cs)
seen-drop cs n = ap seen (take_rest cs n) ∙ by_drop cs n
  where
    by_drop : (cs : List (Bor Child)) (n : ℕ) → seen (drop n cs) ≡ drop n (seen cs)
    by_drop cs zero = refl
    by_drop [] (suc n) = refl
    by_drop (c ∷ cs) (suc n) = by_drop cs n

-- the next step of the comparison
pub compared-more : (o u : Option Tree) (es fs es' fs' : Entries) (was now : List Spot) (n : ℕ × ℕ) → Comparing o u es fs → noted was ++ merge (rows_below es) (rows_below fs) ≡ merge (rows_below (kids_in o)) (rows_below (kids_in u)) → AreSpots o u was
    → now ≡ was ++ (next_of es fs).0 → n ≡ (next_of es fs).1 → es' ≡ drop n.0 es → fs' ≡ drop n.1 fs
    → Comparing o u es' fs' × (noted now ++ merge (rows_below es') (rows_below fs') ≡ merge (rows_below (kids_in o)) (rows_below (kids_in u))) × AreSpots o u now
compared-more o u es fs es' fs' was now n c law places is counts a b =
    let left : es' ≡ drop (next_of es fs).1.0 es = a ∙ ap (λ (m : ℕ × ℕ). drop m.0 es) counts in
    let right : fs' ≡ drop (next_of es fs).1.1 fs = b ∙ ap (λ (m : ℕ × ℕ). drop m.1 fs) counts in (
      subst (λ (l : Entries). Comparing o u l fs') (sym left) (subst (λ (l : Entries). Comparing o u (drop (next_of es fs).1.0 es) l) (sym right) (comparing-drop o u (next_of es fs).1.0 (next_of es fs).1.1 es fs c)),
      ((λ k. noted (is k) ++ merge (rows_below (left k)) (rows_below (right k)))
          ∙ ap (λ (l : List Change). l ++ merge (rows_below (drop (next_of es fs).1.0 es)) (rows_below (drop (next_of es fs).1.1 fs))) (noted-append was (next_of es fs).0)
          ∙ append_assoc (noted was) (noted (next_of es fs).0) (merge (rows_below (drop (next_of es fs).1.0 es)) (rows_below (drop (next_of es fs).1.1 fs)))
          ∙ ap (λ (l : List Change). noted was ++ l) (next-changes o u es fs c)
          ∙ law),
      subst (λ (l : List Spot). AreSpots o u l) (sym is) (spots-append o u was (next_of es fs).0 places (next-spots o u es fs c)),
    )

over_nil : (es fs : Entries) → is_over es fs ≡ true → (es ≡ []) × (fs ≡ [])
over_nil [] [] e = (refl, refl)
over_nil [] (f ∷ fs) e = cc
over_nil (x ∷ es) fs e = cc

pub compared-all : (es fs : Entries) (ss : List Spot) (rest : List Change) → is_over es fs ≡ true → noted ss ++ merge (rows_below es) (rows_below fs) ≡ rest → noted ss ≡ rest
compared-all es fs ss rest e law = let n = over_nil es fs e in sym (append-nil (noted ss)) ∙ (λ k. noted ss ++ merge (rows_below (sym n.0 k)) (rows_below (sym n.1 k))) ∙ law

pub over-right : (cs ds : List (Bor Child)) → 1 ≤ length ds → false ≡ is_over (seen cs) (seen ds)
over-right [] [] l = absurd (omega (arith, l))
over-right [] (d ∷ ds) l = refl
over-right (c ∷ cs) ds l = refl

pub over-left : (cs ds : List (Bor Child)) → 1 ≤ length cs → false ≡ is_over (seen cs) (seen ds)
over-left [] ds l = absurd (omega (arith, l))
over-left (c ∷ cs) ds l = refl
