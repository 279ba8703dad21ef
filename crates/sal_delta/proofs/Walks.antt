-- The changes between two nodes, by those of their children.
use Rattle.std.proofs.Common.{◌≡◌, ℕ, suc, zero, ◌+◌, ◌<◌, ◌≤◌, true, false, List, [], ◌∷◌, ◌++◌, ◌||◌, length, take, get_or, Option, Some, None, refl, ap, sym, ◌∙◌, subst, cond, arith, append_assoc}
use Rattle.std.specs.Prelude.{is_some}
use Rattle.std.specs.Ordering.{eq_by_cmp}
use Rattle.std.specs.FinMap.{find}
use Rattle.sal_types.specs.declared.value.Step.{Step}
use Rattle.sal_types.specs.declared.row.Row.{Row}
use Rattle.sal_types.specs.Order.{step_cmp}
use Rattle.sal_node.specs.Tree.{Tree, Forest, bare, grown, pairs, weight, size_of, height}
use Rattle.sal_node.specs.Shape.{tree_at}
use Rattle.sal_tree.specs.Grow.{at, kids_in, cell_in, IsSound}
use Rattle.sal_tree.specs.Rows.{here, below, rows_in}
use Rattle.sal_tree.proofs.Laws.{sound-kid}
use Rattle.sal_rows.specs.declared.change.Change.{Change}
use Rattle.sal_delta.specs.declared.compare.Place.{Place}
use Rattle.sal_delta.specs.Merge.{merge, rows_at, rows_below, from_step, moved}
use Rattle.sal_delta.specs.Spots.{spots, noted, IsKid, AreSpots, AgreeFrom, Stands, depth_of}
use Rattle.sal_delta.proofs.Merges.{merge-node}

rows_in-below : (f : Forest) → rows_in f ≡ rows_below (pairs f)
rows_in-below bare = refl
rows_in-below (grown x s c ks rest) = ap (λ (l : List Row). below x (here c ++ rows_in ks) ++ l) (rows_in-below rest)

pub rows_at-node : (o : Option Tree) → rows_at o ≡ here (cell_in o) ++ rows_below (kids_in o)
rows_at-node None = refl
rows_at-node (Some t) = ap (λ (l : List Row). here t.cell ++ l) (rows_in-below t.kids)

pub merge-at : (o u : Option Tree) → merge (rows_at o) (rows_at u) ≡ merge (here (cell_in o)) (here (cell_in u)) ++ merge (rows_below (kids_in o)) (rows_below (kids_in u))
merge-at o u = (λ i. merge (rows_at-node o i) (rows_at-node u i)) ∙ merge-node (cell_in o) (cell_in u) (kids_in o) (kids_in u)

pub moved-append : (p : List Step) (xs ys : List Change) → moved p (xs ++ ys) ≡ moved p xs ++ moved p ys
moved-append p [] ys = refl
moved-append p (c ∷ xs) ys = ap (λ (l : List Change). record { path = p ++ c.path; before = c.before; after = c.after } ∷ l) (moved-append p xs ys)

pub moved-step : (p : List Step) (x : Step) (xs : List Change) → moved p (from_step x xs) ≡ moved (p ++ x ∷ []) xs
moved-step p x [] = refl
moved-step p x (c ∷ xs) = λ i. record { path = sym (append_assoc p (x ∷ []) c.path) i; before = c.before; after = c.after } ∷ moved-step p x xs i

-- one more place added
noted-more : (ps : List Place) (i : ℕ) (place : Place) → i < length ps → place ≡ get_or ps i place →
    noted (spots (take (i + 1) ps)) ≡ noted (spots (take i ps)) ++ from_step place.step.now (merge (rows_at (tree_at place.before)) (rows_at (tree_at place.after)))
noted-more [] i place l e = absurd (omega arith)
noted-more (q ∷ ps) zero place l e =
    ap (λ (r : Place). from_step r.step.now (merge (rows_at (tree_at r.before)) (rows_at (tree_at r.after))) ++ []) (sym e) ∙ append_none _
  where
    append_none : (xs : List Change) → xs ++ [] ≡ xs
    append_none [] = refl
    append_none (x ∷ xs) = ap (λ (l : List Change). x ∷ l) (append_none xs)
noted-more (q ∷ ps) (suc i) place l e =
    ap (λ n. noted (spots (take n (q ∷ ps)))) (let k : suc i + 1 ≡ suc (i + 1) = omega arith in k)
    ∙ ap (λ (l : List Change). from_step q.step.now (merge (rows_at (tree_at q.before)) (rows_at (tree_at q.after))) ++ l) (noted-more ps i place (omega arith) e)
    ∙ sym (append_assoc (from_step q.step.now (merge (rows_at (tree_at q.before)) (rows_at (tree_at q.after)))) (noted (spots (take i ps))) (from_step place.step.now (merge (rows_at (tree_at place.before)) (rows_at (tree_at place.after)))))

pub walked-place : (ps : List Place) (i : ℕ) (place : Place) (p q : List Step) (start into after : List Change) → i < length ps → place ≡ get_or ps i place → q ≡ p ++ place.step.now ∷ []
    → into ≡ start ++ moved p (noted (spots (take i ps))) → after ≡ into ++ moved q (merge (rows_at (tree_at place.before)) (rows_at (tree_at place.after)))
    → after ≡ start ++ moved p (noted (spots (take (i + 1) ps)))
walked-place ps i place p q start into after l e path was is =
    let m : List Change = merge (rows_at (tree_at place.before)) (rows_at (tree_at place.after)) in
    is ∙ (λ k. was k ++ moved (path k) m) ∙ append_assoc start (moved p (noted (spots (take i ps)))) (moved (p ++ place.step.now ∷ []) m)
    ∙ ap (λ (l : List Change). start ++ l) (
    ap (λ (l : List Change). moved p (noted (spots (take i ps))) ++ l) (sym (moved-step p place.step.now m))
    ∙ sym (moved-append p (noted (spots (take i ps))) (from_step place.step.now m))
    ∙ ap (moved p) (sym (noted-more ps i place l e)))

take_all : (ps : List Place) (n : ℕ) → length ps ≤ n → take n ps ≡ ps
take_all [] zero l = refl
take_all [] (suc n) l = refl
take_all (p ∷ ps) zero l = absurd (omega arith)
take_all (p ∷ ps) (suc n) l = ap (λ (qs : List Place). p ∷ qs) (take_all ps n (omega arith))

pub walked-all : (o u : Option Tree) (ps : List Place) (n : ℕ) (p : List Step) (start first last : List Change) → length ps ≤ n
    → noted (spots ps) ≡ merge (rows_below (kids_in o)) (rows_below (kids_in u))
    → first ≡ start ++ moved p (merge (here (cell_in o)) (here (cell_in u))) → last ≡ first ++ moved p (noted (spots (take n ps)))
    → last ≡ start ++ moved p (merge (rows_at o) (rows_at u))
walked-all o u ps n p start first last l same a b =
    b ∙ (λ k. a k ++ moved p (noted (spots (take_all ps n l k)))) ∙ append_assoc start (moved p (merge (here (cell_in o)) (here (cell_in u)))) (moved p (noted (spots ps)))
    ∙ ap (λ (l : List Change). start ++ l) (
    ap (λ (l : List Change). moved p (merge (here (cell_in o)) (here (cell_in u))) ++ moved p l) same
    ∙ sym (moved-append p (merge (here (cell_in o)) (here (cell_in u))) (merge (rows_below (kids_in o)) (rows_below (kids_in u))))
    ∙ ap (moved p) (sym (merge-at o u)))

-- the parts of a node are smaller, and one step lower
abbrev pub size_at : Option Tree → ℕ
size_at None = 0
size_at (Some t) = 1 + size_of t

some_tree : (a b : Tree) → Some a ≡ Some b → a ≡ b
some_tree a b e = cc

find_size : (f : Forest) (x : Step) (t : Tree) → find step_cmp x (pairs f) ≡ Some t → (size_of t + 1 ≤ weight f) × (height t.kids + 1 ≤ height f)
find_size bare x t e = cc
find_size (grown y s c ks rest) x t e = elim (eq_by_cmp step_cmp x y) as (λ b. cond b (Some (record { stamp = s; cell = c; kids = ks })) (find step_cmp x (pairs rest)) ≡ Some t → (size_of t + 1 ≤ weight (grown y s c ks rest)) × (height t.kids + 1 ≤ height (grown y s c ks rest))) [
  | true ↦ λ e.
      let same : record { stamp = s; cell = c; kids = ks } ≡ t = some_tree _ t e in
      let w : weight ks ≡ size_of t = ap size_of same in
      let h : height ks ≡ height t.kids = ap (λ (t : Tree). height t.kids) same in
      (omega (arith, w), omega (arith, h))
  | false ↦ λ e. let more = find_size rest x t e in (omega (arith, more.0), omega (arith, more.1))
] e

kid_size : (o : Option Tree) (x : Step) (c : Option Tree) → IsKid o x c → (size_at c ≤ size_at o) × (depth_of c ≤ depth_of o) × (is_some c ≡ true → (size_at c + 1 ≤ size_at o) × (depth_of c + 1 ≤ depth_of o))
kid_size o x None k = (omega arith, omega arith, λ e. cc)
kid_size None x (Some t) k = cc
kid_size (Some p) x (Some t) k = let s = find_size p.kids x t k in (omega (arith, s.0), omega (arith, s.1), λ e. (omega (arith, s.0), omega (arith, s.1)))

sound_kid : (o : Option Tree) (x : Step) (c : Option Tree) → IsSound o → IsKid o x c → IsSound c
sound_kid o x None h k = tt
sound_kid o x (Some t) h k = subst IsSound k (sound-kid o x h)

stands_kid : (o : Option Tree) (x : Step) (c : Option Tree) (n : ℕ) → Stands o n → n + 1 ≤ 32 → IsKid o x c → Stands c (n + 1)
stands_kid o x None n h l k = record { sound = tt; low = omega (arith, l) }
stands_kid o x (Some t) n h l k = record { sound = sound_kid o x (Some t) h.sound k; low = (let s = kid_size o x (Some t) k in let d = (s.2 refl).1 in let w = h.low in omega (arith, d, w)) }

agree_kid : (o u : Option Tree) (x : Step) (c d : Option Tree) → AgreeFrom o u → IsKid o x c → IsKid u x d → AgreeFrom c d
agree_kid o u x None d agree k l r n m a b e = absurd (never r a)
  where
    never : (r : List Step) → at None r ≡ Some n → ⊥
    never [] a = cc
    never (y ∷ r) a = never r a
agree_kid o u x (Some t) None agree k l r n m a b e = absurd (never r b)
  where
    never : (r : List Step) → at None r ≡ Some m → ⊥
    never [] a = cc
    never (y ∷ r) a = never r a
agree_kid o u x (Some t) (Some v) agree k l r n m a b e = agree (x ∷ r) n m (ap (λ z. at z r) k ∙ a) (ap (λ z. at z r) l ∙ b) e

-- what a walk into a place needs
pub record Enters (o u c d : Option Tree) (n : ℕ) : Type 0 where
  pub before : Stands c (n + 1)
  pub after : Stands d (n + 1)
  pub agree : AgreeFrom c d
  pub lower : n < 32
  pub smaller : size_at c + size_at d < size_at o + size_at u

enters : (o u : Option Tree) (x : Step) (c d : Option Tree) (n : ℕ) → Stands o n → Stands u n → AgreeFrom o u → IsKid o x c × IsKid u x d × ((is_some c || is_some d) ≡ true) → Enters o u c d n
enters o u x c d n g h agree k =
    let l : n < 32 = deep c d (kid_size o x c k.0) (kid_size u x d k.1) k.2 in
    record {
      before = stands_kid o x c n g (omega (arith, l)) k.0;
      after = stands_kid u x d n h (omega (arith, l)) k.1;
      agree = agree_kid o u x c d agree k.0 k.1;
      lower = l;
      smaller = less c d (kid_size o x c k.0) (kid_size u x d k.1) k.2;
    }
  where
    Falls : Option Tree → Option Tree → Type 0
    Falls o c = (size_at c ≤ size_at o) × (depth_of c ≤ depth_of o) × (is_some c ≡ true → (size_at c + 1 ≤ size_at o) × (depth_of c + 1 ≤ depth_of o))

    deep : (c d : Option Tree) → (size_at c ≤ size_at o) × (depth_of c ≤ depth_of o) × (is_some c ≡ true → (size_at c + 1 ≤ size_at o) × (depth_of c + 1 ≤ depth_of o)) → (size_at d ≤ size_at u) × (depth_of d ≤ depth_of u) × (is_some d ≡ true → (size_at d + 1 ≤ size_at u) × (depth_of d + 1 ≤ depth_of u)) → (is_some c || is_some d) ≡ true → n < 32
    deep None None s r e = cc
    deep (Some a) d s r e = let x = (s.2 refl).1 in let w = g.low in omega (arith, x, w)
    deep None (Some b) s r e = let x = (r.2 refl).1 in let w = h.low in omega (arith, x, w)

    less : (c d : Option Tree) → (size_at c ≤ size_at o) × (depth_of c ≤ depth_of o) × (is_some c ≡ true → (size_at c + 1 ≤ size_at o) × (depth_of c + 1 ≤ depth_of o)) → (size_at d ≤ size_at u) × (depth_of d ≤ depth_of u) × (is_some d ≡ true → (size_at d + 1 ≤ size_at u) × (depth_of d + 1 ≤ depth_of u)) → (is_some c || is_some d) ≡ true → size_at c + size_at d < size_at o + size_at u
    less None None s r e = cc
    less (Some a) d s r e = let x = (s.2 refl).0 in let y = r.0 in omega (arith, x, y)
    less None (Some b) s r e = let x = (r.2 refl).0 in let y = s.0 in omega (arith, x, y)

pub enters-place : (o u : Option Tree) (ps : List Place) (i : ℕ) (place : Place) (n : ℕ) → Stands o n → Stands u n → AgreeFrom o u → AreSpots o u (spots ps) → i < length ps → place ≡ get_or ps i place → Enters o u (tree_at place.before) (tree_at place.after) n
enters-place o u [] i place n g h agree k l e = absurd (omega arith)
enters-place o u (q ∷ ps) zero place n g h agree k l e = subst (λ (p : Place). Enters o u (tree_at p.before) (tree_at p.after) n) (sym e) (enters o u q.step.now (tree_at q.before) (tree_at q.after) n g h agree k.0)
enters-place o u (q ∷ ps) (suc i) place n g h agree k l e = enters-place o u ps i place n g h agree k.1 (omega arith) e
