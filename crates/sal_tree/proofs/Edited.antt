-- The effect of one edit at each path: the cells, and which nodes get the stamp.
use Rattle.std.proofs.Common.{◌≡◌, ℕ, Bool, true, false, List, [], ◌∷◌, ◌++◌, ◌&&◌, ◌||◌, Option, Some, None, refl, ap, sym, ◌∙◌, subst, if◌then◌else◌}
use Rattle.std.proofs.lemmas.Bool.{or_parts}
use Rattle.std.specs.Prelude.{T}
use Rattle.std.specs.FinMap.{find}
use Rattle.sal_types.specs.declared.value.Step.{Step}
use Rattle.sal_types.specs.declared.value.Cell.{Cell}
use Rattle.sal_types.specs.declared.row.Row.{Row}
use Rattle.sal_types.specs.Order.{step_cmp}
use Rattle.sal_types.specs.Prefix.{is_prefix, IsPrefix}
use Rattle.sal_types.proofs.Prefixes.{IsPrefix-from_test}
use Rattle.sal_types.specs.Tree.{has, under}
use Rattle.sal_node.specs.Tree.{Tree, Forest, bare, grown, pairs, IsGrove, is_filled}
use Rattle.sal_tree.specs.Grow.{kid, at, standing, grow, IsSound, present}
use Rattle.sal_tree.specs.Edit.{root_of, celled, with_row, without, with_rows, put_rows}
use Rattle.sal_tree.specs.Follows.{Follows, exactly}
use Rattle.sal_tree.proofs.Laws.{at-through, at-beside, at-append, at-end, is_prefix-self, full-grow, full-celled, sound-full, sound-at, IsFull, full-kid}
use Rattle.sal_tree.proofs.Follows.{Follows-then, Follows-same, Follows-by, some_same}

pub at_none : (p : List Step) → at None p ≡ None
at_none [] = refl
at_none (x ∷ p) = at_none p

-- below the root a tree is its node
pub at-root_of : (s : ℕ) (o : Option Tree) (x : Step) (p : List Step) → at (Some (root_of s o)) (x ∷ p) ≡ at o (x ∷ p)
at-root_of s None x p = refl
at-root_of s (Some t) x p = refl

stamped-standing : (s : ℕ) (c : Option Cell) (es : List (Step × Tree)) (n : Tree) → standing s c es ≡ Some n → n.stamp ≡ s
stamped-standing s None [] n e = cc
stamped-standing s None (x ∷ es) n e = sym (ap (λ (k : Tree). k.stamp) (some_same _ _ e))
stamped-standing s (Some c) es n e = sym (ap (λ (k : Tree). k.stamp) (some_same _ _ e))

stamped-root_of : (s : ℕ) (o : Option Tree) → ((n : Tree) → o ≡ Some n → n.stamp ≡ s) → (n : Tree) → at (Some (root_of s o)) [] ≡ Some n → n.stamp ≡ s
stamped-root_of s None h n e = sym (ap (λ (k : Tree). k.stamp) (some_same _ _ e))
stamped-root_of s (Some t) h n e = h n e

-- a node on the path to the end of a grown path, or at the end
stamped-grow : (s : ℕ) (o : Option Tree) (q r : List Step) (new : Option Tree) → IsSound o → ((n : Tree) → new ≡ Some n → n.stamp ≡ s) → (n : Tree) → at (grow s o (q ++ r) new) q ≡ Some n → n.stamp ≡ s
stamped-grow s o q [] new h last n e = last n (sym (at-through s o q [] new h) ∙ e)
stamped-grow s o q (x ∷ r) new h last n e = stamped-standing s _ _ n (sym (at-through s o q (x ∷ r) new h) ∙ e)

-- the same at the root of the tree
pub stamped-grown : (s : ℕ) (t : Tree) (p q : List Step) (new : Option Tree) → IsGrove t.kids → ((n : Tree) → new ≡ Some n → n.stamp ≡ s) → is_prefix q p ≡ true → (n : Tree) → at (Some (root_of s (grow s (Some t) p new))) q ≡ Some n → n.stamp ≡ s
stamped-grown s t p [] new h last e n stands = stamped-root_of s (grow s (Some t) p new) (stamped-grow s (Some t) [] p new h last) n stands
stamped-grown s t p (x ∷ q) new h last e n stands =
    let rest = IsPrefix-from_test (x ∷ q) p e in
    stamped-grow s (Some t) (x ∷ q) rest.0 new h last n (ap (λ w. at (grow s (Some t) w new) (x ∷ q)) (sym rest.1) ∙ sym (at-root_of s (grow s (Some t) p new) x q) ∙ stands)

kids-celled : (s : ℕ) (o : Option Tree) (c : Cell) (x : Step) → kid (celled s o c) x ≡ kid o x
kids-celled s None c x = refl
kids-celled s (Some t) c x = refl

celled_stamp : (s : ℕ) (o : Option Tree) (c : Cell) (n : Tree) → celled s o c ≡ Some n → n.stamp ≡ s
celled_stamp s o c n e = sym (ap (λ (k : Tree). k.stamp) (some_same _ _ e))

-- one row set
pub kept-row : (s : ℕ) (t : Tree) (row : Row) (q : List Step) → IsGrove t.kids → is_prefix q row.path ≡ false → at (Some (with_row s t row)) q ≡ at (Some t) q
kept-row s t row [] h e = cc
kept-row s t row (x ∷ q) h e =
    at-root_of s _ x q ∙ elim (is_prefix row.path (x ∷ q)) as (λ b. is_prefix row.path (x ∷ q) ≡ b → at (grow s (Some t) row.path (celled s (at (Some t) row.path) row.cell)) (x ∷ q) ≡ at (Some t) (x ∷ q)) [
      | true ↦ λ b. below (IsPrefix-from_test row.path (x ∷ q) b)
      | false ↦ λ b. at-beside s (Some t) row.path (x ∷ q) _ h b e
    ] refl
  where
    new : Option Tree
    new = celled s (at (Some t) row.path) row.cell

    further : (w : List Step) → x ∷ q ≡ row.path ++ w → at (celled s (at (Some t) row.path) row.cell) w ≡ at (at (Some t) row.path) w
    further [] is = let yes = is_prefix-self row.path (x ∷ q) is in cc
    further (y ∷ w) is = ap (λ k. at k w) (kids-celled s (at (Some t) row.path) row.cell y)

    below : IsPrefix row.path (x ∷ q) → at (grow s (Some t) row.path (celled s (at (Some t) row.path) row.cell)) (x ∷ q) ≡ at (Some t) (x ∷ q)
    below w =
        ap (at (grow s (Some t) row.path (celled s (at (Some t) row.path) row.cell))) w.1
        ∙ at-append (grow s (Some t) row.path (celled s (at (Some t) row.path) row.cell)) row.path w.0
        ∙ ap (λ k. at k w.0) (at-end s (Some t) row.path (celled s (at (Some t) row.path) row.cell) h)
        ∙ further w.0 w.1
        ∙ sym (at-append (Some t) row.path w.0)
        ∙ ap (at (Some t)) (sym w.1)

pub Follows-row : (s : ℕ) (t : Tree) (row : Row) → IsGrove t.kids → Follows (exactly s) (λ q. is_prefix q row.path) t (with_row s t row)
Follows-row s t row h = record {
  stamped = λ q n e stands. stamped-grown s t row.path q (celled s (at (Some t) row.path) row.cell) h (celled_stamp s (at (Some t) row.path) row.cell) e n stands;
  kept = λ q e. kept-row s t row q h e;
}

pub sound-root_of : (s : ℕ) (o : Option Tree) → IsSound o → IsGrove (root_of s o).kids
sound-root_of s None h = tt
sound-root_of s (Some t) h = h

pub sound-with_row : (s : ℕ) (t : Tree) (row : Row) → IsGrove t.kids → IsGrove (with_row s t row).kids
sound-with_row s t row h = sound-root_of s _ (sound-full _ (full-grow s (Some t) row.path (celled s (at (Some t) row.path) row.cell) h (full-celled s (at (Some t) row.path) row.cell (sound-at (Some t) row.path h))))

pub sound-with_rows : (s : ℕ) (rows : List Row) (t : Tree) → IsGrove t.kids → IsGrove (with_rows s t rows).kids
sound-with_rows s [] t h = h
sound-with_rows s (row ∷ rows) t h = sound-with_rows s rows (with_row s t row) (sound-with_row s t row h)

-- rows set
pub Follows-rows : (s : ℕ) (rows : List Row) (t : Tree) → IsGrove t.kids → Follows (exactly s) (has rows) t (with_rows s t rows)
Follows-rows s [] t h = Follows-same (exactly s) t
Follows-rows s (row ∷ rows) t h = Follows-then (exactly s) (λ q. is_prefix q row.path) (has rows) t (with_row s t row) _ (Follows-row s t row h) (Follows-rows s rows (with_row s t row) (sound-with_row s t row h))

-- a path cleared
abbrev pub clears : List Step → Tree → List Step → Bool
clears p t q = (is_prefix p q && present (at (Some t) q)) || (is_prefix q p && present (at (Some t) p))

cleared_above : (s : ℕ) (t : Tree) (p q : List Step) → IsGrove t.kids → is_prefix q p ≡ true → (n : Tree) → at (Some (root_of s (grow s (Some t) p None))) q ≡ Some n → n.stamp ≡ s
cleared_above s t p q h e = stamped-grown s t p q None h (λ n f. cc) e

-- there is no node below the end of a cleared path
pub cleared_below : (s : ℕ) (t : Tree) (p : List Step) (x : Step) (q : List Step) → IsGrove t.kids → is_prefix p (x ∷ q) ≡ true → at (Some (root_of s (grow s (Some t) p None))) (x ∷ q) ≡ None
cleared_below s t p x q h e =
    let w = IsPrefix-from_test p (x ∷ q) e in
    at-root_of s _ x q ∙ ap (at (grow s (Some t) p None)) w.1 ∙ at-append (grow s (Some t) p None) p w.0 ∙ ap (λ k. at k w.0) (at-end s (Some t) p None h) ∙ at_none w.0

pub present-full : (o : Option Tree) → IsFull o → present o ≡ false → o ≡ None
present-full None h e = refl
present-full (Some t) h e = absurd (subst T e h.0)

pub full-at : (o : Option Tree) (q : List Step) → IsFull o → IsFull (at o q)
full-at o [] h = h
full-at o (x ∷ q) h = full-at (kid o x) q (full-kid o x (sound-full o h))

pub none-below : (o : Option Tree) (r : List Step) → present o ≡ false → present (at o r) ≡ false
none-below o [] e = e
none-below None (x ∷ r) e = ap present (at_none r)
none-below (Some t) (x ∷ r) e = ap (λ k. present (at k r)) (no_kid t.cell t.kids e) ∙ ap present (at_none r)
  where
    no_kid : (c : Option Cell) (f : Forest) → is_filled c f ≡ false → find step_cmp x (pairs f) ≡ None
    no_kid None bare e = refl
    no_kid None (grown y s c ks rest) e = cc
    no_kid (Some c) f e = cc

and_right : (a b : Bool) → a ≡ true → (a && b) ≡ false → b ≡ false
and_right true b e f = f
and_right false b e f = cc

clears-none : (p : List Step) (t : Tree) (q : List Step) → present (at (Some t) p) ≡ false → false ≡ clears p t q
clears-none p t q e =
    elim (is_prefix p q) as (λ b. is_prefix p q ≡ b → false ≡ ((b && present (at (Some t) q)) || (is_prefix q p && present (at (Some t) p)))) [
      | true ↦ λ b. let w = IsPrefix-from_test p q b in
          let gone : present (at (Some t) q) ≡ false = ap (λ r. present (at (Some t) r)) w.1 ∙ ap present (at-append (Some t) p w.0) ∙ none-below (at (Some t) p) w.0 e in
          sym (ap (λ c. c || (is_prefix q p && present (at (Some t) p))) gone ∙ ap (λ c. is_prefix q p && c) e ∙ and_no (is_prefix q p))
      | false ↦ λ b. sym (ap (λ c. is_prefix q p && c) e ∙ and_no (is_prefix q p))
    ] refl
  where
    and_no : (b : Bool) → (b && false) ≡ false
    and_no true = refl
    and_no false = refl

-- a path cleared, if there is a node at it
Follows-cleared : (s : ℕ) (t : Tree) (p : List Step) → IsGrove t.kids → present (at (Some t) p) ≡ true → Follows (exactly s) (clears p t) t (root_of s (grow s (Some t) p None))
Follows-cleared s t p h there = record {
  stamped = λ q n e stands. elim (is_prefix q p) as (λ b. is_prefix q p ≡ b → n.stamp ≡ s) [
    | true ↦ λ b. cleared_above s t p q h b n stands
    | false ↦ λ b. gone q n b (under_p q b e) stands
  ] refl;
  kept = λ q e. elim (is_prefix q p) as (λ b. is_prefix q p ≡ b → at (Some (root_of s (grow s (Some t) p None))) q ≡ at (Some t) q) [
    | true ↦ λ b. let no = and_right (is_prefix q p) (present (at (Some t) p)) b (or_parts (is_prefix p q && present (at (Some t) q)) (is_prefix q p && present (at (Some t) p)) e).1 in cc
    | false ↦ λ b. beside q b e
  ] refl;
}
  where
    and_first : (a b c : Bool) → c ≡ false → ((a && b) || (c && present (at (Some t) p))) ≡ true → a ≡ true
    and_first true b c e f = refl
    and_first false b true e f = cc
    and_first false b false e f = cc

    under_p : (q : List Step) → is_prefix q p ≡ false → clears p t q ≡ true → is_prefix p q ≡ true
    under_p q b e = and_first (is_prefix p q) (present (at (Some t) q)) (is_prefix q p) b e

    gone : (q : List Step) (n : Tree) → is_prefix q p ≡ false → is_prefix p q ≡ true → at (Some (root_of s (grow s (Some t) p None))) q ≡ Some n → n.stamp ≡ s
    gone [] n b c stands = cc
    gone (x ∷ q) n b c stands = let none = cleared_below s t p x q h c in cc

    beside : (q : List Step) → is_prefix q p ≡ false → clears p t q ≡ false → at (Some (root_of s (grow s (Some t) p None))) q ≡ at (Some t) q
    beside [] b e = cc
    beside (x ∷ q) b e = elim (is_prefix p (x ∷ q)) as (λ c. is_prefix p (x ∷ q) ≡ c → at (Some (root_of s (grow s (Some t) p None))) (x ∷ q) ≡ at (Some t) (x ∷ q)) [
      | true ↦ λ c.
          let missing = and_right (is_prefix p (x ∷ q)) (present (at (Some t) (x ∷ q))) c (or_parts (is_prefix p (x ∷ q) && present (at (Some t) (x ∷ q))) _ e).0 in
          cleared_below s t p x q h c ∙ sym (present-full (at (Some t) (x ∷ q)) (full-at (kid (Some t) x) q (full-kid (Some t) x h)) missing)
      | false ↦ λ c. at-root_of s _ x q ∙ at-beside s (Some t) p (x ∷ q) None h c b
    ] refl

pub Follows-without : (s : ℕ) (t : Tree) (p : List Step) → IsGrove t.kids → Follows (exactly s) (clears p t) t (without s t p)
Follows-without s t p h = elim (present (at (Some t) p)) as (λ b. present (at (Some t) p) ≡ b → Follows (exactly s) (clears p t) t (if b then root_of s (grow s (Some t) p None) else t)) [
  | true ↦ λ b. Follows-cleared s t p h b
  | false ↦ λ b. Follows-by (exactly s) (λ q. false) (clears p t) t t (λ q. clears-none p t q b) (Follows-same (exactly s) t)
] refl

pub sound-cleared : (s : ℕ) (t : Tree) (p : List Step) → IsGrove t.kids → IsGrove (root_of s (grow s (Some t) p None)).kids
sound-cleared s t p h = sound-root_of s _ (sound-full _ (full-grow s (Some t) p None h tt))

pub sound-without : (s : ℕ) (t : Tree) (p : List Step) → IsGrove t.kids → IsGrove (without s t p).kids
sound-without s t p h = elim (present (at (Some t) p)) as (λ b. IsGrove (if b then root_of s (grow s (Some t) p None) else t).kids) [
  | true ↦ sound-cleared s t p h
  | false ↦ h
]

-- rows put in place of a path
pub Follows-put : (s : ℕ) (t : Tree) (p : List Step) (rows : List Row) → IsGrove t.kids → Follows (exactly s) (λ q. clears p t q || has (under rows p) q) t (put_rows s t p rows)
Follows-put s t p rows h = Follows-then (exactly s) (clears p t) (has (under rows p)) t (without s t p) _ (Follows-without s t p h) (Follows-rows s (under rows p) (without s t p) (sound-without s t p h))
