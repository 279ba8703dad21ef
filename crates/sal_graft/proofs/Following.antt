-- What follows from the stamp of a node about the commits before it.
use Rattle.std.proofs.Common.{◌≡◌, ℕ, zero, suc, ◌+◌, ◌-◌, ◌<◌, ◌≤◌, true, false, List, length, get_or, Option, None, Some, refl, ap, sym, subst, ◌∙◌, cond, arith, reverse}
use Rattle.std.specs.Prelude.{find}
use Rattle.std.proofs.lemmas.List.{get_or_default}
use Rattle.sal_types.specs.declared.value.Store.{Store}
use Rattle.sal_types.specs.declared.value.Store.TheVariants.{Config, Oper}
use Rattle.sal_types.specs.declared.value.Step.{Step}
use Rattle.sal_rows.specs.Touch.{touches}
use Rattle.sal_rows.specs.Commits.{numbers_after, touches_at}
use Rattle.sal_rows.proofs.Numbers.{find_back}
use Rattle.sal_node.specs.Tree.{Tree}
use Rattle.sal_tree.specs.Grow.{at}
use Rattle.sal_tree.specs.declared.commit.Commit.{Commit}
use Rattle.sal_tree.specs.declared.commit.Pair.{Pair}
use Rattle.sal_graft.specs.Kept.{AreKept, opening_in, ops_of, rows_in, tree_in}
use Rattle.sal_graft.specs.Following.{AreFollowing, BothUpTo, IsMadeOf, StampsUpTo, stamp_of}
use Rattle.sal_graft.proofs.KeptLemmas.{touches_at-kept}

-- ---- stamps up to a bound

pub up_to-in : (bound : ℕ) (pair : Pair) (s : Store) → BothUpTo bound pair → StampsUpTo bound (tree_in pair s)
up_to-in bound pair Config up = up.0
up_to-in bound pair Oper up = up.1

-- no node of a kept commit has a greater stamp than its own
pub stamped-at : (kept : List Commit) (k : ℕ) (c : Commit) (s : Store) → AreFollowing kept → k < length kept → c ≡ get_or kept k c → StampsUpTo (stamp_of c.receipt) (tree_in c.trees s)
stamped-at kept k c s following short at_c = up_to-in (stamp_of c.receipt) c.trees s (subst (λ (x : Commit). BothUpTo (stamp_of x.receipt) x.trees) (sym at_c) (following.stamped k c short))

-- one of the kept commits, and that it is
module _ (kept : List Commit) (are : AreKept kept) (following : AreFollowing kept) where
  one : ℕ → Commit → Commit
  one k c = get_or kept k c

  is_one : (k : ℕ) (c : Commit) → k < length kept → one k c ≡ get_or kept k (one k c)
  unfolding one
  is_one k c short = get_or_default kept k c (get_or kept k c) short

  -- receipts rise
  pub receipts-rise : (n a : ℕ) (c d : Commit) → a + n < length kept → c ≡ get_or kept a c → d ≡ get_or kept (a + n) d → c.receipt + n ≤ d.receipt
  receipts-rise zero a c d short at_c at_d =
      let here : a + zero ≡ a = omega arith in
      let same : c ≡ d = at_c ∙ get_or_default kept a c d (omega (arith, short)) ∙ sym (at_d ∙ ap (λ i. get_or kept i d) here) in
      omega (arith, ap (λ (x : Commit). x.receipt) same)
  receipts-rise (suc n) a c d short at_c at_d =
      let e = one (a + 1) c in
      let at_e = is_one (a + 1) c (omega (arith, short)) in
      let there : a + suc n ≡ (a + 1) + n = omega arith in
      let rest = receipts-rise n (a + 1) e d (omega (arith, short)) at_e (at_d ∙ ap (λ i. get_or kept i d) there) in
      omega (arith, rest, (following.made a c e (omega (arith, short)) at_c at_e).later)

  -- the same commit at one number
  same_at : (k j : ℕ) (c d : Commit) → k ≡ j → k < length kept → c ≡ get_or kept k c → d ≡ get_or kept j d → c ≡ d
  same_at k j c d is short at_c at_d = at_c ∙ get_or_default kept k c d short ∙ ap (λ i. get_or kept i d) is ∙ sym at_d

  module _ (s : Store) (p : List Step) where
    -- The commits after c (number a) up to d (n numbers later), by the last of them that touched the path: if none did, the node at the path
    -- is the same; else the node there has the stamp of that commit.
    abbrev pub Tells : ℕ → ℕ → Commit → Commit → Option ℕ → Type 0
    Tells a n c d None = at (Some (tree_in d.trees s)) p ≡ at (Some (tree_in c.trees s)) p
    Tells a n c d (Some k) = (a < k) × (k ≤ a + n) × ((e : Commit) (m : Tree) → e ≡ get_or kept k e → at (Some (tree_in d.trees s)) p ≡ Some m → m.stamp ≡ stamp_of e.receipt)

    -- one commit back
    tells_back : (a n : ℕ) (c e d : Commit) (o : Option ℕ) → at (Some (tree_in d.trees s)) p ≡ at (Some (tree_in e.trees s)) p → Tells a n c e o → Tells a (suc n) c d o
    tells_back a n c e d None same tells = same ∙ tells
    tells_back a n c e d (Some k) same tells = (tells.0, omega (arith, tells.1), λ x m at_x stands. tells.2 x m at_x (sym same ∙ stands))

    pub tells : (n a : ℕ) (c d : Commit) → a + n < length kept → c ≡ get_or kept a c → d ≡ get_or kept (a + n) d
        → Tells a n c d (find (touches_at (opening_in kept) (ops_of kept) s p) (reverse (numbers_after a n)))
    tells zero a c d short at_c at_d =
        let here : a + zero ≡ a = omega arith in
        ap (λ (x : Commit). at (Some (tree_in x.trees s)) p) (same_at (a + zero) a d c here short at_d at_c)
    tells (suc n) a c d short at_c at_d =
        let t = touches_at (opening_in kept) (ops_of kept) s p in
        let e = one (a + n) c in
        let at_e = is_one (a + n) c (omega (arith, short)) in
        let next : a + suc n ≡ a + n + 1 = omega arith in
        let before : a + suc n - 1 ≡ a + n = omega arith in
        let made : IsMadeOf e d = following.made (a + n) e d (omega (arith, short)) at_e (at_d ∙ ap (λ i. get_or kept i d) next) in
        let asks : t (a + suc n) ≡ touches (rows_in e.trees s) s d.ops.value p =
        touches_at-kept kept (a + suc n) e d s p are (omega arith) short (at_e ∙ ap (λ i. get_or kept i e) (sym before)) at_d in
        let fewer : suc n - 1 ≡ n = omega arith in
        subst (Tells a (suc n) c d) (sym (find_back t a (suc n) (omega arith) ∙ ap (λ k. cond (t (a + suc n)) (Some (a + suc n)) (find t (reverse (numbers_after a k)))) fewer))
        (elim (t (a + suc n)) as (λ b. t (a + suc n) ≡ b → Tells a (suc n) c d (cond b (Some (a + suc n)) (find t (reverse (numbers_after a n))))) [
          | true ↦ λ is. (
            omega arith,
            omega arith,
            λ x m at_x stands.
                (made.follows s).stamped p m (sym asks ∙ is) stands ∙ ap (λ (y : Commit). stamp_of y.receipt) (same_at (a + suc n) (a + suc n) d x refl short at_d at_x),
          )
          | false ↦ λ is. tells_back a n c e d (find t (reverse (numbers_after a n))) ((made.follows s).kept p (sym asks ∙ is)) (tells n a c e (omega (arith, short)) at_c at_e)
        ] refl)
