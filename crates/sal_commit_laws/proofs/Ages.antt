-- How old a node is, by its stamp, over commits that were each made of the one before.
use Rattle.std.proofs.Common.{◌≡◌, ◌≢◌, ◌⊎◌, inl, inr, ℕ, zero, suc, ◌+◌, ◌-◌, ◌*◌, ◌<◌, ◌≤◌, true, false, List, [], ◌∷◌, length, get_or, Some, refl, ap, sym, subst, ◌∙◌, arith}
use Rattle.std.proofs.lemmas.Bool.{cases_lt}
use Rattle.std.proofs.lemmas.List.{get_or_default}
use Rattle.sal_types.specs.declared.value.Store.{Store}
use Rattle.sal_types.specs.declared.value.Step.{Step}
use Rattle.sal_rows.specs.Touch.{touches}
use Rattle.sal_node.specs.Tree.{Tree}
use Rattle.sal_tree.specs.Grow.{at}
use Rattle.sal_tree.specs.Follows.{Agree, HasNo}
use Rattle.sal_tree.specs.declared.commit.Commit.{Commit}
use Rattle.sal_tree.proofs.Follows.{some_same}
use Rattle.sal_graft.specs.Following.{AreFollowing, IsMadeOf, stamp_of}
use Rattle.sal_graft.specs.Kept.{rows_in, tree_in}
use Rattle.sal_graft.proofs.Following.{stamped-at}
use Rattle.sal_commit.specs.Anew.{begun_anew}
use Rattle.sal_commit_laws.specs.Stamps.{StandsAt}

-- the commit with a number
pub there : (commits : List Commit) (k : ℕ) (c : Commit) → k < length commits → StandsAt commits k (get_or commits k c)
there commits k c short = (short, get_or_default commits k c (get_or commits k c) short)

-- one number, one commit
pub same_at : (commits : List Commit) (j k : ℕ) (c d : Commit) → j ≡ k → StandsAt commits j c → StandsAt commits k d → c ≡ d
same_at commits j k c d is at_c at_d = at_c.1 ∙ get_or_default commits j c d at_c.0 ∙ ap (λ i. get_or commits i d) is ∙ sym at_d.1

module _ (commits : List Commit) (following : AreFollowing commits) where
  -- receipts rise
  pub rising : (n a : ℕ) (c d : Commit) → StandsAt commits a c → StandsAt commits (a + n) d → c.receipt + n ≤ d.receipt
  rising zero a c d at_c at_d = omega (arith, ap (λ (x : Commit). x.receipt) (same_at commits a (a + zero) c d (omega arith) at_c at_d))
  rising (suc n) a c d at_c at_d =
      let short : a + 1 < length commits = omega (arith, at_d.0) in
      let e : Commit = get_or commits (a + 1) c in
      let at_e : StandsAt commits (a + 1) e = there commits (a + 1) c short in
      let far : a + suc n ≡ (a + 1) + n = omega arith in
      let rest : e.receipt + n ≤ d.receipt = rising n (a + 1) e d at_e (subst (λ k. StandsAt commits k d) far at_d) in
      omega (arith, rest, (following.made a c e short at_c.1 at_e.1).later)

  pub rising_to : (j k : ℕ) (c d : Commit) → j ≤ k → StandsAt commits j c → StandsAt commits k d → c.receipt + (k - j) ≤ d.receipt
  rising_to j k c d le at_c at_d =
      let far : k ≡ j + (k - j) = omega (arith, le) in
      rising (k - j) j c d at_c (subst (λ i. StandsAt commits i d) far at_d)

  module _ (s : Store) (p : List Step) where
    -- a node at a path in a commit was there in an earlier commit too, or has a greater stamp than all nodes of that commit
    since : (n a : ℕ) (c d : Commit) (m : Tree) → StandsAt commits a c → StandsAt commits (a + n) d → at (Some (tree_in d.trees s)) p ≡ Some m
        → (at (Some (tree_in c.trees s)) p ≡ Some m) ⊎ (stamp_of c.receipt < m.stamp)
    since zero a c d m at_c at_d stands = inl (ap (λ (x : Commit). at (Some (tree_in x.trees s)) p) (same_at commits a (a + zero) c d (omega arith) at_c at_d) ∙ stands)
    since (suc n) a c d m at_c at_d stands =
        let short : a + n + 1 < length commits = omega (arith, at_d.0) in
        let next : a + suc n ≡ a + n + 1 = omega arith in
        let e : Commit = get_or commits (a + n) c in
        let at_e : StandsAt commits (a + n) e = there commits (a + n) c (omega (arith, short)) in
        let here : StandsAt commits (a + n + 1) d = subst (λ k. StandsAt commits k d) next at_d in
        let made : IsMadeOf e d = following.made (a + n) e d short at_e.1 here.1 in
        let rises : c.receipt + suc n ≤ d.receipt = rising (suc n) a c d at_c at_d in
        elim (touches (rows_in e.trees s) s d.ops.value p) as (λ b. touches (rows_in e.trees s) s d.ops.value p ≡ b → (at (Some (tree_in c.trees s)) p ≡ Some m) ⊎ (stamp_of c.receipt < m.stamp)) [
          | true ↦ λ is. inr (omega (arith, (made.follows s).stamped p m is stands, rises))
          | false ↦ λ is. since n a c e m at_c at_e (sym ((made.follows s).kept p is) ∙ stands)
        ] refl

    pub since_then : (j k : ℕ) (c d : Commit) (m : Tree) → j ≤ k → StandsAt commits j c → StandsAt commits k d → at (Some (tree_in d.trees s)) p ≡ Some m
        → (at (Some (tree_in c.trees s)) p ≡ Some m) ⊎ (stamp_of c.receipt < m.stamp)
    since_then j k c d m le at_c at_d stands =
        let far : k ≡ j + (k - j) = omega (arith, le) in
        since (k - j) j c d m at_c (subst (λ i. StandsAt commits i d) far at_d) stands

    -- no stamp that a transaction has, if the opening has none
    pub no_view : (place n : ℕ) (d : Commit) (m : Tree) → ((c : Commit) → StandsAt commits 0 c → HasNo (2 * place + 2) (tree_in c.trees s)) → StandsAt commits n d → at (Some (tree_in d.trees s)) p ≡ Some m
        → m.stamp ≢ 2 * place + 2
    no_view place zero d m first at_d stands = first d at_d p m stands
    no_view place (suc n) d m first at_d stands =
        let short : n + 1 < length commits = omega (arith, at_d.0) in
        let next : suc n ≡ n + 1 = omega arith in
        let e : Commit = get_or commits n d in
        let at_e : StandsAt commits n e = there commits n d (omega (arith, short)) in
        let here : StandsAt commits (n + 1) d = subst (λ k. StandsAt commits k d) next at_d in
        let made : IsMadeOf e d = following.made n e d short at_e.1 here.1 in
        elim (touches (rows_in e.trees s) s d.ops.value p) as (λ b. touches (rows_in e.trees s) s d.ops.value p ≡ b → m.stamp ≢ 2 * place + 2) [
          | true ↦ λ is own. omega (arith, (made.follows s).stamped p m is stands, own)
          | false ↦ λ is. no_view place n e m first at_e (sym ((made.follows s).kept p is) ∙ stands)
        ] refl

  pub first_has_none : (place : ℕ) (c : Commit) (s : Store) → StandsAt commits 0 c → c.receipt ≡ 0 → HasNo (2 * place + 2) (tree_in c.trees s)
  first_has_none place c s at_c none p n stands = λ e.
      let most : n.stamp ≤ stamp_of c.receipt = stamped-at commits 0 c s following at_c.0 at_c.1 p n stands in
      omega (arith, most, none, e)

  -- ---- two commits

  pub old : (k : ℕ) (c : Commit) (s : Store) (p : List Step) (n : Tree) → StandsAt commits k c → at (Some (tree_in c.trees s)) p ≡ Some n → n.stamp ≤ stamp_of c.receipt
  old k c s p n at_c stands = stamped-at commits k c s following at_c.0 at_c.1 p n stands

  agree-forth : (j k : ℕ) (c d : Commit) (s : Store) → j ≤ k → StandsAt commits j c → StandsAt commits k d → Agree (tree_in c.trees s) (tree_in d.trees s)
  agree-forth j k c d s le at_c at_d p n m a b same = elim (since_then s p j k c d m le at_c at_d b) [
    | inl was ↦ some_same n m (sym a ∙ was)
    | inr new ↦ absurd (let most : n.stamp ≤ stamp_of c.receipt = old j c s p n at_c a in omega (arith, most, new, same))
  ]

  pub agree : (j k : ℕ) (c d : Commit) (s : Store) → StandsAt commits j c → StandsAt commits k d → Agree (tree_in c.trees s) (tree_in d.trees s)
  agree j k c d s at_c at_d p n m a b same = elim (cases_lt j k) [
    | inl less ↦ agree-forth j k c d s (omega (arith, less)) at_c at_d p n m a b same
    | inr more ↦ sym (agree-forth k j d c s more at_d at_c p m n b a (sym same))
  ]

  pub again : (i j k : ℕ) (b c d : Commit) (s : Store) (p : List Step) (n m : Tree) → i ≤ j → j ≤ k → StandsAt commits i b → StandsAt commits j c → StandsAt commits k d
      → at (Some (tree_in b.trees s)) p ≡ Some n → at (Some (tree_in d.trees s)) p ≡ Some m → n.stamp ≡ m.stamp → at (Some (tree_in c.trees s)) p ≡ Some n
  again i j k b c d s p n m first second at_b at_c at_d stands still same = elim (since_then s p j k c d m second at_c at_d still) [
    | inl was ↦ was ∙ ap Some (sym (agree i k b d s at_b at_d p n m stands still same))
    | inr new ↦ absurd (
        let most : n.stamp ≤ stamp_of b.receipt = old i b s p n at_b stands in
        let rises : b.receipt + (j - i) ≤ c.receipt = rising_to i j b c first at_b at_c in
        omega (arith, most, rises, new, same)
        )
  ]

-- the opening of the next epoch has the newest trees
pub next_has_none : (commits : List Commit) (place : ℕ) (c : Commit) (s : Store) → ((k : ℕ) (d : Commit) → StandsAt commits k d → HasNo (2 * place + 2) (tree_in d.trees s)) → StandsAt (begun_anew commits) 0 c
    → HasNo (2 * place + 2) (tree_in c.trees s)
next_has_none [] place c s none at_c = absurd (omega (arith, at_c.0))
next_has_none (opening ∷ commits) place c s none at_c =
    let newest : Commit = get_or (opening ∷ commits) (length commits) opening in
    subst (λ (x : Commit). HasNo (2 * place + 2) (tree_in x.trees s)) (sym at_c.1) (none (length commits) newest (there (opening ∷ commits) (length commits) opening (omega arith)))
