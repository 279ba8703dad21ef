-- Stamps at the ends of a span: whether a path is unchanged over it, and which commit touched it last.
use Rattle.std.proofs.Common.{◌≡◌, ℕ, ◌+◌, ◌-◌, ◌/◌, ◌<◌, ◌≤◌, Bool, true, false, List, ◌==◌, length, get_or, Option, None, Some, refl, ap, sym, subst, ◌∙◌, arith, inl, inr, if◌then◌else◌}
use Rattle.std.specs.Prelude.{is_some}
use Rattle.std.proofs.lemmas.Bool.{cases_lt}
use Rattle.std.proofs.lemmas.Bool.Decides.{nat_tests}
use Rattle.std.proofs.lemmas.List.{get_or_default}
use Rattle.sal_types.specs.declared.value.Store.{Store}
use Rattle.sal_types.specs.declared.value.Step.{Step}
use Rattle.sal_types.specs.declared.row.Row.{Row}
use Rattle.sal_types.specs.Tree.{has}
use Rattle.sal_rows.specs.declared.clash.Span.{Span}
use Rattle.sal_rows.specs.Commits.{numbers_in, tree_at, touches_at, is_unchanged, last_touch, unchanged_by}
use Rattle.sal_rows.proofs.Numbers.{find_any}
use Rattle.sal_node.specs.Tree.{Tree, IsGrove, is_filled}
use Rattle.sal_tree.specs.Alike.{alike}
use Rattle.sal_tree.specs.Grow.{at, present}
use Rattle.sal_tree.proofs.Cells.{has-rows_of}
use Rattle.sal_tree.proofs.Follows.{some_same}
use Rattle.sal_tree.specs.declared.commit.Commit.{Commit}
use Rattle.sal_graft.specs.Kept.{AreKept, IsSpanOf, opening_in, ops_of, tree_in}
use Rattle.sal_graft.specs.Following.{AreFollowing, filled, stamp_of}
use Rattle.sal_graft.proofs.Following.{Tells, receipts-rise, stamped-at, tells}
use Rattle.sal_tree.proofs.Spans.{same_test}

-- ---- one stamp, or two

other_test : (a b : ℕ) → a < b → (a == b) ≡ false
other_test a b e = grind (arith, nat_tests)

-- Two nodes that are the same if no commit touched them; else the later one has the greater stamp.
alike-unchanged : (o u : Option Tree) (touched : Bool) → (touched ≡ false → u ≡ o) → (touched ≡ true → (n m : Tree) → o ≡ Some n → u ≡ Some m → n.stamp < m.stamp)
    → alike (filled o) (filled u) ≡ unchanged_by (present o) (present u) touched
alike-unchanged None None b kept new = refl
alike-unchanged None (Some m) b kept new = elim (is_filled m.cell m.kids) as (λ y. alike None (if y then Some m else None) ≡ unchanged_by false y b) [ true ↦ refl | false ↦ refl ]
alike-unchanged (Some n) None b kept new = elim (is_filled n.cell n.kids) as (λ x. alike (if x then Some n else None) None ≡ unchanged_by x false b) [ true ↦ refl | false ↦ refl ]
alike-unchanged (Some n) (Some m) b kept new =
    elim (is_filled n.cell n.kids) as (λ x. alike (if x then Some n else None) (filled (Some m)) ≡ unchanged_by x (present (Some m)) b) [
      | true ↦ elim (is_filled m.cell m.kids) as (λ y. alike (Some n) (if y then Some m else None) ≡ unchanged_by true y b) [ true ↦ both b kept new | false ↦ refl ]
      | false ↦ elim (is_filled m.cell m.kids) as (λ y. alike None (if y then Some m else None) ≡ unchanged_by false y b) [ true ↦ refl | false ↦ refl ]
    ]
  where
    both : (c : Bool) → (c ≡ false → Some m ≡ Some n) → (c ≡ true → (k l : Tree) → Some n ≡ Some k → Some m ≡ Some l → k.stamp < l.stamp) → (n.stamp == m.stamp) ≡ unchanged_by true true c
    both true f g = other_test n.stamp m.stamp (g refl n m refl refl)
    both false f g = same_test n.stamp m.stamp (ap (λ (t : Tree). t.stamp) (sym (some_same m n (f refl))))

module _ (kept : List Commit) (are : AreKept kept) (following : AreFollowing kept) (span : Span) (is : IsSpanOf kept span) (s : Store) (p : List Step) where
  long : span.from + (span.to - span.from) ≡ span.to
  long = omega (arith, is.ordered)

  inside : span.from + (span.to - span.from) < length kept
  inside = omega (arith, long, is.ends)

  told : (c d : Commit) → c ≡ get_or kept span.from c → d ≡ get_or kept span.to d
      → Tells kept are following s p span.from (span.to - span.from) c d (last_touch (opening_in kept) (ops_of kept) s p span)
  told c d at_c at_d = tells kept are following s p (span.to - span.from) span.from c d inside at_c (at_d ∙ ap (λ i. get_or kept i d) (sym long))

  -- the test by stamps is the one by rows and operations
  pub unchanged-alike : (c d : Commit) → c ≡ get_or kept span.from c → d ≡ get_or kept span.to d → IsGrove (tree_in c.trees s).kids → IsGrove (tree_in d.trees s).kids
      → alike (filled (at (Some (tree_in c.trees s)) p)) (filled (at (Some (tree_in d.trees s)) p)) ≡ is_unchanged (opening_in kept) (ops_of kept) s p span
  unchanged-alike c d at_c at_d grove other =
      let t = touches_at (opening_in kept) (ops_of kept) s p in
      let was : has (tree_at (opening_in kept) (ops_of kept) s span.from) p ≡ present (at (Some (tree_in c.trees s)) p) =
      sym (ap (λ (rows : List Row). has rows p) (are.trees span.from c s (omega (arith, is.ordered, is.ends)) at_c)) ∙ has-rows_of (tree_in c.trees s) grove p in
      let now : has (tree_at (opening_in kept) (ops_of kept) s span.to) p ≡ present (at (Some (tree_in d.trees s)) p) =
      sym (ap (λ (rows : List Row). has rows p) (are.trees span.to d s is.ends at_d)) ∙ has-rows_of (tree_in d.trees s) other p in
      alike-unchanged (at (Some (tree_in c.trees s)) p) (at (Some (tree_in d.trees s)) p) (is_some (last_touch (opening_in kept) (ops_of kept) s p span))
      (untouched (last_touch (opening_in kept) (ops_of kept) s p span) (told c d at_c at_d))
      (newer (last_touch (opening_in kept) (ops_of kept) s p span) (told c d at_c at_d))
      ∙ sym (λ i. unchanged_by (was i) (now i) (sym (find_any t (numbers_in span)) i))
    where
      untouched : (o : Option ℕ) → Tells kept are following s p span.from (span.to - span.from) c d o → is_some o ≡ false → at (Some (tree_in d.trees s)) p ≡ at (Some (tree_in c.trees s)) p
      untouched None tell e = tell
      untouched (Some k) tell e = cc

      newer : (o : Option ℕ) → Tells kept are following s p span.from (span.to - span.from) c d o → is_some o ≡ true → (n m : Tree) → at (Some (tree_in c.trees s)) p ≡ Some n → at (Some (tree_in d.trees s)) p ≡ Some m → n.stamp < m.stamp
      newer None tell e n m at_n at_m = cc
      newer (Some k) tell e n m at_n at_m =
          let x : Commit = get_or kept k c in
          let at_x : x ≡ get_or kept k x = get_or_default kept k c x (omega (arith, tell.1, inside)) in
          let gave : m.stamp ≡ stamp_of x.receipt = tell.2 x m at_x at_m in
          let far : span.from + (k - span.from) ≡ k = omega (arith, tell.0) in
          let rise = receipts-rise kept are following (k - span.from) span.from c x (omega (arith, tell.0, tell.1, inside)) at_c (at_x ∙ ap (λ i. get_or kept i x) (sym far)) in
          let most : n.stamp ≤ stamp_of c.receipt = stamped-at kept span.from c s following (omega (arith, is.ordered, is.ends)) at_c p n at_n in
          omega (arith, gave, rise, most, tell.0)

  -- ---- the commit that gave a stamp

  -- The result of a binary search for a limit: the first commit of the span, its start included, whose receipt is not below it, or its end.
  pub record IsFirst (limit number : ℕ) : Type 0 where
    pub low : span.from ≤ number
    pub high : number ≤ span.to
    pub before : (c : Commit) → span.from < number → c ≡ get_or kept (number - 1) c → c.receipt < limit
    pub here : (c : Commit) → number < span.to → c ≡ get_or kept number c → limit ≤ c.receipt

  -- that commit touched the path last, or none did if it is the start
  first-at : (number : ℕ) (c d : Commit) (n : Tree) → IsFirst (n.stamp / 2) number → c ≡ get_or kept span.from c → d ≡ get_or kept span.to d → at (Some (tree_in d.trees s)) p ≡ Some n
      → (if number == span.from then None else Some number) ≡ last_touch (opening_in kept) (ops_of kept) s p span
  first-at number c d n first at_c at_d stands = by (last_touch (opening_in kept) (ops_of kept) s p span) (told c d at_c at_d)
    where
      at_some : (k : ℕ) → k < length kept → get_or kept k d ≡ get_or kept k (get_or kept k d)
      at_some k short = get_or_default kept k d (get_or kept k d) short

      rise : (j k : ℕ) (x y : Commit) → j ≤ k → k < length kept → x ≡ get_or kept j x → y ≡ get_or kept k y → x.receipt + (k - j) ≤ y.receipt
      rise j k x y le short at_x at_y =
          let far : j + (k - j) ≡ k = omega (arith, le) in
          receipts-rise kept are following (k - j) j x y (omega (arith, far, short)) at_x (at_y ∙ ap (λ i. get_or kept i y) (sym far))

      apart : span.from < number → (number == span.from) ≡ false
      apart h = grind (arith, nat_tests)

      by : (o : Option ℕ) → Tells kept are following s p span.from (span.to - span.from) c d o → (if number == span.from then None else Some number) ≡ o
      by None tell =
          let most : n.stamp ≤ stamp_of c.receipt = stamped-at kept span.from c s following (omega (arith, is.ordered, is.ends)) at_c p n (sym tell ∙ stands) in
          elim (cases_lt span.from number) [
            | inl less ↦
                let short : number - 1 < length kept = omega (arith, less, first.high, is.ends) in
                let lower = first.before (get_or kept (number - 1) d) less (at_some (number - 1) short) in
                let higher = rise span.from (number - 1) c (get_or kept (number - 1) d) (omega (arith, less)) short at_c (at_some (number - 1) short) in
                absurd (omega (arith, lower, higher, most))
            | inr more ↦ ap (λ b. if b then None else Some number) (same_test number span.from (omega (arith, more, first.low)))
          ]
      by (Some k) tell =
          let short : k < length kept = omega (arith, tell.1, inside) in
          let gave : n.stamp ≡ stamp_of (get_or kept k d).receipt = tell.2 (get_or kept k d) n (at_some k short) stands in
          let limit : n.stamp / 2 ≡ (get_or kept k d).receipt = omega (arith, gave) in
          elim (cases_lt number k) [
            | inl less ↦
                let within : number < length kept = omega (arith, less, short) in
                let lower = first.here (get_or kept number d) (omega (arith, less, tell.1, long)) (at_some number within) in
                let higher = rise number k (get_or kept number d) (get_or kept k d) (omega (arith, less)) short (at_some number within) (at_some k short) in
                absurd (omega (arith, lower, higher, limit, less))
            | inr more ↦ elim (cases_lt k number) [
              | inl less ↦
                  let within : number - 1 < length kept = omega (arith, less, first.high, is.ends) in
                  let lower = first.before (get_or kept (number - 1) d) (omega (arith, tell.0, less)) (at_some (number - 1) within) in
                  let higher = rise k (number - 1) (get_or kept k d) (get_or kept (number - 1) d) (omega (arith, less)) within (at_some k short) (at_some (number - 1) within) in
                  absurd (omega (arith, lower, higher, limit))
              | inr same ↦
                  let is_k : number ≡ k = omega (arith, more, same) in
                  ap (λ b. if b then None else Some number) (apart (omega (arith, tell.0, is_k))) ∙ ap Some is_k
            ]
          ]

  pub first-last : (number stamp : ℕ) (d : Commit) (n : Tree) → IsFirst (stamp / 2) number → d ≡ get_or kept span.to d → at (Some (tree_in d.trees s)) p ≡ Some n → n.stamp ≡ stamp
      → (if number == span.from then None else Some number) ≡ last_touch (opening_in kept) (ops_of kept) s p span
  first-last number stamp d n first at_d stands same =
      let c : Commit = get_or kept span.from d in
      let at_c : c ≡ get_or kept span.from c = get_or_default kept span.from d c (omega (arith, is.ordered, is.ends)) in
      first-at number c d n (subst (λ k. IsFirst (k / 2) number) (sym same) first) at_c at_d stands
