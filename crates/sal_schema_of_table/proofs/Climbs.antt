-- Climbing a schema tree, a step at a time.
use Rattle.std.proofs.Common.{◌≡◌, ℕ, zero, suc, ◌+◌, ◌-◌, ◌<◌, ◌≤◌, Bool, true, false, cond, Option, Some, None, length, refl, ap, sym, ◌∙◌, arith}
use Rattle.sal_schema.specs.declared.kind.Kind.{Kind}
use Rattle.sal_schema.specs.declared.table.SchemaTable.{SchemaTable}
use Rattle.sal_schema.specs.Table.{is_kind, parent_of, closest}
use Rattle.sal_schema.proofs.Facts.{closest-None, closest-Some}

no_steps : (test : Kind → Bool) (table : SchemaTable) (here : Option ℕ) → closest test table zero here ≡ None
unfolding closest
no_steps test table here = refl

-- what is left to climb from here, over as many nodes as are not done, leads to the node
module _ (test : Kind → Bool) (table : SchemaTable) (i : ℕ) (here to : Option ℕ) (left : closest test table (length table.nodes - i) here ≡ to) where
  abbrev n : ℕ
  n = length table.nodes

  module _ (above : ℕ) (is : here ≡ Some above) (inside : i < length table.nodes) where
    -- one step up
    step : cond (is_kind test table above) (Some above) (closest test table (n - (i + 1)) (parent_of table above)) ≡ to
    step =
        let one : n - i ≡ suc (n - (i + 1)) = omega arith in
        sym (closest-Some test table (n - (i + 1)) above) ∙ ap (λ k. closest test table k (Some above)) (sym one) ∙ ap (closest test table (n - i)) (sym is) ∙ left

    pub found : is_kind test table above ≡ true → Some above ≡ to
    found here_is = ap (λ b. cond b (Some above) (closest test table (n - (i + 1)) (parent_of table above))) (sym here_is) ∙ step

    pub passed : is_kind test table above ≡ false → closest test table (length table.nodes - (i + 1)) (parent_of table above) ≡ to
    passed not_here = ap (λ b. cond b (Some above) (closest test table (n - (i + 1)) (parent_of table above))) (sym not_here) ∙ step

  pub at_top : here ≡ None → None ≡ to
  at_top is = sym (closest-None test table (n - i)) ∙ ap (closest test table (n - i)) (sym is) ∙ left

  pub at_end : length table.nodes ≤ i → None ≡ to
  at_end end =
      let none : n - i ≡ zero = omega arith in
      sym (no_steps test table here) ∙ ap (λ k. closest test table k here) (sym none) ∙ left
