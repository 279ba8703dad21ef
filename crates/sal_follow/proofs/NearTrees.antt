-- Trees after a frame, judged near its rows.
use Rattle.std.proofs.Common.{◌≡◌, ◌&&◌, Bool, true, false, not, List, Some, None, if◌then◌else◌, refl, sym, ◌∙◌}
use Rattle.std.proofs.lemmas.Bool.{and_parts}
use Rattle.sal_types.specs.declared.row.Row.{Row}
use Rattle.sal_types.specs.Tree.{IsAscending}
use Rattle.sal_rows.specs.declared.rows.patch.Patch.{Patch}
use Rattle.sal_rows.specs.Patch.{patched}
use Rattle.sal_schema.specs.declared.table.SchemaTable.{SchemaTable}
use Rattle.sal_schema.specs.Fitting.{is_closed}
use Rattle.sal_near.specs.Near.{patches_fit, are_near, leave_state}
use Rattle.sal_near.proofs.Nearby.{near-closed}
use Rattle.sal_near.proofs.StateData.{state-near}
use Rattle.sal_follow.specs.declared.frame.Frame.{Frame}
use Rattle.sal_follow.specs.declared.trees.Both.{Both}
use Rattle.sal_follow.specs.States.{FrameFits, trees_after}
use Rattle.sal_follow.specs.Stream.{has_state, are_trees}

not-true : (b : Bool) → not b ≡ true → b ≡ false
not-true true e = cc
not-true false e = refl

module _ (table : SchemaTable) (config oper : List Row) (cs os : List Patch) where
  -- the test of the code
  pub trees-near : IsAscending config → IsAscending oper → are_trees table config oper ≡ true → patches_fit table cs ≡ true → patches_fit table os ≡ true
      → are_trees table (patched config cs) (patched oper os)
      ≡ ((are_near table (patched config cs) cs && not (leave_state table (patched config cs) cs)) && are_near table (patched oper os) os)
  trees-near up on good cfit ofit =
      let (first, oclosed) = and_parts (is_closed table config && not (has_state table config)) (is_closed table oper) good in
      let (cclosed, stateless) = and_parts (is_closed table config) (not (has_state table config)) first in
      λ i. (near-closed table config cs up cclosed cfit i && not (state-near table config cs (not-true (has_state table config) stateless) i)) && near-closed table oper os on oclosed ofit i

-- and its answer
pub judged-near : (table : SchemaTable) (before after : Both) (f : Frame) (b : Bool) → IsAscending before.config → IsAscending before.oper → are_trees table before.config before.oper ≡ true → FrameFits table f
    → after.config ≡ patched before.config f.config → after.oper ≡ patched before.oper f.oper
    → b ≡ ((are_near table after.config f.config && not (leave_state table after.config f.config)) && are_near table after.oper f.oper)
    → (if b then Some after else None) ≡ trees_after table before f.config f.oper
judged-near table before after f b up on good fits config oper is =
    let same : b ≡ are_trees table (patched before.config f.config) (patched before.oper f.oper) =
    is
    ∙ (λ i. (are_near table (config i) f.config && not (leave_state table (config i) f.config)) && are_near table (oper i) f.oper)
    ∙ sym (trees-near table before.config before.oper f.config f.oper up on good fits.config fits.oper) in
    (λ i. if same i then Some (record { config = config i; oper = oper i }) else None)
