-- One frame more.
use Rattle.std.proofs.Common.{◌≡◌, ℕ, ◌+◌, ◌<◌, ◌≤◌, Bool, true, false, List, [], Some, None, if◌then◌else◌, refl, ap, sym, subst, ◌∙◌, arith}
use Rattle.sal_rows.specs.declared.rows.patch.Patch.{Patch}
use Rattle.sal_rows.specs.Patch.{patched}
use Rattle.sal_schema.specs.declared.table.SchemaTable.{SchemaTable}
use Rattle.sal_follow.specs.declared.fault.FollowFault.TheVariants.{BadFrame}
use Rattle.sal_follow.specs.declared.frame.Frame.{Frame}
use Rattle.sal_follow.specs.declared.state.State.{State}
use Rattle.sal_follow.specs.declared.trees.Both.{Both}
use Rattle.sal_follow.specs.States.{both_in, held, trees_after, IsSound}
use Rattle.sal_follow.specs.Stream.{next, are_trees, failed, moved, if_trees}

passed : (b : Bool) (x y : Both) → (if b then Some x else None) ≡ Some y → (b ≡ true) × (x ≡ y)
passed true x y e = (refl, cc)
passed false x y e = cc

refused : (b : Bool) (x : Both) → (if b then Some x else None) ≡ None → b ≡ false
refused true x e = cc
refused false x e = refl

module _ (table : SchemaTable) (s it : State) where
  module _ (both : Both) (size : ℕ) (f : Frame) (good : trees_after table (both_in s) f.config f.oper ≡ Some both)
      (is : it ≡ record { first = s.first; version = Some f.commit; config = both.config; oper = both.oper; at = s.at + size; fault = None }) where
    parts : (are_trees table (patched s.config f.config) (patched s.oper f.oper) ≡ true) × (record { config = patched s.config f.config; oper = patched s.oper f.oper } ≡ both)
    parts = passed (are_trees table (patched s.config f.config) (patched s.oper f.oper)) (record { config = patched s.config f.config; oper = patched s.oper f.oper }) both good

    pub moved-held : held it [] ≡ if_trees table (held s []) size f.commit (patched s.config f.config) (patched s.oper f.oper)
    moved-held =
        ap (λ (s : State). held s []) is
        ∙ ap (λ (b : Both). moved (held s []) size f.commit b.config b.oper) (sym parts.1)
        ∙ sym (ap (λ b. if b then moved (held s []) size f.commit (patched s.config f.config) (patched s.oper f.oper) else failed (held s []) (BadFrame s.at)) parts.0)

    pub moved-sound : 0 < size → f.commit ≡ next (held s []) → IsSound table s → IsSound table it
    moved-sound some number sound =
        let at : it.at ≡ s.at + size = ap (λ (s : State). s.at) is in
        let first : it.first ≡ s.first = ap (λ (s : State). s.first) is in
        let version : next (held it []) ≡ f.commit + 1 = ap (λ (s : State). next (held s [])) is in
        let low = sound.within in
        let now : it.config ≡ patched s.config f.config = ap (λ (s : State). s.config) is ∙ ap (λ (b : Both). b.config) (sym parts.1) in
        let oper_now : it.oper ≡ patched s.oper f.oper = ap (λ (s : State). s.oper) is ∙ ap (λ (b : Both). b.oper) (sym parts.1) in
        record {
          within = omega (arith, at, first, version, low, number, some);
          trees = (λ i. are_trees table (now i) (oper_now i)) ∙ parts.0;
        }

  -- the trees are refused
  pub spoiled-held : (size k : ℕ) (cs os : List Patch) → trees_after table (both_in s) cs os ≡ None → held it [] ≡ failed (held s []) (BadFrame s.at)
      → held it [] ≡ if_trees table (held s []) size k (patched s.config cs) (patched s.oper os)
  spoiled-held size k cs os bad is =
      let off = refused (are_trees table (patched s.config cs) (patched s.oper os)) (record { config = patched s.config cs; oper = patched s.oper os }) bad in
      is ∙ sym (ap (λ b. if b then moved (held s []) size k (patched s.config cs) (patched s.oper os) else failed (held s []) (BadFrame s.at)) off)
