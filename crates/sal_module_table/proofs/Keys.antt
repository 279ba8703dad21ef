-- The numbers of keys.
use Rattle.std.proofs.Common.{◌≡◌, ℕ, Some, ap, ◌∙◌, if◌then◌else◌}
use Rattle.std.specs.BTreeMap.{BTreeMap, UpdatesBy, get}
use Rattle.std.specs.Cmp.{IsEquivalence, eq_by_cmp_equiv}
use Rattle.sal_module_table.specs.declared.child.Key.{Key}
use Rattle.sal_module_table.specs.contracts.child.KeyOrd.TheImpl.Laws as key_ord_laws
use Rattle.sal_module_table.specs.Children.{key_cmp, same_key}

same_key-IsEquivalence : IsEquivalence same_key
same_key-IsEquivalence = eq_by_cmp_equiv key_ord_laws.total-law

-- a key that gets a number
pub put-over : (old new : BTreeMap Key ℕ) (k : ℕ) (key : Key) → UpdatesBy key_cmp (key_cmp key) old new (Some k)
    → (q : Key) → get key_cmp new q ≡ (if same_key q key then Some k else get key_cmp old q)
put-over old new k key updates q = updates.0 q ∙ ap (λ b. if b then Some k else get key_cmp old q) (same_key-IsEquivalence.symm key q)
