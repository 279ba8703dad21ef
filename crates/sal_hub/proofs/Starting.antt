-- The trees that a transaction begins on, as transactions and commits have them.
use Rattle.std.proofs.Common.{◌≡◌, refl}
use Rattle.sal_types.specs.declared.value.Store.{Store}
use Rattle.sal_types.specs.declared.value.Store.TheVariants.{Config, Oper}
use Rattle.sal_tree.specs.declared.commit.Pair.{Pair}
use Rattle.sal_graft.specs.Kept.{rows_in as kept_rows}
use Rattle.sal_tx.specs.Views.{rows_in}

pub same_rows : (pair : Pair) (s : Store) → rows_in pair s ≡ kept_rows pair s
same_rows pair Config = refl
same_rows pair Oper = refl
