-- Worked examples of epochs: one transaction in each of two.
use Rattle.std.specs.Prelude.{List, [], ◌∷◌, map}
use Rattle.sal_types.specs.declared.row.Row.{Row}
use Rattle.sal_rows.specs.declared.op.Op.{Op}
use Rattle.sal_history.specs.declared.call.Entry.{Entry}
use Rattle.sal_history.specs.Examples.{alone, a, b, leaf, opened, put}
use Rattle.sal_isolation_laws.specs.Epochs.{Epoch, done_over, transactions}

abbrev pub epoch : List Row → List Entry → Epoch
epoch rows log = record { world = opened rows; log = log }

-- leaf a is put in the first epoch
abbrev pub first : Epoch
first = epoch [] (alone (put a "x" ∷ []))

-- and leaf b in the second, which begins with leaf a
abbrev pub second : Epoch
second = epoch (leaf a "x" ∷ []) (alone (put b "y" ∷ []))

-- the operations of all done transactions of domain 0
abbrev pub done_ops_over : List Epoch → List (List Op)
done_ops_over es = map (λ t. t.ops) (transactions (done_over 0 es))
