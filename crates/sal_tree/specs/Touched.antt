-- Which paths one act touches.
use Rattle.std.specs.Prelude.{Bool, ◌&&◌, ◌||◌, List, [], ◌∷◌, is_some}
use Rattle.std.specs.List.{list_any}
use Rattle.sal_types.specs.declared.value.Step.{Step}
use Rattle.sal_types.specs.declared.row.Row.{Row}
use Rattle.sal_types.specs.Prefix.{is_prefix}
use Rattle.sal_types.specs.Tree.{has}
use Rattle.sal_types.specs.declared.value.Store.{Store}
use Rattle.sal_rows.specs.declared.op.Act.{Act}
use Rattle.sal_rows.specs.declared.op.Op.{Op}
use Rattle.sal_rows.specs.Apply.{act_setting, rows_of_act}

-- The act at the path p has a row at or below q, or sets a path there at which a row exists before.
abbrev pub act_touches : List Row → List Step → Act → List Step → Bool
act_touches before p act q = has (rows_of_act act) q || list_any (λ row. is_prefix q row.path && is_some (act_setting p act row.path)) before

-- the act as a transaction of one operation
abbrev pub one_op : Store → List Step → Act → List Op
one_op s p act = record { store = s; path = p; act = act } ∷ []
