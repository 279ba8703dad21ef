-- A path that is unchanged over each span has the same rows in base and tip.
use Rattle.std.proofs.Common.{◌≡◌, true, false, List, [], ◌∷◌, Some, None, refl, ap, sym, ◌∙◌, if◌then◌else◌}
use Rattle.std.proofs.lemmas.Bool.{or_parts}
use Rattle.sal_types.specs.declared.value.Step.{Step}
use Rattle.sal_types.specs.declared.row.Row.{Row}
use Rattle.sal_types.specs.Order.{path_eq}
use Rattle.sal_types.specs.Prefix.{is_prefix}
use Rattle.sal_types.specs.Tree.{cell, has}
use Rattle.sal_rows.proofs.Cells.{same_path}

pub absent-cell : (rows : List Row) (d r : List Step) → has rows d ≡ false → is_prefix d r ≡ true → cell rows r ≡ None
absent-cell [] d r h e = refl
absent-cell (row ∷ rows) d r h e = elim (path_eq r row.path) as (λ b. path_eq r row.path ≡ b → (if b then Some row.cell else cell rows r) ≡ None) [
  | true ↦ λ b. let yes : is_prefix d row.path ≡ true = ap (is_prefix d) (sym (same_path r row.path b)) ∙ e in let no = (or_parts (is_prefix d row.path) (has rows d) h).0 in cc
  | false ↦ λ b. absent-cell rows d r (or_parts (is_prefix d row.path) (has rows d) h).1 e
] refl
