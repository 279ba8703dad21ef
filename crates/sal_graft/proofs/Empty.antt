-- A span without commits changes no path.
use Rattle.std.proofs.Common.{◌≡◌, ◌-◌, ℕ, Bool, true, false, List, refl, ap, sym, ◌∙◌, arith}
use Rattle.std.specs.List.{list_any}
use Rattle.sal_types.specs.declared.value.Store.{Store}
use Rattle.sal_types.specs.declared.value.Step.{Step}
use Rattle.sal_types.specs.declared.row.Row.{Row}
use Rattle.sal_types.specs.Tree.{has}
use Rattle.sal_rows.specs.declared.clash.Span.{Span}
use Rattle.sal_rows.specs.declared.op.Op.{Op}
use Rattle.sal_rows.specs.Commits.{is_unchanged, numbers_after, numbers_in, touches_at, tree_at, unchanged_by}

untouched : (b : Bool) → unchanged_by b b false ≡ true
untouched true = refl
untouched false = refl

pub unchanged-empty : (opening : Store → List Row) (commits : List (List Op)) (s : Store) (p : List Step) (span : Span) → span.from ≡ span.to → is_unchanged opening commits s p span ≡ true
unchanged-empty opening commits s p span empty =
    let none : span.to - span.from ≡ 0 = omega (arith, empty) in
    let quiet : list_any (touches_at opening commits s p) (numbers_in span) ≡ false = ap (λ n. list_any (touches_at opening commits s p) (numbers_after span.from n)) none in
    (λ i. unchanged_by (has (tree_at opening commits s span.from) p) (has (tree_at opening commits s (sym empty i)) p) (quiet i)) ∙ untouched (has (tree_at opening commits s span.from) p)
