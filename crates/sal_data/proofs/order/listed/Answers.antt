use Rattle.std.proofs.Common.{◌≡◌, ◌∙◌, [], ◌∷◌, ◌++◌, ap, arith}
use Rattle.std.proofs.lemmas.Grind.{common_steps}
use Rattle.sal_types.specs.declared.row.Row.{Row}
use Rattle.sal_types.specs.Tree.{entries}
use Rattle.sal_data.proofs.Ordered.{entries-append}
use Rattle.sal_data.proofs.order.listed.Goals as goal

pub loop-path-preserved : goal.loop-path-preserved
loop-path-preserved c =
    let l = c.loop-path in
    let row : Row = record { path = c.in-Some.path; cell = c.in-Some.cell } in
    let pushed : c.push.new.self.items ≡ l.list.items ++ row ∷ [] = grind (arith, common_steps) in
    ap entries pushed ∙ entries-append l.list.items (row ∷ []) ∙ ap (λ es. es ++ (c.in-Some.path, c.in-Some.cell) ∷ []) l.invariant
