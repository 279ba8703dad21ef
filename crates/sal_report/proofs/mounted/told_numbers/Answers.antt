use Rattle.std.proofs.Common.{◌||◌, ◌++◌, ◌∷◌, [], false, Bool, List, ℕ, cond, nat_eq, slice_index_or, ap, sym, ◌∙◌}
use Rattle.sal_report.proofs.Replayed.{next_number}
use Rattle.sal_report.proofs.mounted.told_numbers.Goals as goal

pub loop-domain-preserved : goal.loop-domain-preserved
loop-domain-preserved c =
    let i = c.loop-domain.domain in
    let told = c.loop-domain.told.items in
    let marks = c.args.marks.now in
    c.in_ok-add_if.ensures
    ∙ ap (λ (b : Bool). told ++ cond b (i ∷ []) []) c.is_told.ensures
    ∙ ap (λ (ns : List ℕ). ns ++ cond (nat_eq i 0 || slice_index_or marks i false) (i ∷ []) []) c.loop-domain.invariant
    ∙ sym (next_number (λ d. nat_eq d 0 || slice_index_or marks d false) i)
