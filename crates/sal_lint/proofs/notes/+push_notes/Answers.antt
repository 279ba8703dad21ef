-- The notes of the statement itself, and then of those below it.
use Rattle.std.proofs.Common.{◌≡◌, ◌∙◌, ◌-◌, ◌++◌, take, sym, ap, arith, append_assoc}
use Rattle.std.proofs.lemmas.Bool.Decides.{nat_tests}
use Rattle.std.proofs.lemmas.Grind.{common_steps}
use Rattle.std.specs.List.{flat_map}
use Rattle.sal_module.specs.Statements.{subs_of}
use Rattle.sal_lint.specs.Notes.{notes_in, own_notes}
use Rattle.sal_lint.proofs.Below.{notes_in-closed, notes_in-last, notes_in-open}
use Rattle.sal_lint.proofs.notes.+push_notes.Goals as goal

pub returns-then-levels-eq0 : goal.returns-then-levels-eq0
returns-then-levels-eq0 t c =
    let none = notes_in-last c.args.levels c.args.stmt.now (grind (arith, nat_tests)) in
    c.in_ok-push_own.ensures ∙ ap (λ notes. c.args.notes.now.items ++ notes) (sym none)

pub returns-then-is_closed : goal.returns-then-is_closed
returns-then-is_closed t c =
    let none = notes_in-closed c.args.levels c.args.stmt.now (λ e. grind (arith, nat_tests, e)) (grind (arith, common_steps)) in
    c.in_ok-push_own.ensures ∙ ap (λ notes. c.args.notes.now.items ++ notes) (sym none)

pub returns : goal.returns
returns t c =
    let subs = subs_of c.args.stmt.now in
    let below = flat_map (notes_in (c.args.levels - 1)) subs in
    let all = notes_in-open c.args.levels c.args.stmt.now (λ e. grind (arith, nat_tests, e)) (grind (arith, common_steps)) in
    let whole : take c.loop-sub.sub-index subs ≡ subs = grind (arith, common_steps) in
    let at_end = rw whole at c.loop-sub.invariant in
    at_end ∙ ap (λ notes. notes ++ below) c.in_ok-push_own.ensures ∙ append_assoc c.args.notes.now.items (own_notes c.args.stmt.now) below
    ∙ ap (λ notes. c.args.notes.now.items ++ notes) (sym all)
