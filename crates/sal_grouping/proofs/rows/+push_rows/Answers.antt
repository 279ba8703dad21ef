use Rattle.std.proofs.Common.{◌≡◌, ◌∙◌, ◌-◌, [], ◌∷◌, ◌++◌, length, take, sym, ap, arith}
use Rattle.std.proofs.lemmas.Grind.{common_steps}
use Rattle.std.proofs.lemmas.Bool.Decides.{nat_tests}
use Rattle.sal_module.specs.Statements.{subs_of}
use Rattle.sal_grouping.specs.Rows.{row_of, with_rows}
use Rattle.sal_grouping.proofs.RowLists.{in_block, with_rows-none, with_rows-last, with_rows-more}
use Rattle.sal_grouping.proofs.rows.+push_rows.Goals as goal

pub returns-in-None : goal.returns-in-None
returns-in-None t c = sym (with_rows-none c.args.levels c.args.module c.args.around c.args.rows.now.items c.args.stmt.now (sym c.in-None.ensures))

pub returns-then-levels-eq0 : goal.returns-then-levels-eq0
returns-then-levels-eq0 t c =
    let a = c.args in
    let none : a.levels ≡ 0 = omega arith in
    let last = with_rows-last a.module a.around a.rows.now.items a.stmt.now c.in-Some.keyword (sym c.in-Some.ensures) in
    c.in_ok-push_row-in-Some.ensures ∙ sym last ∙ ap (λ levels. with_rows levels a.module a.around a.rows.now.items a.stmt.now) (sym none)

pub returns : goal.returns
returns t c =
    let a = c.args in
    let more = with_rows-more a.levels a.module a.around a.rows.now.items a.stmt.now c.in-Some.keyword (grind (arith, nat_tests, common_steps)) (sym c.in-Some.ensures) in
    let whole : take c.loop-sub.sub-index (subs_of a.stmt.now) ≡ subs_of a.stmt.now = grind (arith, common_steps) in
    let at_end = rw whole at c.loop-sub.invariant in
    let number : c.len-number.result ≡ length a.rows.now.items = grind (arith, common_steps) in
    at_end ∙ ap (λ rows. in_block (a.levels - 1) a.module c.len-number.result rows (subs_of a.stmt.now)) c.in_ok-push_row-in-Some.ensures
    ∙ ap (λ n. in_block (a.levels - 1) a.module n (a.rows.now.items ++ row_of a.module a.around a.stmt.now c.in-Some.keyword ∷ []) (subs_of a.stmt.now)) number ∙ sym more
