-- Each part is a copy.
use Rattle.std.proofs.Common.{ap, ◌∙◌}
use Rattle.std.proofs.lemmas.List.{take_all}
use Rattle.sal_stmt.specs.declared.stmt.Stmt.TheViews.{out-Stmt, roll-Stmt, roll-out-Stmt}
use Rattle.sal_stmt.proofs.stmt.Stmt.+copy.Goals as goal

pub returns : goal.returns
returns t c =
    let subs = c.from_items.ensures ∙ c.loop-sub.invariant ∙ take_all _ _ c.loop-sub-test.false ∙ c.items-sub-items.ensures in
    ap roll-Stmt (λ i. record { keyword = c.in_ok-keyword.ensures i; arg = c.in_ok-arg.ensures i; at = (out-Stmt c.args.self.now).at; subs = subs i }) ∙ roll-out-Stmt c.args.self.now
