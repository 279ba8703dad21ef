use Rattle.std.proofs.Common.{rules, ◌≡◌, ◌∙◌, ◌-◌, ◌++◌, ◌∷◌, ◌<◌, [], List, length, take, ap, subst, refl, sym, arith}
use Rattle.std.proofs.lemmas.Grind.{common_steps}
use Rattle.sal_stmt.specs.declared.stmt.Stmt.{Stmt}
use Rattle.sal_module.specs.Faults.{least}
use Rattle.sal_module.specs.Statements.{subs_of}
use Rattle.sal_typedefs.specs.Opened.{IsIn}
use Rattle.sal_typedefs.specs.Spots.{site_in}
use Rattle.sal_typedefs.proofs.OpenedLists.{own-in, grown-in}
use Rattle.sal_module_table.proofs.Walked.{unread, faults-last, faults-more, faults-all}
use Rattle.sal_module_table.proofs.types.+with_stmt.Goals as goal

pub returns-then-not-is_read-clause-value : goal.returns-then-not-is_read-clause-value
returns-then-not-is_read-clause-value t c =
    let a = c.args in
    ap (least a.best) (unread a.judge.now.asked a.judge.now.typedefs.now a.levels (site_in a.judge.now.number a.scope.now.around.items a.stmt.now) (sym c.is_read.ensures ∙ c.if-not-is_read.true))

pub returns-then-levels-eq0-clause-value : goal.returns-then-levels-eq0-clause-value
returns-then-levels-eq0-clause-value t c =
    let a = c.args in
    let site = site_in a.judge.now.number a.scope.now.around.items a.stmt.now in
    let here = rw (c.requires.modules_are, c.requires.number) at c.in_ok-best.ensures in
    faults-last a.judge.now.asked a.judge.now.typedefs.now a.levels site a.best c.in_ok-best.best (sym c.is_read.ensures ∙ c.if-not-is_read.false) (omega arith) here

pub enter-requires : goal.enter-requires
enter-requires t c = record { ready = c.requires.ready }

pub loop-sub-init : goal.loop-sub-init
loop-sub-init t c =
    let a = c.args in
    (own-in a.judge.now.typedefs.now a.judge.now.number (a.scope.now.around.items ++ a.stmt.now ∷ []) c.enter.new.self (grown-in c.args.scope.now c.enter.new.self (c.args.stmt.now ∷ []) a.judge.now.typedefs.now a.judge.now.number a.scope.now.around.items c.in_ok-enter.ensures c.requires), refl)

pub with_stmt-requires : goal.with_stmt-requires
with_stmt-requires t c = (omega (arith, c.decreases, c.if-levels-eq0.false), own-in c.args.judge.now.typedefs.now c.args.judge.now.number c.enter.new.self.around.items c.loop-sub.scope c.loop-sub.invariant.0)

pub loop-sub-preserved : goal.loop-sub-preserved
loop-sub-preserved t c =
    let a = c.args in
    let inside : c.loop-sub.sub-index < length (subs_of a.stmt.now) = omega (arith, ap length c.items-sub-items.ensures, c.loop-sub-test.true) in
    let P : List Stmt → Type 0 = λ bs. IsIn a.judge.now.typedefs.now a.judge.now.number bs c.with_stmt.new.scope in (
      subst P c.loop-sub.invariant.0.around_are c.in_ok-best-2.ensures.around,
      faults-more a.judge.now.asked a.judge.now.typedefs.now (a.levels - 1) a.judge.now.number (subs_of a.stmt.now) c.enter.new.self.around.items c.loop-sub.scope.around.items c.loop-sub.sub-index _ c.in_ok-best.best
          c.loop-sub.best c.in_ok-best-2.best inside (search rules) c.loop-sub.invariant.0.around_are c.loop-sub.invariant.1 c.in_ok-best-2.ensures.value,
    )

pub leave-requires : goal.leave-requires
leave-requires t c = record { ready = c.loop-sub.invariant.0.ready }

pub returns-clause-value : goal.returns-clause-value
returns-clause-value t c =
    let a = c.args in
    let here = rw (c.requires.modules_are, c.requires.number) at c.in_ok-best.ensures in
    let opened = (grown-in c.args.scope.now c.enter.new.self (c.args.stmt.now ∷ []) a.judge.now.typedefs.now a.judge.now.number a.scope.now.around.items c.in_ok-enter.ensures c.requires).around_are in
    let whole : take c.loop-sub.sub-index (subs_of a.stmt.now) ≡ subs_of a.stmt.now = grind (arith, common_steps) in
    let all = rw whole at c.loop-sub.invariant.1 in
    all
    ∙ faults-all a.judge.now.asked a.judge.now.typedefs.now a.levels a.judge.now.number a.scope.now.around.items c.enter.new.self.around.items a.stmt.now a.best c.in_ok-best.best (sym c.is_read.ensures ∙ c.if-not-is_read.false)
    (omega arith) opened here

pub returns-clause-around : goal.returns-clause-around
returns-clause-around t c =
    let a = c.args in
    let opened = (grown-in c.args.scope.now c.enter.new.self (c.args.stmt.now ∷ []) a.judge.now.typedefs.now a.judge.now.number a.scope.now.around.items c.in_ok-enter.ensures c.requires).around_are in
    let P : List Stmt → Type 0 = λ bs. IsIn a.judge.now.typedefs.now a.judge.now.number bs c.loop-sub.scope in
    c.leave.ensures a.judge.now.typedefs.now a.judge.now.number a.scope.now.around.items a.stmt.now (subst P opened c.loop-sub.invariant.0)
