use Rattle.std.proofs.Common.{rules, ◌≡◌, ◌∙◌, ◌-◌, ◌++◌, ◌∷◌, ◌<◌, [], List, length, take, ap, subst, sym, append-nil, arith}
use Rattle.std.proofs.lemmas.Grind.{common_steps}
use Rattle.sal_stmt.specs.declared.stmt.Stmt.{Stmt}
use Rattle.sal_module.specs.Statements.{subs_of}
use Rattle.sal_typedefs.specs.Opened.{IsIn}
use Rattle.sal_typedefs.specs.Spots.{site_in}
use Rattle.sal_typedefs.proofs.OpenedLists.{own-in, grown-in}
use Rattle.sal_module_table.specs.Typed.{owns}
use Rattle.sal_module_table.proofs.Kept.{owns-last, owns-more, owns-all}
use Rattle.sal_module_table.proofs.typed.+push_stmt.Goals as goal

pub push_here-requires : goal.push_here-requires
push_here-requires t c = (grown-in c.args.scope.now c.enter.new.self (c.args.stmt.now ∷ []) c.args.keeper.now.typedefs.now c.args.keeper.now.number c.args.scope.now.around.items c.in_ok-enter.ensures c.requires).ready

pub leave-requires : goal.leave-requires
leave-requires t c = record { ready = (grown-in c.args.scope.now c.enter.new.self (c.args.stmt.now ∷ []) c.args.keeper.now.typedefs.now c.args.keeper.now.number c.args.scope.now.around.items c.in_ok-enter.ensures c.requires).ready }

pub returns-then-levels-eq0-clause-value : goal.returns-then-levels-eq0-clause-value
returns-then-levels-eq0-clause-value t c =
    let a = c.args in
    let site = site_in a.keeper.now.number a.scope.now.around.items a.stmt.now in
    let inner = grown-in c.args.scope.now c.enter.new.self (c.args.stmt.now ∷ []) a.keeper.now.typedefs.now a.keeper.now.number a.scope.now.around.items c.in_ok-enter.ensures c.requires in
    owns-last a.keeper.now.wanted.now a.keeper.now.typedefs.now a.levels site (owns a.all.now.items) (owns c.push_here.new.all.items) (omega arith) (c.in_ok-push_here.ensures a.scope.now.around.items inner)

pub returns-then-levels-eq0-clause-around : goal.returns-then-levels-eq0-clause-around
returns-then-levels-eq0-clause-around t c =
    let a = c.args in
    let inner = grown-in c.args.scope.now c.enter.new.self (c.args.stmt.now ∷ []) a.keeper.now.typedefs.now a.keeper.now.number a.scope.now.around.items c.in_ok-enter.ensures c.requires in
    c.leave.ensures a.keeper.now.typedefs.now a.keeper.now.number a.scope.now.around.items a.stmt.now inner

pub enter-requires : goal.enter-requires
enter-requires t c = record { ready = c.requires.ready }

pub loop-sub-init : goal.loop-sub-init
loop-sub-init t c =
    let a = c.args in
    let inner = grown-in c.args.scope.now c.enter.new.self (c.args.stmt.now ∷ []) a.keeper.now.typedefs.now a.keeper.now.number a.scope.now.around.items c.in_ok-enter.ensures c.requires in
    (own-in a.keeper.now.typedefs.now a.keeper.now.number (a.scope.now.around.items ++ a.stmt.now ∷ []) c.enter.new.self inner, sym (append-nil (owns c.push_here.new.all.items)))

pub push_stmt-requires : goal.push_stmt-requires
push_stmt-requires t c = (omega (arith, c.decreases, c.if-levels-eq0.false), own-in c.args.keeper.now.typedefs.now c.args.keeper.now.number c.enter.new.self.around.items c.loop-sub.scope c.loop-sub.invariant.0)

pub loop-sub-preserved : goal.loop-sub-preserved
loop-sub-preserved t c =
    let a = c.args in
    let inside : c.loop-sub.sub-index < length (subs_of a.stmt.now) = omega (arith, ap length c.items-sub-items.ensures, c.loop-sub-test.true) in
    let P : List Stmt → Type 0 = λ bs. IsIn a.keeper.now.typedefs.now a.keeper.now.number bs c.push_stmt.new.scope in (
      subst P c.loop-sub.invariant.0.around_are c.in_ok-push_stmt.ensures.around,
      owns-more a.keeper.now.wanted.now a.keeper.now.typedefs.now (a.levels - 1) a.keeper.now.number (subs_of a.stmt.now) c.enter.new.self.around.items c.loop-sub.scope.around.items c.loop-sub.sub-index _
          (owns c.push_here.new.all.items) (owns c.loop-sub.all.items) (owns c.push_stmt.new.all.items) inside (search rules) c.loop-sub.invariant.0.around_are c.loop-sub.invariant.1 c.in_ok-push_stmt.ensures.value,
    )

pub leave-requires-2 : goal.leave-requires-2
leave-requires-2 t c = record { ready = c.loop-sub.invariant.0.ready }

pub returns-clause-value : goal.returns-clause-value
returns-clause-value t c =
    let a = c.args in
    let inner = grown-in c.args.scope.now c.enter.new.self (c.args.stmt.now ∷ []) a.keeper.now.typedefs.now a.keeper.now.number a.scope.now.around.items c.in_ok-enter.ensures c.requires in
    let whole : take c.loop-sub.sub-index (subs_of a.stmt.now) ≡ subs_of a.stmt.now = grind (arith, common_steps) in
    let all = rw whole at c.loop-sub.invariant.1 in
    all
    ∙ owns-all a.keeper.now.wanted.now a.keeper.now.typedefs.now a.levels a.keeper.now.number a.scope.now.around.items c.enter.new.self.around.items a.stmt.now (owns a.all.now.items) (owns c.push_here.new.all.items) (omega arith)
    inner.around_are (c.in_ok-push_here.ensures a.scope.now.around.items inner)

pub returns-clause-around : goal.returns-clause-around
returns-clause-around t c =
    let a = c.args in
    let inner = grown-in c.args.scope.now c.enter.new.self (c.args.stmt.now ∷ []) a.keeper.now.typedefs.now a.keeper.now.number a.scope.now.around.items c.in_ok-enter.ensures c.requires in
    let P : List Stmt → Type 0 = λ bs. IsIn a.keeper.now.typedefs.now a.keeper.now.number bs c.loop-sub.scope in
    c.leave-2.ensures a.keeper.now.typedefs.now a.keeper.now.number a.scope.now.around.items a.stmt.now (subst P inner.around_are c.loop-sub.invariant.0)
