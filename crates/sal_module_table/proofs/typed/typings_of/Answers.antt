use Rattle.std.proofs.Common.{rules, ◌≡◌, ◌∙◌, ◌++◌, ◌<◌, ℕ, [], List, length, take, get_or, ap, sym, arith}
use Rattle.std.proofs.lemmas.Grind.{common_steps}
use Rattle.sal_stmt.specs.declared.stmt.Stmt.{Stmt}
use Rattle.sal_typedefs.specs.Spots.{site_in}
use Rattle.sal_module_table.specs.Typed.{Own, owns, owns_in}
use Rattle.sal_module_table.proofs.Seen.{numbered-more}
use Rattle.sal_module_table.proofs.Kept.{modules-owns}
use Rattle.sal_module_table.proofs.typed.typings_of.Goals as goal

pub push_module-requires : goal.push_module-requires
push_module-requires c = c.requires.tops ∙ sym c.requires.typedefs

pub loop-m-preserved : goal.loop-m-preserved
loop-m-preserved c =
    let a = c.args in
    let m = c.loop-m.m in
    let stmts = a.modules.now in
    let stmt = c.index-stmts-m.result in
    let old = owns c.loop-m.all.items in
    let f : ℕ → Stmt → List Own = λ k s. owns_in a.wanted.now 64 stmts (site_in k [] s) in
    let inside : m < length stmts = omega (arith, ap length c.items-stmts.ensures.value, c.loop-m-test.true) in
    let is : stmt ≡ get_or stmts m stmt = search rules in
    let step = rw c.requires.typedefs at c.in_ok-push_module.ensures in
    numbered-more f stmts m stmt old (owns c.push_module.new.all.items) inside is c.loop-m.invariant step

pub returns : goal.returns
returns c =
    let stmts = c.args.modules.now in
    let count = ap length c.items-stmts.ensures.value in
    let whole : take c.loop-m.m stmts ≡ stmts = grind (arith, common_steps) in
    let all = rw whole at c.loop-m.invariant in
    all ∙ modules-owns c.args.wanted.now stmts
