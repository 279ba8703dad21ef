use Rattle.std.proofs.Common.{◌∙◌, ◌++◌, ◌∷◌, [], sym, ap}
use Rattle.sal_typedefs.specs.Spots.{site_in}
use Rattle.sal_module_table.specs.Typed.{owns}
use Rattle.sal_module_table.proofs.Kept.{kept-none, kept-one}
use Rattle.sal_module_table.proofs.typed.push_here.Goals as goal

pub returns-then-not-contains_key : goal.returns-then-not-contains_key
returns-then-not-contains_key c around inner =
    let a = c.args in
    kept-none a.keeper.now.wanted.now a.keeper.now.typedefs.now _ (site_in a.keeper.now.number around a.stmt.now) (owns a.all.now.items) c.place_at.ensures (sym c.contains_key.ensures ∙ c.if-not-contains_key.true)

pub returns : goal.returns
returns c around inner =
    let a = c.args in
    let own = rw (inner.modules_are, inner.number) at c.in_ok-own.ensures in
    ap owns c.in_ok-append.ensures
    ∙ kept-one a.keeper.now.wanted.now a.keeper.now.typedefs.now _ a.keeper.now.number around a.scope.now.around.items a.stmt.now a.all.now.items c.in_ok-own.own c.place_at.ensures
    (sym c.contains_key.ensures ∙ c.if-not-contains_key.false) inner.around_are own
