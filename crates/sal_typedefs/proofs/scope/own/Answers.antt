use Rattle.std.proofs.Common.{◌≡◌, ◌∙◌, ◌++◌, ap, sym, subst}
use Rattle.std.specs.Prelude.{reverse, Option, IfSome}
use Rattle.std.specs.Option.{option_copied}
use Rattle.sal_typedefs.specs.Scopes.{Site, closest}
use Rattle.sal_typedefs.specs.Settled.{IsTargetSettled}
use Rattle.sal_typedefs.specs.Opened.{world}
use Rattle.sal_typedefs.proofs.SpotLists.{inner-none}
use Rattle.sal_typedefs.proofs.scope.own.Goals as goal

pub returns-in-None : goal.returns-in-None
returns-in-None c =
    let scope = c.args.scope.now in
    let spot = c.args.spot.now in
    let name = c.args.name.now in
    let w = world scope in
    let none = rw c.as_slice.ensures.value at c.in-None.ensures.value in
    let same : closest scope.number name (reverse scope.around.items) ≡ closest spot.module name (reverse (spot.outer.now ++ spot.inner.items)) =
    ap (λ m. closest m name (reverse scope.around.items)) (sym c.requires.number) ∙ ap (λ bs. closest spot.module name (reverse bs)) (sym c.requires.outer)
    ∙ sym (inner-none spot.module name spot.outer.now spot.inner.items (sym none)) in
    let P : Option Site → Type 0 = λ o. IfSome (option_copied c.settled_outer.result) (IsTargetSettled w o) in
    let all = rw (c.deref.ensures.value, c.deref-in-None.ensures.value) at c.settled_outer.ensures w in
    subst P same (all c.requires.ready.own)
