use Rattle.std.proofs.Common.{◌∙◌, ◌++◌, Some, sym, ap}
use Rattle.sal_typedefs.specs.Spots.{site_in}
use Rattle.sal_typedefs.proofs.SpotLists.{inner-some, inner-none}
use Rattle.sal_typedefs.proofs.spot.Spot.typedef.Goals as goal

pub returns-in-None : goal.returns-in-None
returns-in-None c =
    let a = c.args in
    let none = rw c.as_slice.ensures.value at c.in-None.ensures.value in
    c.typedef_in.ensures ∙ sym (inner-none a.self.now.module a.name.now a.self.now.outer.now a.self.now.inner.items (sym none))

pub returns-in_ok-copies-in-Some : goal.returns-in_ok-copies-in-Some
returns-in_ok-copies-in-Some c =
    let a = c.args in
    let outer = a.self.now.outer.now in
    let m = a.self.now.module in
    let n = c.in-Some.n in
    let t = c.in-Some.stmt.now in
    let some = rw c.as_slice.ensures.value at c.in-Some.ensures.value in
    let same = rw c.deref.ensures.value at c.in_ok-copies-in-Some.ensures in
    ap (λ inner. Some (site_in m (outer ++ inner) t)) same ∙ sym (inner-some m a.name.now outer a.self.now.inner.items n t (sym some))
