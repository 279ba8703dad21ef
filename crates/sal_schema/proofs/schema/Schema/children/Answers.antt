use Rattle.std.proofs.Common.{◌≡◌, ◌<◌, length, ap, ◌∙◌, ℕ, Some, None}
use Rattle.std.specs.declared.alloc.Global.{Global}
use Rattle.std.specs.declared.vec.Vec.{Vec}
use Rattle.sal_schema.proofs.Facts.{kept_are_there}
use Rattle.sal_schema.proofs.schema.Schema.children.Goals as goal

pub returns-in-None-clause-within : goal.returns-in-None-clause-within
returns-in-None-clause-within c =
    kept_are_there c.self.inside.table c.args.self.now None c.deref.result.now c.self.view_is (c.deref.ensures.value ∙ c.self.invariant.top)

pub returns-in-Some-clause-within : goal.returns-in-Some-clause-within
returns-in-Some-clause-within c =
    let table = c.self.inside.table in
    let low : c.in-Some.node < length table.nodes = rw c.self.view_is (rw c.in-Some.is at c.requires) in
    let items : c.index.result.now.items ≡ _ = ap (λ (list : Vec ℕ Global). list.items) c.index.ensures ∙ c.self.invariant.below c.in-Some.node c.index.result.now low in
    kept_are_there table c.args.self.now (Some c.in-Some.node) c.deref-in-Some.result.now c.self.view_is (c.deref-in-Some.ensures.value ∙ items)
