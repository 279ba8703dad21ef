use Rattle.std.proofs.Common.{◌≡◌, ◌∙◌, Some, Option, true, sym, ap}
use Rattle.std.specs.Prelude.{option_and_then}
use Rattle.std.specs.List.{slice_get}
use Rattle.sal_module.specs.declared.keyword.Keyword.{Keyword}
use Rattle.sal_grouping.specs.Augments.{kind_of, can_hold, has_nodes}
use Rattle.sal_grouping.proofs.FrameLists.{seeds-many}
use Rattle.sal_grouping.proofs.augments.carry_to.Goals as goal

pub returns-in-None : goal.returns-in-None
returns-in-None c =
    let a = c.args in
    let rows = a.plan.now.rows.items in
    let named = a.plan.now.named.items in
    let kind = option_and_then (kind_of rows) (slice_get a.nodes.now.items a.target) in
    let is : c.node_kind-kind.result ≡ kind = rw (c.deref.ensures.value, c.as_slice.ensures.value) at c.node_kind-kind.ensures in
    let many = rw (c.in-None.is, is) at c.in_ok-seeds_in.ensures in
    let holds : can_hold rows kind a.k (has_nodes rows named a.k) ≡ true =
    sym (c.can_hold.ensures ∙ ap (λ (q : Option Keyword). can_hold rows q a.k c.in_ok-any.any) is ∙ ap (λ b. can_hold rows kind a.k b) c.in_ok-any.ensures) ∙ c.if-not-can_hold.false in
    rw holds (seeds-many rows named a.owner kind a.k (Some a.target) a.nodes.now.items many)
