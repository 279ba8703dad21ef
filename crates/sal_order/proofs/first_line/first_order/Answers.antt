-- The result is the order, or none, according to whether the text starts with the order's line.
use Rattle.std.proofs.Common.{◌≡◌, ℕ, List, Bool, None, Option, Some, ap, sym, ◌∙◌, if◌then◌else◌}
use Rattle.sal_order.specs.FirstLines.{line_of}
use Rattle.sal_order.proofs.Told.{told-as}
use Rattle.sal_order.proofs.first_line.first_order.Goals as goal

pub returns-then-starts_with : goal.returns-then-starts_with
returns-then-starts_with c =
    let order = c.in_ok-order.order.items in
    let told = told-as c.args.text.now order c.as_bytes.result.now c.starts_with.result c.in_ok-order.ensures (c.as_bytes.ensures.value ∙ c.in_ok-line.ensures ∙ ap line_of c.deref.ensures.value) c.starts_with.ensures.value in
    sym (told ∙ ap (λ (b : Bool). if b then Some order else None) c.if-starts_with.true)

pub returns-else-starts_with : goal.returns-else-starts_with
returns-else-starts_with c =
    let order = c.in_ok-order.order.items in
    let told = told-as c.args.text.now order c.as_bytes.result.now c.starts_with.result c.in_ok-order.ensures (c.as_bytes.ensures.value ∙ c.in_ok-line.ensures ∙ ap line_of c.deref.ensures.value) c.starts_with.ensures.value in
    sym (told ∙ ap (λ (b : Bool). if b then Some order else None) c.if-starts_with.false)
