-- There is an order, or there is none.
use Rattle.std.proofs.Common.{◌≡◌, List, length, ap, ◌∙◌}
use Rattle.std.specs.Prelude.{nat_eq}
use Rattle.sal_embed.proofs.Emptiness.{none_in, some_in}
use Rattle.sal_embed.proofs.embedded.no_order.Goals as goal

pub returns-then-is_empty : goal.returns-then-is_empty
returns-then-is_empty c = none_in c.args.script.now.order c.is_empty.result (c.is_empty.ensures ∙ ap (λ xs. nat_eq (length xs) 0) c.items.ensures) c.if-is_empty.true

pub returns : goal.returns
returns c = (some_in c.args.script.now.order c.is_empty.result (c.is_empty.ensures ∙ ap (λ xs. nat_eq (length xs) 0) c.items.ensures) c.if-is_empty.false, c.bad.ensures)
