-- There are clients, or there are none.
use Rattle.std.proofs.Common.{◌≡◌, List, length, ap, ◌∙◌}
use Rattle.std.specs.Prelude.{nat_eq}
use Rattle.sal_script.specs.Moves.{moves_of}
use Rattle.sal_embed.proofs.Emptiness.{none_of, some_of}
use Rattle.sal_embed.proofs.embedded.no_clients.Goals as goal

pub returns-then-is_empty : goal.returns-then-is_empty
returns-then-is_empty c = none_of moves_of c.args.script.now.clients c.is_empty.result (c.is_empty.ensures ∙ ap (λ xs. nat_eq (length xs) 0) c.items.ensures) c.if-is_empty.true

pub returns : goal.returns
returns c = (some_of moves_of c.args.script.now.clients c.is_empty.result (c.is_empty.ensures ∙ ap (λ xs. nat_eq (length xs) 0) c.items.ensures) c.if-is_empty.false, c.bad.ensures)
