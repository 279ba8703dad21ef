-- The lines of the clients before the index.
use Rattle.std.proofs.Common.{◌≡◌, ℕ, List, map, take, Bor}
use Rattle.sal_embed.specs.Broker.{lines_in}
use Rattle.sal_embed.proofs.clients.lines_of_each.Given as goal

abbrev pub invariant-loop-caller : goal.invariant-loop-caller
invariant-loop-caller l = map (λ (line : Bor (List ℕ)). line.now) l.lines.items ≡ map lines_in (take l.caller-index l.callers)
