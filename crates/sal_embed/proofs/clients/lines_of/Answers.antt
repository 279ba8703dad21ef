-- Joined as they are.
use Rattle.std.proofs.Common.{◌≡◌, ◌++◌, ℕ, List, [], ◌∷◌, Bor, map, refl, ap, ◌∙◌}
use Rattle.std.specs.List.{flat_map}
use Rattle.sal_client.proofs.Faults.{if_ok}
use Rattle.sal_embed.specs.Broker.{joined}
use Rattle.sal_embed.proofs.clients.lines_of.Goals as goal

flat_now : (lines : List (Bor (List ℕ))) → flat_map (λ (line : Bor (List ℕ)). line.now) lines ≡ joined (map (λ (line : Bor (List ℕ)). line.now) lines)
flat_now [] = refl
flat_now (line ∷ lines) = ap (λ (rest : List ℕ). line.now ++ rest) (flat_now lines)

pub returns : goal.returns
returns c = if_ok c.lines_of_each.result _ _ (λ lines is. flat_now lines.items ∙ ap joined is) c.lines_of_each.ensures
