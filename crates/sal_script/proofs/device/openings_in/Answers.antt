-- One opening is not taken with the other.
use Rattle.std.proofs.Common.{◌≡◌, ℕ, List, [], ◌∷◌, codes, ap, ◌∙◌, arith}
use Rattle.sal_script.specs.Script.{data_by}
use Rattle.sal_script.proofs.device.openings_in.Goals as goal

abbrev first : List ℕ → ℕ
first [] = 0
first (x ∷ xs) = x

apart : codes "operational" ≡ codes "config" → ⊥
apart h = let same : 111 ≡ 99 = ap first h in absurd (omega (arith, same))

pub returns-clause-operational : goal.returns-clause-operational
returns-clause-operational c = c.taken-operational.ensures.value ∙ ap data_by (c.taken-config.ensures.others (codes "operational") apart)
