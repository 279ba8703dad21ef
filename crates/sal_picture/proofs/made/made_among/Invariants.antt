use Rattle.std.proofs.Common.{◌≡◌, ℕ, take}
use Rattle.std.specs.Prelude.{map}
use Rattle.sal_draw.specs.Acts.{made_in}
use Rattle.sal_picture.specs.Made.{made_among, receipts_in}
use Rattle.sal_picture.proofs.made.made_among.Given as goal

abbrev pub invariant-loop-domain : goal.invariant-loop-domain
invariant-loop-domain l = (i : ℕ) → made_in l.table.items i ≡ made_among 0 (map receipts_in (take l.domain-index l.domains)) i
