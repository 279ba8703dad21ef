use Rattle.std.proofs.Common.{◌≡◌, ℕ, take}
use Rattle.std.specs.Option.{option_or}
use Rattle.sal_draw.specs.Acts.{made_in}
use Rattle.sal_picture.specs.Made.{made_from, receipts_since}
use Rattle.sal_picture.proofs.made.add_since.Given as goal

abbrev pub invariant-loop-number : goal.invariant-loop-number
invariant-loop-number l = (i : ℕ) → made_in l.table.items i ≡ option_or (made_in l.initial.table.items i) (made_from l.domain 0 (receipts_since l.first (take l.number l.commits)) i)
