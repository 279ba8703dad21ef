-- The receipts count from that of the opening on.
use Rattle.std.proofs.Common.{◌≡◌, ℕ, subst}
use Rattle.std.specs.Prelude.{OnOk}
use Rattle.std.specs.Option.{option_or}
use Rattle.sal_draw.specs.Acts.{made_in}
use Rattle.sal_picture.specs.Made.{made_from, receipts_since}
use Rattle.sal_picture.proofs.made.add_domain.Goals as goal

pub returns : goal.returns
returns c =
    subst (λ (since : ℕ). OnOk c.add_since.result ((i : ℕ) → made_in c.add_since.new.table.items i ≡ option_or (made_in c.args.table.now.items i) (made_from c.args.domain 0 (receipts_since since c.args.commits.now) i)))
    c.first_receipt-first.ensures c.add_since.ensures
