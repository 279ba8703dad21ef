use Rattle.std.proofs.Common.{◌∙◌, ap}
use Rattle.sal_module.specs.Keywords.{same}
use Rattle.sal_typedefs.specs.Blocks.{get_by_name, with_first}
use Rattle.sal_typedefs.proofs.Listings.{names-more}
use Rattle.sal_typedefs.proofs.listing.names_of.Goals as goal

pub loop-k-preserved : goal.loop-k-preserved
loop-k-preserved c =
    let k = c.loop-k.k in
    let old = c.loop-k.names in
    names-more c.args.entries.now k c.index-entries-k.result c.loop-k-test.true c.index-entries-k.is old c.define.new.map c.loop-k.invariant
    (λ q. c.in_ok-define.ensures q ∙ ap (λ name. with_first (get_by_name old q) (same name q) k) c.as_str.ensures)
