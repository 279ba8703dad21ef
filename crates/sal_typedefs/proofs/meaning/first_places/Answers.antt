use Rattle.std.proofs.Common.{◌∙◌, ap}
use Rattle.sal_module.specs.Keywords.{same}
use Rattle.sal_typedefs.specs.Blocks.{get_by_name, with_first}
use Rattle.sal_typedefs.proofs.Listings.{places-more}
use Rattle.sal_typedefs.proofs.meaning.first_places.Goals as goal

pub loop-i-preserved : goal.loop-i-preserved
loop-i-preserved c =
    let i = c.loop-i.i in
    let old = c.loop-i.map in
    places-more c.args.names.now i c.index-names-i.result c.loop-i-test.true c.index-names-i.is old c.define.new.map c.loop-i.invariant
    (λ q. c.in_ok-define.ensures q ∙ ap (λ name. with_first (get_by_name old q) (same name q) i) c.as_str.ensures)
