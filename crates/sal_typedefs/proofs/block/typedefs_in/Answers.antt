use Rattle.std.proofs.Common.{◌∙◌, sym, ap}
use Rattle.sal_typedefs.specs.Scopes.{is_typedef_of}
use Rattle.sal_typedefs.specs.Blocks.{with_first}
use Rattle.std.specs.List.{position_from}
use Rattle.std.proofs.Common.{take}
use Rattle.sal_typedefs.proofs.BlockLists.{position_from-take}
use Rattle.sal_typedefs.proofs.block.typedefs_in.Goals as goal

pub loop-k-preserved : goal.loop-k-preserved
loop-k-preserved c q =
    let subs = c.args.subs.now in
    let k = c.loop-k.k in
    let sub = c.index-subs-k.result in
    c.in_ok-define_typedef.ensures q ∙ ap (λ found. with_first found (is_typedef_of q sub) k) (c.loop-k.invariant q)
    ∙ ap (λ s. with_first (position_from (is_typedef_of q) 0 (take k subs)) (is_typedef_of q s) k) c.index-subs-k.is
    ∙ sym (position_from-take (is_typedef_of q) subs k sub c.loop-k-test.true)
