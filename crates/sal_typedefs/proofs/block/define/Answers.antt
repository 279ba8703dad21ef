use Rattle.std.proofs.Common.{◌≡◌, ◌∙◌, sym, false, is_some}
use Rattle.sal_typedefs.specs.Blocks.{get_by_name}
use Rattle.sal_typedefs.proofs.BlockLists.{first-put}
use Rattle.sal_typedefs.proofs.block.define.Goals as goal

pub returns-in_ok-insert : goal.returns-in_ok-insert
returns-in_ok-insert c =
    let unknown : is_some (get_by_name c.args.map.now c.args.name.now) ≡ false = sym c.contains_key.ensures ∙ c.if-not-contains_key.true in
    first-put c.args.map.now c.insert.new.self c.args.name.now c.args.k c.in_ok-insert.ensures.updates unknown
