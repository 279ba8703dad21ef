use Rattle.std.proofs.Common.{◌<◌, length, get_or, ap, ◌∙◌}
use Rattle.sal_schema.proofs.Facts.{numbers_at, keys_are_there}
use Rattle.sal_schema.proofs.schema.Schema.node.Goals as goal

pub returns-clause-numbers : goal.returns-clause-numbers
returns-clause-numbers c =
    let table = c.self.inside.table in
    let here = c.index-items-node.is ∙ ap (λ xs. get_or xs c.args.node c.index-items-node.result) c.items.ensures in
    let low : c.args.node < length table.nodes = rw c.self.view_is c.requires in
    rw (← c.self.view_is) (numbers_at table c.args.node c.index-items-node.result c.self.invariant.is_table low here)

pub returns-clause-keys : goal.returns-clause-keys
returns-clause-keys c =
    let table = c.self.inside.table in
    let here = c.index-items-node.is ∙ ap (λ xs. get_or xs c.args.node c.index-items-node.result) c.items.ensures in
    let low : c.args.node < length table.nodes = rw c.self.view_is c.requires in
    rw (← c.self.view_is) (keys_are_there table c.args.node c.index-items-node.result c.self.invariant.is_table low here)
