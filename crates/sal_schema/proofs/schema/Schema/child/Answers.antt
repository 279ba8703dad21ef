use Rattle.sal_schema.specs.Names.{data_names}
use Rattle.sal_schema.proofs.schema.Schema.child.Goals as goal

pub returns : goal.returns
returns c =
    rw (← c.self.view_is) (c.found.ensures c.self.inside.table (data_names c.self.inside.table) c.self.invariant.is_table.distinct.modules c.self.invariant.modules c.self.invariant.is_table.distinct.data_nodes c.self.invariant.data_nodes)
