-- The schema has it by its type.
use Rattle.sal_hub.proofs.devices.is_table.Goals as goal

pub returns : goal.returns
returns c = c.len.ensures.table
