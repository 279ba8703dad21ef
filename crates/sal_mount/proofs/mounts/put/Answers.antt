use Rattle.std.proofs.Common.{ap, ◌∙◌}
use Rattle.std.specs.BTreeMap.{is_at}
use Rattle.std.specs.Map.{remove_entry}
use Rattle.std.specs.Ordering.{nat_cmp}
use Rattle.sal_types.proofs.Handy.{remove-insert}
use Rattle.sal_mount.proofs.mounts.put.Goals as goal

pub returns-clause-same_states : goal.returns-clause-same_states
returns-clause-same_states c = c.remove.ensures.entries ∙ ap (remove_entry (is_at (nat_cmp c.args.device))) c.in_ok-insert.ensures.entries ∙ remove-insert c.args.device _ c.args.states.now.entries c.requires
