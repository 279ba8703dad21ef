use Rattle.std.proofs.Common.{◌≡◌}
use Rattle.sal_rows.specs.Batches.{parts_after}
use Rattle.sal_listen.specs.Given.{trees_of}
use Rattle.sal_listen.proofs.batches.parts.Given as goal

abbrev pub invariant-loop-past : goal.invariant-loop-past
invariant-loop-past l = l.list.items ≡ parts_after l.listened.own (trees_of l.commits l.listened.store) l.listened.path.now l.from l.past
