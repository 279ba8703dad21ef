-- None of the statements so far names the typedef.
use Rattle.std.proofs.Common.{◌≡◌, length, []}
use Rattle.sal_typedefs.specs.Walks.{left, left_names}
use Rattle.sal_typedefs.proofs.circle.one_is_of.Given as goal

abbrev pub invariant-ways : goal.invariant-ways
invariant-ways l =
    left_names l.typedefs (record { «module» = l.number; stmt = l.typedef; around = [] }) l.initial.ways.items
    ≡ left_names l.typedefs (record { «module» = l.number; stmt = l.typedef; around = [] }) l.ways.items

abbrev pub decreases-ways : goal.decreases-ways
decreases-ways l = length (left l.typedefs l.ways.items)
