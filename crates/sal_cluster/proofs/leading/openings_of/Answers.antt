-- The own ones, and those behind.
use Rattle.std.proofs.Common.{◌-◌, drop, length, map, ap, ◌∙◌, arith, length-drop}
use Rattle.std.proofs.lemmas.List.{take_all}
use Rattle.sal_cluster.specs.StandBys.{opening_held, trees_given}
use Rattle.sal_cluster.proofs.leading.openings_of.Goals as goal

pub returns-clause-own : goal.returns-clause-own
returns-clause-own c = c.in_ok-own.ensures ∙ ap opening_held c.own_of.ensures

pub returns-clause-devices : goal.returns-clause-devices
returns-clause-devices c =
    let fs = c.args.followers.now in
    c.in_ok-devices.ensures ∙ ap (map trees_given) (take_all (length fs - 1) (drop 1 fs) (omega (arith, length-drop 1 fs)))
