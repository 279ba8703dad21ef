-- One device more has such tables.
use Rattle.std.proofs.Common.{rules, ◌<◌, ◌≤◌, length, ◌∙◌, subst}
use Rattle.std.proofs.lemmas.List.{get_or_default}
use Rattle.std.proofs.lemmas.List.Elements.{All-from_all_within, AllWithin-more, AllWithin-none, AllWithin-upto}
use Rattle.sal_hub.specs.Opened.{HaveTables}
use Rattle.sal_hub.proofs.devices.have_tables.Goals as goal

pub loop-i-init : goal.loop-i-init
loop-i-init c = AllWithin-none HaveTables c.args.devices.now 0

pub loop-i-preserved : goal.loop-i-preserved
loop-i-preserved c =
    let l = c.loop-i in
    let devices = c.args.devices.now in
    let here = c.index-devices-i.result in
    let within : l.i < length devices = search rules in
    AllWithin-more HaveTables devices 0 l.i l.invariant (λ d. subst HaveTables (c.index-devices-i.is ∙ get_or_default devices l.i here d within) c.has_tables.ensures)

pub returns : goal.returns
returns c =
    let l = c.loop-i in
    let devices = c.args.devices.now in
    let all : length devices ≤ l.i = search rules in
    All-from_all_within HaveTables devices (AllWithin-upto HaveTables devices 0 l.i (length devices) all l.invariant)
