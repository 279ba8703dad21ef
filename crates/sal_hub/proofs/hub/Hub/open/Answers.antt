-- The domains that the devices open have no commits.
use Rattle.std.proofs.Common.{◌≡◌, All, List, [], None, length, map, ap, sym, ◌∙◌, subst, arith}
use Rattle.std.proofs.lemmas.List.{length-map}
use Rattle.sal_history.specs.declared.opening.Device.{Device}
use Rattle.sal_history.specs.World.{OneIsUpgraded}
use Rattle.sal_history_laws.specs.Logs.{AreSound}
use Rattle.sal_hub.specs.HubHistory.{HubHistory}
use Rattle.sal_hub.specs.PipelineView.{opened_as, shown, world_in}
use Rattle.sal_hub.specs.Opened.{AreFirst, HaveTables, shown_from}
use Rattle.sal_hub.specs.Openings.{domain_of, fault_of, world_of}
use Rattle.sal_hub.proofs.OpenedDevices.{are_sound, shown_first, world-shown}
use Rattle.sal_hub.proofs.hub.Hub.open.Goals as goal

pub hub_of-requires-clause-first : goal.hub_of-requires-clause-first
hub_of-requires-clause-first c =
    let shown_all : map shown c.in_ok-domains.domains.items ≡ shown_from c.args.rules 0 c.args.devices.items = c.in_ok-domains.ensures.shown ∙ ap (shown_from c.args.rules 0) c.deref-2.ensures.value in
    subst AreFirst (sym shown_all) (shown_first c.args.rules c.args.devices.items c.requires.some)

pub hub_of-requires-clause-sound : goal.hub_of-requires-clause-sound
hub_of-requires-clause-sound c =
    let shown_all : map shown c.in_ok-domains.domains.items ≡ shown_from c.args.rules 0 c.args.devices.items = c.in_ok-domains.ensures.shown ∙ ap (shown_from c.args.rules 0) c.deref-2.ensures.value in
    let same : world_in (map shown c.in_ok-domains.domains.items) ≡ world_of c.args.rules c.args.devices.items = ap world_in shown_all ∙ world-shown c.args.rules 0 c.args.devices.items in
    let tables : All HaveTables c.args.devices.items = subst (All HaveTables) c.deref.ensures.value c.have_tables.ensures in
    subst AreSound (sym same) (are_sound c.args.rules c.args.devices.items tables c.requires.closed c.requires.versions)

pub hub_of-requires-clause-only : goal.hub_of-requires-clause-only
hub_of-requires-clause-only c =
    let shown_all : map shown c.in_ok-domains.domains.items ≡ shown_from c.args.rules 0 c.args.devices.items = c.in_ok-domains.ensures.shown ∙ ap (shown_from c.args.rules 0) c.deref-2.ensures.value in
    let same : world_in (map shown c.in_ok-domains.domains.items) ≡ world_of c.args.rules c.args.devices.items = ap world_in shown_all ∙ world-shown c.args.rules 0 c.args.devices.items in
    subst OneIsUpgraded (sym same) c.requires.versions.only

pub hub_of-requires-clause-few : goal.hub_of-requires-clause-few
hub_of-requires-clause-few c =
    let shown_all : map shown c.in_ok-domains.domains.items ≡ shown_from c.args.rules 0 c.args.devices.items = c.in_ok-domains.ensures.shown ∙ ap (shown_from c.args.rules 0) c.deref-2.ensures.value in
    let same : world_in (map shown c.in_ok-domains.domains.items) ≡ world_of c.args.rules c.args.devices.items = ap world_in shown_all ∙ world-shown c.args.rules 0 c.args.devices.items in
    let long : length c.in_ok-domains.domains.items ≡ length c.args.devices.items =
    sym (length-map (map shown c.in_ok-domains.domains.items) opened_as ∙ length-map c.in_ok-domains.domains.items shown) ∙ ap length same ∙ length-map c.args.devices.items (domain_of c.args.rules) in
    omega (arith, long, c.requires.few)

pub returns : goal.returns
returns c =
    let shown_all : map shown c.in_ok-domains.domains.items ≡ shown_from c.args.rules 0 c.args.devices.items = c.in_ok-domains.ensures.shown ∙ ap (shown_from c.args.rules 0) c.deref-2.ensures.value in
    let sound : fault_of (world_of c.args.rules c.args.devices.items) ≡ None = ap (λ (ds : List Device). fault_of (world_of c.args.rules ds)) (sym c.deref-2.ensures.value) ∙ c.in_ok-domains.ensures.fault in
    let same : world_in (map shown c.in_ok-domains.domains.items) ≡ world_of c.args.rules c.args.devices.items = ap world_in shown_all ∙ world-shown c.args.rules 0 c.args.devices.items in
    (sound, c.hub_of.ensures ∙ (λ i. let known : HubHistory = record { world = same i; log = [] } in known))
