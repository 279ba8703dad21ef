-- The versions from this one on.
use Rattle.std.proofs.Common.{◌≡◌, ℕ, ◌<◌, IsTrue, List, drop, length, ap, sym, ◌∙◌, subst, arith}
use Rattle.sal_schema.specs.declared.table.SchemaTable.{SchemaTable}
use Rattle.sal_schema.specs.Fitting.{is_closed}
use Rattle.sal_client.specs.Lists.{begun_with}
use Rattle.sal_script.specs.Reading.{parts}
use Rattle.sal_script.specs.Tables.{first_in, table_at, versions_in}
use Rattle.sal_prepare.specs.Openings.{AreChains}
use Rattle.sal_prepare.specs.Resumed.{are_fitting, resumed_with}
use Rattle.sal_prepare.specs.Scripted.{Comes, tables_in, versions_shared}
use Rattle.sal_prepare.specs.declared.domains.Schemas.{Schemas}
use Rattle.sal_prepare.specs.declared.resumed.Ground.{Ground}
use Rattle.sal_prepare.proofs.Replaced.{same_devices}
use Rattle.sal_prepare.proofs.Resuming.{as-many, closed-of, first-begun, inside-of, shared-from, some-own}
use Rattle.sal_prepare.proofs.SoundWorlds.{chains_on}
use Rattle.sal_prepare.proofs.resumed.Ground.resume_with.Goals as goal

-- a version of the readers is one of the schemas
within : (all : Schemas) (readers : List (List SchemaTable)) (v : ℕ) → readers ≡ versions_shared all → v < length (versions_in readers 0) → v < length (tables_in all.own.items)
within all readers v read inside = subst (λ (ts : List (List SchemaTable)). v < length (versions_in ts 0)) read inside

pub schemas_from-requires : goal.schemas_from-requires
schemas_from-requires c = inside-of c.args.self.now.readers c.args.version c.args.openings.own c.requires.own

pub resumed_over-requires-clause-chains : goal.resumed_over-requires-clause-chains
resumed_over-requires-clause-chains c =
    let g : Ground = c.args.self.now in
    let inside = within g.all g.readers c.args.version g.read (inside-of g.readers c.args.version c.args.openings.own c.requires.own) in
    subst AreChains (sym (shared-from g.all c.in_ok-all.all c.args.version c.in_ok-all.ensures.own c.in_ok-all.ensures.devices inside)) (chains_on (versions_shared g.all) c.args.version c.are_sound.ensures.chains)

pub resumed_over-requires-clause-own : goal.resumed_over-requires-clause-own
resumed_over-requires-clause-own c =
    let g : Ground = c.args.self.now in
    let inside = within g.all g.readers c.args.version g.read (inside-of g.readers c.args.version c.args.openings.own c.requires.own) in
    some-own g.all c.in_ok-all.all c.args.version c.in_ok-all.ensures.own c.in_ok-all.ensures.devices inside

pub resumed_over-requires-clause-count : goal.resumed_over-requires-clause-count
resumed_over-requires-clause-count c =
    let g : Ground = c.args.self.now in
    let inside = within g.all g.readers c.args.version g.read (inside-of g.readers c.args.version c.args.openings.own c.requires.own) in
    let many = as-many g.all c.in_ok-all.all c.args.version c.in_ok-all.ensures.own c.in_ok-all.ensures.devices inside in
    omega (arith, many, g.count)

pub resumed_over-requires-clause-few : goal.resumed_over-requires-clause-few
resumed_over-requires-clause-few c =
    let g : Ground = c.args.self.now in
    let inside = within g.all g.readers c.args.version g.read (inside-of g.readers c.args.version c.args.openings.own c.requires.own) in
    let many = as-many g.all c.in_ok-all.all c.args.version c.in_ok-all.ensures.own c.in_ok-all.ensures.devices inside in
    omega (arith, many, g.few)

pub resumed_over-requires-clause-config : goal.resumed_over-requires-clause-config
resumed_over-requires-clause-config c =
    let g : Ground = c.args.self.now in
    let inside = within g.all g.readers c.args.version g.read (inside-of g.readers c.args.version c.args.openings.own c.requires.own) in
    let first : first_in (versions_shared c.in_ok-all.all) 0 ≡ table_at g.readers c.args.version 0 =
    ap (λ (ts : List (List SchemaTable)). first_in ts 0) (shared-from g.all c.in_ok-all.all c.args.version c.in_ok-all.ensures.own c.in_ok-all.ensures.devices inside)
    ∙ first-begun (versions_shared g.all) c.args.version ∙ ap (λ (ts : List (List SchemaTable)). table_at ts c.args.version 0) (sym g.read) in
    subst (λ (t : SchemaTable). IsTrue (is_closed t c.args.openings.own.config)) (sym first) (closed-of g.readers c.args.version c.args.openings.own c.requires.own).0

pub resumed_over-requires-clause-oper : goal.resumed_over-requires-clause-oper
resumed_over-requires-clause-oper c =
    let g : Ground = c.args.self.now in
    let inside = within g.all g.readers c.args.version g.read (inside-of g.readers c.args.version c.args.openings.own c.requires.own) in
    let first : first_in (versions_shared c.in_ok-all.all) 0 ≡ table_at g.readers c.args.version 0 =
    ap (λ (ts : List (List SchemaTable)). first_in ts 0) (shared-from g.all c.in_ok-all.all c.args.version c.in_ok-all.ensures.own c.in_ok-all.ensures.devices inside)
    ∙ first-begun (versions_shared g.all) c.args.version ∙ ap (λ (ts : List (List SchemaTable)). table_at ts c.args.version 0) (sym g.read) in
    subst (λ (t : SchemaTable). IsTrue (is_closed t c.args.openings.own.oper)) (sym first) (closed-of g.readers c.args.version c.args.openings.own c.requires.own).1

pub resumed_over-requires-clause-devices : goal.resumed_over-requires-clause-devices
resumed_over-requires-clause-devices c =
    let g : Ground = c.args.self.now in
    let inside = within g.all g.readers c.args.version g.read (inside-of g.readers c.args.version c.args.openings.own c.requires.own) in
    let given = c.args.openings.devices.items in
    ap (λ (ts : List (List SchemaTable)). are_fitting (drop 1 ts) given) (shared-from g.all c.in_ok-all.all c.args.version c.in_ok-all.ensures.own c.in_ok-all.ensures.devices inside)
    ∙ ap (λ (ts : List (List SchemaTable)). are_fitting ts given) (same_devices c.args.version (versions_shared g.all))
    ∙ ap (λ (ts : List (List SchemaTable)). are_fitting (drop 1 ts) given) (sym g.read)
    ∙ c.requires.devices

pub returns-clause-world : goal.returns-clause-world
returns-clause-world c =
    let g : Ground = c.args.self.now in
    let inside = within g.all g.readers c.args.version g.read (inside-of g.readers c.args.version c.args.openings.own c.requires.own) in
    let same = shared-from g.all c.in_ok-all.all c.args.version c.in_ok-all.ensures.own c.in_ok-all.ensures.devices inside ∙ ap (begun_with c.args.version) (sym g.read) in
    subst (λ (ts : List (List SchemaTable)). Comes (λ it. it.hub.world) (resumed_with g.script.rules (parts g.script).devices ts c.args.openings.own c.args.openings.devices.items) c.resumed_over.result) same c.resumed_over.ensures.world
