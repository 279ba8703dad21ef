-- The results of readers of a script: those of the definitions, unless memory ran out.
use Rattle.std.specs.Prelude.{◌≡◌, ℕ, List, map, Result, Ok, Err, MatchResult}
use Rattle.sal_script.specs.declared.fault.ScriptFault.{ScriptFault}
use Rattle.sal_script.specs.declared.fault.ScriptFault.TheVariants.{BadScript, NoMemory}
use Rattle.sal_script.specs.declared.read.Ending.{Ending as ReadEnding}
use Rattle.sal_script.specs.declared.script.Script.{Script}
use Rattle.sal_script.specs.declared.script.OwnDomain.{OwnDomain}
use Rattle.sal_script.specs.declared.script.ScriptDevice.{ScriptDevice}
use Rattle.serde_json.specs.Data.{Members}
use Rattle.serde_json.specs.View.{view}
use Rattle.sal_script.specs.Moves.{clients_of}
use Rattle.sal_script.specs.Script.{DeviceParts, Ending, OwnParts, Parts, with_opened}

-- the fault names the place, unless memory ran out
abbrev pub IsBadAt : List ℕ → ScriptFault → Type 0
IsBadAt place (BadScript named) = named ≡ place
IsBadAt place NoMemory = Unit {0}

-- the fault is that of the definition, unless memory ran out
abbrev pub IsFaultOf : {Y : Type 0} → Result Y (List ℕ) → ScriptFault → Type 0
IsFaultOf read (BadScript place) = read ≡ Err place
IsFaultOf read NoMemory = Unit {0}

-- the result of a reader, seen by `seen`, is that of the definition; a fault is the definition's, unless memory ran out
abbrev pub Reads : {X Y : Type 0} → (X → Y) → Result X ScriptFault → Result Y (List ℕ) → Type 0
Reads seen result read = MatchResult result (λ x. read ≡ Ok (seen x)) (IsFaultOf read)

-- the parts of a device
abbrev pub device : ScriptDevice → DeviceParts
device d = record { modules = d.modules; config = view d.config; operational = view d.operational }

abbrev pub devices : List ScriptDevice → List DeviceParts
devices ds = map device ds

-- domain 0, with the openings of these members
abbrev pub own : Members → OwnDomain → OwnParts
own ms o = record { device = with_opened ms o.modules; upgrades = o.upgrades }

-- the members after the clients
abbrev pub ending : ReadEnding → Ending
ending e = record { order = e.order.items; rules = e.rules; checked = e.checked_reads }

-- the parts of a script
abbrev pub parts : Script → Parts
parts script = record { modules = script.modules; upgrades = script.upgrades; config = view script.config; operational = view script.operational; devices = devices script.devices; clients = clients_of script.clients; order = script.order; rules = script.rules; checked = script.checked_reads }

-- the script that is read, or the first fault, unless memory ran out
abbrev pub ReadsScript : Result Script ScriptFault → Result Parts (List ℕ) → Type 0
ReadsScript = Reads parts
