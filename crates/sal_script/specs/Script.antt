-- Which script bytes denote, or the first fault, in the order of the lines below.
use Rattle.std.specs.Prelude.{ℕ, ◌+◌, Bool, true, false, List, [], ◌∷◌, ◌++◌, length, Option, None, Some, option_and_then, Result, Ok, Err, codes, decimal, if◌then◌else◌, nat_eq, nat_le}
use Rattle.std.specs.Option.{option_map, option_map_or}
use Rattle.sal_types.specs.Reading.{◌>>=◌}
use Rattle.serde_json.specs.Data.{Data, object, Members, no_members}
use Rattle.serde_json.specs.Find.{as_str, as_object, get_member}
use Rattle.sal_rows.specs.declared.clash.Rules.{Rules}
use Rattle.sal_rows.specs.declared.clash.Rules.TheVariants.{One, Two}
use Rattle.sal_script.specs.Moves.{Move}
use Rattle.sal_script.specs.Steps.{number_of, step_of}
use Rattle.sal_script.specs.declared.script.TheConstants.{PLAIN}
use Rattle.sal_script.specs.Limits.{all_texts, are_short}
use Rattle.sal_script.specs.Json.{list_of, all_named, data_of, text_eq}
use Rattle.sal_script.specs.CheckedReads.{step_with, with_reads}

-- the parts of a device, and of the controller's own domain
pub record DeviceParts : Type 0 where
  pub modules : List (List ℕ)
  pub config : Data
  pub operational : Data

-- domain 0: its modules and its openings, and the texts of the further modules of each upgrade
pub record OwnParts : Type 0 where
  pub device : DeviceParts
  pub upgrades : List (List (List ℕ))

-- the parts of a script; its own modules, upgrades and openings are those of domain 0; and whether reads are checked
pub record Parts : Type 0 where
  pub modules : List (List ℕ)
  pub upgrades : List (List (List ℕ))
  pub config : Data
  pub operational : Data
  pub devices : List DeviceParts
  pub clients : List (List Move)
  pub order : List ℕ
  pub rules : Rules
  pub checked : Bool

-- a place is a text, such as `devices/1` or `clients/0/2`
abbrev pub device_place : ℕ → List ℕ
device_place i = codes "devices/" ++ decimal i

abbrev pub client_place : ℕ → List ℕ
client_place c = codes "clients/" ++ decimal c

abbrev pub step_place : ℕ → ℕ → List ℕ
step_place c s = client_place c ++ (47 ∷ decimal s)

-- the value, or the place as the fault
abbrev pub or_bad : {A : Type 0} → List ℕ → Option A → Result A (List ℕ)
or_bad place None = Err place
or_bad place (Some x) = Ok x

-- the list, unless it is longer than the limit
abbrev pub at_most : {A : Type 0} → ℕ → List A → Option (List A)
at_most limit xs = if nat_le (length xs) limit then Some xs else None

-- ---- members

-- an object with only these members
abbrev pub members_of : List (List ℕ) → Data → Option Members
members_of names d = option_and_then (λ ms. if all_named names ms then Some ms else None) (as_object d)

-- the values of an array; an absent one is empty
abbrev pub list_by : Option Data → Option (List Data)
list_by None = Some []
list_by (Some d) = list_of d

-- the values of an array member; an absent one is empty
abbrev pub list_member : List ℕ → Members → Option (List Data)
list_member name ms = list_by (get_member name ms)

-- a client's steps, not yet read: an object with the one member `steps`, an array that is not too long
abbrev pub program_of : Data → Option (List Data)
program_of d = option_and_then (λ ms. option_and_then (λ steps. option_and_then (at_most 60000) (list_of steps)) (get_member (codes "steps") ms)) (members_of (codes "steps" ∷ []) d)

-- the clients from number c on
abbrev pub programs_from : ℕ → List Data → Result (List (List Data)) (List ℕ)
programs_from c [] = Ok []
programs_from c (d ∷ ds) = or_bad (client_place c) (program_of d) >>= (λ program. programs_from (c + 1) ds >>= (λ programs. Ok (program ∷ programs)))

-- the steps of client c, from number s on
abbrev pub steps_from : ℕ → ℕ → List Data → Result (List Move) (List ℕ)
steps_from c s [] = Ok []
steps_from c s (d ∷ ds) = or_bad (step_place c s) (step_of d) >>= (λ step. steps_from c (s + 1) ds >>= (λ steps. Ok (step ∷ steps)))

-- the steps of the clients from number c on
abbrev pub clients_from : ℕ → List (List Data) → Result (List (List Move)) (List ℕ)
clients_from c [] = Ok []
clients_from c (p ∷ ps) = steps_from c 0 p >>= (λ steps. clients_from (c + 1) ps >>= (λ clients. Ok (steps ∷ clients)))

-- the steps of the clients, at most 16; each client is checked before the steps of the first
abbrev pub clients_member : Members → Result (List (List Move)) (List ℕ)
clients_member ms =
    or_bad (codes "clients") (option_and_then (at_most 16) (list_member (codes "clients") ms))
    >>= (λ ds. programs_from 0 ds
    >>= (λ programs. clients_from 0 programs))

-- the results for these, if each has one
abbrev pub all_of : {A : Type 0} → (Data → Option A) → List Data → Option (List A)
all_of f [] = Some []
all_of f (d ∷ ds) = option_and_then (λ x. option_map (λ xs. x ∷ xs) (all_of f ds)) (f d)

-- the numbers of an order, whole and below 2^32
abbrev pub numbers_of : List Data → Option (List ℕ)
numbers_of ds = all_of number_of ds

-- the texts in an array
abbrev pub texts_in : Data → Option (List (List ℕ))
texts_in d = option_and_then (all_of as_str) (list_of d)

-- texts, if they have fewer than 2^32 bytes together
abbrev pub if_short : List (List ℕ) → Option (List (List ℕ))
if_short texts = if are_short texts then Some texts else None

-- the texts of these modules
abbrev pub texts_of : Data → Option (List (List ℕ))
texts_of d = option_and_then if_short (texts_in d)

-- the texts of the modules; without such a member, that of the module `plain`
abbrev pub modules_member : Members → Option (List (List ℕ))
modules_member ms = given (get_member (codes "modules") ms)
  where
    given : Option Data → Option (List (List ℕ))
    given None = Some (PLAIN.now ∷ [])
    given (Some d) = texts_of d

-- the texts that each upgrade adds, at most 16 times; an absent member has none
abbrev pub listed_upgrades : Members → Option (List (List (List ℕ)))
listed_upgrades ms = option_and_then (all_of texts_in) (option_and_then (at_most 16) (list_member (codes "upgrades") ms))

-- upgrades, if their texts and those of the modules before them have fewer than 2^32 bytes together
abbrev pub if_short_after : List (List ℕ) → List (List (List ℕ)) → Option (List (List (List ℕ)))
if_short_after modules upgrades = if are_short (all_texts modules upgrades) then Some upgrades else None

-- the upgrades after these modules
abbrev pub upgrades_member : List (List ℕ) → Members → Option (List (List (List ℕ)))
upgrades_member modules ms = option_and_then (if_short_after modules) (listed_upgrades ms)

-- an object
abbrev pub if_object : Data → Option Data
if_object d = option_map (λ ms. d) (as_object d)

-- an object; an absent one is empty
abbrev pub opening_by : Option Data → Option Data
opening_by None = Some (object no_members)
opening_by (Some d) = if_object d

-- the data of an opening tree, an object; an absent one is empty
abbrev pub opening_member : List ℕ → Members → Option Data
opening_member name ms = opening_by (get_member name ms)

-- the data of an opening tree, whether they are an object or not
abbrev pub data_by : Option Data → Data
data_by None = object no_members
data_by (Some d) = d

abbrev pub opened : List ℕ → Members → Data
opened name ms = data_by (get_member name ms)

-- the texts of modules with both
abbrev pub with_opened : Members → List (List ℕ) → DeviceParts
with_opened ms texts = record { modules = texts; config = opened (codes "config") ms; operational = opened (codes "operational") ms }

-- ---- devices

-- the openings after the texts of the modules
abbrev pub with_openings : Members → List (List ℕ) → Result DeviceParts (List ℕ)
with_openings ms texts =
    or_bad (codes "config") (opening_member (codes "config") ms)
    >>= (λ config. or_bad (codes "operational") (opening_member (codes "operational") ms)
    >>= (λ operational. Ok (record { modules = texts; config = config; operational = operational })))

-- a device has its modules
abbrev pub device_in : Members → Result DeviceParts (List ℕ)
device_in ms = or_bad (codes "modules") (option_and_then texts_of (get_member (codes "modules") ms)) >>= with_openings ms

-- the members that a device may have
abbrev pub device_names : List (List ℕ)
device_names = codes "modules" ∷ codes "config" ∷ codes "operational" ∷ []

abbrev pub device_of : Data → Result DeviceParts (List ℕ)
device_of d = or_bad (codes "devices") (members_of device_names d) >>= device_in

-- the place of any fault in it is that of the device
abbrev pub placed : {A : Type 0} → List ℕ → Result A (List ℕ) → Result A (List ℕ)
placed place (Ok x) = Ok x
placed place (Err inner) = Err place

-- the devices from number i on
abbrev pub devices_from : ℕ → List Data → Result (List DeviceParts) (List ℕ)
devices_from i [] = Ok []
devices_from i (d ∷ ds) = placed (device_place i) (device_of d) >>= (λ device. devices_from (i + 1) ds >>= (λ devices. Ok (device ∷ devices)))

-- the devices, at most 63
abbrev pub devices_member : Members → Result (List DeviceParts) (List ℕ)
devices_member ms = or_bad (codes "devices") (option_and_then (at_most 63) (list_member (codes "devices") ms)) >>= devices_from 0

-- ---- the script

-- the members that a script may have
abbrev pub names : List (List ℕ)
names = codes "modules" ∷ codes "upgrades" ∷ codes "config" ∷ codes "operational" ∷ codes "devices" ∷ codes "clients" ∷ codes "order" ∷ codes "rules" ∷ codes "reads" ∷ []

-- the version rules of a number, which is 1 or 2
abbrev pub rules_by : ℕ → Option Rules
rules_by n = if nat_eq n 1 then Some One else (if nat_eq n 2 then Some Two else None)

-- the version rules; without such a member they are 1
abbrev pub rules_member : Members → Option Rules
rules_member ms = option_map_or (λ d. option_and_then rules_by (number_of d)) (get_member (codes "rules") ms) (Some One)

-- reads are checked by the text `checked`
abbrev pub checked_by : List ℕ → Option Bool
checked_by text = if text_eq text (codes "checked") then Some true else None

-- whether reads are checked; without such a member they are not
abbrev pub reads_member : Members → Option Bool
reads_member ms = option_map_or (λ d. option_and_then checked_by (as_str d)) (get_member (codes "reads") ms) (Some false)

-- the members after the clients: the order, the version rules, and whether reads are checked
pub record Ending : Type 0 where
  pub order : List ℕ
  pub rules : Rules
  pub checked : Bool

abbrev pub ending_of : Members → Result Ending (List ℕ)
ending_of ms =
    or_bad (codes "order") (option_and_then numbers_of (list_member (codes "order") ms))
    >>= (λ order. or_bad (codes "rules") (rules_member ms)
    >>= (λ rules. or_bad (codes "reads") (reads_member ms)
    >>= (λ checked. Ok (record { order = order; rules = rules; checked = checked }))))

-- after its own modules, upgrades and openings; if reads are checked, the steps begin transactions so
abbrev pub parts_with : Members → OwnParts → Result Parts (List ℕ)
parts_with ms own =
    devices_member ms
    >>= (λ devices. clients_member ms
    >>= (λ clients. ending_of ms
    >>= (λ ending. Ok (record {
      modules = own.device.modules;
      upgrades = own.upgrades;
      config = own.device.config;
      operational = own.device.operational;
      devices = devices;
      clients = with_reads ending.checked clients;
      order = ending.order;
      rules = ending.rules;
      checked = ending.checked;
    }))))

-- the texts of the modules with the upgrades and the openings
abbrev pub own_with : Members → List (List ℕ) → Result OwnParts (List ℕ)
own_with ms texts =
    or_bad (codes "upgrades") (upgrades_member texts ms)
    >>= (λ upgrades. with_openings ms texts
    >>= (λ device. Ok (record { device = device; upgrades = upgrades })))

-- domain 0
abbrev pub own_of : Members → Result OwnParts (List ℕ)
own_of ms = or_bad (codes "modules") (modules_member ms) >>= own_with ms

abbrev pub parts_of : Members → Result Parts (List ℕ)
parts_of ms = own_of ms >>= parts_with ms

-- the script that bytes denote, or the first fault
abbrev pub script_of : List ℕ → Result Parts (List ℕ)
script_of bytes =
    or_bad (codes "json") (data_of bytes)
    >>= (λ d. or_bad (codes "script") (members_of names d) >>= parts_of)

-- the one step that bytes denote
abbrev pub bare_step : List ℕ → Result Move (List ℕ)
bare_step bytes = or_bad (codes "json") (data_of bytes) >>= (λ d. or_bad (codes "step") (step_of d))

-- the same in a script whose reads are checked, or not
abbrev pub one_step : Bool → List ℕ → Result Move (List ℕ)
one_step checked bytes = bare_step bytes >>= (λ step. Ok (step_with checked step))
