-- The values of a script that was read are JSON.
use Rattle.std.proofs.Common.{◌≡◌, ℕ, zero, suc, ◌+◌, ◌<◌, ◌&&◌, true, List, [], ◌∷◌, length, map, get_or, codes, option_and_then, Some, Result, Ok, Err, refl, ap, ◌∙◌, subst, arith}
use Rattle.std.proofs.lemmas.Bool.{and_from, and_parts}
use Rattle.std.specs.List.{list_all}
use Rattle.sal_types.specs.Reading.{◌>>=◌}
use Rattle.serde_json.specs.Data.{Data, Members}
use Rattle.serde_json.specs.Find.{get_member}
use Rattle.serde_json.specs.View.{view}
use Rattle.serde_json.specs.declared.value.Value.{Value}
use Rattle.sal_json_laws.specs.Json.{IsJson, HasJson, is_json}
use Rattle.sal_json_laws.proofs.Tested.{tests_json}
use Rattle.sal_script.proofs.CheckedReads.{values_with}
use Rattle.sal_script.proofs.Given.{Given, given_then}
use Rattle.sal_script.specs.Json.{list_of, data_of}
use Rattle.sal_script.specs.JsonMoves.{IsJsonMove, AreJsonMoves, HaveJsonMoves, is_json_move, have_json_moves}
use Rattle.sal_script.specs.JsonScripts.{AreJsonDevices, IsJsonDevice, IsJsonScript}
use Rattle.sal_script.specs.Laws.{ScriptsAreJson}
use Rattle.sal_script.specs.Moves.{Move, Begin, Put, Merge, Delete, Read, Exists, Submit, Cancel, Settle, OpenChain, ChainBegin, CloseChain, Pump, Listen, Take, Unlisten, Mirror, Provide, Withdraw, Invoke, NextCall, Answer, Collect, Subscribe, Offer, TakeNotes, Mount, Unmount, MountAt, Mark, After, Upgrade}
use Rattle.sal_script.specs.Script.{DeviceParts, OwnParts, ending_of, reads_member, rules_member, or_bad, device_place, client_place, step_place, at_most, members_of, list_member, program_of, programs_from, steps_from, clients_from, numbers_of, texts_of, modules_member, opening_member, with_openings, device_in, device_names, device_of, placed, devices_from, devices_member, names, clients_member, upgrades_member, own_with, own_of, parts_with, parts_of, script_of}
use Rattle.sal_script.specs.Steps.{step_of}
use Rattle.sal_script.proofs.JsonSteps.{step_json}
use Rattle.sal_script.proofs.JsonValues.{AllJson, AllPrograms, Any, If, at_most_json, data_json, get_json, if_any, if_then, list_by_json, list_json, members_json, opening_by_json, or_else_bad}

-- ---- clients

program_json : (d : Data) → IsJson d → If AllJson (program_of d)
program_json d is =
    if_then HasJson AllJson (λ ms. option_and_then (λ steps. option_and_then (at_most 60000) (list_of steps)) (get_member (codes "steps") ms)) (members_of (codes "steps" ∷ []) d) (members_json (codes "steps" ∷ []) d is) (λ ms x.
    if_then IsJson AllJson (λ steps. option_and_then (at_most 60000) (list_of steps)) (get_member (codes "steps") ms) (get_json (codes "steps") ms x) (λ steps y.
    if_then AllJson AllJson (at_most 60000) (list_of steps) (list_json steps y) (λ ds z. at_most_json AllJson 60000 ds z)))

programs_json : (c : ℕ) (ds : List Data) → AllJson ds → Given AllPrograms (programs_from c ds)
programs_json c [] all = tt
programs_json c (d ∷ ds) all =
    given_then AllJson AllPrograms (or_bad (client_place c) (program_of d)) (λ program. programs_from (c + 1) ds >>= (λ programs. Ok (program ∷ programs))) (or_else_bad AllJson (client_place c) (program_of d) (program_json d all.0)) (λ program x.
    given_then AllPrograms AllPrograms (programs_from (c + 1) ds) (λ programs. Ok (program ∷ programs)) (programs_json (c + 1) ds all.1) (λ programs y. (x, y)))

steps_json : (c s : ℕ) (ds : List Data) → AllJson ds → Given AreJsonMoves (steps_from c s ds)
steps_json c s [] all = tt
steps_json c s (d ∷ ds) all =
    given_then IsJsonMove AreJsonMoves (or_bad (step_place c s) (step_of d)) (λ step. steps_from c (s + 1) ds >>= (λ steps. Ok (step ∷ steps))) (or_else_bad IsJsonMove (step_place c s) (step_of d) (step_json d all.0)) (λ step x.
    given_then AreJsonMoves AreJsonMoves (steps_from c (s + 1) ds) (λ steps. Ok (step ∷ steps)) (steps_json c (s + 1) ds all.1) (λ steps y. (x, y)))

clients_json : (c : ℕ) (ps : List (List Data)) → AllPrograms ps → Given HaveJsonMoves (clients_from c ps)
clients_json c [] all = tt
clients_json c (p ∷ ps) all =
    given_then AreJsonMoves HaveJsonMoves (steps_from c 0 p) (λ steps. clients_from (c + 1) ps >>= (λ clients. Ok (steps ∷ clients))) (steps_json c 0 p all.0) (λ steps x.
    given_then HaveJsonMoves HaveJsonMoves (clients_from (c + 1) ps) (λ clients. Ok (steps ∷ clients)) (clients_json (c + 1) ps all.1) (λ clients y. (x, y)))

-- ---- members

-- at most so many values of an array member
listed_json : (name : List ℕ) (limit : ℕ) (ms : Members) → HasJson ms → If AllJson (option_and_then (at_most limit) (list_member name ms))
listed_json name limit ms is =
    if_then AllJson AllJson (at_most limit) (list_member name ms) (list_by_json (get_member name ms) (get_json name ms is)) (λ ds z. at_most_json AllJson limit ds z)

clients_member_json : (ms : Members) → HasJson ms → Given HaveJsonMoves (clients_member ms)
clients_member_json ms is =
    given_then AllJson HaveJsonMoves (or_bad (codes "clients") (option_and_then (at_most 16) (list_member (codes "clients") ms))) _ (or_else_bad AllJson (codes "clients") _ (listed_json (codes "clients") 16 ms is)) (λ ds are.
    given_then AllPrograms HaveJsonMoves (programs_from 0 ds) _ (programs_json 0 ds are) (λ programs have. clients_json 0 programs have))

opening_json : (name : List ℕ) (ms : Members) → HasJson ms → Given IsJson (or_bad name (opening_member name ms))
opening_json name ms is = or_else_bad IsJson name (opening_member name ms) (opening_by_json (get_member name ms) (get_json name ms is))

openings_json : (ms : Members) → HasJson ms → (texts : List (List ℕ)) → Given IsJsonDevice (with_openings ms texts)
openings_json ms is texts =
    given_then IsJson IsJsonDevice (or_bad (codes "config") (opening_member (codes "config") ms)) _ (opening_json (codes "config") ms is) (λ config is_config.
    given_then IsJson IsJsonDevice (or_bad (codes "operational") (opening_member (codes "operational") ms)) _ (opening_json (codes "operational") ms is) (λ operational is_operational.
    record { config = is_config; operational = is_operational }))

-- ---- devices

device_in_json : (ms : Members) → HasJson ms → Given IsJsonDevice (device_in ms)
device_in_json ms is =
    given_then Any IsJsonDevice (or_bad (codes "modules") (option_and_then texts_of (get_member (codes "modules") ms))) (with_openings ms) (or_else_bad Any (codes "modules") _ (if_any (option_and_then texts_of (get_member (codes "modules") ms))))
    (λ texts x. openings_json ms is texts)

device_json : (d : Data) → IsJson d → Given IsJsonDevice (device_of d)
device_json d is =
    given_then HasJson IsJsonDevice (or_bad (codes "devices") (members_of device_names d)) device_in (or_else_bad HasJson (codes "devices") (members_of device_names d) (members_json device_names d is)) device_in_json

placed_json : (place : List ℕ) (r : Result DeviceParts (List ℕ)) → Given IsJsonDevice r → Given IsJsonDevice (placed place r)
placed_json place (Ok device) is = is
placed_json place (Err inner) is = tt

devices_json : (i : ℕ) (ds : List Data) → AllJson ds → Given AreJsonDevices (devices_from i ds)
devices_json i [] all = tt
devices_json i (d ∷ ds) all =
    given_then IsJsonDevice AreJsonDevices (placed (device_place i) (device_of d)) (λ device. devices_from (i + 1) ds >>= (λ devices. Ok (device ∷ devices))) (placed_json (device_place i) (device_of d) (device_json d all.0)) (λ device x.
    given_then AreJsonDevices AreJsonDevices (devices_from (i + 1) ds) (λ devices. Ok (device ∷ devices)) (devices_json (i + 1) ds all.1) (λ devices y. (x, y)))

devices_member_json : (ms : Members) → HasJson ms → Given AreJsonDevices (devices_member ms)
devices_member_json ms is =
    given_then AllJson AreJsonDevices (or_bad (codes "devices") (option_and_then (at_most 63) (list_member (codes "devices") ms))) (devices_from 0) (or_else_bad AllJson (codes "devices") _ (listed_json (codes "devices") 63 ms is)) (devices_json 0)

-- ---- the script

-- the openings of domain 0
abbrev IsJsonOwn : OwnParts → Type 0
IsJsonOwn own = IsJsonDevice own.device

own_with_json : (ms : Members) → HasJson ms → (texts : List (List ℕ)) → Given IsJsonOwn (own_with ms texts)
own_with_json ms is texts =
    given_then Any IsJsonOwn (or_bad (codes "upgrades") (upgrades_member texts ms)) _ (or_else_bad Any (codes "upgrades") (upgrades_member texts ms) (if_any (upgrades_member texts ms))) (λ upgrades x.
    given_then IsJsonDevice IsJsonOwn (with_openings ms texts) _ (openings_json ms is texts) (λ device is_device. is_device))

own_json : (ms : Members) → HasJson ms → Given IsJsonOwn (own_of ms)
own_json ms is =
    given_then Any IsJsonOwn (or_bad (codes "modules") (modules_member ms)) (own_with ms) (or_else_bad Any (codes "modules") (modules_member ms) (if_any (modules_member ms))) (λ texts x. own_with_json ms is texts)

ending_any : (ms : Members) → Given Any (ending_of ms)
ending_any ms =
    given_then Any Any (or_bad (codes "order") (option_and_then numbers_of (list_member (codes "order") ms))) _ (or_else_bad Any (codes "order") _ (if_any (option_and_then numbers_of (list_member (codes "order") ms)))) (λ order x.
    given_then Any Any (or_bad (codes "rules") (rules_member ms)) _ (or_else_bad Any (codes "rules") _ (if_any (rules_member ms))) (λ rules y.
    given_then Any Any (or_bad (codes "reads") (reads_member ms)) _ (or_else_bad Any (codes "reads") _ (if_any (reads_member ms))) (λ checked z. tt)))

parts_with_json : (ms : Members) → HasJson ms → (own : OwnParts) → IsJsonOwn own → Given IsJsonScript (parts_with ms own)
parts_with_json ms is own is_own =
    given_then AreJsonDevices IsJsonScript (devices_member ms) _ (devices_member_json ms is) (λ devices are.
    given_then HaveJsonMoves IsJsonScript (clients_member ms) _ (clients_member_json ms is) (λ clients moves.
    given_then Any IsJsonScript (ending_of ms) _ (ending_any ms) (λ ending y.
    record { config = is_own.config; operational = is_own.operational; devices = are; clients = values_with ending.checked clients moves })))

parts_json : (ms : Members) → HasJson ms → Given IsJsonScript (parts_of ms)
parts_json ms is = given_then IsJsonOwn IsJsonScript (own_of ms) (parts_with ms) (own_json ms is) (parts_with_json ms is)

script_json : (bytes : List ℕ) → Given IsJsonScript (script_of bytes)
script_json bytes =
    given_then IsJson IsJsonScript (or_bad (codes "json") (data_of bytes)) (λ d. or_bad (codes "script") (members_of names d) >>= parts_of) (or_else_bad IsJson (codes "json") (data_of bytes) (data_json bytes)) (λ d is.
    given_then HasJson IsJsonScript (or_bad (codes "script") (members_of names d)) parts_of (or_else_bad HasJson (codes "script") (members_of names d) (members_json names d is)) parts_json)

-- ---- the tests say so

move_passes : (m : Move) → IsJsonMove m → is_json_move m ≡ true
move_passes (Begin slot domain mode) is = refl
move_passes (Put slot store path value) is = (tests_json value).1 is
move_passes (Merge slot store path value) is = (tests_json value).1 is
move_passes (Delete slot store path) is = refl
move_passes (Read slot store path) is = refl
move_passes (Exists slot store path) is = refl
move_passes (Submit slot) is = refl
move_passes (Cancel slot) is = refl
move_passes (Settle slot) is = refl
move_passes (OpenChain chain domain) is = refl
move_passes (ChainBegin chain slot mode) is = refl
move_passes (CloseChain chain) is = refl
move_passes Pump is = refl
move_passes (Listen listener domain store path) is = refl
move_passes (Take listener) is = refl
move_passes (Unlisten listener) is = refl
move_passes (Mirror listener) is = refl
move_passes (Provide name context) is = refl
move_passes (Withdraw name context) is = refl
move_passes (Invoke slot name context value) is = (tests_json value).1 is
move_passes (NextCall slot) is = refl
move_passes (Answer slot value) is = (tests_json value).1 is
move_passes (Collect slot) is = refl
move_passes (Subscribe name) is = refl
move_passes (Offer name value) is = (tests_json value).1 is
move_passes TakeNotes is = refl
move_passes (Mount device path) is = refl
move_passes (Unmount domain) is = refl
move_passes (MountAt path) is = refl
move_passes (Mark mark) is = refl
move_passes (After mark) is = refl
move_passes (Upgrade version) is = refl

moves_pass : (ms : List Move) → AreJsonMoves ms → list_all is_json_move ms ≡ true
moves_pass [] are = refl
moves_pass (m ∷ ms) are = and_from (is_json_move m) (list_all is_json_move ms) (move_passes m are.0) (moves_pass ms are.1)

clients_pass : (clients : List (List Move)) → HaveJsonMoves clients → have_json_moves clients ≡ true
clients_pass [] have = refl
clients_pass (ms ∷ clients) have = and_from (list_all is_json_move ms) (have_json_moves clients) (moves_pass ms have.0) (clients_pass clients have.1)

-- ---- the same, for readers of the parts

pub object_read : (bytes : List ℕ) (d : Data) (ms : Members) → or_bad (codes "json") (data_of bytes) ≡ Ok d → or_bad (codes "script") (members_of names d) ≡ Ok ms → HasJson ms
object_read bytes d ms value members =
    let is : Given {F = List ℕ} IsJson (Ok d) = subst (Given IsJson) value (or_else_bad IsJson (codes "json") (data_of bytes) (data_json bytes)) in
    let has : Given {F = List ℕ} HasJson (Ok ms) = subst (Given HasJson) members (or_else_bad HasJson (codes "script") (members_of names d) (members_json names d is)) in
    has

-- a step by itself
pub step_read : (bytes : List ℕ) (d : Data) (m : Move) → or_bad (codes "json") (data_of bytes) ≡ Ok d → step_of d ≡ Some m → is_json_move m ≡ true
step_read bytes d m value step =
    let is : Given {F = List ℕ} IsJson (Ok d) = subst (Given IsJson) value (or_else_bad IsJson (codes "json") (data_of bytes) (data_json bytes)) in
    let has : If IsJsonMove (Some m) = subst (If IsJsonMove) step (step_json d is) in
    move_passes m has

pub opening_read : (name : List ℕ) (ms : Members) → HasJson ms → (d : Data) → or_bad name (opening_member name ms) ≡ Ok d → is_json d ≡ true
opening_read name ms is d read =
    let has : Given {F = List ℕ} IsJson (Ok d) = subst (Given IsJson) read (opening_json name ms is) in
    (tests_json d).1 has

pub clients_read : (ms : Members) → HasJson ms → (ds : List Data) (programs : List (List Data)) (clients : List (List Move)) → or_bad (codes "clients") (option_and_then (at_most 16) (list_member (codes "clients") ms)) ≡ Ok ds
    → programs_from 0 ds ≡ Ok programs → clients_from 0 programs ≡ Ok clients → have_json_moves clients ≡ true
clients_read ms is ds programs clients listed read made =
    let are : Given {F = List ℕ} AllJson (Ok ds) = subst (Given AllJson) listed (or_else_bad AllJson (codes "clients") (option_and_then (at_most 16) (list_member (codes "clients") ms)) (listed_json (codes "clients") 16 ms is)) in
    let have : Given {F = List ℕ} AllPrograms (Ok programs) = subst (Given AllPrograms) read (programs_json 0 ds are) in
    let moves : Given {F = List ℕ} HaveJsonMoves (Ok clients) = subst (Given HaveJsonMoves) made (clients_json 0 programs have) in
    clients_pass clients moves

all_pass : (ds : List Data) → AllJson ds → list_all is_json ds ≡ true
all_pass [] are = refl
all_pass (d ∷ ds) are = and_from (is_json d) (list_all is_json ds) ((tests_json d).1 are.0) (all_pass ds are.1)

-- the devices of a script, not yet read
pub listed_read : (ms : Members) → HasJson ms → (ds : List Data) → or_bad (codes "devices") (option_and_then (at_most 63) (list_member (codes "devices") ms)) ≡ Ok ds → list_all is_json ds ≡ true
listed_read ms is ds listed =
    let are : Given {F = List ℕ} AllJson (Ok ds) = subst (Given AllJson) listed (or_else_bad AllJson (codes "devices") (option_and_then (at_most 63) (list_member (codes "devices") ms)) (listed_json (codes "devices") 63 ms is)) in
    all_pass ds are

-- one of them
pub one_json : (vs : List Value) (i : ℕ) (v : Value) → i < length vs → v ≡ get_or vs i v → list_all is_json (map view vs) ≡ true → is_json (view v) ≡ true
one_json [] i v within at all = absurd (omega (arith, within))
one_json (x ∷ vs) zero v within at all = ap (λ (w : Value). is_json (view w)) at ∙ (and_parts (is_json (view x)) (list_all is_json (map view vs)) all).0
one_json (x ∷ vs) (suc i) v within at all = one_json vs i v (omega (arith, within)) at (and_parts (is_json (view x)) (list_all is_json (map view vs)) all).1

-- the openings of domain 0
pub own_read : (ms : Members) → HasJson ms → (own : OwnParts) → own_of ms ≡ Ok own → (is_json own.device.config && is_json own.device.operational) ≡ true
own_read ms is own read =
    let has : Given {F = List ℕ} IsJsonOwn (Ok own) = subst (Given IsJsonOwn) read (own_json ms is) in
    and_from (is_json own.device.config) (is_json own.device.operational) ((tests_json own.device.config).1 has.config) ((tests_json own.device.operational).1 has.operational)

-- the members of a device
pub device_read : (d : Data) → is_json d ≡ true → (ms : Members) → or_bad (codes "devices") (members_of device_names d) ≡ Ok ms → HasJson ms
device_read d is ms read =
    let has : Given {F = List ℕ} HasJson (Ok ms) = subst (Given HasJson) read (or_else_bad HasJson (codes "devices") (members_of device_names d) (members_json device_names d ((tests_json d).0 is))) in
    has

pub scripts_are_json : ScriptsAreJson
scripts_are_json bytes parts e = subst (Given IsJsonScript) e (script_json bytes)
