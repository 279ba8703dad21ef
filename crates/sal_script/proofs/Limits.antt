-- What is read keeps within the limits of a script.
use Rattle.std.proofs.Common.{◌≡◌, ℕ, suc, ◌+◌, Bool, true, false, List, [], ◌∷◌, length, Option, Some, None, option_and_then, Result, Ok, Err, IsTrue, nat_le, codes, refl, ap}
use Rattle.std.proofs.lemmas.List.{length-map}
use Rattle.std.specs.List.{list_all}
use Rattle.sal_types.specs.Reading.{◌>>=◌}
use Rattle.serde_json.specs.Data.{Data}
use Rattle.serde_json.specs.Find.{get_member}
use Rattle.sal_script.specs.declared.script.ScriptDevice.{ScriptDevice}
use Rattle.sal_script.specs.declared.script.ScriptStep.{ScriptStep}
use Rattle.sal_script.specs.Json.{list_of}
use Rattle.sal_script.specs.Limits.{are_few, within_limits}
use Rattle.sal_script.specs.Moves.{Move, move_of, clients_of}
use Rattle.sal_script.specs.Script.{DeviceParts, or_bad, at_most, device_of, device_place, devices_from, placed, client_place, step_place, members_of, program_of, programs_from, steps_from, clients_from}
use Rattle.sal_script.specs.Reading.{device, devices}
use Rattle.sal_script.specs.Steps.{step_of}

-- both parts were read
parts : {A B F : Type 0} (r : Result A F) (f : A → Result B F) (y : B) → (r >>= f) ≡ Ok y → (x : A) × (r ≡ Ok x) × (f x ≡ Ok y)
parts (Ok x) f y h = (x, refl, h)
parts (Err e) f y h = absurd cc

found : {A : Type 0} (place : List ℕ) (o : Option A) (x : A) → or_bad place o ≡ Ok x → o ≡ Some x
found place None x h = absurd cc
found place (Some y) x h = cc

both : {A B : Type 0} (o : Option A) (f : A → Option B) (y : B) → option_and_then f o ≡ Some y → (x : A) × (o ≡ Some x) × (f x ≡ Some y)
both None f y h = absurd cc
both (Some x) f y h = (x, refl, h)

kept : {A : Type 0} (limit : ℕ) (xs ys : List A) (b : Bool) → nat_le (length xs) limit ≡ b → at_most limit xs ≡ Some ys → nat_le (length ys) limit ≡ true
kept limit xs ys true is h =
    let same : Some xs ≡ Some ys = rw is at h in
    let equal : xs ≡ ys = cc in
    rw (← equal) is
kept limit xs ys false is h =
    let none : None ≡ Some ys = rw is at h in
    absurd cc

limited : {A B : Type 0} (limit : ℕ) (o : Option B) (f : B → Option (List A)) (ys : List A) → option_and_then (λ x. option_and_then (at_most limit) (f x)) o ≡ Some ys → nat_le (length ys) limit ≡ true
limited limit o f ys h =
    let outer = both o _ ys h in
    let inner = both (f outer.0) (at_most limit) ys outer.2 in
    kept limit inner.0 ys _ refl inner.2

abbrev pub short : {Step : Type 0} → List (List Step) → Bool
short programs = list_all (λ steps. nat_le (length steps) 60000) programs

short_program : (d : Data) (steps : List Data) → program_of d ≡ Some steps → nat_le (length steps) 60000 ≡ true
short_program d steps h =
    let own = members_of (codes "steps" ∷ []) d in
    let outer = both own (λ ms. option_and_then (λ found. option_and_then (at_most 60000) (list_of found)) (get_member (codes "steps") ms)) steps h in
    limited 60000 (get_member (codes "steps") outer.0) list_of steps outer.2

short_programs : (c : ℕ) (ds : List Data) (programs : List (List Data)) → programs_from c ds ≡ Ok programs → (length programs ≡ length ds) × (short programs ≡ true)
short_programs c [] programs h = let none : [] ≡ programs = cc in rw (← none) (refl, refl)
short_programs c (d ∷ ds) programs h =
    let first = parts (or_bad (client_place c) (program_of d)) _ programs h in
    let rest = parts (programs_from (c + 1) ds) _ programs first.2 in
    let all : first.0 ∷ rest.0 ≡ programs = cc rest.2 in
    let more = short_programs (c + 1) ds rest.0 rest.1 in
    let one = short_program d first.0 (found (client_place c) (program_of d) first.0 first.1) in
    rw (← all) (ap suc more.0, rw (one, more.1) refl)

as_many_steps : (c s : ℕ) (ds : List Data) (steps : List Move) → steps_from c s ds ≡ Ok steps → length steps ≡ length ds
as_many_steps c s [] steps h = let none : [] ≡ steps = cc in rw (← none) refl
as_many_steps c s (d ∷ ds) steps h =
    let first = parts (or_bad (step_place c s) (step_of d)) _ steps h in
    let rest = parts (steps_from c (s + 1) ds) _ steps first.2 in
    let all : first.0 ∷ rest.0 ≡ steps = cc rest.2 in
    rw (← all) (ap suc (as_many_steps c (s + 1) ds rest.0 rest.1))

as_many_clients : (c : ℕ) (programs : List (List Data)) (clients : List (List Move)) → clients_from c programs ≡ Ok clients → (length clients ≡ length programs) × (short clients ≡ short programs)
as_many_clients c [] clients h = let none : [] ≡ clients = cc in rw (← none) (refl, refl)
as_many_clients c (p ∷ ps) clients h =
    let first = parts (steps_from c 0 p) _ clients h in
    let rest = parts (clients_from (c + 1) ps) _ clients first.2 in
    let all : first.0 ∷ rest.0 ≡ clients = cc rest.2 in
    let more = as_many_clients (c + 1) ps rest.0 rest.1 in
    let one = as_many_steps c 0 p first.0 first.1 in
    rw (← all) (ap suc more.0, rw (one, more.1) refl)

-- as many steps of as many clients, as the definitions have them
pub same_limits : (clients : List (List ScriptStep)) → (length (clients_of clients) ≡ length clients) × (short (clients_of clients) ≡ short clients)
same_limits [] = (refl, refl)
same_limits (steps ∷ clients) =
    let more = same_limits clients in
    (ap suc more.0, rw (length-map steps move_of, more.1) refl)

-- the clients that are read
pub within : (place : List ℕ) (o : Option (List Data)) (ds : List Data) (programs : List (List Data)) (clients : List (List ScriptStep)) → or_bad place (option_and_then (at_most 16) o) ≡ Ok ds
    → programs_from 0 ds ≡ Ok programs → clients_from 0 programs ≡ Ok (clients_of clients) → IsTrue (within_limits clients)
within place o ds programs clients listed read made =
    let many = both o (at_most 16) ds (found place _ ds listed) in
    let few = kept 16 many.0 ds _ refl many.2 in
    let pieces = short_programs 0 ds programs read in
    let whole = as_many_clients 0 programs (clients_of clients) made in
    let own = same_limits clients in
    rw (← own.0, ← own.1, whole.0, pieces.0, few, whole.1, pieces.1) refl

-- ---- devices

as_many_devices : (i : ℕ) (ds : List Data) (all : List DeviceParts) → devices_from i ds ≡ Ok all → length all ≡ length ds
as_many_devices i [] all h = let none : [] ≡ all = cc in rw (← none) refl
as_many_devices i (d ∷ ds) all h =
    let first = parts (placed (device_place i) (device_of d)) _ all h in
    let rest = parts (devices_from (i + 1) ds) _ all first.2 in
    let whole : first.0 ∷ rest.0 ≡ all = cc rest.2 in
    rw (← whole) (ap suc (as_many_devices (i + 1) ds rest.0 rest.1))

-- the devices that are read
pub few_devices : (place : List ℕ) (o : Option (List Data)) (ds : List Data) (read : List ScriptDevice) → or_bad place (option_and_then (at_most 63) o) ≡ Ok ds → devices_from 0 ds ≡ Ok (devices read) → IsTrue (are_few read)
few_devices place o ds read listed made =
    let many = both o (at_most 63) ds (found place _ ds listed) in
    let few = kept 63 many.0 ds _ refl many.2 in
    let same = as_many_devices 0 ds (devices read) made in
    let own = length-map read device in
    rw (← own, same) few
