-- The readers of a script: what they read, as one reading of a list after another.
use Rattle.std.proofs.Common.{◌≡◌, ℕ, ◌+◌, ◌^◌, ◌<◌, List, [], ◌∷◌, ◌++◌, length, get_or, drop, map, Option, Some, None, option_map, option_and_then, Result, Ok, Err, Bor, refl, ap, sym, ◌∙◌}
use Rattle.std.specs.Result.{IsErrAnd}
use Rattle.std.proofs.lemmas.List.{map-append}
use Rattle.sal_types.specs.Reading.{◌>>=◌}
use Rattle.serde_json.specs.Data.{Data}
use Rattle.serde_json.specs.View.{view}
use Rattle.serde_json.specs.declared.value.Value.{Value}
use Rattle.sal_script.specs.declared.fault.ScriptFault.{ScriptFault}
use Rattle.sal_script.specs.declared.fault.ScriptFault.TheVariants.{BadScript, NoMemory}
use Rattle.sal_script.specs.Json.{whole_below}
use Rattle.sal_script.specs.Moves.{Move, move_of, moves_of}
use Rattle.sal_script.specs.declared.script.ScriptStep.{ScriptStep}
use Rattle.sal_script.specs.Reading.{IsBadAt, IsFaultOf, Reads}
use Rattle.sal_script.specs.Script.{DeviceParts, or_bad, client_place, device_of, device_place, devices_from, placed, step_place, program_of, programs_from, steps_from, clients_from, all_of}
use Rattle.sal_script.specs.Steps.{step_of}
use Rattle.sal_script.proofs.Each.{each_from, before, each_fails, each_next}

-- ---- the lists

abbrev pub program_at : ℕ → Value → Result (List Data) (List ℕ)
program_at c v = or_bad (client_place c) (program_of (view v))

pub programs_from-each : (c : ℕ) (vs : List Value) → programs_from c (map view vs) ≡ each_from program_at c vs
programs_from-each c [] = refl
programs_from-each c (v ∷ vs) = ap (λ rest. program_at c v >>= (λ program. rest >>= (λ programs. Ok (program ∷ programs)))) (programs_from-each (c + 1) vs)

abbrev pub step_at : ℕ → ℕ → Value → Result Move (List ℕ)
step_at c s v = or_bad (step_place c s) (step_of (view v))

pub steps_from-each : (c s : ℕ) (vs : List Value) → steps_from c s (map view vs) ≡ each_from (step_at c) s vs
steps_from-each c s [] = refl
steps_from-each c s (v ∷ vs) = ap (λ rest. step_at c s v >>= (λ step. rest >>= (λ steps. Ok (step ∷ steps)))) (steps_from-each c (s + 1) vs)

-- one step more is read
pub step_next : (client i : ℕ) (steps grown : List ScriptStep) (step : ScriptStep) (program : List Value) (value : Value) (total : Result (List Move) (List ℕ)) → grown ≡ steps ++ step ∷ [] → i < length program → value ≡ get_or program i value → step_of (view value) ≡ Some (move_of step)
    → before (moves_of steps) (each_from (step_at client) i (drop i program)) ≡ total → before (moves_of grown) (each_from (step_at client) (i + 1) (drop (i + 1) program)) ≡ total
step_next client i steps grown step program value total more within is read so_far =
    ap (λ done. before done (each_from (step_at client) (i + 1) (drop (i + 1) program))) (ap moves_of more ∙ map-append move_of steps (step ∷ []))
    ∙ each_next (step_at client) (moves_of steps) i program total value (move_of step) within is (ap (or_bad (step_place client i)) read) so_far

abbrev pub data_in : Bor (List Value) → List Data
data_in program = map view program.now

abbrev pub client_at : ℕ → Bor (List Value) → Result (List Move) (List ℕ)
client_at c program = steps_from c 0 (data_in program)

pub clients_from-each : (c : ℕ) (ps : List (Bor (List Value))) → clients_from c (map data_in ps) ≡ each_from client_at c ps
clients_from-each c [] = refl
clients_from-each c (p ∷ ps) = ap (λ rest. client_at c p >>= (λ steps. rest >>= (λ clients. Ok (steps ∷ clients)))) (clients_from-each (c + 1) ps)

abbrev pub device_at : ℕ → Value → Result DeviceParts (List ℕ)
device_at i v = placed (device_place i) (device_of (view v))

pub devices_from-each : (i : ℕ) (vs : List Value) → devices_from i (map view vs) ≡ each_from device_at i vs
devices_from-each i [] = refl
devices_from-each i (v ∷ vs) = ap (λ rest. device_at i v >>= (λ device. rest >>= (λ devices. Ok (device ∷ devices)))) (devices_from-each (i + 1) vs)

abbrev pub item_at : {A : Type 0} → (Data → Option A) → List ℕ → ℕ → Value → Result A (List ℕ)
item_at f place i v = or_bad place (f (view v))

item_more : {A : Type 0} (place : List ℕ) (first : Option A) (rest : Option (List A))
    → or_bad place (option_and_then (λ x. option_map (λ xs. x ∷ xs) rest) first) ≡ (or_bad place first >>= (λ x. or_bad place rest >>= (λ xs. Ok (x ∷ xs))))
item_more place None rest = refl
item_more place (Some x) None = refl
item_more place (Some x) (Some xs) = refl

pub all_of-each : {A : Type 0} (f : Data → Option A) (place : List ℕ) (i : ℕ) (vs : List Value) → or_bad place (all_of f (map view vs)) ≡ each_from (item_at f place) i vs
all_of-each f place i [] = refl
all_of-each f place i (v ∷ vs) =
    item_more place (f (view v)) (all_of f (map view vs))
    ∙ ap (λ rest. item_at f place i v >>= (λ x. rest >>= (λ xs. Ok (x ∷ xs)))) (all_of-each f place (i + 1) vs)

abbrev pub number_at : List ℕ → ℕ → Value → Result ℕ (List ℕ)
number_at = item_at (whole_below (2 ^ 32))

-- ---- faults

-- the fault at the place that is read
pub fault_at : {Y : Type 0} (place : List ℕ) (read : Result Y (List ℕ)) (e : ScriptFault) → IsBadAt place e → read ≡ Err place → IsFaultOf read e
fault_at place read (BadScript named) is reads = reads ∙ ap Err (sym is)
fault_at place read NoMemory is reads = tt

-- the fault that a `?` passes on
pub reads_err : {X Y : Type 0} (view : X → Y) (result : Result X ScriptFault) (e : ScriptFault) (read : Result Y (List ℕ)) → IsErrAnd result (λ d. d ≡ e) → IsFaultOf read e → Reads view result read
reads_err view (Ok x) e read is fault = absurd is
reads_err view (Err d) e read is fault = rw is fault

-- a fault in one of a list is the list's
pub each_fault : {A B : Type 0} (f : ℕ → A → Result B (List ℕ)) (done : List B) (i : ℕ) (xs : List A) (total : Result (List B) (List ℕ)) (x : A) (e : ScriptFault) → i < length xs → x ≡ get_or xs i x
    → IsFaultOf (f i x) e → before done (each_from f i (drop i xs)) ≡ total → IsFaultOf total e
each_fault f done i xs total x (BadScript place) h is fault so_far = each_fails f done i xs total x place h is fault so_far
each_fault f done i xs total x NoMemory h is fault so_far = tt
