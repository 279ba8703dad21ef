-- The calls on entities that bytes denote: a JSON array (RFC 8259) of steps, each an array of a client, a word, and its texts; or the first bad
-- input.
use Rattle.std.specs.Prelude.{ℕ, ◌+◌, List, [], ◌∷◌, Option, None, Some, option_and_then, option_map, Result, Ok, codes, decimal, if◌then◌else◌}
use Rattle.sal_types.specs.Reading.{◌>>=◌}
use Rattle.serde_json.specs.Data.{Data}
use Rattle.serde_json.specs.Find.{as_str}
use Rattle.sal_script.specs.Json.{data_of, list_of, text_eq, whole_below}
use Rattle.sal_script.specs.Script.{at_most, or_bad}
use Rattle.sal_owner.specs.declared.call.OwnerCall.{OwnerCall}
use Rattle.sal_owner.specs.declared.call.OwnerCall.TheVariants.{Register, Unregister, State, Watch, Changes}
use Rattle.sal_owner.specs.declared.entity.Entity.{Entity}
use Rattle.sal_owner_script.specs.declared.step.OwnerStep.{OwnerStep}

-- ---- one step

-- the number of a client
abbrev pub client_of : Data → Option ℕ
client_of = whole_below 16

-- exactly a kind and an id
abbrev pub entity_of : List Data → Option Entity
entity_of (k ∷ i ∷ []) = option_and_then (λ kind. option_map (λ id. record { kind = kind; id = id }) (as_str i)) (as_str k)
entity_of parts = None

-- exactly a kind
abbrev pub kind_of : List Data → Option (List ℕ)
kind_of (k ∷ []) = as_str k
kind_of parts = None

-- `changes` has no texts
abbrev pub changes_of : List Data → Option OwnerCall
changes_of [] = Some Changes
changes_of parts = None

-- the call of a word with its texts
abbrev pub call_of : List ℕ → List Data → Option OwnerCall
call_of word parts =
    if text_eq word (codes "register") then option_map Register (entity_of parts)
    else (if text_eq word (codes "unregister") then option_map Unregister (entity_of parts)
    else (if text_eq word (codes "state") then option_map State (entity_of parts)
    else (if text_eq word (codes "watch") then option_map Watch (kind_of parts)
    else (if text_eq word (codes "changes") then changes_of parts else None))))

-- the step of a client
abbrev pub step_by : ℕ → List ℕ → List Data → Option OwnerStep
step_by client word parts = option_map (λ call. record { client = client; call = call }) (call_of word parts)

abbrev pub step_in : List Data → Option OwnerStep
step_in (c ∷ w ∷ parts) = option_and_then (λ client. option_and_then (λ word. step_by client word parts) (as_str w)) (client_of c)
step_in parts = None

abbrev pub step_of : Data → Option OwnerStep
step_of d = option_and_then step_in (list_of d)

-- ---- all of them

-- the steps from number i on; a bad input is the number of the step
abbrev pub steps_from : ℕ → List Data → Result (List OwnerStep) (List ℕ)
steps_from i [] = Ok []
steps_from i (d ∷ ds) = or_bad (decimal i) (step_of d) >>= (λ step. steps_from (i + 1) ds >>= (λ steps. Ok (step ∷ steps)))

-- an array of at most 60,000 steps
abbrev pub listed : Data → Result (List Data) (List ℕ)
listed d = or_bad (codes "script") (option_and_then (at_most 60000) (list_of d))

-- the steps that the bytes denote, or the first bad input
abbrev pub steps_of : List ℕ → Result (List OwnerStep) (List ℕ)
steps_of bytes = or_bad (codes "json") (data_of bytes) >>= (λ d. listed d >>= steps_from 0)
