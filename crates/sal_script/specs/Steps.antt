-- Which step a JSON array denotes.
use Rattle.std.specs.Prelude.{ℕ, ◌^◌, List, [], ◌∷◌, Option, None, Some, option_and_then, codes, if◌then◌else◌, nat_eq}
use Rattle.std.specs.Option.{option_map}
use Rattle.sal_types.specs.declared.value.Store.{Store}
use Rattle.sal_types.specs.declared.value.Store.TheVariants.{Config, Oper}
use Rattle.sal_rows.specs.declared.outcome.Mode.{Mode}
use Rattle.sal_rows.specs.declared.outcome.Mode.TheVariants.{Ro, Wo, Rw}
use Rattle.serde_json.specs.Data.{Data, null, boolean, number, string, array, object}
use Rattle.serde_json.specs.Find.{as_str}
use Rattle.sal_script.specs.Moves.{Move, Begin, Put, Merge, Delete, Read, Exists, Submit, Cancel, Settle, OpenChain, ChainBegin, CloseChain, Pump, Listen, Take, Unlisten, Mirror, Provide, Withdraw, Invoke, NextCall, Answer, Collect, Subscribe, Offer, TakeNotes, Mount, Unmount, MountAt, Mark, After, Upgrade}
use Rattle.sal_script.specs.Json.{text_eq, list_of, whole_below}

-- ---- numbers and words

abbrev pub slot_of : Data → Option ℕ
slot_of d = whole_below 256 d

-- a whole number, such as a domain or a mark
abbrev pub number_of : Data → Option ℕ
number_of d = whole_below (2 ^ 32) d

abbrev pub mode_named : List ℕ → Option Mode
mode_named name =
    if text_eq name (codes "ro") then Some Ro
    else (if text_eq name (codes "wo") then Some Wo
    else (if text_eq name (codes "rw") then Some Rw else None))

abbrev pub mode_of : Data → Option Mode
mode_of d = option_and_then mode_named (as_str d)

abbrev pub store_named : List ℕ → Option Store
store_named name = if text_eq name (codes "config") then Some Config else (if text_eq name (codes "operational") then Some Oper else None)

abbrev pub store_of : Data → Option Store
store_of d = option_and_then store_named (as_str d)

abbrev pub begin_of : List Data → Option Move
begin_of (t ∷ d ∷ o ∷ []) = option_and_then (λ slot. option_and_then (λ domain. option_map (Begin slot domain) (mode_of o)) (number_of d)) (slot_of t)
begin_of parts = None

-- a step by its slot, its store and the text of its path
abbrev pub Naming : Type 0
Naming = ℕ → Store → List ℕ → Move

-- a step at a path
abbrev pub place_of : Naming → List Data → Option Move
place_of step (t ∷ s ∷ p ∷ []) = option_and_then (λ slot. option_and_then (λ store. option_map (step slot store) (as_str p)) (store_of s)) (slot_of t)
place_of step parts = None

-- a step by these and a value
abbrev pub Writing : Type 0
Writing = ℕ → Store → List ℕ → Data → Move

-- a step that writes a value, of any kind, at a path
abbrev pub write_of : Writing → List Data → Option Move
write_of step (t ∷ s ∷ p ∷ v ∷ []) = place_of (λ slot store path. step slot store path v) (t ∷ s ∷ p ∷ [])
write_of step parts = None

-- a step with a slot only
abbrev pub slot_step_of : (ℕ → Move) → List Data → Option Move
slot_step_of step (t ∷ []) = option_map step (slot_of t)
slot_step_of step parts = None

-- ---- steps of chains, pumps, marks and upgrades

abbrev pub open_chain_of : List Data → Option Move
open_chain_of (c ∷ d ∷ []) = option_and_then (λ chain. option_map (OpenChain chain) (number_of d)) (slot_of c)
open_chain_of parts = None

abbrev pub chain_begin_of : List Data → Option Move
chain_begin_of (c ∷ t ∷ o ∷ []) = option_and_then (λ chain. option_and_then (λ slot. option_map (ChainBegin chain slot) (mode_of o)) (slot_of t)) (slot_of c)
chain_begin_of parts = None

abbrev pub pump_of : List Data → Option Move
pump_of [] = Some Pump
pump_of parts = None

-- a step with a number only, such as a mark
abbrev pub number_step_of : (ℕ → Move) → List Data → Option Move
number_step_of step (n ∷ []) = option_map step (number_of n)
number_step_of step parts = None

-- the version of an upgrade, from 1 to 16
abbrev pub version_of : Data → Option ℕ
version_of d = option_and_then (λ n. if nat_eq n 0 then None else Some n) (whole_below 17 d)

abbrev pub upgrade_of : List Data → Option Move
upgrade_of (u ∷ []) = option_map Upgrade (version_of u)
upgrade_of parts = None

-- the step of a chain, a pump, a mark or an upgrade with this word
abbrev pub chain_step_named : List ℕ → List Data → Option Move
chain_step_named word parts =
    if text_eq word (codes "chain") then open_chain_of parts
    else (if text_eq word (codes "chain-begin") then chain_begin_of parts
    else (if text_eq word (codes "close-chain") then slot_step_of CloseChain parts
    else (if text_eq word (codes "pump") then pump_of parts
    else (if text_eq word (codes "mark") then number_step_of Mark parts
    else (if text_eq word (codes "after") then number_step_of After parts
    else (if text_eq word (codes "upgrade") then upgrade_of parts else None))))))

-- ---- steps of listeners

abbrev pub listen_of : List Data → Option Move
listen_of (l ∷ d ∷ s ∷ p ∷ []) =
    option_and_then (λ listener. option_and_then (λ domain. option_and_then (λ store. option_map (Listen listener domain store) (as_str p)) (store_of s)) (number_of d)) (slot_of l)
listen_of parts = None

-- the step of a listener with this word, or else of a chain, a pump, a mark or an upgrade
abbrev pub listener_step_named : List ℕ → List Data → Option Move
listener_step_named word parts =
    if text_eq word (codes "listen") then listen_of parts
    else (if text_eq word (codes "take") then slot_step_of Take parts
    else (if text_eq word (codes "unlisten") then slot_step_of Unlisten parts
    else (if text_eq word (codes "mirror") then slot_step_of Mirror parts else chain_step_named word parts)))

-- ---- steps of RPCs

-- the text of a context, or none for `null`
abbrev pub context_of : Data → Option (Option (List ℕ))
context_of null = Some None
context_of (boolean b) = None
context_of (number n) = None
context_of (string text) = Some (Some text)
context_of (array items) = None
context_of (object ms) = None

-- a step by the name of an RPC and a context
abbrev pub Registering : Type 0
Registering = List ℕ → Option (List ℕ) → Move

abbrev pub registration_of : Registering → List Data → Option Move
registration_of step (r ∷ x ∷ []) = option_and_then (λ name. option_map (step name) (context_of x)) (as_str r)
registration_of step parts = None

abbrev pub invoke_of : List Data → Option Move
invoke_of (k ∷ r ∷ x ∷ v ∷ []) = option_and_then (λ slot. registration_of (λ name context. Invoke slot name context v) (r ∷ x ∷ [])) (slot_of k)
invoke_of parts = None

abbrev pub answer_of : List Data → Option Move
answer_of (q ∷ v ∷ []) = option_map (λ slot. Answer slot v) (slot_of q)
answer_of parts = None

-- ---- steps of notifications and mounts

-- a step with a text only
abbrev pub text_step_of : (List ℕ → Move) → List Data → Option Move
text_step_of step (t ∷ []) = option_map step (as_str t)
text_step_of step parts = None

abbrev pub offer_of : List Data → Option Move
offer_of (n ∷ v ∷ []) = option_map (λ name. Offer name v) (as_str n)
offer_of parts = None

abbrev pub take_notes_of : List Data → Option Move
take_notes_of [] = Some TakeNotes
take_notes_of parts = None

abbrev pub mount_of : List Data → Option Move
mount_of (e ∷ p ∷ []) = option_and_then (λ device. option_map (Mount device) (as_str p)) (number_of e)
mount_of parts = None

-- the step of notifications or mounts with this word, or else of a listener, a chain, a pump or a mark
abbrev pub note_step_named : List ℕ → List Data → Option Move
note_step_named word parts =
    if text_eq word (codes "subscribe") then text_step_of Subscribe parts
    else (if text_eq word (codes "offer") then offer_of parts
    else (if text_eq word (codes "take-notes") then take_notes_of parts
    else (if text_eq word (codes "mount") then mount_of parts
    else (if text_eq word (codes "unmount") then number_step_of Unmount parts
    else (if text_eq word (codes "mount-at") then text_step_of MountAt parts else listener_step_named word parts)))))

-- the step of an RPC with this word, or else one of those
abbrev pub service_step_named : List ℕ → List Data → Option Move
service_step_named word parts =
    if text_eq word (codes "provide") then registration_of Provide parts
    else (if text_eq word (codes "withdraw") then registration_of Withdraw parts
    else (if text_eq word (codes "invoke") then invoke_of parts
    else (if text_eq word (codes "next-call") then slot_step_of NextCall parts
    else (if text_eq word (codes "answer") then answer_of parts
    else (if text_eq word (codes "collect") then slot_step_of Collect parts else note_step_named word parts)))))

-- ---- steps by their words

-- the step with this word and these parts
abbrev pub step_named : List ℕ → List Data → Option Move
step_named word parts =
    if text_eq word (codes "begin") then begin_of parts
    else (if text_eq word (codes "put") then write_of Put parts
    else (if text_eq word (codes "merge") then write_of Merge parts
    else (if text_eq word (codes "delete") then place_of Delete parts
    else (if text_eq word (codes "read") then place_of Read parts
    else (if text_eq word (codes "exists") then place_of Exists parts
    else (if text_eq word (codes "submit") then slot_step_of Submit parts
    else (if text_eq word (codes "cancel") then slot_step_of Cancel parts
    else (if text_eq word (codes "settle") then slot_step_of Settle parts else service_step_named word parts))))))))

abbrev pub step_from : List Data → Option Move
step_from [] = None
step_from (word ∷ parts) = option_and_then (λ name. step_named name parts) (as_str word)

-- the step that an array denotes
abbrev pub step_of : Data → Option Move
step_of d = option_and_then step_from (list_of d)
