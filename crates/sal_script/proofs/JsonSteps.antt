-- The steps that are read have values that are JSON.
use Rattle.std.proofs.Common.{ℕ, List, [], ◌∷◌, codes, Option, None, option_map, option_and_then}
use Rattle.sal_types.specs.declared.value.Store.{Store}
use Rattle.serde_json.specs.Data.{Data}
use Rattle.serde_json.specs.Find.{as_str}
use Rattle.sal_json_laws.specs.Json.{IsJson}
use Rattle.sal_script.specs.Json.{text_eq, list_of}
use Rattle.sal_script.specs.JsonMoves.{IsJsonMove}
use Rattle.sal_script.specs.Moves.{Move, Begin, Put, Merge, Delete, Read, Exists, Submit, Cancel, Settle, OpenChain, ChainBegin, CloseChain, Listen, Take, Unlisten, Mirror, Provide, Withdraw, Invoke, NextCall, Answer, Collect, Subscribe, Offer, Mount, Unmount, MountAt, Mark, After, Upgrade}
use Rattle.sal_script.specs.Steps.{slot_of, number_of, mode_of, store_of, begin_of, Naming, Writing, Registering, place_of, write_of, slot_step_of, open_chain_of, chain_begin_of, pump_of, number_step_of, chain_step_named, listen_of, listener_step_named, context_of, registration_of, invoke_of, answer_of, text_step_of, offer_of, take_notes_of, mount_of, note_step_named, service_step_named, step_named, step_from, step_of, upgrade_of, version_of}
use Rattle.sal_script.proofs.JsonValues.{AllJson, Any, If, if_any, if_either, if_map, if_then, list_json}

begin_json : (ds : List Data) → If IsJsonMove (begin_of ds)
begin_json [] = tt
begin_json (t ∷ []) = tt
begin_json (t ∷ d ∷ []) = tt
begin_json (t ∷ d ∷ o ∷ []) =
    if_then Any IsJsonMove (λ slot. option_and_then (λ domain. option_map (Begin slot domain) (mode_of o)) (number_of d)) (slot_of t) (if_any (slot_of t)) (λ slot x.
    if_then Any IsJsonMove (λ domain. option_map (Begin slot domain) (mode_of o)) (number_of d) (if_any (number_of d)) (λ domain y. if_map IsJsonMove (Begin slot domain) (mode_of o) (λ mode. tt)))
begin_json (t ∷ d ∷ o ∷ v ∷ ds) = tt

place_json : (step : Naming) → ((slot : ℕ) (store : Store) (path : List ℕ) → IsJsonMove (step slot store path)) → (ds : List Data) → If IsJsonMove (place_of step ds)
place_json step is [] = tt
place_json step is (t ∷ []) = tt
place_json step is (t ∷ s ∷ []) = tt
place_json step is (t ∷ s ∷ p ∷ []) =
    if_then Any IsJsonMove (λ slot. option_and_then (λ store. option_map (step slot store) (as_str p)) (store_of s)) (slot_of t) (if_any (slot_of t)) (λ slot x.
    if_then Any IsJsonMove (λ store. option_map (step slot store) (as_str p)) (store_of s) (if_any (store_of s)) (λ store y. if_map IsJsonMove (step slot store) (as_str p) (λ path. is slot store path)))
place_json step is (t ∷ s ∷ p ∷ v ∷ ds) = tt

write_json : (step : Writing) → ((slot : ℕ) (store : Store) (path : List ℕ) (value : Data) → IsJson value → IsJsonMove (step slot store path value)) → (ds : List Data) → AllJson ds → If IsJsonMove (write_of step ds)
write_json step is [] all = tt
write_json step is (t ∷ []) all = tt
write_json step is (t ∷ s ∷ []) all = tt
write_json step is (t ∷ s ∷ p ∷ []) all = tt
write_json step is (t ∷ s ∷ p ∷ v ∷ []) all = place_json (λ slot store path. step slot store path v) (λ slot store path. is slot store path v all.1.1.1.0) (t ∷ s ∷ p ∷ [])
write_json step is (t ∷ s ∷ p ∷ v ∷ w ∷ ds) all = tt

slot_json : (step : ℕ → Move) → ((slot : ℕ) → IsJsonMove (step slot)) → (ds : List Data) → If IsJsonMove (slot_step_of step ds)
slot_json step is [] = tt
slot_json step is (t ∷ []) = if_map IsJsonMove step (slot_of t) is
slot_json step is (t ∷ s ∷ ds) = tt

open_chain_json : (ds : List Data) → If IsJsonMove (open_chain_of ds)
open_chain_json [] = tt
open_chain_json (c ∷ []) = tt
open_chain_json (c ∷ d ∷ []) =
    if_then Any IsJsonMove (λ chain. option_map (OpenChain chain) (number_of d)) (slot_of c) (if_any (slot_of c))
    (λ chain x. if_map IsJsonMove (OpenChain chain) (number_of d) (λ domain. tt))
open_chain_json (c ∷ d ∷ e ∷ ds) = tt

chain_begin_json : (ds : List Data) → If IsJsonMove (chain_begin_of ds)
chain_begin_json [] = tt
chain_begin_json (c ∷ []) = tt
chain_begin_json (c ∷ t ∷ []) = tt
chain_begin_json (c ∷ t ∷ o ∷ []) =
    if_then Any IsJsonMove (λ chain. option_and_then (λ slot. option_map (ChainBegin chain slot) (mode_of o)) (slot_of t)) (slot_of c) (if_any (slot_of c))
    (λ chain x. if_then Any IsJsonMove (λ slot. option_map (ChainBegin chain slot) (mode_of o)) (slot_of t) (if_any (slot_of t))
    (λ slot y. if_map IsJsonMove (ChainBegin chain slot) (mode_of o) (λ mode. tt)))
chain_begin_json (c ∷ t ∷ o ∷ v ∷ ds) = tt

pump_json : (ds : List Data) → If IsJsonMove (pump_of ds)
pump_json [] = tt
pump_json (d ∷ ds) = tt

number_json : (step : ℕ → Move) → ((n : ℕ) → IsJsonMove (step n)) → (ds : List Data) → If IsJsonMove (number_step_of step ds)
number_json step is [] = tt
number_json step is (m ∷ []) = if_map IsJsonMove step (number_of m) is
number_json step is (m ∷ n ∷ ds) = tt

upgrade_json : (ds : List Data) → If IsJsonMove (upgrade_of ds)
upgrade_json [] = tt
upgrade_json (u ∷ []) = if_map IsJsonMove Upgrade (version_of u) (λ version. tt)
upgrade_json (u ∷ d ∷ ds) = tt

chain_named_json : (word : List ℕ) (ds : List Data) → If IsJsonMove (chain_step_named word ds)
chain_named_json word ds =
    if_either IsJsonMove (text_eq word (codes "chain")) (open_chain_of ds) _ (open_chain_json ds)
    (if_either IsJsonMove (text_eq word (codes "chain-begin")) (chain_begin_of ds) _ (chain_begin_json ds)
    (if_either IsJsonMove (text_eq word (codes "close-chain")) (slot_step_of CloseChain ds) _ (slot_json CloseChain (λ slot. tt) ds)
    (if_either IsJsonMove (text_eq word (codes "pump")) (pump_of ds) _ (pump_json ds)
    (if_either IsJsonMove (text_eq word (codes "mark")) (number_step_of Mark ds) _ (number_json Mark (λ mark. tt) ds)
    (if_either IsJsonMove (text_eq word (codes "after")) (number_step_of After ds) _ (number_json After (λ mark. tt) ds)
    (if_either IsJsonMove (text_eq word (codes "upgrade")) (upgrade_of ds) None (upgrade_json ds) tt))))))

listen_json : (ds : List Data) → If IsJsonMove (listen_of ds)
listen_json [] = tt
listen_json (l ∷ []) = tt
listen_json (l ∷ d ∷ []) = tt
listen_json (l ∷ d ∷ s ∷ []) = tt
listen_json (l ∷ d ∷ s ∷ p ∷ []) =
    if_then Any IsJsonMove (λ listener. option_and_then (λ domain. option_and_then (λ store. option_map (Listen listener domain store) (as_str p)) (store_of s)) (number_of d)) (slot_of l) (if_any (slot_of l))
    (λ listener x. if_then Any IsJsonMove (λ domain. option_and_then (λ store. option_map (Listen listener domain store) (as_str p)) (store_of s)) (number_of d) (if_any (number_of d))
    (λ domain y. if_then Any IsJsonMove (λ store. option_map (Listen listener domain store) (as_str p)) (store_of s) (if_any (store_of s))
    (λ store z. if_map IsJsonMove (Listen listener domain store) (as_str p) (λ path. tt))))
listen_json (l ∷ d ∷ s ∷ p ∷ v ∷ ds) = tt

listener_named_json : (word : List ℕ) (ds : List Data) → If IsJsonMove (listener_step_named word ds)
listener_named_json word ds =
    if_either IsJsonMove (text_eq word (codes "listen")) (listen_of ds) _ (listen_json ds)
    (if_either IsJsonMove (text_eq word (codes "take")) (slot_step_of Take ds) _ (slot_json Take (λ slot. tt) ds)
    (if_either IsJsonMove (text_eq word (codes "unlisten")) (slot_step_of Unlisten ds) _ (slot_json Unlisten (λ slot. tt) ds)
    (if_either IsJsonMove (text_eq word (codes "mirror")) (slot_step_of Mirror ds) _ (slot_json Mirror (λ slot. tt) ds) (chain_named_json word ds))))

registration_json : (step : Registering) → ((name : List ℕ) (context : Option (List ℕ)) → IsJsonMove (step name context)) → (ds : List Data) → If IsJsonMove (registration_of step ds)
registration_json step is [] = tt
registration_json step is (r ∷ []) = tt
registration_json step is (r ∷ x ∷ []) =
    if_then Any IsJsonMove (λ name. option_map (step name) (context_of x)) (as_str r) (if_any (as_str r)) (λ name y. if_map IsJsonMove (step name) (context_of x) (λ context. is name context))
registration_json step is (r ∷ x ∷ v ∷ ds) = tt

invoke_json : (ds : List Data) → AllJson ds → If IsJsonMove (invoke_of ds)
invoke_json [] all = tt
invoke_json (k ∷ []) all = tt
invoke_json (k ∷ r ∷ []) all = tt
invoke_json (k ∷ r ∷ x ∷ []) all = tt
invoke_json (k ∷ r ∷ x ∷ v ∷ []) all =
    if_then Any IsJsonMove (λ slot. registration_of (λ name context. Invoke slot name context v) (r ∷ x ∷ [])) (slot_of k) (if_any (slot_of k))
    (λ slot y. registration_json (λ name context. Invoke slot name context v) (λ name context. all.1.1.1.0) (r ∷ x ∷ []))
invoke_json (k ∷ r ∷ x ∷ v ∷ w ∷ ds) all = tt

answer_json : (ds : List Data) → AllJson ds → If IsJsonMove (answer_of ds)
answer_json [] all = tt
answer_json (q ∷ []) all = tt
answer_json (q ∷ v ∷ []) all = if_map IsJsonMove (λ slot. Answer slot v) (slot_of q) (λ slot. all.1.0)
answer_json (q ∷ v ∷ w ∷ ds) all = tt

text_json : (step : List ℕ → Move) → ((text : List ℕ) → IsJsonMove (step text)) → (ds : List Data) → If IsJsonMove (text_step_of step ds)
text_json step is [] = tt
text_json step is (t ∷ []) = if_map IsJsonMove step (as_str t) is
text_json step is (t ∷ v ∷ ds) = tt

offer_json : (ds : List Data) → AllJson ds → If IsJsonMove (offer_of ds)
offer_json [] all = tt
offer_json (n ∷ []) all = tt
offer_json (n ∷ v ∷ []) all = if_map IsJsonMove (λ name. Offer name v) (as_str n) (λ name. all.1.0)
offer_json (n ∷ v ∷ w ∷ ds) all = tt

take_notes_json : (ds : List Data) → If IsJsonMove (take_notes_of ds)
take_notes_json [] = tt
take_notes_json (d ∷ ds) = tt

mount_json : (ds : List Data) → If IsJsonMove (mount_of ds)
mount_json [] = tt
mount_json (e ∷ []) = tt
mount_json (e ∷ p ∷ []) =
    if_then Any IsJsonMove (λ device. option_map (Mount device) (as_str p)) (number_of e) (if_any (number_of e)) (λ device x. if_map IsJsonMove (Mount device) (as_str p) (λ path. tt))
mount_json (e ∷ p ∷ v ∷ ds) = tt

note_named_json : (word : List ℕ) (ds : List Data) → AllJson ds → If IsJsonMove (note_step_named word ds)
note_named_json word ds all =
    if_either IsJsonMove (text_eq word (codes "subscribe")) (text_step_of Subscribe ds) _ (text_json Subscribe (λ text. tt) ds)
    (if_either IsJsonMove (text_eq word (codes "offer")) (offer_of ds) _ (offer_json ds all)
    (if_either IsJsonMove (text_eq word (codes "take-notes")) (take_notes_of ds) _ (take_notes_json ds)
    (if_either IsJsonMove (text_eq word (codes "mount")) (mount_of ds) _ (mount_json ds)
    (if_either IsJsonMove (text_eq word (codes "unmount")) (number_step_of Unmount ds) _ (number_json Unmount (λ n. tt) ds)
    (if_either IsJsonMove (text_eq word (codes "mount-at")) (text_step_of MountAt ds) _ (text_json MountAt (λ text. tt) ds) (listener_named_json word ds))))))

service_named_json : (word : List ℕ) (ds : List Data) → AllJson ds → If IsJsonMove (service_step_named word ds)
service_named_json word ds all =
    if_either IsJsonMove (text_eq word (codes "provide")) (registration_of Provide ds) _ (registration_json Provide (λ name context. tt) ds)
    (if_either IsJsonMove (text_eq word (codes "withdraw")) (registration_of Withdraw ds) _ (registration_json Withdraw (λ name context. tt) ds)
    (if_either IsJsonMove (text_eq word (codes "invoke")) (invoke_of ds) _ (invoke_json ds all)
    (if_either IsJsonMove (text_eq word (codes "next-call")) (slot_step_of NextCall ds) _ (slot_json NextCall (λ slot. tt) ds)
    (if_either IsJsonMove (text_eq word (codes "answer")) (answer_of ds) _ (answer_json ds all)
    (if_either IsJsonMove (text_eq word (codes "collect")) (slot_step_of Collect ds) _ (slot_json Collect (λ slot. tt) ds) (note_named_json word ds all))))))

named_json : (word : List ℕ) (ds : List Data) → AllJson ds → If IsJsonMove (step_named word ds)
named_json word ds all =
    if_either IsJsonMove (text_eq word (codes "begin")) (begin_of ds) _ (begin_json ds)
    (if_either IsJsonMove (text_eq word (codes "put")) (write_of Put ds) _ (write_json Put (λ slot store path value is. is) ds all)
    (if_either IsJsonMove (text_eq word (codes "merge")) (write_of Merge ds) _ (write_json Merge (λ slot store path value is. is) ds all)
    (if_either IsJsonMove (text_eq word (codes "delete")) (place_of Delete ds) _ (place_json Delete (λ slot store path. tt) ds)
    (if_either IsJsonMove (text_eq word (codes "read")) (place_of Read ds) _ (place_json Read (λ slot store path. tt) ds)
    (if_either IsJsonMove (text_eq word (codes "exists")) (place_of Exists ds) _ (place_json Exists (λ slot store path. tt) ds)
    (if_either IsJsonMove (text_eq word (codes "submit")) (slot_step_of Submit ds) _ (slot_json Submit (λ slot. tt) ds)
    (if_either IsJsonMove (text_eq word (codes "cancel")) (slot_step_of Cancel ds) _ (slot_json Cancel (λ slot. tt) ds)
    (if_either IsJsonMove (text_eq word (codes "settle")) (slot_step_of Settle ds) _ (slot_json Settle (λ slot. tt) ds) (service_named_json word ds all)))))))))

from_json : (ds : List Data) → AllJson ds → If IsJsonMove (step_from ds)
from_json [] all = tt
from_json (word ∷ ds) all = if_then Any IsJsonMove (λ name. step_named name ds) (as_str word) (if_any (as_str word)) (λ name x. named_json name ds all.1)

pub step_json : (d : Data) → IsJson d → If IsJsonMove (step_of d)
step_json d is = if_then AllJson IsJsonMove step_from (list_of d) (list_json d is) from_json
