-- A step of a script as text: its word and its parts, texts and values as JSON.
use Rattle.std.specs.Prelude.{ℕ, List, [], ◌∷◌, ◌++◌, Option, None, Some, codes, if◌then◌else◌}
use Rattle.json.specs.Print.{quoted}
use Rattle.serde_json.specs.Data.{Data}
use Rattle.serde_json.specs.Written.{compact_text, has_float}
use Rattle.sal_types.specs.declared.value.Store.{Store}
use Rattle.sal_rows.specs.declared.outcome.Mode.{Mode}
use Rattle.sal_rows.specs.declared.outcome.Mode.TheVariants.{Ro, Wo, Rw, Checked}
use Rattle.sal_script.specs.Moves.{Move, Begin, Put, Merge, Delete, Read, Exists, Submit, Cancel, Settle, OpenChain, ChainBegin, CloseChain, Pump, Listen, Take, Unlisten, Mirror, Provide, Withdraw, Invoke, NextCall, Answer, Collect, Subscribe, Offer, TakeNotes, Mount, Unmount, MountAt, Mark, After, Upgrade}
use Rattle.sal_script.specs.Words.{number, store_text}

abbrev pub mode_text : Mode → List ℕ
mode_text Ro = codes " ro"
mode_text Wo = codes " wo"
mode_text Rw = codes " rw"
mode_text Checked = codes " rw"

-- a space and a text
abbrev pub quoted_text : List ℕ → List ℕ
quoted_text text = 32 ∷ quoted text

-- a context, or `null`
abbrev pub context_text : Option (List ℕ) → List ℕ
context_text None = codes " null"
context_text (Some text) = quoted_text text

-- A value. A number with a fraction or an exponent is no value of a schema, and its digits are not shown.
abbrev pub value_text : Data → List ℕ
value_text value = if has_float value then codes " a value with a fraction" else 32 ∷ compact_text value

-- a store and a path
abbrev pub place_text : Store → List ℕ → List ℕ
place_text store path = 32 ∷ (store_text store ++ quoted_text path)

-- a step with numbers only
abbrev pub numbers_text : Move → List ℕ
numbers_text (Begin slot domain mode) = codes "begin" ++ (number slot ++ (number domain ++ mode_text mode))
numbers_text (Submit slot) = codes "submit" ++ number slot
numbers_text (Cancel slot) = codes "cancel" ++ number slot
numbers_text (Settle slot) = codes "settle" ++ number slot
numbers_text (OpenChain chain domain) = codes "chain" ++ (number chain ++ number domain)
numbers_text (ChainBegin chain slot mode) = codes "chain-begin" ++ (number chain ++ (number slot ++ mode_text mode))
numbers_text (CloseChain chain) = codes "close-chain" ++ number chain
numbers_text Pump = codes "pump"
numbers_text (Mark mark) = codes "mark" ++ number mark
numbers_text (After mark) = codes "after" ++ number mark
numbers_text (Upgrade version) = codes "upgrade" ++ number version
numbers_text step = []

-- a step of a listener, a request or a mount with numbers only
abbrev pub slot_text : Move → List ℕ
slot_text (Take listener) = codes "take" ++ number listener
slot_text (Unlisten listener) = codes "unlisten" ++ number listener
slot_text (Mirror listener) = codes "mirror" ++ number listener
slot_text (NextCall slot) = codes "next-call" ++ number slot
slot_text (Collect slot) = codes "collect" ++ number slot
slot_text TakeNotes = codes "take-notes"
slot_text (Unmount domain) = codes "unmount" ++ number domain
slot_text step = []

-- a step at a path of a store
abbrev pub path_text : Move → List ℕ
path_text (Put slot store path value) = codes "put" ++ (number slot ++ (place_text store path ++ value_text value))
path_text (Merge slot store path value) = codes "merge" ++ (number slot ++ (place_text store path ++ value_text value))
path_text (Delete slot store path) = codes "delete" ++ (number slot ++ place_text store path)
path_text (Read slot store path) = codes "read" ++ (number slot ++ place_text store path)
path_text (Exists slot store path) = codes "exists" ++ (number slot ++ place_text store path)
path_text (Listen listener domain store path) = codes "listen" ++ (number listener ++ (number domain ++ place_text store path))
path_text step = []

-- a step with a name or a value
abbrev pub service_text : Move → List ℕ
service_text (Provide name context) = codes "provide" ++ (quoted_text name ++ context_text context)
service_text (Withdraw name context) = codes "withdraw" ++ (quoted_text name ++ context_text context)
service_text (Invoke slot name context value) = codes "invoke" ++ (number slot ++ (quoted_text name ++ (context_text context ++ value_text value)))
service_text (Answer slot value) = codes "answer" ++ (number slot ++ value_text value)
service_text (Subscribe name) = codes "subscribe" ++ quoted_text name
service_text (Offer name value) = codes "offer" ++ (quoted_text name ++ value_text value)
service_text (Mount device path) = codes "mount" ++ (number device ++ quoted_text path)
service_text (MountAt path) = codes "mount-at" ++ quoted_text path
service_text step = []

-- all but one of these are empty
abbrev pub step_text : Move → List ℕ
step_text step = numbers_text step ++ (slot_text step ++ (path_text step ++ service_text step))
