-- The values of slots.
use Rattle.std.specs.Prelude.{ℕ, zero, suc, List, [], ◌∷◌, Option, None, Vec, if◌then◌else◌, nat_eq}
use Rattle.std.specs.declared.alloc.Global.{Global}
use Rattle.sal_client.specs.declared.slots.Slot.{Slot}

-- the value of a slot in this list; one that is not in it is empty
abbrev pub held_in : {X : Type 0} → List (Slot X) → ℕ → Option X
held_in [] k = None
held_in (slot ∷ rest) k = if nat_eq k slot.number then slot.value else held_in rest k

-- its index, or the length if it is not in the list
abbrev pub place_in : {X : Type 0} → List (Slot X) → ℕ → ℕ
place_in [] k = 0
place_in (slot ∷ rest) k = if nat_eq k slot.number then 0 else suc (place_in rest k)

abbrev pub held : {X : Type 0} → Vec (Slot X) Global → ℕ → Option X
held slots k = held_in slots.items k
