-- Candidates in slots, with a gap for each candidate that left.
use Rattle.std.specs.Prelude.{◌≡◌, ℕ, zero, suc, List, [], ◌∷◌, Option, Some, None, if◌then◌else◌, nat_eq, length, take}
use Rattle.std.specs.BTreeMap.{is_at}
use Rattle.std.specs.Map.{lookup}
use Rattle.std.specs.Ordering.{nat_cmp}

-- the clients, in the order of their slots
abbrev pub clients_in : List (Option ℕ) → List ℕ
clients_in [] = []
clients_in (None ∷ slots) = clients_in slots
clients_in (Some c ∷ slots) = c ∷ clients_in slots

-- the client in the slot
abbrev pub in_slot : List (Option ℕ) → ℕ → Option ℕ
in_slot [] i = None
in_slot (s ∷ slots) zero = s
in_slot (s ∷ slots) (suc i) = in_slot slots i

-- the same, unless it is this client
abbrev pub but : ℕ → Option ℕ → Option ℕ
but client None = None
but client (Some c) = if nat_eq c client then None else Some c

-- the slot of each client is recorded, and the first slot that is no gap
pub record IsPlaced (slots : List (Option ℕ)) (places : List (ℕ × ℕ)) (first : ℕ) : Type 0 where
  pub placed : (c i : ℕ) → lookup (is_at (nat_cmp c)) places ≡ Some i → in_slot slots i ≡ Some c
  pub noted : (c i : ℕ) → in_slot slots i ≡ Some c → lookup (is_at (nat_cmp c)) places ≡ Some i
  pub passed : clients_in (take first slots) ≡ []
  pub ends : in_slot slots first ≡ None → first ≡ length slots
