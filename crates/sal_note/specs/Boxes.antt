-- The boxes of the calls on notifications, by number.
use Rattle.std.specs.Prelude.{◌≡◌, ℕ, ◌+◌, ◌-◌, ◌<◌, ◌^◌, true, List, [], ◌∷◌, ◌++◌, Option, Some, None, length, nat_eq, nat_le, slice_get, take, is_some}
use Rattle.std.specs.BTreeMap.{is_at}
use Rattle.std.specs.List.{filter, fold, list_any}
use Rattle.std.specs.Map.{lookup, set_value}
use Rattle.std.specs.Option.{unwrap_or}
use Rattle.std.specs.Ordering.{nat_cmp}
use Rattle.sal_note.specs.declared.call.Note.{Note}
use Rattle.sal_note.specs.Queues.{Asked, Made, made_of, queue, subscribers}

-- the subscribers of each notification that has any, and the queue of each client that subscribed
pub record Boxes : Type 0 where
  pub subscribed : List (ℕ × List ℕ)
  pub queues : List (ℕ × List Note)

abbrev pub clients_in : List (ℕ × List ℕ) → ℕ → List ℕ
clients_in subscribed note = unwrap_or (lookup (is_at (nat_cmp note)) subscribed) []

-- none if the client never subscribed
abbrev pub box_in : List (ℕ × List Note) → ℕ → Option (List Note)
box_in queues client = lookup (is_at (nat_cmp client)) queues

abbrev pub queue_in : List (ℕ × List Note) → ℕ → List Note
queue_in queues client = unwrap_or (box_in queues client) []

-- the boxes are those of these calls
pub record IsKept (made : List Made) (b : Boxes) : Type 0 where
  pub subscribed : (note : ℕ) → clients_in b.subscribed note ≡ subscribers made note
  pub queued : (client : ℕ) → queue_in b.queues client ≡ queue made client
  pub each : (note client : ℕ) → list_any (nat_eq client) (clients_in b.subscribed note) ≡ true → is_some (box_in b.queues client) ≡ true

-- the count of subscribers of each notification still fits 32 bits after one more
abbrev pub HasRoom : List (ℕ × List ℕ) → Type 0
HasRoom subscribed = (note : ℕ) → length (clients_in subscribed note) + 1 < 2 ^ 32

abbrev pub IsOf : List Asked → Boxes → Type 0
IsOf calls b = IsKept (made_of calls) b

-- ---- clients

-- all of them are above the number, and they ascend
abbrev pub AreAbove : ℕ → List ℕ → Type 0
AreAbove low [] = Unit {0}
AreAbove low (c ∷ cs) = (low < c) × AreAbove c cs

abbrev pub Ascend : List ℕ → Type 0
Ascend [] = Unit {0}
Ascend (c ∷ cs) = AreAbove c cs

-- at most as many as 32 bits can count
pub record AreClients (cs : List ℕ) : Type 0 where
  pub ascend : Ascend cs
  pub few : length cs < 2 ^ 32

-- ---- giving

-- one of these whose queue is full, the first
abbrev pub first_full : List (ℕ × List Note) → List ℕ → Option ℕ
first_full queues clients = slice_get (filter (λ c. nat_le 64 (length (queue_in queues c))) clients) 0

abbrev pub put_back : List (ℕ × List Note) → ℕ → Option (List Note) → (List Note → List Note) → List (ℕ × List Note)
put_back queues client None f = queues
put_back queues client (Some q) f = set_value (is_at (nat_cmp client)) queues (f q)

-- the notification is the last one in the client's queue
abbrev pub give_one : Note → List (ℕ × List Note) → ℕ → List (ℕ × List Note)
give_one note queues client = put_back queues client (box_in queues client) (λ q. q ++ note ∷ [])

abbrev pub given : Note → List (ℕ × List Note) → List ℕ → List (ℕ × List Note)
given note queues clients = fold (give_one note) queues clients

-- the last notification is out of the client's queue
abbrev pub take_one : List (ℕ × List Note) → ℕ → List (ℕ × List Note)
take_one queues client = put_back queues client (box_in queues client) (λ q. take (length q - 1) q)

-- out of the queues of all of these, the last client first
abbrev pub taken_back : List (ℕ × List Note) → List ℕ → List (ℕ × List Note)
taken_back queues [] = queues
taken_back queues (c ∷ cs) = take_one (taken_back queues cs) c
