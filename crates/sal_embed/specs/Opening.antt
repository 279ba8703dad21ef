-- A script that an embedded broker is opened from: it has no clients and no order, since the host makes the steps.
use Rattle.std.specs.Prelude.{◌≡◌, ℕ, Bool, List, [], ◌∷◌, MatchResult, codes, Result, Ok, Err}
use Rattle.sal_types.specs.Reading.{◌>>=◌}
use Rattle.sal_history.specs.World.{Domain}
use Rattle.sal_script.specs.Moves.{Move}
use Rattle.sal_script.specs.Script.{Parts}
use Rattle.sal_prepare.specs.Scripted.{Comes, Prepared, prepared, seen}
use Rattle.sal_prepare.specs.declared.scripted.Prepared.{Prepared as CodePrepared}
use Rattle.sal_prepare.specs.declared.status.Status.{Status}
use Rattle.sal_prepare.specs.declared.status.Status.TheVariants.{BadScript, NoMemory}
use Rattle.sal_embed.specs.declared.clients.Clients.{Clients}
use Rattle.sal_embed.specs.Outcomes.{HasCome}
use Rattle.sal_embed.specs.Scripts.{none}

-- a script may not have these: the first is returned
abbrev pub without : {A X : Type 0} → List ℕ → List X → Result A Status → Result A Status
without place [] made = made
without place (x ∷ xs) made = Err (BadScript place)

-- the prepared script, if it has no clients and no order
abbrev pub bare : Prepared → Result Prepared Status
bare it = without (codes "clients") it.parts.clients (without (codes "order") it.parts.order (Ok it))

-- The result of opening the bytes, or the status of their first fault: of all faults of a script, then its clients, then its order.
abbrev pub opened : List ℕ → Result Prepared Status
opened bytes = prepared bytes >>= bare

-- its world
abbrev pub world_of : Result Prepared Status → Result (List Domain) Status
world_of made = made >>= (λ it. Ok it.world)

-- whether its reads are checked
abbrev pub reads_of : Result Prepared Status → Result Bool Status
reads_of made = made >>= (λ it. Ok it.parts.checked)

-- no step was made
pub record IsBegun (it : Clients) : Type 0 where
  pub log : it.hub.log ≡ []
  pub callers : it.callers.items ≡ []
  pub come : HasCome it none none

-- the same script with these clients in this order
abbrev pub played_by : List (List Move) → List ℕ → Parts → Parts
played_by clients order parts = record parts { clients = clients; order = order }

-- ---- results of functions

-- this place is bad, unless memory ran out
abbrev pub IsBadAt : List ℕ → Status → Type 0
IsBadAt place NoMemory = Unit {0}
IsBadAt place (BadScript named) = named ≡ place
IsBadAt place status = ⊥

-- a script has none of these, or this place is bad
abbrev pub HasNone : {X Y : Type 0} → List ℕ → List X → Result Y Status → Type 0
HasNone place xs result = MatchResult result (λ done. xs ≡ []) (λ status. (xs ≡ [] → ⊥) × IsBadAt place status)

-- the prepared script has no clients and no order
abbrev pub IsBareOr : {Y : Type 0} → CodePrepared → Result Y Status → Type 0
IsBareOr it result = Comes (λ done. seen it) (bare (seen it)) result
