-- The steps so far are a script.
use Rattle.std.specs.Prelude.{◌≡◌, ◌≤◌, ℕ, List, length, Ok}
use Rattle.sal_script.specs.Along.{order_of}
use Rattle.sal_script.specs.Moves.{Move}
use Rattle.sal_script.specs.OneOrder.{IsOneOrder}
use Rattle.sal_script.specs.Script.{Parts}
use Rattle.sal_history.specs.World.{Domain}
use Rattle.sal_prepare.specs.Scripted.{Prepared, prepared_of}
use Rattle.sal_embed.specs.declared.clients.Clients.{Clients}
use Rattle.sal_embed.specs.Opening.{played_by}
use Rattle.sal_embed.specs.Outcomes.{HasCome}
use Rattle.sal_embed.specs.Scripts.{Programs, Replies, listed}

-- The steps of the clients so far are a script that has them as its programs, played in the order of the log: with this log and these replies. That
-- order is legal. It is so with as many clients as there are, and with more, which have no steps.
abbrev pub AreAScript : Clients → Type 0
AreAScript it =
    (programs : Programs) (replies : Replies) (n : ℕ) → HasCome it programs replies → length it.callers.items ≤ n
    → IsOneOrder it.hub.world (listed n programs) it.hub.log (listed n replies)

-- The world of a script does not depend on its clients and its order: the world of a broker's script is that of the same
-- script with any clients.
abbrev pub WorldsAreOfModules : Type 0
WorldsAreOfModules =
    (parts : Parts) (world : List Domain) (clients : List (List Move)) (order : List ℕ) → prepared_of parts ≡ Ok (record { parts = parts; world = world })
    → prepared_of (played_by clients order parts) ≡ Ok (record { parts = played_by clients order parts; world = world })
