-- The play of an order from its beginning.
use Rattle.std.proofs.Common.{◌≡◌, ℕ, List, [], length, Result, Err, sym, subst}
use Rattle.sal_history.specs.World.{Domain}
use Rattle.sal_script.specs.declared.script.ScriptStep.{ScriptStep}
use Rattle.sal_script.specs.Moves.{clients_of}
use Rattle.sal_script.specs.Play.{Played, play, play_from, start}
use Rattle.sal_script.specs.Tables.{Versions, versions_of}
use Rattle.sal_hub.specs.HubHistory.{HubHistory}
use Rattle.sal_client.specs.declared.run.ClientRun.{ClientRun}
use Rattle.sal_client.specs.declared.simulation.Played.{Played as CodePlayed}
use Rattle.sal_client.specs.declared.simulation.PlayFault.{PlayFault}
use Rattle.sal_client.specs.declared.simulation.PlayFault.TheVariants.{NoMemory}
use Rattle.sal_client.specs.declared.simulation.Simulation.{Simulation}
use Rattle.sal_client.specs.Runs.{stand_of, PlaysAs}

-- memory ran out
pub wanting : (world : List Domain) (why : PlayFault) (played : Result Played ℕ) → why ≡ NoMemory → PlaysAs world (Err why) played
wanting world why played is = subst (λ (w : PlayFault). PlaysAs world (Err w) played) (sym is) tt

module _ (tables : List Versions) (known : HubHistory) (ps : List (List ScriptStep)) (order : List ℕ) (s : Simulation) (of : tables ≡ versions_of known.world) (same : s.hub ≡ known) (stands : stand_of ps s.hub.log s.runs.items ≡ start (clients_of ps)) where
  from_start : play_from tables s.hub.world 0 (stand_of ps s.hub.log s.runs.items) order ≡ play known.world (clients_of ps) order
  from_start = λ i. play_from (of i) (same i).world 0 (stands i) order

  -- the result of the order
  pub plays_from_start : (result : Result CodePlayed PlayFault) → PlaysAs s.hub.world result (play_from tables s.hub.world 0 (stand_of ps s.hub.log s.runs.items) order) → PlaysAs known.world result (play known.world (clients_of ps) order)
  plays_from_start result is = subst (λ (k : HubHistory). PlaysAs k.world result (play known.world (clients_of ps) order)) same (subst (PlaysAs s.hub.world result) from_start is)

  -- which is the result of its end
  pub plays_to_end : (known' : HubHistory) (rs : List ClientRun) (index : ℕ) (result : Result CodePlayed PlayFault) → index ≡ length order → known'.world ≡ s.hub.world
      → play_from tables s.hub.world (length order) (stand_of ps known'.log rs) [] ≡ play_from tables s.hub.world 0 (stand_of ps s.hub.log s.runs.items) order
      → PlaysAs known'.world result (play_from tables known'.world index (stand_of ps known'.log rs) []) → PlaysAs known.world result (play known.world (clients_of ps) order)
  plays_to_end known' rs index result long world rest is =
      plays_from_start result
      (subst (PlaysAs s.hub.world result) rest
      (subst (λ (n : ℕ). PlaysAs s.hub.world result (play_from tables s.hub.world n (stand_of ps known'.log rs) [])) long
      (subst (λ (w : List Domain). PlaysAs w result (play_from tables w index (stand_of ps known'.log rs) [])) world is)))
