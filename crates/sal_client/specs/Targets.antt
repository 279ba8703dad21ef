-- The target of a listen.
use Rattle.std.specs.Prelude.{◌≡◌, ℕ, true, if◌then◌else◌, List, Result, Ok, Err}
use Rattle.sal_types.specs.declared.value.Store.{Store}
use Rattle.sal_types.specs.declared.value.Step.{Step}
use Rattle.sal_pathtext.specs.Read.{read_path}
use Rattle.sal_script.specs.declared.reply.StepRefusal.{StepRefusal}
use Rattle.sal_script.specs.declared.reply.StepRefusal.TheVariants.{NoDevice}
use Rattle.sal_script.specs.Tables.{Versions, has_domain, last_in}
use Rattle.sal_script.specs.Services.{path_or}
use Rattle.sal_client.specs.declared.fault.StepFault.{StepFault}
use Rattle.sal_client.specs.declared.wish.Target.{Target}
use Rattle.sal_client.specs.Faults.{Refuses}

-- the path that the text denotes in the domain, or why it is not one
abbrev pub path_in : List Versions → ℕ → List ℕ → Result (List Step) StepRefusal
path_in tables domain text = if has_domain tables domain then path_or (read_path (last_in tables domain) text) else Err NoDevice

-- this was read
abbrev pub IsTarget : List Versions → ℕ → Store → List ℕ → Result Target StepFault → Type 0
IsTarget tables domain store text (Ok t) =
    (t.domain ≡ domain) × (t.store ≡ store) × (t.text.value ≡ text) × (read_path (last_in tables domain) text ≡ Ok t.path) × (has_domain tables domain ≡ true)
IsTarget tables domain store text (Err fault) = Refuses fault (path_in tables domain text)
