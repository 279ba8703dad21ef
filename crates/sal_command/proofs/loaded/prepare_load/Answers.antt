-- The script that was made is the one that is prepared, and it is prepared to the world of a load.
use Rattle.std.proofs.Common.{◌≡◌, ◌∙◌, Ok, ap, sym}
use Rattle.sal_script.specs.Load.{parts_of}
use Rattle.sal_script.specs.Moves.{clients_of}
use Rattle.sal_script.specs.Script.{Parts}
use Rattle.sal_script.specs.declared.script.Script.{Script}
use Rattle.sal_prepare.specs.Loads.{load_prepared}
use Rattle.sal_prepare.specs.Scripted.{Prepared, prepared_of, seen}
use Rattle.sal_prepare.proofs.Statuses.{same_made}
use Rattle.sal_command.proofs.loaded.prepare_load.Goals as goal

pub returns-clause-clients : goal.returns-clause-clients
returns-clause-clients c =
    ap (λ (script : Script). clients_of script.clients) c.in_ok-prepared.ensures.same ∙ ap (λ (parts : Parts). parts.clients) c.in_ok-script.ensures

pub returns-clause-world : goal.returns-clause-world
returns-clause-world c =
    let n = c.args.rounds in
    let s = c.args.start in
    let it = c.in_ok-prepared.prepared in
    let made : prepared_of (parts_of n s) ≡ Ok (seen it) = ap prepared_of (sym c.in_ok-script.ensures) ∙ c.in_ok-prepared.ensures.prepared in
    ap (λ (script : Prepared). script.world) (same_made (prepared_of (parts_of n s)) (seen it) (load_prepared n s) made (c.loads_are_prepared.ensures n s))
