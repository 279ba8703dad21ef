-- The verdict by the order that a text states.
use Rattle.std.proofs.Common.{◌≡◌, ℕ, Bool, true, false, List, ap, sym, ◌∙◌}
use Rattle.std.proofs.lemmas.Bool.{true≢false}
use Rattle.sal_history.specs.World.{Domain}
use Rattle.sal_script.specs.declared.script.Script.{Script}
use Rattle.sal_script.specs.Moves.{clients_of}
use Rattle.sal_script.specs.Play.{play}
use Rattle.sal_verdict.specs.declared.verdict.Verdict.TheVariants.{No}
use Rattle.sal_audit.specs.Replayed.{IsReordered}
use Rattle.sal_verdict.specs.Verdicts.{by_order, by_play, verdict}

-- the script has it
pub told-verdict : (world : List Domain) (text : List ℕ) (old new : Script) (b : Bool) → b ≡ true → IsReordered text old new b
    → by_play world text (play world (clients_of new.clients) new.order) ≡ verdict world (clients_of old.clients) text
told-verdict world text old new true holds (order, told, same) =
    ap (λ (s : Script). by_play world text (play world (clients_of s.clients) s.order)) same ∙ sym (ap (by_order world (clients_of old.clients) text) told)
told-verdict world text old new false holds is = absurd (true≢false (sym holds))

-- or there is none
pub untold-verdict : (world : List Domain) (text : List ℕ) (old new : Script) (b : Bool) → b ≡ false → IsReordered text old new b → No 0 ≡ verdict world (clients_of old.clients) text
untold-verdict world text old new true fails is = absurd (true≢false fails)
untold-verdict world text old new false fails is = sym (ap (by_order world (clients_of old.clients) text) is)
