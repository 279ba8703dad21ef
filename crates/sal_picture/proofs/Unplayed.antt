-- The status of a play that failed.
use Rattle.std.proofs.Common.{◌≡◌, ℕ, List, Result, Err, ap, sym, subst}
use Rattle.sal_history.specs.World.{Domain}
use Rattle.sal_script.specs.Moves.{Move}
use Rattle.sal_script.specs.Play.{Played}
use Rattle.sal_client.specs.declared.simulation.PlayFault.{PlayFault}
use Rattle.sal_client.specs.declared.simulation.PlayFault.TheVariants as fault_of
use Rattle.sal_client.specs.Runs.{PlaysAs}
use Rattle.sal_prepare.specs.declared.status.Status.{Status}
use Rattle.sal_prepare.specs.Texts.{IsTextStatus}
use Rattle.sal_draw_script.specs.declared.rows.Range.{Range}
use Rattle.sal_prepare.specs.Plays.{play_status}
use Rattle.sal_picture.specs.Pictured.{play_text}

pub unplayed : (range : Range) (clients : List (List Move)) (world : List Domain) (made : Result Played ℕ) (fault : PlayFault) (status : Status)
    → PlaysAs world (Err fault) made → status ≡ play_status fault → IsTextStatus (play_text range clients world made) status
unplayed range clients world made (fault_of.BadOrder index) status is same = subst (IsTextStatus (play_text range clients world made)) (sym same) (ap (play_text range clients world) is)
unplayed range clients world made fault_of.NoMemory status is same = subst (IsTextStatus (play_text range clients world made)) (sym same) tt
