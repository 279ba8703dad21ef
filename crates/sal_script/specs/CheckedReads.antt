-- The steps of a script with checked reads: a transaction that reads and writes begins in the mode that checks its reads.
use Rattle.std.specs.Prelude.{Bool, true, false, List, map}
use Rattle.sal_rows.specs.declared.outcome.Mode.{Mode}
use Rattle.sal_rows.specs.declared.outcome.Mode.TheVariants.{Rw, Checked}
use Rattle.sal_script.specs.Moves.{Move, Begin, ChainBegin}

abbrev pub checked_mode : Mode → Mode
checked_mode Rw = Checked
checked_mode mode = mode

-- a step that begins a transaction
abbrev pub checked_step : Move → Move
checked_step (Begin slot domain mode) = Begin slot domain (checked_mode mode)
checked_step (ChainBegin chain slot mode) = ChainBegin chain slot (checked_mode mode)
checked_step step = step

-- one step, if reads are checked or if they are not
abbrev pub step_with : Bool → Move → Move
step_with true step = checked_step step
step_with false step = step

-- the steps of each client
abbrev pub with_reads : Bool → List (List Move) → List (List Move)
with_reads true clients = map (map checked_step) clients
with_reads false clients = clients
