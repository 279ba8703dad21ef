use Rattle.std.proofs.Common.{◌≤◌, length}
use Rattle.sal_io.specs.Transfer.{TakesFront}
use Rattle.sal_io.proofs.sink.write_all.Given as goal

abbrev pub invariant-loop-rest : goal.invariant-loop-rest
invariant-loop-rest g l = record { sent : TakesFront (g.K.Sink.taken l.initial.sink) (g.K.Sink.taken l.sink) l.bytes l.rest; later : g.K.Sink.faults l.initial.sink ≤ g.K.Sink.faults l.sink }

abbrev pub decreases-loop-rest : goal.decreases-loop-rest
decreases-loop-rest g l = length l.rest
