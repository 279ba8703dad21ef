use Rattle.std.proofs.Common.{◌≤◌, ◌+◌, ◌-◌, take, vec_len}
use Rattle.std.specs.Io.KnownBytes.{Consumes}
use Rattle.sal_io.proofs.source.read_all.Given as goal

-- what is filled is what was taken off the source so far
abbrev pub invariant-loop-filled : goal.invariant-loop-filled
invariant-loop-filled g l = record { within : l.filled ≤ vec_len l.bytes; room : vec_len l.bytes ≤ l.limit + 1; taken : Consumes (g.S.Source.left l.initial.source) (g.S.Source.left l.source) (take l.filled l.bytes.items); later : g.S.Source.faults l.initial.source ≤ g.S.Source.faults l.source }

abbrev pub decreases-loop-filled : goal.decreases-loop-filled
decreases-loop-filled g l = l.limit + 1 - l.filled
