-- The spans that are done, and what the commits from the number on make of the rest.
use Rattle.std.proofs.Common.{◌≡◌, ◌<◌, All, Some, length}
use Rattle.sal_rows.specs.Spans.{spans}
use Rattle.sal_graft.specs.Kept.{IsSpanOf, chains_of}
use Rattle.sal_graft.proofs.Parting.{parted_from}
use Rattle.sal_graft.proofs.foreign.parted.Given as goal

abbrev pub invariant-loop-number : goal.invariant-loop-number
invariant-loop-number l = record {
  low : l.base < l.number;
  from : l.from < l.number;
  kept : l.from < length l.commits;
  each : All (IsSpanOf l.commits) l.spans.items;
  left : parted_from l.spans.items l.from (Some l.chain) (chains_of l.commits) l.number ≡ spans l.base (Some l.chain) (chains_of l.commits);
}
