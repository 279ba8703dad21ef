-- Each client below the index has a place.
use Rattle.std.proofs.Common.{◌≡◌, ◌≤◌, ◌+◌, length, max}
use Rattle.sal_embed.specs.Broker.{AreCallers}
use Rattle.sal_embed.specs.Outcomes.{IsPlacing}
use Rattle.sal_embed.proofs.clients.Clients.place.Given as goal

abbrev pub invariant-loop-number : goal.invariant-loop-number
invariant-loop-number l = record {
  placing : IsPlacing l.initial.self l.self;
  callers : AreCallers l.self.hub l.self.callers.items;
  long : length l.self.callers.items ≡ l.number;
  few : length l.self.callers.items ≤ 65536;
  reads : l.self.checked_reads ≡ l.initial.self.checked_reads;
}
