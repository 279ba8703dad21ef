-- Without a read there is no conflict of one.
use Rattle.std.proofs.Common.{◌≡◌, false, [], sym, ◌∙◌}
use Rattle.sal_mod.specs.Held.{has_reads}
use Rattle.sal_graft.specs.Kept.{opening_in, ops_of}
use Rattle.sal_graft.proofs.Clashes.{no-reads}
use Rattle.sal_graft.proofs.reads.reads_clash.Goals as goal

pub returns-then-not-has_reads : goal.returns-then-not-has_reads
returns-then-not-has_reads c =
    let none : has_reads c.args.changes.now ≡ false = sym c.has_reads.ensures ∙ c.if-not-has_reads.true in
    sym (no-reads (opening_in c.args.ground.now.commits.now) (ops_of c.args.ground.now.commits.now) c.args.ground.now.spans.now [] c.args.changes.now none)
