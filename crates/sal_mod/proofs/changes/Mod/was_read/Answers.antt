-- Without a read there is none at a prefix of the path.
use Rattle.std.proofs.Common.{◌≡◌, false, sym, ap, ◌∙◌}
use Rattle.sal_rows.specs.Apply.{is_read}
use Rattle.sal_mod.specs.Held.{has_reads}
use Rattle.sal_mod.proofs.Prefixes.{none-over}
use Rattle.sal_mod.proofs.changes.Mod.was_read.Goals as goal

pub returns-then-not-self : goal.returns-then-not-self
returns-then-not-self c =
    let none : has_reads c.args.self.now ≡ false = ap has_reads (sym c.self.view_is) ∙ sym c.self.invariant.1 ∙ c.if-not-self.true in
    sym (none-over is_read c.args.store c.args.self.now c.args.path.now none)
