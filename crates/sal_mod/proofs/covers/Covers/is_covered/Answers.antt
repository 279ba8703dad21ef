use Rattle.std.proofs.Common.{◌∙◌}
use Rattle.sal_rows.specs.Apply.{checks_path}
use Rattle.sal_mod.proofs.Prefixes.{early-first}
use Rattle.sal_mod.proofs.covers.Covers.is_covered.Goals as goal

pub returns : goal.returns
returns c = c.is_early.ensures ∙ early-first checks_path c.args.store c.args.ops.now c.args.self.now.writes c.args.path.now c.args.before c.requires.0
