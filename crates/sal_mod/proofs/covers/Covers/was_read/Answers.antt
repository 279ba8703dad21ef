use Rattle.std.proofs.Common.{List, ap, length, ◌∙◌, arith}
use Rattle.std.specs.List.{list_any}
use Rattle.std.proofs.lemmas.List.{take_all}
use Rattle.sal_rows.specs.declared.op.Op.{Op}
use Rattle.sal_rows.specs.Apply.{is_read}
use Rattle.sal_mod.specs.Covers.{stands_over}
use Rattle.sal_mod.proofs.Prefixes.{early-first}
use Rattle.sal_mod.proofs.covers.Covers.was_read.Goals as goal

pub returns : goal.returns
returns c =
    c.is_early.ensures ∙ early-first is_read c.args.store c.args.ops.now c.args.self.now.reads c.args.path.now (length c.args.ops.now) c.requires.1
    ∙ ap (λ (ops : List Op). list_any (stands_over is_read c.args.store c.args.path.now) ops) (take_all (length c.args.ops.now) c.args.ops.now (omega arith))
