use Rattle.std.proofs.Common.{sym}
use Rattle.sal_schema.specs.Same.{same_type}
use Rattle.sal_schema.proofs.Sameness.{begins-short}
use Rattle.sal_schema.proofs.versions.types_begin.Goals as goal

pub returns-then-newer-older : goal.returns-then-newer-older
returns-then-newer-older c = sym (begins-short same_type c.args.older.now c.args.newer.now c.if-newer-older.true)
