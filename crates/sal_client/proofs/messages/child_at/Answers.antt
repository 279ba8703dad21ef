-- A number past the nodes has no children.
use Rattle.std.proofs.Common.{List, ℕ, ap, sym, arith}
use Rattle.std.specs.Prelude.{slice_get, unwrap_or}
use Rattle.sal_client.proofs.Childless.{childless}
use Rattle.sal_client.proofs.messages.child_at.Goals as goal

pub returns-then-rpc-len : goal.returns-then-rpc-len
returns-then-rpc-len c =
    ap (λ (children : List ℕ). unwrap_or (slice_get children c.args.index) c.args.rpc) (sym (childless c.args.schema.now c.args.rpc c.len.ensures.table (omega (arith, c.len.ensures.count))))
