use Rattle.std.proofs.Common.{◌≡◌, length, ap, arith, length-take}
use Rattle.sal_io.specs.Memory.{SourceState}
use Rattle.sal_io.proofs.Faults.{HasCause-called}
use Rattle.sal_io.proofs.Transfers.{read_front, read_end}
use Rattle.sal_io.proofs.memory.MemSourceSource.read.Goals as goal

pub returns-then-fails-clause-cause : goal.returns-then-fails-clause-cause
returns-then-fails-clause-cause c = rw (← c.self.view_is) (HasCause-called _ _ _ _ c.if-fails.true c.count.ensures.counted c.count.ensures.later)

pub returns-clause-bytes : goal.returns-clause-bytes
returns-clause-bytes c =
    let inside = c.self.inside in
    let lent = c.deref.ensures.value in
    let long : length c.copy_from_slice.new.self ≡ c.min-count.result =
    omega (arith, c.copy_from_slice.ensures.len, c.min-count.ensures, length-take c.min-count.result c.args.buf.now) in (
      read_front _ inside.bytes.items _ c.args.buf.now _ inside.at _ (ap (λ (s : SourceState). s.left) c.self.view_is) lent c.copy_from_slice.ensures.after long,
      read_end inside.bytes.items _ c.args.buf.now _ inside.at _ lent c.min-count.ensures long,
    )
