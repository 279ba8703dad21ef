-- The batch begins at the version of the rows, so nothing but memory can be wanting.
use Rattle.std.proofs.Common.{◌≡◌, sym, ◌∙◌}
use Rattle.sal_listen.specs.declared.mirror.MirrorFault.TheVariants.{Gap, NoMemory}
use Rattle.sal_client.proofs.follower.Follower.advance.Goals as goal

pub unreachable-requires : goal.unreachable-requires
unreachable-requires c =
    let other : Gap c.in-Err-Gap.field-0-0 c.in-Err-Gap.field-0-1 ≡ NoMemory = sym c.in-Err-Gap.field-0-is ∙ c.in-Err-Gap.ensures.memory c.requires in
    cc
