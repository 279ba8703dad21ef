-- How a shared call looks.
use Rattle.std.specs.Prelude.{if◌then◌else◌}
use Rattle.sal_history.specs.declared.reply.Reply.{Reply}
use Rattle.sal_history.specs.declared.reply.Reply.TheVariants as reply
use Rattle.sal_history.specs.Submissions.{is_done}
use Rattle.sal_shapes.specs.declared.scene.Style.{Style}
use Rattle.sal_shapes.specs.declared.scene.Style.TheVariants.{Refused, Shared}

-- a call that was refused, or whose reply is an outcome other than done
abbrev pub call_style : Reply → Style
call_style (reply.Refused fault) = Refused
call_style (reply.Settled domain outcome) = if is_done outcome then Shared else Refused
call_style (reply.Decided receipt domain outcome) = if is_done outcome then Shared else Refused
call_style r = Shared
