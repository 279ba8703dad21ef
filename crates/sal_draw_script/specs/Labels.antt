-- The label of a step of a script.
use Rattle.std.specs.Prelude.{Bool, true, false}
use Rattle.sal_history.specs.declared.reply.Reply.TheVariants.{Accepted}
use Rattle.sal_script.specs.declared.reply.StepReply.{StepReply}
use Rattle.sal_script.specs.declared.reply.StepReply.TheVariants as step_reply
use Rattle.sal_shapes.specs.declared.scene.Style.{Style}
use Rattle.sal_shapes.specs.declared.scene.Style.TheVariants.{Local, Refused}
use Rattle.sal_draw.specs.Looks.{call_style}

-- a step that is done, whose reply has nothing else
abbrev pub says_ok : StepReply → Bool
says_ok (step_reply.Called Accepted) = true
says_ok step_reply.Accepted = true
says_ok r = false

abbrev pub style_of : StepReply → Style
style_of (step_reply.Called r) = call_style r
style_of (step_reply.Refused refusal) = Refused
style_of r = Local
