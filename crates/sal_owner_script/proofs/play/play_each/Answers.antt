-- One more step is played.
use Rattle.std.proofs.Common.{string_bytes, ◌∙◌}
use Rattle.std.proofs.lemmas.Iterator.Consumers.{YieldsList-turn, YieldsList-end}
use Rattle.std.proofs.lemmas.Iterator.Adapters.{YieldsList-from_vec}
use Rattle.sal_owner_script.proofs.Playing.{all_played, has_room, played_more}
use Rattle.sal_owner_script.proofs.play.play_each.Goals as goal

pub play_step-requires : goal.play_step-requires
play_step-requires c =
    let l = c.loop-step in
    let turn = YieldsList-turn (YieldsList-from_vec {s = c.into_iter-step-iterator.result} c.args.steps.items (cc) (c.into_iter-step-iterator.ensures.into_iter_gives.1 ∙ c.args.steps.ok.0)) l.yielded l.step-iterator l.yielded_by c.next.result c.next.new.self c.in-Some.step c.in-Some.is c.next.ensures.steps in
    has_room c.args.steps.items l.yielded l.book (string_bytes l.text) c.requires.few turn.0 l.invariant

pub loop-step-preserved : goal.loop-step-preserved
loop-step-preserved c =
    let l = c.loop-step in
    let played = c.in_ok-play_step.ensures in
    played_more l.yielded c.in-Some.step l.book c.play_step.new.book (string_bytes l.text) _ l.invariant played.made played.longer played.line

pub returns : goal.returns
returns c =
    let l = c.loop-step in
    let end = YieldsList-end (YieldsList-from_vec {s = c.into_iter-step-iterator.result} c.args.steps.items (cc) (c.into_iter-step-iterator.ensures.into_iter_gives.1 ∙ c.args.steps.ok.0)) l.yielded l.step-iterator l.yielded_by c.next.result c.next.new.self c.in-None.is c.next.ensures.steps in
    all_played c.args.steps.items l.yielded l.book (string_bytes l.text) end.0 l.invariant
